-- `repair::rows::locator` meets its contract.
use Rattle.repair.proofs.Loops.{locator-is}
use Rattle.repair.proofs.rows.locator.Goals as goal

pub returns : goal.returns
returns c = locator-is c.args.roots.count c.args.s.now c.equations-rows.ensures c.solve.ensures
