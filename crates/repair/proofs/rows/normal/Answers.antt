-- `repair::rows::normal` meets its contract.
use Rattle.std.proofs.Common.{arith}
use Rattle.repair.proofs.Loops.{normal-is}
use Rattle.repair.proofs.rows.normal.Goals as goal

pub returns : goal.returns
returns c = normal-is c.args.row (omega arith) c.inverse-k.ensures c.subtract.ensures
