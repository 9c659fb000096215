-- `fcs::enter_eight` meets its contract.
use Rattle.std.proofs.Common.{◌∙◌, arith}
use Rattle.fcs.proofs.Eights.{eight-enters}
use Rattle.fcs.proofs.enter_eight.Goals as goal

pub returns : goal.returns
returns c = rw c.from.ensures at c.fall.ensures ∙ eight-enters c.args.bits c.args.number (omega arith)
