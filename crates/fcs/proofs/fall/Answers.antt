-- `fcs::fall` meets its contract.
use Rattle.std.proofs.Common.{arith}
use Rattle.fcs.proofs.Eights.{first, second, third, fourth, low, fall-is}
use Rattle.fcs.proofs.fall.Goals as goal

pub returns : goal.returns
unfolding first second third fourth low
returns c = fall-is c.args.w (omega arith)
