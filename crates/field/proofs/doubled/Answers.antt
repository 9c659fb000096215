use Rattle.std.proofs.Common.{arith}
use Rattle.field.proofs.Shifts.{double-low, double-high}
use Rattle.field.proofs.doubled.Goals as goal

pub returns-then-d-lt256 : goal.returns-then-d-lt256
returns-then-d-lt256 c = rw c.from-d.ensures (double-low c.args.a (omega arith) (omega arith))

pub returns : goal.returns
returns c = rw c.from-d.ensures (double-high c.args.a (omega arith) (omega arith))
