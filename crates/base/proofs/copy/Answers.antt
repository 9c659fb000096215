-- `base::copy` meets its contract.
use Rattle.std.proofs.Common.{arith}
use Rattle.base.proofs.Writing.{copied_next, copied-done}
use Rattle.base.proofs.copy.Goals as goal

pub loop-i-preserved : goal.loop-i-preserved
loop-i-preserved c = copied_next c.loop-i.i c.args.src.now c.loop-i.dst c.loop-i.invariant (omega arith) (omega arith)

pub returns : goal.returns
returns c = copied-done c.loop-i.i c.args.src.now c.loop-i.dst c.loop-i.invariant _ c.loop-i-test.false (omega arith)
