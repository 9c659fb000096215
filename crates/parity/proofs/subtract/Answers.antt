-- `parity::subtract` meets its contract.
use Rattle.std.proofs.Common.{arith}
use Rattle.parity.proofs.Loops.{subtract-next, subtract-done}
use Rattle.parity.proofs.subtract.Goals as goal

pub loop-i-preserved : goal.loop-i-preserved
loop-i-preserved c =
    subtract-next c.args.c c.loop-i.i c.args.g.now c.loop-i.p c.loop-i.invariant (omega arith) (omega arith) c.times.ensures c.plus.ensures

pub returns : goal.returns
returns c = subtract-done c.args.c c.loop-i.i c.args.g.now c.loop-i.p c.loop-i.invariant _ c.loop-i-test.false (omega arith)
