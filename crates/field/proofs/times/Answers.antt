use Rattle.std.proofs.Common.{arith}
use Rattle.field.proofs.Shifts.{times-start, times-next, times-done}
use Rattle.field.proofs.times.Goals as goal

pub loop-init : goal.loop-init
loop-init c = times-start _ _ (omega arith)

pub loop-preserved : goal.loop-preserved
loop-preserved c =
    times-next _ _ _ c.loop.counter (omega arith) c.by_bit.ensures c.plus-sum.ensures c.doubled-x.ensures c.loop.invariant

pub returns : goal.returns
returns c = times-done _ _ _ c.loop.counter (omega arith) (omega arith) c.loop.invariant
