-- `parity::times_root` meets its contract.
use Rattle.std.proofs.Common.{arith}
use Rattle.parity.proofs.Loops.{root-start, root-next, root-done}
use Rattle.parity.proofs.times_root.Goals as goal

pub loop-x-init : goal.loop-x-init
loop-x-init c = root-start _ _

pub loop-x-preserved : goal.loop-x-preserved
loop-x-preserved c = root-next _ _ _ _ c.loop-x.invariant (omega arith) c.times.ensures c.plus-next.ensures

pub returns : goal.returns
returns c = root-done _ _ _ _ c.loop-x.invariant (omega arith)
