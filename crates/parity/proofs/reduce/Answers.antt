-- `parity::reduce` meets its contract.
use Rattle.std.proofs.Common.{refl, arith}
use native.Mathlib.Nat.{sub-zero}
use Rattle.parity.proofs.Loops.{divide-next, divide-done}
use Rattle.parity.proofs.reduce.Goals as goal

pub loop-i-init : goal.loop-i-init
loop-i-init c = simp sub-zero

pub loop-i-preserved : goal.loop-i-preserved
loop-i-preserved c = divide-next _ _ _ _ c.loop-i-test.true (omega arith) refl c.subtract.ensures c.loop-i.invariant

pub returns : goal.returns
returns c = divide-done _ _ _ _ (omega arith) c.loop-i-test.false c.loop-i.invariant
