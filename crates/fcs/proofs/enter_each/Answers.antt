-- `fcs::enter_each` meets its contract.
use Rattle.fcs.proofs.Laws.{byte_next, byte-done}
use Rattle.fcs.proofs.enter_each.Goals as goal

pub loop-byte-preserved : goal.loop-byte-preserved
loop-byte-preserved c = byte_next _ _ _ c.loop-byte-test.true c.enter-after.ensures c.loop-byte.invariant

pub returns : goal.returns
returns c = byte-done _ _ _ c.loop-byte-test.false c.loop-byte.invariant
