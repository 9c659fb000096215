-- `fcs::singly` meets its contract.
use Rattle.fcs.proofs.Eights.{eight-next, eights-done}
use Rattle.fcs.proofs.singly.Goals as goal

pub loop-bytes-preserved : goal.loop-bytes-preserved
loop-bytes-preserved c = eight-next _ _ _ c.eight.result c.loop-bytes-test.true c.eight.ensures c.enter_eight-after.ensures c.loop-bytes.invariant

pub returns : goal.returns
returns c = eights-done _ _ _ c.loop-bytes-test.false c.loop-bytes.invariant
