use Rattle.text.proofs.Putting.{put_next, put-done}
use Rattle.text.proofs.put_text.Goals as goal

pub loop-b-preserved : goal.loop-b-preserved
loop-b-preserved c = put_next _ c.loop-b.b-index c.loop-b.invariant c.loop-b-test.true c.put_byte-end.ensures

pub returns : goal.returns
returns c = record { is = put-done _ _ c.loop-b.invariant c.loop-b-test.false }
