use Rattle.text.proofs.Putting.{put-room, put-over}
use Rattle.text.proofs.put_byte.Goals as goal

pub returns-then-at-text : goal.returns-then-at-text
returns-then-at-text c = put-room _ _ _ c.if-at-text.true

pub returns : goal.returns
returns c = put-over _ _ _ c.if-at-text.false
