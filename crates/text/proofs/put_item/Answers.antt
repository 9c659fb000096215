use Rattle.text.proofs.Putting.{put_then}
use Rattle.text.proofs.put_item.Goals as goal

pub returns : goal.returns
returns c = put_then c.put_number-end.ensures c.put_byte.ensures
