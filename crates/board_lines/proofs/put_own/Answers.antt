use Rattle.text.proofs.Putting.{put_then}
use Rattle.board_lines.proofs.Pieces.{own-as}
use Rattle.board_lines.proofs.put_own.Goals as goal

pub returns-in-Repeated : goal.returns-in-Repeated
returns-in-Repeated c = own-as _ _ c.in-Repeated.is (put_then c.put_text-a.ensures c.put_heading-in-Repeated.ensures)

pub returns-in-Late : goal.returns-in-Late
returns-in-Late c = own-as _ _ c.in-Late.is (put_then c.put_text-a-in-Late.ensures c.put_heading-in-Late.ensures)
