use Rattle.text.proofs.Putting.{put-none, put-case}
use Rattle.board_spec.specs.Parts.{remark}
use Rattle.board_lines.proofs.Pieces.{said-line, lost-line}
use Rattle.board_lines.proofs.put_remark.Goals as goal

pub returns-in-More : goal.returns-in-More
returns-in-More c = put-case (remark _) c.in-More.is (put-none _ _)

pub returns-in-Said : goal.returns-in-Said
returns-in-Said c = said-line _ c.in-Said.is c.put_refused.ensures

pub returns-in-LockLost : goal.returns-in-LockLost
returns-in-LockLost c = put-case (remark _) c.in-LockLost.is (lost-line c.put_text.ensures)
