use Rattle.board_lines.proofs.Pieces.{same-number, heading-put}
use Rattle.board_lines.proofs.put_heading.Goals as goal

pub returns : goal.returns
returns c = heading-put _ _ (same-number _ c.from.ensures c.put_item-a.ensures) (same-number _ c.from-2.ensures c.put_item.ensures)
