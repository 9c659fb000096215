use Rattle.board_lines.proofs.Pieces.{same-number, restricted-put}
use Rattle.board_lines.proofs.put_restricted.Goals as goal

pub returns : goal.returns
returns c =
    restricted-put _ _ _ c.put_text-a.ensures (same-number _ c.from.ensures c.put_item-b.ensures) (same-number _ c.from-2.ensures c.put_item-c.ensures)
    (same-number _ c.from-3.ensures c.put_item.ensures)
