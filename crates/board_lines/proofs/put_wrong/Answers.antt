use Rattle.board_lines.proofs.Pieces.{wrong-line}
use Rattle.board_lines.proofs.put_wrong.Goals as goal

pub returns : goal.returns
returns c = wrong-line _ c.put_text-a.ensures c.put_item.ensures
