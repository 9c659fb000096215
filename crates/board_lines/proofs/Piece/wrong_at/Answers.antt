use Rattle.std.proofs.Common.{of_calls}
use Rattle.board_lines.proofs.Pieces.{piece-put, wrong-short}
use Rattle.board_lines.proofs.Piece.wrong_at.Goals as goal

pub returns : goal.returns
returns c = piece-put (search of_calls) (wrong-short c.args.offset)
