use Rattle.std.proofs.Common.{of_calls}
use Rattle.board_lines.proofs.Pieces.{piece-put, shown-short}
use Rattle.board_lines.proofs.Piece.shown_byte.Goals as goal

pub returns : goal.returns
returns c = piece-put (search of_calls) (shown-short c.args.b)
