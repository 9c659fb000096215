use Rattle.std.proofs.Common.{[], ◌∷◌, of_calls, arith}
use Rattle.bid.specs.Line.{feed}
use Rattle.board_lines.proofs.Pieces.{piece-put}
use Rattle.board_lines.proofs.Piece.line_feed.Goals as goal

pub returns : goal.returns
returns c = piece-put {bs = feed ∷ []} (search of_calls) (omega arith)
