use Rattle.std.proofs.Common.{of_calls}
use Rattle.board_spec.proofs.Split.{remark-short}
use Rattle.board_lines.proofs.Pieces.{piece-put}
use Rattle.board_lines.proofs.Piece.remark.Goals as goal

pub returns : goal.returns
returns c = piece-put (search of_calls) (remark-short c.args.blocks c.args.answer)
