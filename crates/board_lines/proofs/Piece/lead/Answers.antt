use Rattle.std.proofs.Common.{of_calls}
use Rattle.board_spec.proofs.Split.{lead-short}
use Rattle.board_lines.proofs.Pieces.{piece-put}
use Rattle.board_lines.proofs.Piece.lead.Goals as goal

pub returns : goal.returns
returns c = piece-put (search of_calls) (lead-short c.args.noted c.args.delivery)
