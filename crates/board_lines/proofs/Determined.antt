-- Each public function's promise determines its result.
-- line-feed-determined, shown-byte-determined, lead-determined, remark-determined, wrong-at-determined, none-determined   a law of each function
use mathlib.Core.Path.{refl}
use Rattle.base.specs.Determined.{Determined}
use Rattle.base.proofs.Determining.{same}
use Rattle.board_lines.proofs.Piece.line_feed.Kinds as line-feed-kinds
use Rattle.board_lines.proofs.Piece.line_feed.Reads as line-feed-reads
use Rattle.board_lines.proofs.Piece.shown_byte.Kinds as shown-byte-kinds
use Rattle.board_lines.proofs.Piece.shown_byte.Reads as shown-byte-reads
use Rattle.board_lines.proofs.Piece.lead.Kinds as lead-kinds
use Rattle.board_lines.proofs.Piece.lead.Reads as lead-reads
use Rattle.board_lines.proofs.Piece.remark.Kinds as remark-kinds
use Rattle.board_lines.proofs.Piece.remark.Reads as remark-reads
use Rattle.board_lines.proofs.Piece.wrong_at.Kinds as wrong-at-kinds
use Rattle.board_lines.proofs.Piece.wrong_at.Reads as wrong-at-reads
use Rattle.board_lines.proofs.Piece.none.Kinds as none-kinds
use Rattle.board_lines.proofs.Piece.none.Reads as none_reads

pub line-feed-determined : Determined line-feed-kinds.ps line-feed-kinds.r line-feed-reads.Asked line-feed-reads.Learnt
line-feed-determined κs a z z' ws ws' pre p q = (same p q, refl)

pub shown-byte-determined : Determined shown-byte-kinds.ps shown-byte-kinds.r shown-byte-reads.Asked shown-byte-reads.Learnt
shown-byte-determined κs a z z' ws ws' pre p q = (same p q, refl)

pub lead-determined : Determined lead-kinds.ps lead-kinds.r lead-reads.Asked lead-reads.Learnt
lead-determined κs a z z' ws ws' pre p q = (same p q, refl)

pub remark-determined : Determined remark-kinds.ps remark-kinds.r remark-reads.Asked remark-reads.Learnt
remark-determined κs a z z' ws ws' pre p q = (same p q, refl)

pub wrong-at-determined : Determined wrong-at-kinds.ps wrong-at-kinds.r wrong-at-reads.Asked wrong-at-reads.Learnt
wrong-at-determined κs a z z' ws ws' pre p q = (same p q, refl)

pub none-determined : Determined none-kinds.ps none-kinds.r none_reads.Asked none_reads.Learnt
none-determined κs a z z' ws ws' pre p q = (same p q, refl)
