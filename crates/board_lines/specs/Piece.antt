-- A piece of a text, by value: what the functions that give one are promised by.
-- piece_of    a text as a piece: its bytes at the start, zeros behind them
-- text_of     a piece's text
use Rattle.std.specs.Prelude.{ℕ, ◌-◌, List, ◌++◌, length, take, replicate}
use Rattle.listing_spec.specs.Lines.{longest}
use Rattle.board_lines.specs.declared.Piece.{Piece}

-- a text of at most 128 bytes as a piece
abbrev pub piece_of : List ℕ → Piece
piece_of bs = record { bytes = bs ++ replicate (longest - length bs) 0; length = length bs }

-- the first so many bytes
abbrev pub text_of : Piece → List ℕ
text_of p = take p.length p.bytes
