-- Text that is owed, as it is held: the rest of a piece, and behind it perhaps a packet's text, whose payload stands in the receive buffer.
-- nothing, alone, with_text   nothing; a piece; a piece and a packet's text
-- owing                      what is owed of an answer
-- left                       the text itself
-- forth, forth_by             a byte of it is out, n bytes
-- sound_owed                  what 10 asks of it
-- owed_packet, payload_in      what is owed of a packet, and its payload where it stands
-- owes, left_behind           some is owed; what is left behind the piece
-- text_byte, text_piece, next_piece, further   the next byte of a text, its line feed, the next piece; the same piece a byte further
use Rattle.std.specs.Prelude.{ℕ, zero, suc, Bool, true, false, List, [], ◌∷◌, ◌++◌, eqb, ltb, leb, length, get_or, drop}
use Rattle.base.specs.Choice.{pick}
use Rattle.packet_spec.specs.Contents.{key_format, payload_at}
use Rattle.packet_spec.specs.Frame.{part, no_delivery}
use Rattle.packet_spec.specs.declared.Delivery.{Delivery}
use Rattle.packet_spec.specs.declared.Judged.TheVariants.{Packet as Delivered, Refused, Broken}
use Rattle.channel_spec.specs.declared.Answer.{Answer}
use Rattle.channel_spec.specs.declared.Answer.TheVariants.{More, Said, Block, LockLost}
use Rattle.bid.specs.Line.{feed}
use Rattle.listing_spec.specs.Lines.{longest}
use Rattle.ports_spec.specs.declared.Entry.{Entry}
use Rattle.ports_spec.specs.declared.Noted.{Noted}
use Rattle.ports_spec.specs.declared.Range.{Range}
use Rattle.ports_spec.specs.Ports.{noting}
use Rattle.ports_spec.specs.Range.{inside}
use Rattle.board_spec.specs.Text.{shown_byte, shown_text}
use Rattle.board_spec.specs.Parts.{lead, remark}
use Rattle.board_lines.specs.declared.Piece.{Piece}
use Rattle.board_lines.specs.Piece.{piece_of, text_of}
use Rattle.board.specs.declared.owed.Owed.{Owed}

-- a piece, and nothing behind it
abbrev pub alone : Piece → Owed
alone p = record { piece = p; out = 0; text = false; delivery = no_delivery; at = 0 }

-- nothing
abbrev pub nothing : Owed
nothing = alone (piece_of [])

-- a piece, and a packet's text behind it
abbrev pub with_text : Piece → Delivery → Owed
with_text p d = record { piece = p; out = 0; text = true; delivery = d; at = 0 }

-- a packet: a text has only one that everybody may read
abbrev pub owed_packet : Noted → Delivery → Owed
owed_packet v d = pick (eqb d.format key_format) (alone (piece_of (lead v d))) (with_text (piece_of (lead v d)) d)

-- an answer, by the range and the table before it: of a packet of another port nothing
abbrev pub owing : Bool → Range → List Entry → Answer → Owed
owing b r t (Said (Delivered d)) = pick (inside r d.port) (owed_packet (noting t d.port d.sequence).0 d) nothing
owing b r t (Said (Refused n)) = alone (piece_of (remark b (Said (Refused n))))
owing b r t (Said (Broken n)) = alone (piece_of (remark b (Said (Broken n))))
owing b r t (Block c) = alone (piece_of (remark b (Block c)))
owing b r t LockLost = alone (piece_of (remark b LockLost))
owing b r t More = nothing

-- some is owed
abbrev pub owes : Owed → Bool
owes o = ltb o.out o.piece.length

-- a packet's payload, where it stands
abbrev pub payload_in : Delivery → List ℕ → List ℕ
payload_in d recv = part (payload_at d.key) d.length recv

-- behind the piece, by: is a text owed
abbrev pub left_behind : Bool → List ℕ → List ℕ
left_behind true text = shown_text text ++ (feed ∷ [])
left_behind false text = []

-- all that is owed
unfoldable pub left : Owed → List ℕ → List ℕ
left o recv = pick (owes o) (drop o.out (text_of o.piece) ++ left_behind o.text (drop o.at (payload_in o.delivery recv))) []

-- the next byte of a text
abbrev pub text_byte : Owed → List ℕ → Owed
text_byte o text =
    record { piece = piece_of (shown_byte (get_or text o.at 0)); out = 0; text = true; delivery = o.delivery; at = suc o.at }

-- .. or where it is out its line feed
abbrev pub text_piece : Owed → List ℕ → Owed
text_piece o text = pick (ltb o.at (length text)) (text_byte o text) (alone (piece_of (feed ∷ [])))

-- the next piece
unfoldable pub next_piece : Owed → List ℕ → Owed
next_piece o recv = pick o.text (text_piece o (payload_in o.delivery recv)) nothing

-- the same piece, a byte further
abbrev pub further : Owed → Owed
further o = record { piece = o.piece; out = suc o.out; text = o.text; delivery = o.delivery; at = o.at }

-- a byte is out
unfoldable pub forth : Owed → List ℕ → Owed
forth o recv = pick (ltb (suc o.out) o.piece.length) (further o) (next_piece o recv)

-- n bytes are out
unfoldable pub forth_by : ℕ → Owed → List ℕ → Owed
forth_by zero o recv = o
forth_by (suc n) o recv = forth_by n (forth o recv) recv

-- 10: a piece above 128 bytes
abbrev pub sound_owed : Owed → Bool
sound_owed o = leb o.piece.length longest
