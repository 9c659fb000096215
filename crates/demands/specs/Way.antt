-- The way from the office to the yard, as the theorem of proofs/Manager asks for it.
-- Sends   the office hears an input, cut in some way, and sends it to its end: what goes out. Its last block is said by `marked`, as `finish` sends
--         it (`bids-finished` (crates/office/proofs/Cutting.antt))
-- Airs    what goes out, as it comes in: stray bytes before it, up to 16 bytes of each word altered
use Rattle.std.specs.Prelude.{ℕ, ◌≤◌, ◌≡◌, List, ◌++◌, length}
use Rattle.base.specs.Bytes.{Each}
use Rattle.base.specs.Calls.{joined, ReadsAll}
use Rattle.channel_spec.specs.Sender.{parity_bytes, framed, marked}
use Rattle.channel_spec.specs.Meaning.{IsWord, FirstMarker}
use Rattle.bid.specs.Line.{line_limit}
use Rattle.office.specs.Meaning.{Said, Desk, waiting, sent_by}
use Rattle.office.specs.Call.{hold_limit, out_limit, hear_call, close_call, first, last_of}
use Rattle.demands_laws.specs.Guarantee.{Received}

-- the office hears the bytes `input`, cut in some way, from its start, with buffers that pass 11 and each call with room that passes 23, and
-- then the end of its input; what goes out of all these calls, the last block too, is `out`
pub record Sends (input out : List ℕ) : Type 0 where
  pub line : List ℕ
  pub hold : List ℕ
  pub line_room : line_limit ≤ length line
  pub hold_room : hold_limit ≤ length hold
  pub room : Desk → List ℕ → ℕ
  pub enough : (d : Desk) (bs : List ℕ) → out_limit ≤ room d bs
  pub pieces : List (List ℕ)
  pub cut : joined pieces ≡ input
  pub said : List Said
  pub desk : Desk
  pub called : ReadsAll (λ d bs. hear_call (room d bs) d bs) (first line hold) pieces said desk
  pub last : ℕ
  pub fits : out_limit ≤ last
  pub wrote : sent_by (said ++ last_of (close_call last desk).0) ++ marked (waiting (close_call last desk).2) ≡ out

-- `out` comes in as `air`: stray bytes before it, the marker first appearing where it begins; of each of its words up to 16 bytes are altered,
-- whichever they are, and no marker is
pub record Airs (out air : List ℕ) : Type 0 where
  pub stray : List ℕ
  pub first : FirstMarker stray out
  pub words : List (List ℕ)
  pub whole : Each IsWord words
  pub blocks : framed words ≡ out
  pub came : List (List ℕ)
  pub altered : Received parity_bytes words came
  pub heard : stray ++ framed came ≡ air
