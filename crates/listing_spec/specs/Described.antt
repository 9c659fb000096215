-- Recordings as paper 01 describes them ("The listing program"), in whole records and not byte by byte.
-- first_byte   the byte before the records
-- Described   the input is as described
use Rattle.std.specs.Prelude.{ℕ, ◌<◌, ◌≤◌, ◌≡◌, Bool, true, false, List, ◌∷◌, length}
use Rattle.base.specs.Bytes.{Each}
use Rattle.base.specs.Calls.{joined}
use Rattle.listing_spec.specs.Apart.{most, records}

-- by: is it the opportunistic channel
abbrev pub first_byte : Bool → ℕ
first_byte true = 0x4F
first_byte false = 0x50

-- that byte, then records of some pieces; a length is two bytes, and the stream has at most 4,294,967,295 bytes
pub record Described (file : List ℕ) : Type 0 where
  pub channel : Bool
  pub pieces : List (List ℕ)
  pub whole : file ≡ first_byte channel ∷ records pieces
  pub short : Each (λ p. length p < 65536) pieces
  pub within : length (joined pieces) ≤ most
