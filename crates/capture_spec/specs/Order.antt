-- A capture in file order (request W11): how the bytes behind the header, or behind a record, may go on.
-- head_of   a record's head
-- Next     the ways
use Rattle.std.specs.Prelude.{ℕ, ◌<◌, ◌≡◌, List, [], ◌++◌, length}
use Rattle.capture_spec.specs.File.{four, timed}
use Rattle.capture_spec.specs.Meaning.{four_at}

-- a record's head: its times, twice how many bytes
abbrev pub head_of : List ℕ → ℕ → List ℕ
head_of times n = times ++ (four n ++ four n)

-- the file ends; a head is cut short; its lengths are unequal; a record's bytes are cut short; a whole record, and what stands behind it
pub data Next : List ℕ → Type 0 where
  ended : Next []
  cut_head : (h : List ℕ) → 0 < length h → length h < 16 → Next h
  unequal : (h rest : List ℕ) → length h ≡ 16 → (four_at h 8 ≡ four_at h 12 → ⊥) → Next (h ++ rest)
  in_bytes : (times : List ℕ) (n : ℕ) (bs : List ℕ) → length times ≡ 8 → n < 4294967296 → length bs < n → Next (head_of times n ++ bs)
  whole : (times bs rest : List ℕ) → length times ≡ 8 → length bs < 4294967296 → Next (timed times bs ++ rest)
