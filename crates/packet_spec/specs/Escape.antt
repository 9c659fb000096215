-- Escapes (paper 01, "Packet and frame").
-- flag, right, last                   the flag; a byte that is right behind 7D; the last byte
-- escape_byte, escape                  7E becomes 7D 5E, 7D becomes 7D 5D, and no other byte is escaped
-- restored, plain, escaped            on reading: plain and escaped reading hand over to each other until the raw bytes run out
-- wrong_from, wrong_at, byte_before, wrong_behind   the place of the first byte behind 7D that is neither 5E nor 5D
-- scanned_by, scan                     whether every escape is right
-- Followed, BrokenAt                  .. and what it is to be wrong, and where first
-- NoFlag                              no flag among the bytes
use Rattle.std.specs.Prelude.{ℕ, suc, ◌-◌, ◌≡◌, ◌≢◌, Bool, true, not, ◌&&◌, List, [], ◌∷◌, ◌++◌, eqb, length, get_or, drop}
use Rattle.base.specs.Choice.{pick}
use Rattle.base.specs.Bytes.{Each}
use Rattle.packet_spec.specs.declared.Escapes.{Escapes}
use Rattle.packet_spec.specs.declared.Escapes.TheVariants.{Right, Unfinished, Wrong}

-- the flag, which stands between frames
abbrev pub flag : ℕ
flag = 0x7E

-- a byte, escaped
unfoldable pub escape_byte : ℕ → List ℕ
escape_byte b = pick (eqb b 0x7E) (0x7D ∷ 0x5E ∷ []) (pick (eqb b 0x7D) (0x7D ∷ 0x5D ∷ []) (b ∷ []))

-- bytes, escaped
unfoldable pub escape : List ℕ → List ℕ
escape [] = []
escape (b ∷ bs) = escape_byte b ++ escape bs

-- the byte that stands as b behind 7D
abbrev pub restored : ℕ → ℕ
restored b = pick (eqb b 0x5E) 0x7E 0x7D

-- raw bytes, escapes undone
unfoldable mutual
  pub plain : List ℕ → List ℕ
  plain [] = []
  plain (b ∷ bs) = pick (eqb b 0x7D) (escaped bs) (b ∷ plain bs)

  pub escaped : List ℕ → List ℕ
  escaped [] = []
  escaped (b ∷ bs) = restored b ∷ plain bs

-- the bytes that may stand behind 7D
unfoldable pub right : ℕ → Bool
right b = pick (eqb b 0x5E) true (eqb b 0x5D)

-- the place of the first byte that stands behind 7D and is neither 5E nor 5D: p is the byte before these, `at` the place of the first of
-- them. 0 where there is none: no such byte is at 0, for a 7D stands before it
unfoldable pub wrong_from : ℕ → ℕ → List ℕ → ℕ
wrong_from p at [] = 0
wrong_from p at (b ∷ bs) = pick (eqb p 0x7D && not (right b)) at (wrong_from b (suc at) bs)

-- of a frame's raw bytes, counted from 0 behind the opening flag
abbrev pub wrong_at : List ℕ → ℕ
wrong_at raw = wrong_from 0 0 raw

-- the byte before the one at n, 0 where that is the first
abbrev pub byte_before : ℕ → List ℕ → ℕ
byte_before n raw = pick (eqb n 0) 0 (get_or raw (n - 1) 0)

-- of the raw bytes from n on, with the byte before them
abbrev pub wrong_behind : ℕ → List ℕ → ℕ
wrong_behind n raw = wrong_from (byte_before n raw) n (drop n raw)

-- by the place of the first wrong byte
abbrev pub scanned_by : ℕ → Escapes
scanned_by n = pick (eqb n 0) Right (Wrong n)

-- the last byte, d where there is none
unfoldable pub last : ℕ → List ℕ → ℕ
last d [] = d
last d (b ∷ bs) = last b bs

-- unfinished where the last raw byte is 7D, even where an earlier escape is wrong
unfoldable pub scan : List ℕ → Escapes
scan raw = pick (eqb (last 0 raw) 0x7D) Unfinished (scanned_by (wrong_at raw))

-- 7D followed by other than 5E, 5D: the bytes xs, then 7D, then b, then the bytes ys
abbrev pub Followed : List ℕ → Type 0
Followed raw = (xs ys : List ℕ) × (b : ℕ) × (raw ≡ xs ++ 0x7D ∷ b ∷ ys) × (b ≢ 0x5E) × (b ≢ 0x5D)

-- .. and at n, counted from 0, stands the first such b
abbrev pub BrokenAt : List ℕ → ℕ → Type 0
BrokenAt raw n =
    (xs ys : List ℕ) × (b : ℕ) × (raw ≡ xs ++ 0x7D ∷ b ∷ ys) × (b ≢ 0x5E) × (b ≢ 0x5D) × (n ≡ suc (length xs)) × (Followed (xs ++ 0x7D ∷ []) → ⊥)

-- no flag among the bytes
abbrev pub NoFlag : List ℕ → Type 0
NoFlag bs = Each (λ b. b ≡ flag → ⊥) bs
