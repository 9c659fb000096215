-- What the two calls refuse for, as the request says it.
-- no_audio, no_fixed               a sequence without a part
-- Unfit, NoMix                   50 and 51
-- Early, EarlyShort              54 on writing, and when that is
-- Unnamed, Disagree, Unmarked    52, 53 and 54 on reading
-- carried                        the opportunistic data that is read
use Rattle.std.specs.Prelude.{◌≡◌, Bool, true, ◌⊎◌, ◌≢◌, List, [], ◌∷◌, ◌++◌, ℕ, ◌+◌, ◌<◌, eqb, length, take, drop, replicate}
use Rattle.base.specs.Bytes.{Each}
use Rattle.base.specs.Choice.{pick}
use Rattle.unit_spec.specs.Bits.{digits, number}
use Rattle.unit_spec.specs.Tables.{most, cw0, cw1, cw2, cw3, cw4, announced, heads, step}
use Rattle.unit_spec.specs.Unit.{begins, opened}
use Rattle.unit_spec.specs.Reading.{header_of}

-- "length above the limit, a header spacing below zero"
abbrev pub Unfit : ℕ → Type 0
Unfit l = (most < l) ⊎ (step l ≡ 0)

-- "a mix of content that has no sequence": no audio, and opportunistic data, or nothing at all
abbrev pub NoMix : ℕ → ℕ → ℕ → Type 0
NoMix a f o = (a ≡ 0) × ((0 < o) ⊎ (f ≡ 0))

-- "the delimiter would be found earlier than written", behind fewer zeros than the gap has
abbrev pub Early : List ℕ → ℕ → List ℕ → Type 0
Early d gap opp = (0 < length opp) × ((j : ℕ) × (j < gap) × (begins d (drop j (replicate gap 0 ++ d ++ opp)) ≡ true))

-- it is zeros, and there is a gap
abbrev pub EarlyShort : List ℕ → ℕ → List ℕ → Type 0
EarlyShort d gap opp = (0 < length opp) × (0 < gap) × (d ≡ replicate 5 0)

-- "bits that match no sequence or a reserved one": those of none of the five others
abbrev pub Unnamed : ℕ → List ℕ → Type 0
Unnamed l u = Each (λ cw. header_of l u ≢ number 0 (take (heads l) (digits 24 cw))) (cw0 ∷ cw1 ∷ cw2 ∷ cw3 ∷ cw4 ∷ [])

-- whether a sequence has no audio
abbrev pub no_audio : ℕ → Bool
no_audio cw = eqb cw cw4

-- .. no fixed data
abbrev pub no_fixed : ℕ → Bool
no_fixed cw = pick (eqb cw cw0) true (eqb cw cw1)

-- "told lengths that disagree with the sequence": a part is told that it has not, or none where it has one
abbrev pub Disagree : ℕ → ℕ → ℕ → Type 0
Disagree cw a f = (eqb a 0 ≢ no_audio cw) ⊎ (eqb f 0 ≢ no_fixed cw)

-- "announced and not found ahead of at least one opportunistic byte", in the middle xs of a payload
abbrev pub Unmarked : ℕ → List ℕ → List ℕ → Type 0
Unmarked cw d xs = (announced cw ≡ 1) × ((j : ℕ) → begins d (drop j xs) ≡ true → j + length d < length xs → ⊥)

-- none where none is announced
abbrev pub carried : ℕ → List ℕ → List ℕ → List ℕ
carried cw d xs = pick (eqb (announced cw) 0) [] (opened d xs)
