-- Worked examples: what the definitions say of small units of each kind, computed; the values are those of a program written apart.
-- gives, says, examples   units written and read, and each refusal
-- shape, places           table 5-4: a length from each row, and those that stations use
use mathlib.Core.Path.{◌≡◌, refl}
use mathlib.Core.List.{List, [], ◌∷◌, ◌++◌, map}
use Prim.Native.Nat.{ℕ, suc}
use lib.ListN.{length, replicate}
use Rattle.base.specs.Written.{Outcome, outcome, refused}
use Rattle.base.specs.Written.{Wrote}
use Rattle.unit_spec.specs.Bits.{digits, bits, number, pack}
use Rattle.unit_spec.specs.Tables.{sequence, heads, start, step, payload, lent, unfit, announced}
use Rattle.unit_spec.specs.Unit.{weave, begins, opened, laid_out, unit_bits, unit, hidden, written}
use Rattle.unit_spec.specs.Reading.{heard, unwoven, header_of, payload_of, is_header, named, read_parts, read_unit}

-- a delimiter
abbrev mark : List ℕ
mark = 78 ∷ 151 ∷ 144 ∷ 93 ∷ 128 ∷ []

-- what is computed, and what it is to be
abbrev Case : Type 0
Case = Outcome × Outcome

-- the parts a, o and f make the unit u of l bits, written before a byte that stays, and u is read as them
abbrev trip : ℕ → List ℕ → List ℕ → List ℕ → List ℕ → List Case
trip l a o f u =
    (written l mark a o f (replicate (suc (length u)) 7), outcome (Wrote (length u)) (u ++ 7 ∷ [])) ∷
    (read_unit l mark (length a) (length f) u (replicate (length (a ++ o ++ f)) 7), outcome (Wrote (length (a ++ o ++ f))) (a ++ o ++ f)) ∷ []

-- a unit of 144 bits with this header, audio and no fixed part told
abbrev told : ℕ → List ℕ → Outcome
told a header = read_unit 144 mark a 0 (replicate 15 1 ++ header) []

rows : List Case
rows =
    trip 144 (1 ∷ 2 ∷ 3 ∷ 4 ∷ []) (7 ∷ []) (9 ∷ [])
    (1 ∷ 2 ∷ 3 ∷ 4 ∷ 0 ∷ 0 ∷ 0 ∷ 0 ∷ 78 ∷ 151 ∷ 144 ∷ 93 ∷ 128 ∷ 7 ∷ 9 ∷ 141 ∷ 141 ∷ 51 ∷ [])
    ++ trip 168 (1 ∷ 2 ∷ 3 ∷ 4 ∷ 5 ∷ []) (170 ∷ 187 ∷ []) (238 ∷ [])
    (1 ∷ 2 ∷ 3 ∷ 4 ∷ 5 ∷ 0 ∷ 0 ∷ 0 ∷ 0 ∷ 0 ∷ 78 ∷ 151 ∷ 144 ∷ 93 ∷ 128 ∷ 196 ∷ 230 ∷ 197 ∷ 231 ∷ 94 ∷ 94 ∷ [])
    ++ trip 289 (1 ∷ 2 ∷ 3 ∷ 255 ∷ []) (170 ∷ 187 ∷ 204 ∷ []) (238 ∷ 221 ∷ [])
    (1 ∷ 2 ∷ 3 ∷ 255 ∷ [] ++ replicate 11 0
    ++ 128 ∷ 0 ∷ 0 ∷ 0 ∷ 128 ∷ 128 ∷ 0 ∷ 128 ∷ 128 ∷ 19 ∷ 82 ∷ 121 ∷ 130 ∷ 246 ∷ 1 ∷ 170 ∷ 93 ∷ 115 ∷ 157 ∷ 237 ∷ 104 ∷ 0 ∷ [])
    ++ trip 303 [] [] (238 ∷ 221 ∷ 1 ∷ [])
    (replicate 17 0 ++ 128 ∷ 128 ∷ 0 ∷ 128 ∷ 128 ∷ 0 ∷ 0 ∷ 0 ∷ 128 ∷ 128 ∷ 0 ∷ 128 ∷ 0 ∷ 0 ∷ 128 ∷ 128 ∷ 0 ∷ 14 ∷ 246 ∷ 244 ∷ 130 ∷ [])
    ++ trip 160 (1 ∷ []) [] []
    (1 ∷ 0 ∷ 0 ∷ 0 ∷ 0 ∷ 0 ∷ 0 ∷ 0 ∷ 0 ∷ 0 ∷ 0 ∷ 0 ∷ 0 ∷ 0 ∷ 0 ∷ 56 ∷ 216 ∷ 211 ∷ 0 ∷ 0 ∷ [])
    ++ trip 294 (255 ∷ []) [] (1 ∷ [])
    (255 ∷ [] ++ replicate 14 0 ++ 128 ∷ 128 ∷ 128 ∷ 0 ∷ 0 ∷ 0 ∷ 128 ∷ 128 ∷ 0 ∷ 128 ∷ 128 ∷ 0 ∷ 0 ∷ 0 ∷ 128 ∷ 128 ∷ 0 ∷ 128 ∷ 0 ∷ 0 ∷ 128 ∷ 132 ∷ [])
    ++ (written 136 mark (1 ∷ []) [] [] [], refused 50 []) ∷
    (written 144 mark [] (1 ∷ []) (1 ∷ []) [], refused 51 []) ∷
    (written 144 mark (replicate 10 1) (7 ∷ []) [] [], refused 53 []) ∷
    (written 144 (replicate 5 0) (1 ∷ []) (7 ∷ []) [] [], refused 54 []) ∷
    (written 144 mark (1 ∷ []) [] [] [], refused 23 []) ∷
    (told 15 (1 ∷ 1 ∷ []), refused 50 []) ∷
    (told 15 (0x8D ∷ 0x33 ∷ 0x8D ∷ []), refused 52 []) ∷
    (told 16 (0x38 ∷ 0xD8 ∷ 0xD3 ∷ []), refused 53 []) ∷
    (told 15 (0xCE ∷ 0x36 ∷ 0x34 ∷ []), refused 54 []) ∷ []

pub gives : List Outcome
gives = map (λ (r : Case). r.0) rows

pub says : List Outcome
says = map (λ (r : Case). r.1) rows

pub examples : gives ≡ says
unfolding gives says rows digits bits number pack sequence heads start step payload lent unfit announced
    weave begins opened laid_out unit_bits unit hidden written heard unwoven header_of payload_of is_header named read_parts read_unit
examples = refl

-- start, step, header bits, payload bytes, bytes lent
pub shape : ℕ → List ℕ
shape l = start l ∷ step l ∷ heads l ∷ payload l ∷ lent l ∷ []

pub places : map shape (146176 ∷ 3750 ∷ 4608 ∷ 24000 ∷ 30000 ∷ 71999 ∷ 72001 ∷ 72007 ∷ [])
    ≡ (116176 ∷ 1248 ∷ 24 ∷ 18269 ∷ 18272 ∷ []) ∷ (120 ∷ 160 ∷ 22 ∷ 466 ∷ 469 ∷ []) ∷ (120 ∷ 187 ∷ 24 ∷ 573 ∷ 576 ∷ []) ∷
    (120 ∷ 995 ∷ 24 ∷ 2997 ∷ 3000 ∷ []) ∷ (120 ∷ 1245 ∷ 24 ∷ 3747 ∷ 3750 ∷ []) ∷ (120 ∷ 3120 ∷ 23 ∷ 8997 ∷ 9000 ∷ []) ∷
    (42001 ∷ 1360 ∷ 22 ∷ 8997 ∷ 9001 ∷ []) ∷ (42001 ∷ 1304 ∷ 23 ∷ 8998 ∷ 9001 ∷ []) ∷ []
unfolding shape start step heads payload lent
places = refl
