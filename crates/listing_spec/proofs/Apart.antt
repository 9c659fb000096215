-- What a recording is made of.
-- at, before                         a place in a recording, and stream bytes before what is left
-- one_in, record_apart, none_apart   a stream byte, a record, and no byte
-- records-apart                      a recording of pieces: its stream is the pieces joined, and it ends well
-- records-channel                    the same on the opportunistic channel
use Prim.Native.Nat.{ℕ, suc, ◌+◌, ◌-◌, ◌*◌, ◌/◌, ◌%◌, ◌≤◌}
use native.Mathlib.Omega.{arith}
use native.Mathlib.Nat.{add-zero}
use mathlib.Core.Path.{◌≡◌, refl, sym, ◌∙◌, ap}
use mathlib.Core.List.{List, [], ◌∷◌, ◌++◌}
use lib.ListN.{length, length-append}
use borrow.Author.Tests.{ne_eqb, lt-ltb}
use Rattle.base.specs.Choice.{pick}
use Rattle.base.specs.Calls.{joined}
use Rattle.listing_spec.specs.declared.Place.{Place}
use Rattle.listing_spec.specs.declared.Place.TheVariants.{Mark, Inside}
use Rattle.listing_spec.specs.declared.Spot.{Spot}
use Rattle.listing_spec.specs.Apart.{most, wrong, left, through, next_at, in_stream, keep, apart, fresh_spot, record_of, records}

abbrev pub at : Place → ℕ → ℕ → Spot
at q o c = record { place = q; offset = o; count = c }

abbrev pub before : List ℕ → List ℕ × Spot → List ℕ × Spot
before xs r = (xs ++ r.0, r.1)

-- a stream byte that the limit leaves
pub one_in : (k o c b : ℕ) (bs : List ℕ) → suc c ≤ most → apart (at (Inside k) o c) (b ∷ bs) ≡ before (b ∷ []) (apart (at (left k) (o + 1) (c + 1)) bs)
unfolding apart in_stream next_at
one_in k o c b bs h = ap (λ t. keep t b (apart (pick t (through k (at (Inside k) o c)) (wrong (at (Inside k) o c))) bs)) (lt-ltb c most h)

-- the bytes of a record behind its length
body-apart : (p ys : List ℕ) (o c : ℕ) → c + length p ≤ most
    → apart (at (left (length p)) o c) (p ++ ys) ≡ before p (apart (at Mark (o + length p) (c + length p)) ys)
body-apart [] ys o c h = λ i. apart (at Mark (sym (add-zero o) i) (sym (add-zero c) i)) ys
body-apart (b ∷ p) ys o c h =
    let n : ℕ = length p in
    let e : suc n - 1 ≡ n = omega arith in
    let f : o + 1 + n ≡ o + suc n = omega arith in
    let g : c + 1 + n ≡ c + suc n = omega arith in
    (λ i. apart (at (pick (ne_eqb (suc n) 0 (λ z. omega arith) i) Mark (Inside (e i))) o c) (b ∷ (p ++ ys)))
    ∙ one_in n o c b (p ++ ys) (omega arith)
    ∙ ap (before (b ∷ [])) (body-apart p ys (o + 1) (c + 1) (omega arith))
    ∙ (λ i. before (b ∷ p) (apart (at Mark (f i) (g i)) ys))

pub record_apart : (p ys : List ℕ) (o c : ℕ) → c + length p ≤ most
    → apart (at Mark o c) (record_of p ++ ys) ≡ before p (apart (at Mark (o + 1 + 1 + 1 + 1 + length p) (c + length p)) ys)
unfolding apart in_stream next_at
record_apart p ys o c h =
    let e : length p % 256 + 256 * (length p / 256) ≡ length p = omega arith in
    ap (λ n. apart (at (left n) (o + 1 + 1 + 1 + 1) c) (p ++ ys)) e ∙ body-apart p ys (o + 1 + 1 + 1 + 1) c h

pub none_apart : (p : Spot) → apart p [] ≡ ([], p)
unfolding apart
none_apart p = refl

rest-apart : (ps : List (List ℕ)) (o c : ℕ) → c + length (joined ps) ≤ most
    → apart (at Mark o c) (records ps) ≡ (joined ps, at Mark (o + length (records ps)) (c + length (joined ps)))
rest-apart [] o c h = none_apart (at Mark o c) ∙ (λ i. ([], at Mark (sym (add-zero o) i) (sym (add-zero c) i)))
rest-apart (p ∷ ps) o c h =
    let l = length-append p (joined ps) in
    let m = length-append (record_of p) (records ps) in
    let f : o + 1 + 1 + 1 + 1 + length p + length (records ps) ≡ o + length (record_of p ++ records ps) = omega (arith, m) in
    let g : c + length p + length (joined ps) ≡ c + length (p ++ joined ps) = omega (arith, l) in
    record_apart p (records ps) o c (omega (arith, l))
    ∙ ap (before p) (rest-apart ps (o + 1 + 1 + 1 + 1 + length p) (c + length p) (omega (arith, l)))
    ∙ (λ i. (p ++ joined ps, at Mark (f i) (g i)))

-- a recording of pieces: its stream is the pieces joined, and it ends well
pub records-apart : (ps : List (List ℕ)) → length (joined ps) ≤ most
    → ◌≡◌ {A = List ℕ × Spot} (apart fresh_spot (0x50 ∷ records ps)) (joined ps, at Mark (0 + 1 + length (records ps)) (0 + length (joined ps)))
unfolding apart in_stream next_at
records-apart ps h = rest-apart ps (0 + 1) 0 (omega arith)

-- the same on the opportunistic channel
pub records-channel : (ps : List (List ℕ)) → apart fresh_spot (0x4F ∷ records ps) ≡ apart fresh_spot (0x50 ∷ records ps)
unfolding apart in_stream next_at
records-channel ps = refl
