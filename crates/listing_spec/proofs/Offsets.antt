-- The offset that `X` prints.
-- IsMoved, ended                    what one byte does, and where some bytes end
-- ended_is, stays                   taking them apart says so; behind a wrong byte nothing moves
-- offset-right                      where no byte is wrong, it is the length of all
-- offset-wrong                      where one is, it is the offset of the first wrong byte
-- is-wrong                          a wrong place is that one
use Prim.Native.Nat.{ℕ, suc, ◌+◌, ◌-◌, ◌*◌, ◌<◌}
use native.Mathlib.Nat.{add-zero, zero-add}
use native.Mathlib.Omega.{arith}
use mathlib.Core.Path.{◌≡◌, refl, sym, ◌∙◌, ap, subst}
use mathlib.Core.Bool.{Bool, true, false, false≢true}
use mathlib.Core.List.{List, [], ◌∷◌}
use lib.Dec.{eqb, ltb}
use lib.ListN.{length, take}
use Rattle.base.specs.Choice.{pick}
use Rattle.listing_spec.specs.declared.Place.{Place}
use Rattle.listing_spec.specs.declared.Place.TheVariants.{Mode, Mark, Second, Low, High, Inside, Wrong}
use Rattle.listing_spec.specs.declared.Spot.{Spot}
use Rattle.listing_spec.specs.Apart.{most, fresh_spot, on, wrong, left, through, next_at, next, in_stream, keep, apart, is_wrong}

-- ---- places
-- a wrong place is that one
pub is-wrong : (q : Place) → is_wrong q ≡ true → q ≡ Wrong
is-wrong Mode e = absurd (false≢true e)
is-wrong Mark e = absurd (false≢true e)
is-wrong Second e = absurd (false≢true e)
is-wrong Low e = absurd (false≢true e)
is-wrong (High l) e = absurd (false≢true e)
is-wrong (Inside k) e = absurd (false≢true e)
is-wrong Wrong e = refl

-- .. and otherwise not
not-wrong : (q : Place) → is_wrong q ≡ false → q ≡ Wrong → ⊥
not-wrong q e f = false≢true (sym e ∙ ap is_wrong f)

-- a place that is not that one
is_right : (q : Place) → (q ≡ Wrong → ⊥) → is_wrong q ≡ false
is_right q f = go (is_wrong q) refl
  where
    go : (t : Bool) → is_wrong q ≡ t → t ≡ false
    go true e = absurd (f (is-wrong q e))
    go false e = refl

-- inside a record, or before the next one, no byte was wrong
left-right : (n : ℕ) → is_wrong (left n) ≡ false
left-right n = go (eqb n 0)
  where
    go : (t : Bool) → is_wrong (pick t Mark (Inside (n - 1))) ≡ false
    go true = refl
    go false = refl

-- ---- one byte
-- it goes one on, or is wrong and the offset stays
abbrev IsMoved : Spot → Spot → Type 0
IsMoved p q = q.offset ≡ p.offset + pick (is_wrong q.place) 0 1

-- .. by a test
moved_by : (t : Bool) (p q r : Spot) → IsMoved p q → IsMoved p r → IsMoved p (pick t q r)
moved_by true p q r f g = f
moved_by false p q r f g = g

-- .. one on
moved_on : (q : Place) (p : Spot) (n : ℕ) → is_wrong q ≡ false → IsMoved p (record { place = q; offset = p.offset + 1; count = n })
moved_on q p n e = ap (λ t. p.offset + pick t 0 1) (sym e)

-- .. or wrong
moved-wrong : (p : Spot) → IsMoved p (wrong p)
moved-wrong p = sym (add-zero p.offset)

-- .. at each place where no byte was wrong
moved_at : (q : Place) (p : Spot) (b : ℕ) → is_wrong q ≡ false → IsMoved p (next_at q p b)
unfolding next_at
moved_at Mode p b e =
    moved_by (eqb b 0x50) p (on Mark p) _ (moved_on Mark p p.count refl)
    (moved_by (eqb b 0x4F) p (on Mark p) (wrong p) (moved_on Mark p p.count refl) (moved-wrong p))
moved_at Mark p b e = moved_by (eqb b 0xF5) p (on Second p) (wrong p) (moved_on Second p p.count refl) (moved-wrong p)
moved_at Second p b e = moved_by (eqb b 0x5F) p (on Low p) (wrong p) (moved_on Low p p.count refl) (moved-wrong p)
moved_at Low p b e = moved_on (High b) p p.count refl
moved_at (High l) p b e = moved_on (left (l + 256 * b)) p p.count (left-right (l + 256 * b))
moved_at (Inside k) p b e =
    moved_by (ltb p.count most) p (through k p) (wrong p) (moved_on (left k) p (p.count + 1) (left-right k)) (moved-wrong p)
moved_at Wrong p b e = absurd (false≢true (sym e))

-- a wrong byte is not passed
stays_at : (q : Place) (p : Spot) (b : ℕ) → is_wrong q ≡ true → next_at q p b ≡ p
unfolding next_at
stays_at q p b e = ap (λ r. next_at r p b) (is-wrong q e)

-- ---- all bytes
-- where they end
abbrev pub ended : Spot → List ℕ → Spot
ended p [] = p
ended p (b ∷ bs) = ended (next p b) bs

-- .. as taking them apart says
pub ended_is : (bs : List ℕ) (p : Spot) → (apart p bs).1 ≡ ended p bs
unfolding apart
ended_is [] p = refl
ended_is (b ∷ bs) p = kept (in_stream p.place p.count) (apart (next p b) bs) ∙ ended_is bs (next p b)
  where
    kept : (t : Bool) (r : List ℕ × Spot) → (keep t b r).1 ≡ r.1
    kept true r = refl
    kept false r = refl

-- behind a wrong byte nothing moves
pub stays : (bs : List ℕ) (p : Spot) → is_wrong p.place ≡ true → ended p bs ≡ p
stays [] p e = refl
stays (b ∷ bs) p e = ap (λ q. ended q bs) (stays_at p.place p b e) ∙ stays bs p e

-- no byte is wrong: so many on
right-from : (bs : List ℕ) (p : Spot) → is_wrong p.place ≡ false → is_wrong (ended p bs).place ≡ false → (ended p bs).offset ≡ p.offset + length bs
right-from [] p e f = sym (add-zero p.offset)
right-from (b ∷ bs) p e f = go (is_wrong (next p b).place) refl (right-from bs (next p b))
  where
    go : (t : Bool) → is_wrong (next p b).place ≡ t
        → (is_wrong (next p b).place ≡ false → is_wrong (ended (next p b) bs).place ≡ false → (ended (next p b) bs).offset ≡ (next p b).offset + length bs)
        → (ended (next p b) bs).offset ≡ p.offset + suc (length bs)
    go true g k = absurd (false≢true (sym f ∙ ap (λ (q : Spot). is_wrong q.place) (stays bs (next p b) g) ∙ g))
    go false g k =
        let m : (next p b).offset ≡ p.offset + 1 = moved_at p.place p b e ∙ ap (λ t. p.offset + pick t 0 1) g in
        let h : (next p b).offset + length bs ≡ p.offset + suc (length bs) = omega (arith, m) in
        k g f ∙ h

-- n bytes on is the first wrong one
abbrev First : Spot → List ℕ → ℕ → Type 0
First p bs n = (n < length bs) × (is_wrong (ended p (take n bs)).place ≡ false) × (is_wrong (ended p (take (suc n) bs)).place ≡ true)

-- a byte is wrong: the offset is that of the first
wrong-from : (bs : List ℕ) (p : Spot) → is_wrong p.place ≡ false → is_wrong (ended p bs).place ≡ true
    → (n : ℕ) × ((ended p bs).offset ≡ p.offset + n) × First p bs n
wrong-from [] p e f = absurd (false≢true (sym e ∙ f))
wrong-from (b ∷ bs) p e f = go (is_wrong (next p b).place) refl (wrong-from bs (next p b))
  where
    go : (t : Bool) → is_wrong (next p b).place ≡ t
        → (is_wrong (next p b).place ≡ false → is_wrong (ended (next p b) bs).place ≡ true
        → (n : ℕ) × ((ended (next p b) bs).offset ≡ (next p b).offset + n) × First (next p b) bs n)
        → (n : ℕ) × ((ended (next p b) bs).offset ≡ p.offset + n) × First p (b ∷ bs) n
    go true g k =
        (0, ap (λ (q : Spot). q.offset) (stays bs (next p b) g) ∙ moved_at p.place p b e ∙ ap (λ t. p.offset + pick t 0 1) g, (omega arith, e, g))
    go false g k =
        let m : (next p b).offset ≡ p.offset + 1 = moved_at p.place p b e ∙ ap (λ t. p.offset + pick t 0 1) g in
        let x = k g f in
        let h : (next p b).offset + x.0 ≡ p.offset + suc x.0 = omega (arith, m) in
        let l : suc x.0 < suc (length bs) = omega (arith, x.2.0) in
        (suc x.0, x.1 ∙ h, (l, x.2.1, x.2.2))

-- ---- a recording
-- no byte is wrong: the offset is the length of all
pub offset-right : (file : List ℕ) → ((apart fresh_spot file).1.place ≡ Wrong → ⊥) → (apart fresh_spot file).1.offset ≡ length file
offset-right file f =
    let e : (apart fresh_spot file).1 ≡ ended fresh_spot file = ended_is file fresh_spot in
    ap (λ (q : Spot). q.offset) e
    ∙ right-from file fresh_spot refl (is_right _ λ g. f (ap (λ (q : Spot). q.place) e ∙ g))
    ∙ zero-add (length file)

-- one is: the offset is that of the first, up to it none is wrong, and with it there is
pub offset-wrong : (file : List ℕ) → (apart fresh_spot file).1.place ≡ Wrong
    → ((apart fresh_spot file).1.offset < length file)
    × ((apart fresh_spot (take (apart fresh_spot file).1.offset file)).1.place ≡ Wrong → ⊥)
    × ((apart fresh_spot (take (suc (apart fresh_spot file).1.offset) file)).1.place ≡ Wrong)
offset-wrong file f =
    let e : (apart fresh_spot file).1 ≡ ended fresh_spot file = ended_is file fresh_spot in
    let x = wrong-from file fresh_spot refl (ap (λ (q : Spot). is_wrong q.place) (sym e) ∙ ap is_wrong f) in
    let o : (apart fresh_spot file).1.offset ≡ x.0 = ap (λ (q : Spot). q.offset) e ∙ x.1 ∙ zero-add x.0 in
    subst Is (sym o) (
      x.2.0,
      (λ g. not-wrong _ x.2.1 (ap (λ (q : Spot). q.place) (sym (ended_is (take x.0 file) fresh_spot)) ∙ g)),
      ap (λ (q : Spot). q.place) (ended_is (take (suc x.0) file) fresh_spot) ∙ is-wrong _ x.2.2,
    )
  where
    Is : ℕ → Type 0
    Is n =
        (n < length file) × ((apart fresh_spot (take n file)).1.place ≡ Wrong → ⊥)
        × ((apart fresh_spot (take (suc n) file)).1.place ≡ Wrong)
