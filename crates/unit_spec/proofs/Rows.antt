-- Table 5-4 by its six rows.
-- pick_same  a choice that makes no difference
-- by_row     a fact of header bits, start and step, from a fact of each row
-- fits       a length that is accepted has room for its header bits
-- few        there are 22 to 24 of them
-- room_of    .. so they stand among the payload bits
-- least, spaced   the lengths that have a header spacing: from 144, 303 or 289 bits on
use mathlib.Core.Path.{◌≡◌, refl, sym}
use mathlib.Core.Bool.{Bool, true, false, false≢true}
use mathlib.Core.Logic.{◌↔◌}
use Prim.Native.Nat.{ℕ, suc, ◌+◌, ◌-◌, ◌*◌, ◌/◌, ◌%◌, ◌≤◌, ◌<◌}
use native.Mathlib.Nat.{pos_of_ne-zero}
use native.Mathlib.Omega.{arith}
use lib.Dec.{eqb, ltb}
use borrow.Author.Tests.{eqb-true, eqb-false, ltb-true, ltb-false}
use Rattle.base.specs.Choice.{pick}
use Rattle.unit_spec.specs.Tables.{most, heads, start, step, unfit}
use Rattle.unit_spec.proofs.Weaving.{Room, room_fits}

pub by_row : (P : ℕ → ℕ → ℕ → Type 0) (l : ℕ)
    → (l < 72000 → l % 8 ≡ 0 → P 24 120 ((l - 120) / 24))
    → (l < 72000 → l % 8 ≡ 7 → P 23 120 ((l / 8 - 14) / 23 * 8))
    → (l < 72000 → (l % 8 ≡ 0 → ⊥) → (l % 8 ≡ 7 → ⊥) → P 22 120 ((l / 8 - 14) / 22 * 8))
    → (72000 ≤ l → l % 8 ≡ 0 → P 24 (l - 30000) 1248)
    → (72000 ≤ l → l % 8 ≡ 7 → P 23 (l / 8 * 8 - 29999) 1304)
    → (72000 ≤ l → (l % 8 ≡ 0 → ⊥) → (l % 8 ≡ 7 → ⊥) → P 22 (l / 8 * 8 - 29999) 1360)
    → P (heads l) (start l) (step l)
unfolding heads start step
by_row P l s0 s7 s l0 l7 l1 = go (ltb l 72000) (eqb (l % 8) 0) (eqb (l % 8) 7) refl refl refl
  where
    row : {A : Type 0} → Bool → Bool → A → A → A → A
    row x y a b c = pick x a (pick y b c)

    go : (t x y : Bool) → ltb l 72000 ≡ t → eqb (l % 8) 0 ≡ x → eqb (l % 8) 7 ≡ y
        → P (row x y 24 23 22)
        (pick t 120 (row x y (l - 30000) (l / 8 * 8 - 29999) (l / 8 * 8 - 29999)))
        (pick t (row x y ((l - 120) / 24) ((l / 8 - 14) / 23 * 8) ((l / 8 - 14) / 22 * 8)) (row x y 1248 1304 1360))
    go true true y t e f = s0 (ltb-true _ _ t) (eqb-true _ _ e)
    go true false true t e f = s7 (ltb-true _ _ t) (eqb-true _ _ f)
    go true false false t e f = s (ltb-true _ _ t) (eqb-false _ _ e) (eqb-false _ _ f)
    go false true y t e f = l0 (ltb-false _ _ t) (eqb-true _ _ e)
    go false false true t e f = l7 (ltb-false _ _ t) (eqb-true _ _ f)
    go false false false t e f = l1 (ltb-false _ _ t) (eqb-false _ _ e) (eqb-false _ _ f)

-- a choice that makes no difference
pub pick_same : {A : Type 0} (t : Bool) (a : A) → pick t a a ≡ a
pick_same true a = refl
pick_same false a = refl

-- a length that is accepted: not above the longest, and its spacing is not below zero
pub accepted : (l : ℕ) → unfit l ≡ false → (l ≤ most) × (0 < step l)
unfolding unfit
accepted l = go (ltb most l) (eqb (step l) 0) refl refl
  where
    go : (x y : Bool) → ltb most l ≡ x → eqb (step l) 0 ≡ y → pick x true y ≡ false → (l ≤ most) × (0 < step l)
    go true y e f g = absurd (false≢true (sym g))
    go false true e f g = absurd (false≢true (sym g))
    go false false e f g = (ltb-false _ _ e, pos_of_ne-zero (eqb-false _ _ f))

pub few : (l : ℕ) → (22 ≤ heads l) × (heads l ≤ 24)
few l =
    by_row (λ h s t. (22 ≤ h) × (h ≤ 24)) l (λ _ _. (omega arith, omega arith)) (λ _ _. (omega arith, omega arith)) (λ _ _ _. (omega arith, omega arith))
    (λ _ _. (omega arith, omega arith)) (λ _ _. (omega arith, omega arith)) (λ _ _ _. (omega arith, omega arith))

pub fits : (l : ℕ) → 0 < step l → start l + (heads l - 1) * (step l - 1) + heads l ≤ l
fits l =
    by_row (λ h s t. 0 < t → s + (h - 1) * (t - 1) + h ≤ l) l
    (λ b e k. whole ((l - 120) / 24) (omega arith) k)
    (λ b e k. seven ((l / 8 - 14) / 23) (omega arith) (omega arith) e)
    (λ b e f k. other ((l / 8 - 14) / 22) (omega arith) (omega arith) (pos_of_ne-zero e))
    (λ b e k. omega arith)
    (λ b e k. omega arith)
    (λ b e f k. omega arith)
  where
    whole : (k : ℕ) → 24 * k ≤ l - 120 → 0 < k → 120 + 23 * (k - 1) + 24 ≤ l
    whole k h p = omega arith

    seven : (k : ℕ) → 23 * k ≤ l / 8 - 14 → 0 < k → l % 8 ≡ 7 → 120 + 22 * (k * 8 - 1) + 23 ≤ l
    seven k h p e = omega arith

    other : (k : ℕ) → 22 * k ≤ l / 8 - 14 → 0 < k → 0 < l % 8 → 120 + 21 * (k * 8 - 1) + 22 ≤ l
    other k h p e = omega arith

pub room_of : (l n : ℕ) → 0 < step l → l - heads l ≤ n → Room (start l) (step l - 1) (heads l) n
room_of l n k h =
    let e : suc (heads l - 1) ≡ heads l = omega (arith, (few l).0) in
    rw (← e) (room_fits (start l) (step l - 1) (heads l - 1) n (omega (arith, fits l k, (few l).0)))

-- the least length of a unit, by its header bits
abbrev pub least : ℕ → ℕ
least h = pick (eqb h 24) 144 (pick (eqb h 23) 303 289)

-- the spacing is not below zero exactly from there on
pub spaced : (l : ℕ) → 0 < step l ↔ least (heads l) ≤ l
spaced l =
    by_row (λ h s t. 0 < t ↔ least h ≤ l) l (λ b e. (λ k. omega arith, λ k. omega arith)) (λ b e. (λ k. omega arith, λ k. omega arith))
    (λ b e f. (λ k. omega arith, λ k. omega arith)) (λ b e. (λ k. omega arith, λ k. omega arith)) (λ b e. (λ k. omega arith, λ k. omega arith))
    (λ b e f. (λ k. omega arith, λ k. omega arith))
