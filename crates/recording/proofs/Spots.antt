-- One byte of a recording that is no stream byte, by its place.
-- mode-plain, mode-else, at-.., at_mark, at_second, at_low, at_high                 where the recording stands behind it
-- left-none, left-some, on-..                  places in a record
-- next-near                                    a byte is one byte at most
use Prim.Native.Nat.{ℕ, ◌+◌, ◌-◌, ◌*◌, ◌≤◌, ◌<◌}
use native.Mathlib.Omega.{arith}
use mathlib.Core.Path.{◌≡◌, sym, ◌∙◌, ap, subst}
use mathlib.Core.Bool.{Bool, true, false}
use lib.Dec.{eqb, ltb}
use borrow.Author.Tests.{eq-eqb, ne_eqb, lt-ltb, le-ltb}
use Rattle.base.specs.Choice.{pick}
use Rattle.listing_spec.specs.declared.Place.{Place}
use Rattle.listing_spec.specs.declared.Place.TheVariants.{Mode, Mark, Second, Low, High, Inside, Wrong}
use Rattle.listing_spec.specs.declared.Spot.{Spot}
use Rattle.listing_spec.specs.Apart.{most, on, wrong, left, through, next_at, next, in_stream}
use Rattle.recording.specs.Private.{left_at, on_to}

module _ (p : Spot) (b : ℕ) {r : Spot} where
  pub mode-plain : p.place ≡ Mode → b ≡ 0x50 → r ≡ on Mark p → r ≡ next p b
  unfolding next_at
  mode-plain e h f = f ∙ sym (ap (λ x. next_at x p b) e ∙ ap (λ t. pick t (on Mark p) (pick (eqb b 0x4F) (on Mark p) (wrong p))) (eq-eqb b 0x50 h))

  pub mode-else : p.place ≡ Mode → (b ≡ 0x50 → ⊥) → r ≡ pick (eqb b 0x4F) (on Mark p) (wrong p) → r ≡ next p b
  unfolding next_at
  mode-else e h f = f ∙ sym (ap (λ x. next_at x p b) e ∙ ap (λ t. pick t (on Mark p) (pick (eqb b 0x4F) (on Mark p) (wrong p))) (ne_eqb b 0x50 h))

  pub at_mark : p.place ≡ Mark → r ≡ pick (eqb b 0xF5) (on Second p) (wrong p) → r ≡ next p b
  unfolding next_at
  at_mark e f = f ∙ sym (ap (λ x. next_at x p b) e)

  pub at_second : p.place ≡ Second → r ≡ pick (eqb b 0x5F) (on Low p) (wrong p) → r ≡ next p b
  unfolding next_at
  at_second e f = f ∙ sym (ap (λ x. next_at x p b) e)

  pub at_low : p.place ≡ Low → r ≡ on (High b) p → r ≡ next p b
  unfolding next_at
  at_low e f = f ∙ sym (ap (λ x. next_at x p b) e)

  pub at_high : {l : ℕ} {q : Place} → p.place ≡ High l → q ≡ left (l + 256 * b) → r ≡ on q p → r ≡ next p b
  unfolding next_at
  at_high e g f = f ∙ ap (λ x. on x p) g ∙ sym (ap (λ x. next_at x p b) e)

  pub at-inside : {k : ℕ} → p.place ≡ Inside k → in_stream p.place p.count ≡ false → r ≡ wrong p → r ≡ next p b
  unfolding next_at in_stream
  at-inside {k} e n f =
      f ∙ sym (ap (λ x. next_at x p b) e ∙ ap (λ t. pick t (through k p) (wrong p)) (subst (λ (q : Place). in_stream q p.count ≡ false) e n))

  pub at-wrong : p.place ≡ Wrong → r ≡ p → r ≡ next p b
  unfolding next_at
  at-wrong e f = f ∙ sym (ap (λ x. next_at x p b) e)

-- the place where a record has so many stream bytes
pub left-none : (n : ℕ) → n ≡ 0 → Mark ≡ left n
left-none n h = ap (λ t. pick t Mark (Inside (n - 1))) (sym (eq-eqb n 0 h))

pub left-some : (n : ℕ) → (n ≡ 0 → ⊥) → Inside (n - 1) ≡ left n
left-some n h = ap (λ t. pick t Mark (Inside (n - 1))) (sym (ne_eqb n 0 h))

-- the place n stream bytes on
module _ (q : Place) (n : ℕ) {k : ℕ} (e : k ≡ left_at q) where
  pub on-here : n ≡ 0 → q ≡ on_to q n
  on-here h = ap (λ t. pick t q (pick (ltb n (left_at q)) (Inside (left_at q - n - 1)) Mark)) (sym (eq-eqb n 0 h))

  pub on-inside : (n ≡ 0 → ⊥) → n < k → Inside (k - n - 1) ≡ on_to q n
  on-inside z h =
      ap (λ j. Inside (j - n - 1)) e
      ∙ (λ i. pick (sym (ne_eqb n 0 z) i) q (pick (sym (lt-ltb n (left_at q) (omega arith)) i) (Inside (left_at q - n - 1)) Mark))

  pub on-end : (n ≡ 0 → ⊥) → k ≤ n → Mark ≡ on_to q n
  on-end z h = λ i. pick (sym (ne_eqb n 0 z) i) q (pick (sym (le-ltb n (left_at q) (omega arith)) i) (Inside (left_at q - n - 1)) Mark)

-- a byte is one byte at most
near-pick : (t : Bool) (p q : Spot) (n : ℕ) → p.offset ≤ n → q.offset ≤ n → (pick t p q).offset ≤ n
near-pick true p q n h k = h
near-pick false p q n h k = k

near-at : (q : Place) (p : Spot) (b : ℕ) → (next_at q p b).offset ≤ p.offset + 1
unfolding next_at
near-at Mode p b =
    near-pick (eqb b 0x50) (on Mark p) (pick (eqb b 0x4F) (on Mark p) (wrong p)) (p.offset + 1) (omega arith)
    (near-pick (eqb b 0x4F) (on Mark p) (wrong p) (p.offset + 1) (omega arith) (omega arith))
near-at Mark p b = near-pick (eqb b 0xF5) (on Second p) (wrong p) (p.offset + 1) (omega arith) (omega arith)
near-at Second p b = near-pick (eqb b 0x5F) (on Low p) (wrong p) (p.offset + 1) (omega arith) (omega arith)
near-at Low p b = omega arith
near-at (High l) p b = omega arith
near-at (Inside k) p b = near-pick (ltb p.count most) (through k p) (wrong p) (p.offset + 1) (omega arith) (omega arith)
near-at Wrong p b = omega arith

pub next-near : (p : Spot) (b : ℕ) → (next p b).offset ≤ p.offset + 1
next-near p b = near-at p.place p b
