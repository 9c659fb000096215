-- A bit of woven bits, by its place.
-- At                         x bits behind the place of the first header bit
-- before                     a bit before the first header bit
-- heading, between, behind   from there on (`placed`): a header bit; a bit between two of them; a bit behind all
use mathlib.Core.Path.{◌≡◌, refl, sym, ap, subst, ◌∙◌}
use mathlib.Core.List.{List, [], ◌∷◌, ◌++◌}
use Prim.Native.Nat.{ℕ, zero, suc, ◌+◌, ◌-◌, ◌/◌, ◌%◌, ◌≤◌, ◌<◌}
use native.Mathlib.Nat.{zero-div, zero-mod, div-eq_of_lt, mod-eq_of_lt, add-div_left, add-mod_left, div-le_self, mod-lt, zero-lt-suc, pos_of_ne-zero}
use native.Mathlib.Numerals.{add-one}
use native.Mathlib.Omega.{arith}
use lib.ListN.{length, take, drop, get_or, get_or-append, length-drop}
use lib.Seq.{get_or_at, get_or-append-add, get_or-take, get_or-drop, length-take-le}
use Rattle.base.proofs.Tests.{by_le}
use Rattle.unit_spec.specs.Unit.{weave}
use Rattle.unit_spec.proofs.Weaving.{Room}

pub before : (until gap : ℕ) (hs p : List ℕ) (i : ℕ) → Room until gap (length hs) (length p) → i < until → get_or p i 0 ≡ get_or (weave until gap hs p) i 0
unfolding weave
before until gap [] p i r h = refl
before until gap (x ∷ hs) p i r h =
    sym (get_or-append (take until p) (x ∷ weave gap gap hs (drop until p)) 0 i (omega (arith, length-take-le until p r.0)) ∙ get_or-take until p i 0 h)

-- the bits behind the first header bit
past : (until gap x : ℕ) (hs p : List ℕ) (i : ℕ) → until ≤ length p
    → get_or (weave until gap (x ∷ hs) p) (until + suc i) 0 ≡ get_or (weave gap gap hs (drop until p)) i 0
unfolding weave
past until gap x hs p i h =
    ap (λ (n : ℕ). get_or (take until p ++ x ∷ weave gap gap hs (drop until p)) (n + suc i) 0) (sym (length-take-le until p h))
    ∙ get_or-append-add (take until p) (x ∷ weave gap gap hs (drop until p)) (suc i) 0

first : (until gap x : ℕ) (hs p : List ℕ) → until ≤ length p → get_or (weave until gap (x ∷ hs) p) until 0 ≡ x
unfolding weave
first until gap x hs p h = get_or_at (take until p) x (weave gap gap hs (drop until p)) 0 until (length-take-le until p h)

less : (until : ℕ) (p : List ℕ) (gap k : ℕ) → Room gap gap k (length p - until) → Room gap gap k (length (drop until p))
less until p gap k r = rw (length-drop until p) r

-- x bits behind the place of the first header bit
pub record At (until gap step : ℕ) (hs p : List ℕ) (x : ℕ) : Type 0 where
  pub heading : x / step < length hs → x % step ≡ 0 → get_or hs (x / step) 0 ≡ get_or (weave until gap hs p) (until + x) 0
  pub between : x / step < length hs → (x % step ≡ 0 → ⊥) → get_or p (until + x - (x / step + 1)) 0 ≡ get_or (weave until gap hs p) (until + x) 0
  pub behind : length hs ≤ x / step → get_or p (until + x - length hs) 0 ≡ get_or (weave until gap hs p) (until + x) 0

module _ (gap : ℕ) where
  quotient : (y : ℕ) → (suc gap + y) / suc gap ≡ y / suc gap + 1
  quotient y = add-div_left y {k = suc gap} (zero-lt-suc gap)

  rest : (y : ℕ) → (suc gap + y) % suc gap ≡ y % suc gap
  rest y = add-mod_left (suc gap) y

  at : (hs : List ℕ) (until : ℕ) (p : List ℕ) (x : ℕ) → Room until gap (length hs) (length p) → At until gap (suc gap) hs p x
  unfolding weave
  at [] until p x r = record {
    heading = λ h. absurd (omega arith);
    between = λ h. absurd (omega arith);
    behind = λ h. ap (λ (i : ℕ). get_or p i 0) (omega arith);
  }
  at (z ∷ hs) until p zero r =
      let q : 0 / suc gap ≡ 0 = zero-div (suc gap) in
      let m : 0 % suc gap ≡ 0 = zero-mod (suc gap) in
      let u : until + 0 ≡ until = omega arith in
      record {
        heading = λ h k. ap (λ (i : ℕ). get_or (z ∷ hs) i 0) q ∙ sym (ap (λ (i : ℕ). get_or (weave until gap (z ∷ hs) p) i 0) u ∙ first until gap z hs p r.0);
        between = λ h n. absurd (n m);
        behind = λ h. absurd (omega arith);
      }
  at (z ∷ hs) until p (suc y) r = by_le gap y (λ h. far h (at hs gap (drop until p) (y - gap) (less until p gap (length hs) r.1))) near
    where
      near : y < gap → At until gap (suc gap) (z ∷ hs) p (suc y)
      near h =
          let q : suc y / suc gap ≡ 0 = div-eq_of_lt (omega arith) in
          let m : suc y % suc gap ≡ suc y = mod-eq_of_lt (omega arith) in
          record {
            heading = λ k e. absurd (omega arith);
            between = λ k n.
                let e : until + suc y - (suc y / suc gap + 1) ≡ until + y = omega arith in
                ap (λ (i : ℕ). get_or p i 0) e ∙ sym (get_or-drop until p y 0)
                ∙ before gap gap hs (drop until p) y (less until p gap (length hs) r.1) h ∙ sym (past until gap z hs p y r.0);
            behind = λ k. absurd (omega arith);
          }

      far : gap ≤ y → At gap gap (suc gap) hs (drop until p) (y - gap) → At until gap (suc gap) (z ∷ hs) p (suc y)
      far h a =
          let e : suc y ≡ suc gap + (y - gap) = omega arith in
          let g : gap + (y - gap) ≡ y = omega arith in
          let q : suc y / suc gap ≡ (y - gap) / suc gap + 1 = ap (λ (n : ℕ). n / suc gap) e ∙ quotient (y - gap) in
          let m : suc y % suc gap ≡ (y - gap) % suc gap = ap (λ (n : ℕ). n % suc gap) e ∙ rest (y - gap) in
          let small : (y - gap) / suc gap ≤ y - gap = div-le_self (y - gap) (suc gap) in
          let there : get_or (weave gap gap hs (drop until p)) (gap + (y - gap)) 0 ≡ get_or (weave until gap (z ∷ hs) p) (until + suc y) 0 =
          ap (λ (i : ℕ). get_or (weave gap gap hs (drop until p)) i 0) g ∙ sym (past until gap z hs p y r.0) in
          record {
            heading = λ k n. ap (λ (i : ℕ). get_or (z ∷ hs) i 0) (q ∙ add-one ((y - gap) / suc gap)) ∙ a.heading (omega arith) (sym m ∙ n) ∙ there;
            between = λ k n.
                let some : 0 < (y - gap) % suc gap = pos_of_ne-zero (λ o. n (m ∙ o)) in
                let low : (y - gap) % suc gap < suc gap = mod-lt (y - gap) (zero-lt-suc gap) in
                let f : until + suc y - (suc y / suc gap + 1) ≡ until + (gap + (y - gap) - ((y - gap) / suc gap + 1)) = omega arith in
                ap (λ (i : ℕ). get_or p i 0) f ∙ sym (get_or-drop until p (gap + (y - gap) - ((y - gap) / suc gap + 1)) 0)
                ∙ a.between (omega arith) (λ o. n (m ∙ o)) ∙ there;
            behind = λ k.
                let f : until + suc y - suc (length hs) ≡ until + (gap + (y - gap) - length hs) = omega arith in
                ap (λ (i : ℕ). get_or p i 0) f ∙ sym (get_or-drop until p (gap + (y - gap) - length hs) 0) ∙ a.behind (omega arith) ∙ there;
          }

-- the step is one more than the gap
pub placed : (until gap step : ℕ) (hs p : List ℕ) (x : ℕ) → Room until gap (length hs) (length p) → suc gap ≡ step → At until gap step hs p x
placed until gap step hs p x r e = subst (λ (s : ℕ). At until gap s hs p x) e (at gap hs until p x r)
