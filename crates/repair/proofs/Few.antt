-- weight                            how many bytes are not zero
-- point-pos, points-differ, apart   the points of places are not zero, and differ
-- few   where as many sums are zero as bytes of the word are not, each term of them is zero. Minimum distance, the locator and
--       the altered bytes all come of this
use mathlib.Core.Path.{◌≡◌, sym, ap, ap₂, ◌∙◌}
use mathlib.Core.List.{List, [], ◌∷◌}
use Prim.Native.Nat.{ℕ, zero, suc, ◌+◌, ◌-◌, ◌≤◌, ◌<◌}
use native.Mathlib.Nat.{pos_of_ne-zero}
use native.Mathlib.Omega.{arith}
use lib.Dec.{eqb}
use borrow.Author.Tests.{eq-eqb, ne_eqb}
use lib.ListN.{length}
use Rattle.base.specs.Choice.{pick}
use Rattle.base.proofs.Tests.{by-eq}
use Rattle.field.specs.Field.{alpha, add, mul, pow}
use Rattle.field.proofs.Sum.{add-self, add-zero, zero-add, add-eq, add-byte}
use Rattle.field.proofs.Product.{ring, mul-zero, zero-mul, mul-one, mul-lt, mul_assoc}
use Rattle.field.proofs.Powers.{pow-lt, pow-suc, pow-zero, pow-add, pow-inj, alpha-order, cancel}
use Rattle.repair.proofs.Weigh.{weigh, weigh-same, weigh-add, weigh-mul, AtEach, at-each-map, weigh-zero}

-- the number of bytes that are not zero
unfoldable pub weight : List ℕ → ℕ
weight [] = 0
weight (c ∷ cs) = pick (eqb c 0) 0 1 + weight cs

-- ---- points
pub point-pos : (k : ℕ) → k < 255 → 0 < pow alpha k
point-pos k h =
    pos_of_ne-zero λ z.
    let split : 255 ≡ k + (255 - k) = omega arith in
    let one : ◌≡◌ {A = ℕ} 1 0 = sym alpha-order ∙ ap (pow alpha) split ∙ pow-add alpha k (255 - k) ∙ ap (λ (x : ℕ). mul x (pow alpha (255 - k))) z
    ∙ zero-mul _ in
    omega arith

pub apart : (i j : ℕ) → (pow alpha i ≡ pow alpha j → ⊥) → 0 < add (pow alpha i) (pow alpha j)
apart i j h = pos_of_ne-zero λ z. h (add-eq (pow alpha i) (pow alpha j) z)

pub points-differ : (i j : ℕ) → i < j → j < 255 → pow alpha i ≡ pow alpha j → ⊥
points-differ i j h l e = let s : i ≡ j = pow-inj i j (omega arith) l e in omega arith

split_step : (a g x p : ℕ) → mul (mul g (add x a)) p ≡ add (mul g (mul x p)) (mul a (mul g p))
split_step a g x p = simp ring

same_step : (a c g p s : ℕ) → add (mul c (mul (mul g (add a a)) p)) s ≡ s
same_step a c g p s = simp ring

out : (c g d : ℕ) → mul c (mul g d) ≡ mul d (mul c g)
out c g d = simp ring

-- the sums of a function g times x^j are zero, for j below m
abbrev Zeros : (ℕ → ℕ) → ℕ → List ℕ → Type 0
Zeros g m d = (j : ℕ) → j < m → weigh (λ x. mul (g x) (pow x j)) d ≡ 0

module _ (g : ℕ → ℕ) (c : ℕ) (cs : List ℕ) where
  a : ℕ
  a = pow alpha (length cs)

  -- with the factor x - a the place of the point a is gone
  shorter : (j : ℕ) → weigh (λ x. mul (g x) (pow x j)) (c ∷ cs) ≡ 0 → weigh (λ x. mul (g x) (pow x (suc j))) (c ∷ cs) ≡ 0
      → weigh (λ x. mul (mul (g x) (add x a)) (pow x j)) cs ≡ 0
  unfolding weigh a
  shorter j p q =
      sym (same_step a c (g a) (pow a j) _)
      ∙ weigh-same (λ x. mul (mul (g x) (add x a)) (pow x j)) (λ x. add (mul (g x) (pow x (suc j))) (mul a (mul (g x) (pow x j)))) (c ∷ cs)
      (λ x. split_step a (g x) x (pow x j) ∙ ap (λ (t : ℕ). add (mul (g x) t) (mul a (mul (g x) (pow x j)))) (sym (pow-suc x j)))
      ∙ weigh-add (λ x. mul (g x) (pow x (suc j))) (λ x. mul a (mul (g x) (pow x j))) (c ∷ cs)
      ∙ ap₂ add q (weigh-mul a (λ x. mul (g x) (pow x j)) (c ∷ cs) ∙ ap (mul a) p ∙ mul-zero a)
      ∙ add-self 0

  rest : length cs < 255 → AtEach (λ x e. mul e (mul (g x) (add x a)) ≡ 0) cs → AtEach (λ x e. mul e (g x) ≡ 0) cs
  unfolding a
  rest l =
      at-each-map (λ x e. mul e (mul (g x) (add x a)) ≡ 0) (λ x e. mul e (g x) ≡ 0) cs
      (λ k h e z.
      cancel (add (pow alpha k) a) _ (apart k (length cs) (points-differ k (length cs) h l)) (add-byte _ _ (pow-lt alpha k) (pow-lt alpha _)) (mul-lt e _)
      (sym (out e (g (pow alpha k)) (add (pow alpha k) a)) ∙ z))

  here : weigh (λ x. mul (g x) (pow x 0)) (c ∷ cs) ≡ 0 → AtEach (λ x e. mul e (g x) ≡ 0) cs → mul c (g a) ≡ 0
  unfolding weigh a
  here z e =
      sym
      (sym z
      ∙ ap (add (mul c (mul (g a) (pow a 0))))
      (weigh-zero (λ x. mul (g x) (pow x 0)) cs
      (at-each-map (λ x e. mul e (g x) ≡ 0) (λ x e. mul e (mul (g x) (pow x 0)) ≡ 0) cs
      (λ k h e y. sym (mul_assoc e _ _) ∙ ap (λ (t : ℕ). mul t (pow (pow alpha k) 0)) y ∙ zero-mul _) e))
      ∙ add-zero _ ∙ ap (λ (t : ℕ). mul c (mul (g a) t)) (pow-zero a) ∙ sym (mul_assoc c (g a) 1) ∙ mul-one _ (mul-lt c (g a)))

zero-first : (f : ℕ → ℕ) (c : ℕ) (cs : List ℕ) → c ≡ 0 → weigh f (c ∷ cs) ≡ weigh f cs
unfolding weigh
zero-first f c cs e = rw (e, zero-mul, zero-add)

-- by induction on the word, with the function free: a byte that is zero is passed over, and at another the rest is taken with
-- the factor x - a, for one sum less
module _ (g : ℕ → ℕ) (c : ℕ) (cs : List ℕ) (l : length cs < 255)
    (ih : (f : ℕ → ℕ) (n : ℕ) → weight cs ≤ n → Zeros f n cs → AtEach (λ x e. mul e (f x) ≡ 0) cs) where
  passed : (m : ℕ) → weight (c ∷ cs) ≤ m → Zeros g m (c ∷ cs) → c ≡ 0 → AtEach (λ x e. mul e (g x) ≡ 0) (c ∷ cs)
  unfolding weight
  passed m k h z =
      let light : 0 + weight cs ≤ m = rw (eq-eqb c 0 z) at k in (
        ap (λ (t : ℕ). mul t (g (pow alpha (length cs)))) z ∙ zero-mul _,
        ih g m (omega arith) (λ j i. sym (zero-first (λ x. mul (g x) (pow x j)) c cs z) ∙ h j i),
      )

  taken : (m : ℕ) → weight (c ∷ cs) ≤ m → Zeros g m (c ∷ cs) → (c ≡ 0 → ⊥) → AtEach (λ x e. mul e (g x) ≡ 0) (c ∷ cs)
  unfolding weight a
  taken zero k h n = let heavy : 1 + weight cs ≤ 0 = rw (ne_eqb c 0 n) at k in absurd (omega arith)
  taken (suc m) k h n =
      let light : 1 + weight cs ≤ suc m = rw (ne_eqb c 0 n) at k in
      let e = rest g c cs l
      (ih (λ x. mul (g x) (add x (pow alpha (length cs)))) m (omega arith) (λ j i. shorter g c cs j (h j (omega arith)) (h (suc j) (omega arith)))) in
      (here g c cs (h 0 (omega arith)) e, e)

pub few : (d : List ℕ) (g : ℕ → ℕ) (m : ℕ) → length d ≤ 255 → weight d ≤ m → ((j : ℕ) → j < m → weigh (λ x. mul (g x) (pow x j)) d ≡ 0)
    → AtEach (λ x e. mul e (g x) ≡ 0) d
few [] g m l k h = tt
few (c ∷ cs) g m l k h =
    by-eq c 0 (passed g c cs (omega arith) (λ f n. few cs f n (omega arith)) m k h) (taken g c cs (omega arith) (λ f n. few cs f n (omega arith)) m k h)
