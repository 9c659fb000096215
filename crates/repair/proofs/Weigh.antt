-- A word's bytes, each times a function of its place's point: the place with n bytes behind it has the point alpha^n. The sums
-- S_j are those of the functions x^j.
-- weigh, weigh-same, weigh-add, weigh-mul, add_step   the weighted sum; linear in the function
-- sum-weigh                                           S_j, the value at alpha^j
-- row-weigh                                           the sums from S_j on times the coefficients of a polynomial
-- AtEach, at-each-map, weigh-zero                     a fact at each place; a sum whose terms are zero
use mathlib.Core.Path.{◌≡◌, refl, sym, ap, ap₂, ◌∙◌}
use mathlib.Core.List.{List, [], ◌∷◌, ◌++◌}
use Prim.Native.Nat.{ℕ, zero, suc, ◌+◌, ◌≤◌, ◌<◌}
use native.Mathlib.Nat.{le_refl, mul_comm as nat-mul-comm, add-zero as plus-zero, add-suc as plus_suc, suc-add as suc-plus}
use native.Mathlib.Omega.{arith}
use lib.ListN.{length, drop}
use Rattle.base.specs.Bytes.{Bytes}
use Rattle.field.specs.Field.{alpha, add, mul, pow}
use Rattle.field.proofs.Sum.{add-self}
use Rattle.field.proofs.Product.{ring, mul-zero}
use Rattle.field.proofs.Powers.{pow-suc, pow-mul}
use Rattle.word_spec.specs.Word.{horner, eval, values_from}
use Rattle.word_spec.proofs.Values.{eval-cons}
use Rattle.repair.specs.Way.{low, dot}

unfoldable pub weigh : (ℕ → ℕ) → List ℕ → ℕ
weigh f [] = 0
weigh f (c ∷ cs) = add (mul c (f (pow alpha (length cs)))) (weigh f cs)

pub weigh-same : (f g : ℕ → ℕ) (w : List ℕ) → ((x : ℕ) → f x ≡ g x) → weigh f w ≡ weigh g w
weigh-same f g w h = ap (λ (k : ℕ → ℕ). weigh k w) (λ i x. h x i)

pub add_step : (c p q s t : ℕ) → add (mul c (add p q)) (add s t) ≡ add (add (mul c p) s) (add (mul c q) t)
add_step c p q s t = simp ring

pub weigh-add : (f g : ℕ → ℕ) (w : List ℕ) → weigh (λ x. add (f x) (g x)) w ≡ add (weigh f w) (weigh g w)
unfolding weigh
weigh-add f g [] = sym (add-self 0)
weigh-add f g (c ∷ cs) = ap (add (mul c (add (f (pow alpha (length cs))) (g (pow alpha (length cs)))))) (weigh-add f g cs) ∙ add_step c _ _ _ _

mul-step : (c k p s : ℕ) → add (mul c (mul k p)) (mul k s) ≡ mul k (add (mul c p) s)
mul-step c k p s = simp ring

pub weigh-mul : (k : ℕ) (f : ℕ → ℕ) (w : List ℕ) → weigh (λ x. mul k (f x)) w ≡ mul k (weigh f w)
unfolding weigh
weigh-mul k f [] = sym (mul-zero k)
weigh-mul k f (c ∷ cs) = ap (add (mul c (mul k (f (pow alpha (length cs)))))) (weigh-mul k f cs) ∙ mul-step c k _ _

-- ---- a fact at each place: of its point, and its byte
abbrev pub AtEach : (ℕ → ℕ → Type 0) → List ℕ → Type 0
AtEach Q [] = Unit {0}
AtEach Q (c ∷ cs) = Q (pow alpha (length cs)) c × AtEach Q cs

pub at-each-map : (Q P : ℕ → ℕ → Type 0) (w : List ℕ) → ((k : ℕ) → k < length w → (c : ℕ) → Q (pow alpha k) c → P (pow alpha k) c) → AtEach Q w → AtEach P w
at-each-map Q P [] f e = tt
at-each-map Q P (c ∷ cs) f e = (f (length cs) (le_refl _) c e.0, at-each-map Q P cs (λ k h. f k (omega arith)) e.1)

pub weigh-zero : (f : ℕ → ℕ) (w : List ℕ) → AtEach (λ x c. mul c (f x) ≡ 0) w → weigh f w ≡ 0
unfolding weigh
weigh-zero f [] e = refl
weigh-zero f (c ∷ cs) e = ap₂ add e.0 (weigh-zero f cs e.1) ∙ add-self 0

-- ---- the sums
swap-pow : (n j : ℕ) → pow (pow alpha j) n ≡ pow (pow alpha n) j
swap-pow n j = sym (pow-mul alpha n j) ∙ ap (pow alpha) (nat-mul-comm n j) ∙ pow-mul alpha j n

pub sum-weigh : (j : ℕ) (w : List ℕ) → Bytes w → eval w (pow alpha j) ≡ weigh (λ x. pow x j) w
unfolding weigh
sum-weigh j [] b = unfold eval horner in refl
sum-weigh j (c ∷ cs) b = eval-cons (pow alpha j) c cs b.0 ∙ ap₂ (λ (p s : ℕ). add (mul c p) s) (swap-pow (length cs) j) (sum-weigh j cs b.1)

-- ---- the sums times the coefficients of a polynomial, whatever z stands behind the sums
low_step : (p c x l : ℕ) → add (mul c p) (mul (mul x p) l) ≡ mul p (add c (mul x l))
low_step p c x l = simp ring

module _ (w z : List ℕ) (b : Bytes w) where
  front-weigh : (u : List ℕ) (j n : ℕ) → length u ≤ n → dot u (values_from w j n ++ z) ≡ weigh (λ x. mul (pow x j) (low u x)) w
  unfolding dot low values_from
  front-weigh [] j n h = sym (weigh-same (λ x. mul (pow x j) 0) (λ x. mul 0 0) w (λ x. mul-zero _ ∙ sym (mul-zero 0)) ∙ weigh-mul 0 (λ x. 0) w ∙ simp ring)
  front-weigh (c ∷ cs) j zero h = absurd (omega arith)
  front-weigh (c ∷ cs) j (suc n) h =
      ap₂ add (ap (mul c) (sum-weigh j w b) ∙ sym (weigh-mul c (λ x. pow x j) w)) (front-weigh cs (suc j) n (omega arith))
      ∙ sym (weigh-add (λ x. mul c (pow x j)) (λ x. mul (pow x (suc j)) (low cs x)) w)
      ∙ weigh-same (λ x. add (mul c (pow x j)) (mul (pow x (suc j)) (low cs x))) (λ x. mul (pow x j) (add c (mul x (low cs x)))) w
      (λ x. ap (λ (t : ℕ). add (mul c (pow x j)) (mul t (low cs x))) (pow-suc x j) ∙ low_step (pow x j) c x (low cs x))

  pub row-weigh : (u : List ℕ) (i j n : ℕ) → length u + i ≤ n → dot u (drop i (values_from w j n ++ z)) ≡ weigh (λ x. mul (pow x (j + i)) (low u x)) w
  unfolding values_from
  row-weigh u zero j n h = front-weigh u j n (omega arith) ∙ ap (λ (k : ℕ). weigh (λ x. mul (pow x k) (low u x)) w) (sym (plus-zero j))
  row-weigh u (suc i) j zero h = absurd (omega arith)
  row-weigh u (suc i) j (suc n) h =
      row-weigh u i (suc j) n (omega arith) ∙ ap (λ (k : ℕ). weigh (λ x. mul (pow x k) (low u x)) w) (suc-plus j i ∙ sym (plus_suc j i))
