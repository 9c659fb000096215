-- Altered places. e is what was altered: zero but for the altered bytes, which stand in their places.
-- Kills, AllZero        v solves the equations; v is zero
-- Locates               v is zero at the point of each altered place
-- locates, located      with at most m altered places the solutions of m equations are exactly those polynomials
-- low-lt                values are bytes
-- division, length-tails, bytes-tails, zero-first, zero-tails   division by x - a
use mathlib.Core.Path.{◌≡◌, refl, sym, ap, ap₂, ◌∙◌}
use mathlib.Core.List.{List, [], ◌∷◌}
use Prim.Native.Nat.{ℕ, zero, suc, ◌+◌, ◌≤◌, ◌<◌}
use native.Mathlib.Nat.{add-zero as plus-zero, add-suc as plus_suc, suc-add as suc-plus, zero-add as nat-zero-add}
use native.Mathlib.Omega.{arith}
use lib.ListN.{length, take, drop}
use Rattle.base.specs.Bytes.{Each, Bytes}
use Rattle.field.specs.Field.{alpha, add, mul, pow}
use Rattle.field.proofs.Sum.{add-zero, add-byte}
use Rattle.field.proofs.Product.{ring, mul-zero, mul-lt, mul_left_comm}
use Rattle.field.proofs.Powers.{pow-lt, pow-suc, cancel}
use Rattle.repair.specs.Way.{low, tails, dot, sums, windows}
use Rattle.repair.proofs.Weigh.{weigh, weigh-same, weigh-zero, row-weigh, AtEach, at-each-map}
use Rattle.repair.proofs.Few.{weight, few, point-pos}

-- each row's product with v is zero
abbrev pub Kills : List (List ℕ) → List ℕ → Type 0
Kills rows v = Each (λ row. dot v row ≡ 0) rows

abbrev pub AllZero : List ℕ → Type 0
AllZero v = Each (λ x. x ≡ 0) v

-- ---- division by x - a
division-step : (x a c d t q : ℕ) → add d t ≡ mul (add x a) q → add (add c (mul x d)) (add c (mul a t)) ≡ mul (add x a) (add t (mul x q))
division-step x a c d t q e = sym (split x a t q ∙ ap (λ (s : ℕ). add (mul (add x a) t) (mul x s)) (sym e) ∙ join x a c d t)
  where
    split : (x a t q : ℕ) → mul (add x a) (add t (mul x q)) ≡ add (mul (add x a) t) (mul x (mul (add x a) q))
    split x a t q = simp ring

    join : (x a c d t : ℕ) → add (mul (add x a) t) (mul x (add d t)) ≡ add (add c (mul x d)) (add c (mul a t))
    join x a c d t = simp ring

-- the values at x and at a differ by (x - a) times the quotient's
pub division : (x a c : ℕ) (cs : List ℕ) → add (low (c ∷ cs) x) (low (c ∷ cs) a) ≡ mul (add x a) (low (tails cs a) x)
unfolding low tails
division x a c [] = simp ring
division x a c (d ∷ ds) = division-step x a c (low (d ∷ ds) x) (low (d ∷ ds) a) (low (tails ds a) x) (division x a d ds)

pub length-tails : (cs : List ℕ) (a : ℕ) → length (tails cs a) ≡ length cs
unfolding tails
length-tails [] a = refl
length-tails (c ∷ cs) a = ap suc (length-tails cs a)

pub low-lt : (cs : List ℕ) (x : ℕ) → Bytes cs → low cs x < 256
unfolding low
low-lt [] x b = omega arith
low-lt (c ∷ cs) x b = add-byte _ _ b.0 (mul-lt x _)

pub bytes-tails : (cs : List ℕ) (a : ℕ) → Bytes cs → Bytes (tails cs a)
unfolding tails
bytes-tails [] a b = tt
bytes-tails (c ∷ cs) a b = (low-lt (c ∷ cs) a b, bytes-tails cs a b.1)

zero-low : (cs : List ℕ) (x : ℕ) → AllZero cs → low cs x ≡ 0
unfolding low
zero-low [] x z = refl
zero-low (c ∷ cs) x z = ap₂ (λ (p q : ℕ). add p (mul x q)) z.0 (zero-low cs x z.1) ∙ simp ring

pub zero-first : (c x : ℕ) (cs : List ℕ) → AllZero cs → low (c ∷ cs) x ≡ 0 → c ≡ 0
unfolding low
zero-first c x cs z e = sym (add-zero c) ∙ ap (add c) (sym (ap (mul x) (zero-low cs x z) ∙ mul-zero x)) ∙ e

-- where the quotient is zero, so are the coefficients above the first
pub zero-tails : (cs : List ℕ) (a : ℕ) → AllZero (tails cs a) → AllZero cs
unfolding tails
zero-tails [] a z = tt
zero-tails (c ∷ cs) a z = let t = zero-tails cs a z.1 in (zero-first c a cs t z.0, t)

-- ---- the equations
dot-take : (n : ℕ) (u row : List ℕ) → length u ≤ n → dot u (take n row) ≡ dot u row
unfolding dot
dot-take n [] row h = refl
dot-take zero (x ∷ u) row h = absurd (omega arith)
dot-take (suc n) (x ∷ u) [] h = refl
dot-take (suc n) (x ∷ u) (y ∷ ys) h = ap (add (mul x y)) (dot-take n u ys (omega arith))

module _ (s u : List ℕ) (l : length u ≤ 33) where
  kills-at : (m i k : ℕ) → Kills (windows i m s) u → k < m → dot u (drop (i + k) s) ≡ 0
  unfolding windows
  kills-at zero i k q h = absurd (omega arith)
  kills-at (suc m) i zero q h = ap (λ (t : ℕ). dot u (drop t s)) (plus-zero i) ∙ sym (dot-take 33 u (drop i s) l) ∙ q.0
  kills-at (suc m) i (suc k) q h = ap (λ (t : ℕ). dot u (drop t s)) (plus_suc i k ∙ sym (suc-plus i k)) ∙ kills-at m (suc i) k q.1 (omega arith)

  kills-all : (m i : ℕ) → ((k : ℕ) → k < i + m → dot u (drop k s) ≡ 0) → Kills (windows i m s) u
  unfolding windows
  kills-all zero i h = tt
  kills-all (suc m) i h = (dot-take 33 u (drop i s) l ∙ h i (omega arith), kills-all m (suc i) (λ k q. h k (omega arith)))

turn : (x l p : ℕ) → mul (mul x l) p ≡ mul (mul x p) l
turn x l p = simp ring

abbrev pub Locates : List ℕ → List ℕ → Type 0
Locates e v = AtEach (λ x c. mul c (low v x) ≡ 0) e

module _ (e : List ℕ) (b : Bytes e) (l : length e ≤ 255) (r m n : ℕ) (fits : n + m ≤ suc r) (small : n ≤ 33) where
  row : (v : List ℕ) → length v ≤ n → (i : ℕ) → i < m → dot v (drop i (sums r e)) ≡ weigh (λ x. mul (pow x (suc i)) (low v x)) e
  unfolding sums
  row v h i k = row-weigh e _ b v i 1 r (omega arith) ∙ ap (λ (t : ℕ). weigh (λ x. mul (pow x t) (low v x)) e) (suc-plus 0 i ∙ ap suc (nat-zero-add i))

  -- a solution is zero at each altered place
  pub locates : weight e ≤ m → (v : List ℕ) → length v ≤ n → Kills (windows 0 m (sums r e)) v → Locates e v
  locates k v h q =
      at-each-map (λ x c. mul c (mul x (low v x)) ≡ 0) (λ x c. mul c (low v x) ≡ 0) e
      (λ i j c z. cancel (pow alpha i) _ (point-pos i (omega arith)) (pow-lt alpha i) (mul-lt c _)
      (sym (mul_left_comm c (pow alpha i) (low v (pow alpha i))) ∙ z))
      (few e (λ x. mul x (low v x)) m l k
      (λ j i.
      weigh-same (λ x. mul (mul x (low v x)) (pow x j)) (λ x. mul (pow x (suc j)) (low v x)) e
      (λ x. turn x (low v x) (pow x j) ∙ ap (λ (t : ℕ). mul t (low v x)) (sym (pow-suc x j)))
      ∙ sym (row v h j i) ∙ ap (λ (t : ℕ). dot v (drop t (sums r e))) (sym (nat-zero-add j)) ∙ kills-at (sums r e) v (omega arith) m 0 j q i))

  -- and what is zero at each altered place is a solution
  pub located : (v : List ℕ) → length v ≤ n → Locates e v → Kills (windows 0 m (sums r e)) v
  located v h z =
      kills-all (sums r e) v (omega arith) m 0
      (λ j k.
      row v h j (omega arith)
      ∙ weigh-zero (λ x. mul (pow x (suc j)) (low v x)) e
      (at-each-map (λ x c. mul c (low v x) ≡ 0) (λ x c. mul c (mul (pow x (suc j)) (low v x)) ≡ 0) e
      (λ i h c y. mul_left_comm c (pow (pow alpha i) (suc j)) (low v (pow alpha i)) ∙ ap (mul (pow (pow alpha i) (suc j))) y ∙ mul-zero _) z))
