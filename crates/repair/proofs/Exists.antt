-- not_none   with fewer than n altered places the equations have a solution of n numbers that is not zero: the product of
--            x - a over the points a of the altered places
use mathlib.Core.Path.{◌≡◌, refl, sym, ap, ◌∙◌}
use mathlib.Core.Bool.{Bool, true, false}
use mathlib.Core.List.{List, [], ◌∷◌}
use Prim.Native.Nat.{ℕ, suc, ◌+◌, ◌≤◌, ◌<◌}
use native.Mathlib.Omega.{arith}
use lib.Dec.{eqb}
use borrow.Author.Tests.{eqb-true}
use lib.ListN.{length}
use Rattle.base.specs.Choice.{pick}
use Rattle.base.specs.Bytes.{Bytes}
use Rattle.field.specs.Field.{alpha, add, mul, pow}
use Rattle.field.proofs.Sum.{add-byte}
use Rattle.field.proofs.Product.{ring, mul-zero, zero-mul, mul-lt}
use Rattle.repair.specs.Way.{low, sums, windows}
use Rattle.repair.proofs.Weigh.{at-each-map}
use Rattle.repair.proofs.Few.{weight}
use Rattle.repair.proofs.Locate.{AllZero, Locates, located}
use Rattle.repair.proofs.Eliminate.{None}

-- a polynomial times x - a, and v
raise : ℕ → ℕ → List ℕ → List ℕ
raise a v [] = v ∷ []
raise a v (c ∷ cs) = add v (mul a c) ∷ raise a c cs

raise-step : (v a c x q : ℕ) → add (add v (mul a c)) (mul x (add c (mul (add x a) q))) ≡ add v (mul (add x a) (add c (mul x q)))
raise-step v a c x q = simp ring

raise-low : (a v : ℕ) (cs : List ℕ) (x : ℕ) → low (raise a v cs) x ≡ add v (mul (add x a) (low cs x))
unfolding raise low
raise-low a v [] x = simp (mul-zero)
raise-low a v (c ∷ cs) x = ap (λ (t : ℕ). add (add v (mul a c)) (mul x t)) (raise-low a c cs x) ∙ raise-step v a c x (low cs x)

length-raise : (a v : ℕ) (cs : List ℕ) → length (raise a v cs) ≡ suc (length cs)
unfolding raise
length-raise a v [] = refl
length-raise a v (c ∷ cs) = ap suc (length-raise a c cs)

bytes-raise : (a v : ℕ) (cs : List ℕ) → v < 256 → Bytes cs → Bytes (raise a v cs)
unfolding raise
bytes-raise a v [] h b = (h, tt)
bytes-raise a v (c ∷ cs) h b = (add-byte _ _ h (mul-lt a c), bytes-raise a c cs b.0 b.1)

-- the highest coefficient
top : ℕ → List ℕ → ℕ
top v [] = v
top v (c ∷ cs) = top c cs

raise-top : (a u v : ℕ) (cs : List ℕ) → top u (raise a v cs) ≡ top v cs
unfolding raise top
raise-top a u v [] = refl
raise-top a u v (c ∷ cs) = raise-top a (add v (mul a c)) c cs

zero-top : (v : ℕ) (cs : List ℕ) → v ≡ 0 → AllZero cs → top v cs ≡ 0
unfolding top
zero-top v [] h z = h
zero-top v (c ∷ cs) h z = zero-top c cs z.0 z.1

-- the product over the altered places
product : List ℕ → List ℕ
product [] = 1 ∷ []
product (c ∷ cs) = pick (eqb c 0) (product cs) (raise (pow alpha (length cs)) 0 (product cs))

length-by : (t : Bool) (a n : ℕ) (l : List ℕ) → length l ≡ suc n → length (pick t l (raise a 0 l)) ≡ suc (pick t 0 1 + n)
length-by true a n l h = h ∙ ap suc (omega arith)
length-by false a n l h = length-raise a 0 l ∙ ap suc (h ∙ omega arith)

length-product : (e : List ℕ) → length (product e) ≡ suc (weight e)
unfolding product weight
length-product [] = refl
length-product (c ∷ cs) = length-by (eqb c 0) _ _ (product cs) (length-product cs)

bytes-by : (t : Bool) (a : ℕ) (l : List ℕ) → Bytes l → Bytes (pick t l (raise a 0 l))
bytes-by true a l b = b
bytes-by false a l b = bytes-raise a 0 l (omega arith) b

bytes_product : (e : List ℕ) → Bytes (product e)
unfolding product
bytes_product [] = (omega arith, tt)
bytes_product (c ∷ cs) = bytes-by (eqb c 0) _ (product cs) (bytes_product cs)

top-by : (t : Bool) (a : ℕ) (l : List ℕ) → top 0 l ≡ 1 → top 0 (pick t l (raise a 0 l)) ≡ 1
top-by true a l h = h
top-by false a l h = raise-top a 0 0 l ∙ h

top-product : (e : List ℕ) → top 0 (product e) ≡ 1
unfolding product top
top-product [] = refl
top-product (c ∷ cs) = top-by (eqb c 0) _ (product cs) (top-product cs)

same-zero : (c a q : ℕ) → mul c (add 0 (mul (add a a) q)) ≡ 0
same-zero c a q = simp ring

take_out : (c d q : ℕ) → mul c (add 0 (mul d q)) ≡ mul d (mul c q)
take_out c d q = simp ring

locates-by : (t : Bool) (c : ℕ) (cs l : List ℕ) → eqb c 0 ≡ t → Locates cs l → Locates (c ∷ cs) (pick t l (raise (pow alpha (length cs)) 0 l))
locates-by true c cs l q h = (ap (λ (t : ℕ). mul t (low l (pow alpha (length cs)))) (eqb-true c 0 q) ∙ zero-mul _, h)
locates-by false c cs l q h = (
  ap (mul c) (raise-low a 0 l a) ∙ same-zero c a (low l a),
  at-each-map (λ x d. mul d (low l x) ≡ 0) (λ x d. mul d (low (raise a 0 l) x) ≡ 0) cs
      (λ i hi d y. ap (mul d) (raise-low a 0 l (pow alpha i)) ∙ take_out d (add (pow alpha i) a) (low l (pow alpha i)) ∙ ap (mul (add (pow alpha i) a)) y
      ∙ mul-zero _) h,
)
  where
    a : ℕ
    a = pow alpha (length cs)

locates-product : (e : List ℕ) → Locates e (product e)
unfolding product
locates-product [] = tt
locates-product (c ∷ cs) = locates-by (eqb c 0) c cs (product cs) refl (locates-product cs)

-- so with fewer than n altered places the equations have a solution but zero
pub not_none : (e : List ℕ) → Bytes e → length e ≤ 255 → (r m n : ℕ) → n + m ≤ suc r → n ≤ 33 → weight e < n → None n (windows 0 m (sums r e)) → ⊥
not_none e b l r m n fits small h none =
    let short : length (product e) ≤ n = omega (arith, length-product e) in
    let zero : AllZero (product e) = none (product e) short (bytes_product e) (located e b l r m n fits small (product e) short (locates-product e)) in
    let one : ◌≡◌ {A = ℕ} 1 0 = sym (top-product e) ∙ zero-top 0 (product e) refl zero in
    omega arith
