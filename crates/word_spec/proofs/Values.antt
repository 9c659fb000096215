-- Values of polynomials at any point: of multiples, sums and products. Repair stands on these.
-- horner-lt, eval-lt             values are bytes
-- horner-append, horner-add      of lists joined, added
-- horner-first, eval-cons        the first coefficient; the leading one c of k + 1 counts c a^k
-- eval-scale, eval_add, eval-zeros   of a multiple, a sum, zeros
-- value-is                       the value is the sum of the terms
-- eval-product                   the value of a product is the product of the values
use mathlib.Core.Path.{◌≡◌, refl, sym, ap, ap₂, ◌∙◌}
use mathlib.Core.List.{List, [], ◌∷◌, ◌++◌}
use Prim.Native.Nat.{ℕ, zero, suc, ◌-◌, ◌≤◌, ◌<◌}
use native.Mathlib.Nat.{not-suc-le-zero, le_of_suc-le-suc, suc_inj, sub-zero, suc-sub-suc}
use native.Mathlib.Omega.{arith}
use lib.ListN.{length, replicate}
use Rattle.base.specs.Bytes.{Bytes}
use Rattle.field.specs.Field.{add, mul, pow, value_at}
use Rattle.field.proofs.Sum.{add-self, add-zero, zero-add, add-byte}
use Rattle.field.proofs.Product.{ring, mul-zero, zero-mul, mul-one, mul-lt}
use Rattle.field.proofs.Powers.{pow-zero, pow-suc}
use Rattle.word_spec.specs.Word.{horner, eval, scale, onto}
use Rattle.word_spec.proofs.Sums.{length-scale, bytes-scale, product, length-product}

pub horner-lt : (a v : ℕ) (p : List ℕ) → v < 256 → Bytes p → horner a v p < 256
unfolding horner
horner-lt a v [] h b = h
horner-lt a v (c ∷ p) h b = horner-lt a (add (mul v a) c) p (add-byte _ _ (mul-lt v a) b.0) b.1

pub eval-lt : (a : ℕ) (p : List ℕ) → Bytes p → eval p a < 256
unfolding eval
eval-lt a p b = horner-lt a 0 p (omega arith) b

-- ---- one step of Horner's rule is additive, and takes a factor out
step-add : (a u v x y : ℕ) → add (mul (add u v) a) (add x y) ≡ add (add (mul u a) x) (add (mul v a) y)
step-add a u v x y = simp ring

step-mul : (a c v x : ℕ) → add (mul (mul c v) a) (mul c x) ≡ mul c (add (mul v a) x)
step-mul a c v x = simp ring

pub horner-first : (a c : ℕ) (p : List ℕ) → horner a 0 (c ∷ p) ≡ horner a c p
unfolding horner
horner-first a c p = ap (λ (t : ℕ). horner a (add t c) p) (zero-mul a) ∙ ap (λ (t : ℕ). horner a t p) (zero-add c)

pub horner-append : (a v : ℕ) (p q : List ℕ) → horner a v (p ++ q) ≡ horner a (horner a v p) q
unfolding horner
horner-append a v [] q = refl
horner-append a v (x ∷ p) q = horner-append a (add (mul v a) x) p q

horner-scale : (a c v : ℕ) (p : List ℕ) → horner a (mul c v) (scale c p) ≡ mul c (horner a v p)
unfolding horner scale
horner-scale a c v [] = refl
horner-scale a c v (x ∷ p) = ap (λ (t : ℕ). horner a t (scale c p)) (step-mul a c v x) ∙ horner-scale a c (add (mul v a) x) p

pub eval-scale : (a c : ℕ) (p : List ℕ) → eval (scale c p) a ≡ mul c (eval p a)
unfolding eval
eval-scale a c p = ap (λ (t : ℕ). horner a t (scale c p)) (sym (mul-zero c)) ∙ horner-scale a c 0 p

pub horner-add : (a u v : ℕ) (p q : List ℕ) → length p ≡ length q → horner a (add u v) (onto p q) ≡ add (horner a u p) (horner a v q)
unfolding horner onto
horner-add a u v [] [] h = refl
horner-add a u v [] (y ∷ q) h = absurd (omega arith)
horner-add a u v (x ∷ p) [] h = absurd (omega arith)
horner-add a u v (x ∷ p) (y ∷ q) h =
    ap (λ (t : ℕ). horner a t (onto p q)) (step-add a u v x y) ∙ horner-add a (add (mul u a) x) (add (mul v a) y) p q (suc_inj h)

pub eval_add : (a : ℕ) (p q : List ℕ) → length p ≡ length q → eval (onto p q) a ≡ add (eval p a) (eval q a)
unfolding eval
eval_add a p q h = ap (λ (t : ℕ). horner a t (onto p q)) (sym (add-self 0)) ∙ horner-add a 0 0 p q h

-- ---- the leading coefficient
lead-step : (a u v x : ℕ) → add (mul (add u v) a) x ≡ add (mul u a) (add (mul v a) x)
lead-step a u v x = simp ring

lead-power : (a u n : ℕ) → mul (mul u a) n ≡ mul u (mul a n)
lead-power a u n = simp ring

horner-lead : (a u v : ℕ) (p : List ℕ) → u < 256 → horner a (add u v) p ≡ add (mul u (pow a (length p))) (horner a v p)
unfolding horner
horner-lead a u v [] h = ap (λ (t : ℕ). add t v) (sym (ap (mul u) (pow-zero a) ∙ mul-one u h))
horner-lead a u v (x ∷ p) h =
    ap (λ (t : ℕ). horner a t p) (lead-step a u v x) ∙ horner-lead a (mul u a) (add (mul v a) x) p (mul-lt u a)
    ∙ ap (λ (t : ℕ). add t (horner a (add (mul v a) x) p)) (lead-power a u (pow a (length p)) ∙ ap (mul u) (sym (pow-suc a (length p))))

pub eval-cons : (a c : ℕ) (p : List ℕ) → c < 256 → eval (c ∷ p) a ≡ add (mul c (pow a (length p))) (eval p a)
unfolding eval
eval-cons a c p h = horner-first a c p ∙ ap (λ (t : ℕ). horner a t p) (sym (add-zero c)) ∙ horner-lead a c 0 p h

pub value-is : (a : ℕ) (p : List ℕ) → Bytes p → eval p a ≡ value_at a p
unfolding value_at eval horner
value-is a [] b = refl
value-is a (c ∷ p) b = eval-cons a c p b.0 ∙ ap (add (mul c (pow a (length p)))) (value-is a p b.1)

horner-onto : (a u v : ℕ) (p q : List ℕ) → u < 256 → Bytes p → length p ≤ length q
    → horner a (add u v) (onto p q) ≡ add (mul (horner a u p) (pow a (length q - length p))) (horner a v q)
unfolding horner onto
horner-onto a u v [] q h b l = horner-lead a u v q h ∙ ap (λ (n : ℕ). add (mul u (pow a n)) (horner a v q)) (sym (sub-zero (length q)))
horner-onto a u v (x ∷ p) [] h b l = absurd (not-suc-le-zero l)
horner-onto a u v (x ∷ p) (y ∷ q) h b l =
    ap (λ (t : ℕ). horner a t (onto p q)) (step-add a u v x y)
    ∙ horner-onto a (add (mul u a) x) (add (mul v a) y) p q (add-byte _ _ (mul-lt u a) b.0) b.1 (le_of_suc-le-suc l)
    ∙ ap (λ (n : ℕ). add (mul (horner a u (x ∷ p)) (pow a n)) (horner a v (y ∷ q))) (sym (suc-sub-suc (length q) (length p)))

eval-onto : (a : ℕ) (p q : List ℕ) → Bytes p → length p ≤ length q → eval (onto p q) a ≡ add (mul (eval p a) (pow a (length q - length p))) (eval q a)
unfolding eval
eval-onto a p q b l = ap (λ (t : ℕ). horner a t (onto p q)) (sym (add-self 0)) ∙ horner-onto a 0 0 p q (omega arith) b l

-- ---- zeros
pub eval-zeros : (a n : ℕ) → eval (replicate n 0) a ≡ 0
unfolding eval horner
eval-zeros a zero = refl
eval-zeros a (suc n) = ap (λ (t : ℕ). horner a (add t 0) (replicate n 0)) (zero-mul a) ∙ ap (λ (t : ℕ). horner a t (replicate n 0)) (zero-add 0)
    ∙ eval-zeros a n

-- ---- the product
factor : (c n p q : ℕ) → add (mul (mul c q) n) (mul p q) ≡ mul (add (mul c n) p) q
factor c n p q = simp ring

pub eval-product : (a : ℕ) (p q : List ℕ) → Bytes p → 0 < length q → eval (product p q) a ≡ mul (eval p a) (eval q a)
unfolding product
eval-product a [] [] b h = absurd (omega arith)
eval-product a [] (y ∷ q) b h = eval-zeros a (length q) ∙ sym (ap (λ (t : ℕ). mul t (eval (y ∷ q) a)) (eval-zeros a 0) ∙ zero-mul _)
eval-product a (c ∷ p) q b h =
    eval-onto a (scale c q) (0 ∷ product p q) (bytes-scale c q) (omega (arith, length-scale c q, length-product p q h))
    ∙ ap₂ add
    (ap₂ (λ (t n : ℕ). mul t (pow a n)) (eval-scale a c q) behind)
    (first ∙ eval-product a p q b.1 h)
    ∙ factor c (pow a (length p)) (eval p a) (eval q a)
    ∙ ap (λ (t : ℕ). mul t (eval q a)) (sym (eval-cons a c p b.0))
  where
    behind : suc (length (product p q)) - length (scale c q) ≡ length p
    behind = omega (arith, length-scale c q, length-product p q h)

    first : eval (0 ∷ product p q) a ≡ eval (product p q) a
    first = unfold eval in horner-first a 0 (product p q)
