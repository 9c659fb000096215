-- Clean words, for every number of roots.
-- roots-clean, clean-roots   a word is clean exactly where it is zero at each of the r roots
-- zeros                      n bytes that are zero at n roots are zeros
-- parity-clean               a message with its parity behind it is clean
-- clean_is                   and with no other r bytes behind it
use mathlib.Core.Path.{◌≡◌, refl, sym, ap, ap₂, ◌∙◌}
use mathlib.Core.Bool.{true}
use mathlib.Core.List.{List, [], ◌∷◌, ◌++◌}
use mathlib.Core.Logic.{◌↔◌, ⊎_elim}
use Prim.Native.Nat.{ℕ, zero, suc, ◌≤◌, ◌<◌}
use native.Mathlib.Nat.{eq-or-lt_of_le, le_of_suc-le-suc, suc_inj, pos_of_ne-zero}
use native.Mathlib.Omega.{arith}
use lib.Dec.{eqb}
use lib.ListN.{length, replicate}
use borrow.Author.Tests.{eq-eqb, eqb-true}
use Rattle.base.specs.Bytes.{Bytes}
use Rattle.base.proofs.Tests.{and_parts}
use Rattle.field.specs.Field.{alpha, add, mul, pow}
use Rattle.field.proofs.Sum.{add-self, add-zero, zero-add, add-eq, add-byte}
use Rattle.field.proofs.Product.{ring, mul-zero, zero-mul, mul-lt}
use Rattle.field.proofs.Powers.{pow-lt, pow-inj, cancel}
use Rattle.word_spec.specs.Word.{horner, eval, onto, generator, remainder, clean, Zero}
use Rattle.word_spec.proofs.Sums.{length-onto, bytes-onto, onto-zero}
use Rattle.word_spec.proofs.Values.{horner-lt, horner-first, horner-append, horner-add, eval-product}
use Rattle.word_spec.proofs.Generator.{length-generator, generator-root}
use Rattle.word_spec.proofs.Division.{digits, bytes-digits, word-multiple, length-remainder, bytes-remainder}

pub roots-clean : (r : ℕ) (w : List ℕ) → Zero r w → clean r w ≡ true
unfolding clean
roots-clean zero w h = refl
roots-clean (suc r) w h =
    rw (eq-eqb (eval w (pow alpha (suc r))) 0 (h (suc r) (omega arith) (omega arith))) (roots-clean r w (λ j p q. h j p (omega arith)))

pub clean-roots : (r : ℕ) (w : List ℕ) → clean r w ≡ true → Zero r w
unfolding clean
clean-roots zero w e j h k = absurd (omega arith)
clean-roots (suc r) w e j h k =
    let p = and_parts (eqb (eval w (pow alpha (suc r))) 0) (clean r w) e in
    ⊎_elim (λ (q : j ≡ suc r). ap (λ (i : ℕ). eval w (pow alpha i)) q ∙ eqb-true _ 0 p.0)
    (λ (l : j < suc r). clean-roots r w p.1 j h (le_of_suc-le-suc l)) (eq-or-lt_of_le k)

pub parity-clean : (r : ℕ) (m : List ℕ) → Bytes m → clean r (m ++ remainder r m) ≡ true
parity-clean r m b =
    roots-clean r (m ++ remainder r m) λ j h k.
    ap (λ (w : List ℕ). eval w (pow alpha j)) (word-multiple r m b)
    ∙ eval-product (pow alpha j) (digits r m b) (generator r) (bytes-digits r m b) (omega (arith, length-generator r))
    ∙ ap (mul _) (generator-root r j h k) ∙ mul-zero _

-- ---- n coefficients, zero at n different points, are zero: divided by x - a they are zero at the other points
-- the values of Horner's rule on the way are the quotient by x - a
scan : ℕ → ℕ → List ℕ → List ℕ
scan a v [] = []
scan a v (c ∷ p) = v ∷ scan a (add (mul v a) c) p

length-scan : (a v : ℕ) (p : List ℕ) → length (scan a v p) ≡ length p
unfolding scan
length-scan a v [] = refl
length-scan a v (c ∷ p) = ap suc (length-scan a (add (mul v a) c) p)

bytes-scan : (a v : ℕ) (p : List ℕ) → v < 256 → Bytes p → Bytes (scan a v p)
unfolding scan
bytes-scan a v [] h b = tt
bytes-scan a v (c ∷ p) h b = (h, bytes-scan a (add (mul v a) c) p (add-byte _ _ (mul-lt v a) b.0) b.1)

-- p(b) = (b - a) q(b) + p(a), step by step
scan_step : (a b w v c : ℕ) → add (mul (add (mul (add b a) w) v) b) c ≡ add (mul (add b a) (add (mul w b) v)) (add (mul v a) c)
scan_step a b w v c = simp ring

scan-value : (a b w v : ℕ) (p : List ℕ) → horner b (add (mul (add b a) w) v) p ≡ add (mul (add b a) (horner b w (scan a v p))) (horner a v p)
unfolding horner scan
scan-value a b w v [] = refl
scan-value a b w v (c ∷ p) = ap (λ (t : ℕ). horner b t p) (scan_step a b w v c) ∙ scan-value a b (add (mul w b) v) (add (mul v a) c) p

scan-root : (a b c : ℕ) (p : List ℕ) → horner a c p ≡ 0 → horner b c p ≡ 0 → mul (add b a) (horner b 0 (scan a c p)) ≡ 0
scan-root a b c p ha hb =
    sym (add-zero _) ∙ ap (add (mul (add b a) (horner b 0 (scan a c p)))) (sym ha) ∙ sym (scan-value a b 0 c p)
    ∙ ap (λ (t : ℕ). horner b (add t c) p) (mul-zero _) ∙ ap (λ (t : ℕ). horner b t p) (zero-add c) ∙ hb

-- where quotient and remainder are zero, all is
scan-zero : (a v : ℕ) (p : List ℕ) → scan a v p ≡ replicate (length p) 0 → horner a v p ≡ 0 → v ∷ p ≡ replicate (suc (length p)) 0
unfolding scan horner
scan-zero a v [] e h = ap (λ (x : ℕ). x ∷ []) h
scan-zero a v (c ∷ p) e h =
    let e' : v ∷ scan a (add (mul v a) c) p ≡ 0 ∷ replicate (length p) 0 = e in
    let hv : v ≡ 0 = cc in
    let tail : scan a (add (mul v a) c) p ≡ replicate (length p) 0 = cc in
    let next : add (mul v a) c ∷ p ≡ 0 ∷ replicate (length p) 0 = scan-zero a (add (mul v a) c) p tail h in
    let hn : add (mul v a) c ≡ 0 = cc in
    let rest : p ≡ replicate (length p) 0 = cc in
    ap₂ ◌∷◌ hv (ap₂ ◌∷◌ (sym (ap (λ (x : ℕ). add (mul x a) c) hv ∙ ap (λ (x : ℕ). add x c) (zero-mul a) ∙ zero-add c) ∙ hn) rest)

pub zeros : (n : ℕ) → n < 255 → (p : List ℕ) → length p ≡ n → Bytes p → Zero n p → p ≡ replicate n 0
unfolding eval
zeros zero k [] l b h = refl
zeros zero k (c ∷ p) l b h = absurd (omega arith)
zeros (suc n) k [] l b h = absurd (omega arith)
zeros (suc n) k (c ∷ p) l b h =
    scan-zero a c p (zeros n (omega arith) (scan a c p) (length-scan a c p ∙ same) (bytes-scan a c p b.0 b.1) others
    ∙ ap (λ (x : ℕ). replicate x 0) (sym same)) last
    ∙ ap (λ (x : ℕ). replicate (suc x) 0) same
  where
    a : ℕ
    a = pow alpha (suc n)

    same : length p ≡ n
    same = suc_inj l

    last : horner a c p ≡ 0
    last = sym (horner-first a c p) ∙ h (suc n) (omega arith) (omega arith)

    apart : (j : ℕ) → j ≤ n → add (pow alpha j) a ≡ 0 → ⊥
    apart j q e = let i : j ≡ suc n = pow-inj j (suc n) (omega arith) k (add-eq (pow alpha j) a e) in omega arith

    others : (j : ℕ) → 0 < j → j ≤ n → horner (pow alpha j) 0 (scan a c p) ≡ 0
    others j i q =
        cancel (add (pow alpha j) a) _ (pos_of_ne-zero (apart j q)) (add-byte _ _ (pow-lt alpha j) (pow-lt alpha (suc n)))
        (horner-lt (pow alpha j) 0 (scan a c p) (omega arith) (bytes-scan a c p b.0 b.1))
        (scan-root a (pow alpha j) c p last (sym (horner-first (pow alpha j) c p) ∙ h j i (omega arith)))

-- ---- one parity only
module _ (r : ℕ) (k : r < 255) (m p q : List ℕ) (bp : Bytes p) (bq : Bytes q) (lp : length p ≡ r) (lq : length q ≡ r) where
  same-value : (a : ℕ) → eval (m ++ p) a ≡ 0 → eval (m ++ q) a ≡ 0 → eval (onto p q) a ≡ 0
  unfolding eval
  same-value a hp hq =
      ap (λ (t : ℕ). horner a t (onto p q)) (sym (add-self (horner a 0 m))) ∙ horner-add a (horner a 0 m) (horner a 0 m) p q (lp ∙ sym lq)
      ∙ ap₂ add (sym (horner-append a 0 m p) ∙ hp) (sym (horner-append a 0 m q) ∙ hq) ∙ add-self 0

  unique : clean r (m ++ p) ≡ true → clean r (m ++ q) ≡ true → p ≡ q
  unique hp hq =
      onto-zero p q (lp ∙ sym lq)
      (zeros r k (onto p q) (length-onto p q ∙ lq) (bytes-onto p q bp bq)
      (λ j h l. same-value (pow alpha j) (clean-roots r (m ++ p) hp j h l) (clean-roots r (m ++ q) hq j h l))
      ∙ ap (λ (x : ℕ). replicate x 0) (sym lq))

-- a word is clean exactly where its last r bytes are the parity of the others
pub clean_is : (r : ℕ) → r < 255 → (m p : List ℕ) → Bytes m → Bytes p → length p ≡ r → clean r (m ++ p) ≡ true ↔ p ≡ remainder r m
clean_is r k m p bm bp l = (
  λ h. unique r k m p (remainder r m) bp (bytes-remainder r m bm) l (length-remainder r m) h (parity-clean r m bm),
  λ e. ap (λ (x : List ℕ). clean r (m ++ x)) e ∙ parity-clean r m bm,
)
