-- The generator, for every number of roots.
-- length-generator                    r + 1 coefficients
-- generator-monic                     the leading one is 1
-- generator-root                      zero at alpha^j for j = 1 to r
-- generator-roots                     and nowhere else
-- from-length, from-monic, from-root  the product for other roots that follow each other
use mathlib.Core.Path.{◌≡◌, refl, sym, ap, ap₂, ◌∙◌}
use mathlib.Core.List.{List, [], ◌∷◌, ◌++◌}
use mathlib.Core.Logic.{◌↔◌, ⊎_elim}
use Prim.Native.Nat.{ℕ, zero, suc, ◌+◌, ◌≤◌, ◌<◌}
use native.Mathlib.Nat.{le_of_suc-le-suc, eq-or-lt_of_le, eq-zero-or-pos}
use native.Mathlib.Omega.{arith}
use lib.ListN.{length, drop, length-append}
use Rattle.base.specs.Bytes.{IsByte, Bytes}
use Rattle.base.proofs.Bytes.{each_append}
use Rattle.field.specs.Field.{alpha, add, mul, pow}
use Rattle.field.proofs.Sum.{add-self, add-zero, zero-add, add-eq, add-byte}
use Rattle.field.proofs.Product.{ring, mul-zero, zero-mul}
use Rattle.field.proofs.Powers.{pow-lt, cancel}
use Rattle.word_spec.specs.Word.{horner, eval, scale, onto, times_root, generator}
use Rattle.word_spec.specs.Residue.{generator_from}
use Rattle.word_spec.proofs.Sums.{length-scale, length-onto, bytes-scale, bytes-onto}
use Rattle.word_spec.proofs.Values.{eval-lt, horner-first, horner-append, eval-scale, eval_add}

length-times-root : (a : ℕ) (g : List ℕ) → length (times_root a g) ≡ suc (length g)
unfolding times_root
length-times-root a g = length-onto (0 ∷ scale a g) (g ++ 0 ∷ []) ∙ length-append g (0 ∷ []) ∙ omega arith

pub length-generator : (r : ℕ) → length (generator r) ≡ suc r
unfolding generator
length-generator zero = refl
length-generator (suc r) = length-times-root _ (generator r) ∙ ap suc (length-generator r)

bytes-generator : (r : ℕ) → Bytes (generator r)
unfolding generator times_root
bytes-generator zero = (omega arith, tt)
bytes-generator (suc r) =
    bytes-onto (0 ∷ scale _ (generator r)) (generator r ++ 0 ∷ []) (omega arith, bytes-scale _ (generator r))
    (each_append IsByte (generator r) (0 ∷ []) (bytes-generator r) (omega arith, tt))

-- ---- the leading coefficient
monic-root : (a : ℕ) (g t : List ℕ) → g ≡ 1 ∷ t → times_root a g ≡ 1 ∷ drop 1 (times_root a g)
unfolding times_root scale onto
monic-root a g t e = rw e (ap (λ (h : ℕ). h ∷ drop 1 (times_root a (1 ∷ t))) (zero-add 1))

pub generator-monic : (r : ℕ) → generator r ≡ 1 ∷ drop 1 (generator r)
unfolding generator
generator-monic zero = refl
generator-monic (suc r) = monic-root _ (generator r) (drop 1 (generator r)) (generator-monic r)

-- ---- the roots
root-factor : (a b v : ℕ) → add (mul b v) (mul v a) ≡ mul (add a b) v
root-factor a b v = simp ring

eval-times-root : (a b : ℕ) (g : List ℕ) → eval (times_root b g) a ≡ mul (add a b) (eval g a)
unfolding eval times_root horner
eval-times-root a b g =
    eval_add a (0 ∷ scale b g) (g ++ 0 ∷ []) (ap suc (length-scale b g) ∙ sym (length-append g (0 ∷ []) ∙ omega arith))
    ∙ ap₂ add (horner-first a 0 (scale b g) ∙ eval-scale a b g) (horner-append a 0 g (0 ∷ []) ∙ add-zero _)
    ∙ root-factor a b (eval g a)

pub generator-root : (r j : ℕ) → 0 < j → j ≤ r → eval (generator r) (pow alpha j) ≡ 0
unfolding generator
generator-root zero j h k = absurd (omega arith)
generator-root (suc r) j h k =
    eval-times-root (pow alpha j) (pow alpha (suc r)) (generator r)
    ∙ ⊎_elim (λ (e : j ≡ suc r). rw (e, add-self, zero-mul)) (λ (l : j < suc r). rw (generator-root r j h (le_of_suc-le-suc l), mul-zero))
    (eq-or-lt_of_le k)

-- ---- other roots that follow each other
pub from-length : (j n : ℕ) → length (generator_from j n) ≡ suc n
unfolding generator_from
from-length j zero = refl
from-length j (suc n) = length-times-root _ (generator_from j n) ∙ ap suc (from-length j n)

pub from-monic : (j n : ℕ) → generator_from j n ≡ 1 ∷ drop 1 (generator_from j n)
unfolding generator_from
from-monic j zero = refl
from-monic j (suc n) = monic-root (pow alpha (j + n)) (generator_from j n) (drop 1 (generator_from j n)) (from-monic j n)

pub from-root : (j n i : ℕ) → i < n → eval (generator_from j n) (pow alpha (j + i)) ≡ 0
unfolding generator_from
from-root j zero i h = absurd (omega arith)
from-root j (suc n) i h =
    eval-times-root (pow alpha (j + i)) (pow alpha (j + n)) (generator_from j n)
    ∙ ⊎_elim (λ (e : i ≡ n). rw (e, add-self, zero-mul)) (λ (l : i < n). rw (from-root j n i l, mul-zero)) (eq-or-lt_of_le (le_of_suc-le-suc h))

-- a is one of the r roots
abbrev Root : ℕ → ℕ → Type 0
Root r a = (j : ℕ) × (0 < j) × (j ≤ r) × (a ≡ pow alpha j)

one_value : (a : ℕ) → eval (1 ∷ []) a ≡ 1
unfolding eval horner
one_value a = ap (λ (t : ℕ). add t 1) (zero-mul a) ∙ zero-add 1

generator-only : (r a : ℕ) → a < 256 → eval (generator r) a ≡ 0 → Root r a
unfolding generator
generator-only zero a h e = absurd (let z : ◌≡◌ {A = ℕ} 1 0 = sym (one_value a) ∙ e in omega arith)
generator-only (suc r) a h e =
    let b = pow alpha (suc r) in
    ⊎_elim (λ (z : add a b ≡ 0). (suc r, omega arith, omega arith, add-eq a b z))
    (λ (p : 0 < add a b).
    let none : eval (generator r) a ≡ 0 = cancel (add a b) _ p (add-byte a b h (pow-lt alpha (suc r))) (eval-lt a _ (bytes-generator r))
    (sym (eval-times-root a b (generator r)) ∙ e) in
    let root = generator-only r a h none in
    (root.0, root.1, omega arith, root.3)) (eq-zero-or-pos (add a b))

pub generator-roots : (r a : ℕ) → a < 256 → eval (generator r) a ≡ 0 ↔ Root r a
generator-roots r a h = (generator-only r a h, λ root. rw root.3 (generator-root r root.0 root.1 root.2))
