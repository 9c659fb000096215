-- Values at powers of alpha that follow each other.
-- length-values, bytes-values    there are n of them, and all are bytes
-- values-at, values-front        one of them, and the first of them
-- values-parts                   the first k of them, and those behind
-- values-step                    of one coefficient more, by a step at every point
-- values-zeros                   of zeros
use mathlib.Core.Path.{◌≡◌, refl, sym, ap, ap₂, ◌∙◌}
use mathlib.Core.List.{List, [], ◌∷◌, ◌++◌}
use Prim.Native.Nat.{ℕ, zero, suc, ◌+◌, ◌≤◌, ◌<◌}
use native.Mathlib.Nat.{not-suc-le-zero, le_of_suc-le-suc, add-zero as plus-zero, zero-add as zero-plus, add-suc as plus_suc, suc-add as suc-plus}
use lib.ListN.{length, take, get_or, replicate}
use Rattle.base.specs.Bytes.{Bytes}
use Rattle.field.specs.Field.{alpha, add, mul, pow}
use Rattle.field.proofs.Product.{mul_comm}
use Rattle.field.proofs.Powers.{pow-suc}
use Rattle.word_spec.specs.Word.{horner, eval, values_from}
use Rattle.word_spec.specs.Private.{points, stepped}
use Rattle.word_spec.proofs.Values.{eval-lt, eval-zeros, horner-append}

pub length-values : (w : List ℕ) (j n : ℕ) → length (values_from w j n) ≡ n
unfolding values_from
length-values w j zero = refl
length-values w j (suc n) = ap suc (length-values w (suc j) n)

pub bytes-values : (w : List ℕ) → Bytes w → (j n : ℕ) → Bytes (values_from w j n)
unfolding values_from
bytes-values w b j zero = tt
bytes-values w b j (suc n) = (eval-lt (pow alpha j) w b, bytes-values w b (suc j) n)

pub values-at : (w : List ℕ) (j n k : ℕ) → k < n → get_or (values_from w j n) k 0 ≡ eval w (pow alpha (j + k))
unfolding values_from
values-at w j zero k h = absurd (not-suc-le-zero h)
values-at w j (suc n) zero h = ap (λ (i : ℕ). eval w (pow alpha i)) (sym (plus-zero j))
values-at w j (suc n) (suc k) h =
    values-at w (suc j) n k (le_of_suc-le-suc h) ∙ ap (λ (i : ℕ). eval w (pow alpha i)) (suc-plus j k ∙ sym (plus_suc j k))

pub values-front : (w : List ℕ) (j n k : ℕ) → k ≤ n → take k (values_from w j n) ≡ values_from w j k
unfolding values_from
values-front w j n zero h = refl
values-front w j zero (suc k) h = absurd (not-suc-le-zero h)
values-front w j (suc n) (suc k) h = ap (λ (l : List ℕ). eval w (pow alpha j) ∷ l) (values-front w (suc j) n k (le_of_suc-le-suc h))

pub values-parts : (w : List ℕ) (j k n : ℕ) → values_from w j (k + n) ≡ values_from w j k ++ values_from w (j + k) n
unfolding values_from
values-parts w j zero n = ap₂ (λ (i m : ℕ). values_from w i m) (sym (plus-zero j)) (zero-plus n)
values-parts w j (suc k) n =
    ap (values_from w j) (suc-plus k n)
    ∙ ap (λ (l : List ℕ). eval w (pow alpha j) ∷ l)
    (values-parts w (suc j) k n ∙ ap (λ (i : ℕ). values_from w (suc j) k ++ values_from w i n) (suc-plus j k ∙ sym (plus_suc j k)))

values-none : (j n : ℕ) → replicate n 0 ≡ values_from [] j n
unfolding values_from eval horner
values-none j zero = refl
values-none j (suc n) = ap (λ (l : List ℕ). 0 ∷ l) (values-none (suc j) n)

pub values-zeros : (k j n : ℕ) → replicate n 0 ≡ values_from (replicate k 0) j n
unfolding values_from
values-zeros k j zero = refl
values-zeros k j (suc n) = ap₂ ◌∷◌ (sym (eval-zeros (pow alpha j) k)) (values-zeros k (suc j) n)

-- one step of Horner's rule
one-step : (c j : ℕ) (u : List ℕ) {x : ℕ} → x ≡ pow alpha j → add (mul x (eval u (pow alpha j))) c ≡ eval (u ++ c ∷ []) (pow alpha j)
unfolding eval horner
one-step c j u e =
    ap (λ (y : ℕ). add y c) (ap (λ (y : ℕ). mul y (eval u (pow alpha j))) e ∙ mul_comm (pow alpha j) _) ∙ sym (horner-append (pow alpha j) 0 u (c ∷ []))

pub values-step : (c j n x : ℕ) (u : List ℕ) → x ≡ pow alpha j → stepped c (points x n) (values_from u j n) ≡ values_from (u ++ c ∷ []) j n
unfolding values_from points stepped
values-step c j zero x u e = refl
values-step c j (suc n) x u e =
    ap₂ ◌∷◌ (one-step c j u e) (values-step c (suc j) n (mul x alpha) u (mul_comm x alpha ∙ ap (mul alpha) e ∙ sym (pow-suc alpha j)))
