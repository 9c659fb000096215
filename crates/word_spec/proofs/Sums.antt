-- Polynomials as lists: multiples, sums and products.
-- length-scale, length-onto, length-product    lengths
-- bytes-scale, bytes-onto                      results are bytes
-- onto-assoc, onto-comm, onto-twice, onto-append, onto-zeros, zeros-onto, onto-zero   laws of sums
-- product                                      the product of two polynomials
use mathlib.Core.Path.{◌≡◌, refl, ap, ap₂, ◌∙◌}
use mathlib.Core.List.{List, [], ◌∷◌, ◌++◌}
use Prim.Native.Nat.{ℕ, zero, suc, ◌+◌, ◌≤◌, ◌<◌}
use native.Mathlib.Nat.{suc_inj}
use native.Mathlib.Omega.{arith}
use lib.ListN.{length, drop, replicate, length-replicate}
use Rattle.base.specs.Bytes.{Bytes}
use Rattle.field.specs.Field.{add}
use Rattle.field.proofs.Sum.{add_assoc, add_comm, add-cancel, add-zero, zero-add, add-eq, add-byte}
use Rattle.field.proofs.Product.{mul-lt}
use Rattle.word_spec.specs.Word.{scale, onto}

pub length-scale : (c : ℕ) (p : List ℕ) → length (scale c p) ≡ length p
unfolding scale
length-scale c [] = refl
length-scale c (x ∷ p) = ap suc (length-scale c p)

pub length-onto : (p q : List ℕ) → length (onto p q) ≡ length q
unfolding onto
length-onto [] q = refl
length-onto (x ∷ p) [] = refl
length-onto (x ∷ p) (y ∷ q) = ap suc (length-onto p q)

pub bytes-scale : (c : ℕ) (p : List ℕ) → Bytes (scale c p)
unfolding scale
bytes-scale c [] = tt
bytes-scale c (x ∷ p) = (mul-lt c x, bytes-scale c p)

pub bytes-onto : (p q : List ℕ) → Bytes p → Bytes q → Bytes (onto p q)
unfolding onto
bytes-onto [] q h k = k
bytes-onto (x ∷ p) [] h k = tt
bytes-onto (x ∷ p) (y ∷ q) h k = (add-byte x y h.0 k.0, bytes-onto p q h.1 k.1)

-- ---- sums
pub onto-assoc : (p q s : List ℕ) → length p ≤ length q → onto (onto p q) s ≡ onto p (onto q s)
unfolding onto
onto-assoc [] q s h = refl
onto-assoc (x ∷ p) [] s h = absurd (omega arith)
onto-assoc (x ∷ p) (y ∷ q) [] h = refl
onto-assoc (x ∷ p) (y ∷ q) (z ∷ s) h = ap₂ ◌∷◌ (add_assoc x y z) (onto-assoc p q s (omega arith))

pub onto-comm : (p q : List ℕ) → length p ≡ length q → onto p q ≡ onto q p
unfolding onto
onto-comm [] [] h = refl
onto-comm [] (y ∷ q) h = absurd (omega arith)
onto-comm (x ∷ p) [] h = absurd (omega arith)
onto-comm (x ∷ p) (y ∷ q) h = ap₂ ◌∷◌ (add_comm x y) (onto-comm p q (suc_inj h))

pub onto-twice : (p q : List ℕ) → onto p (onto p q) ≡ q
unfolding onto
onto-twice [] q = refl
onto-twice (x ∷ p) [] = refl
onto-twice (x ∷ p) (y ∷ q) = ap₂ ◌∷◌ (add-cancel x y) (onto-twice p q)

pub onto-append : (p q s t : List ℕ) → length p ≡ length s → onto (p ++ q) (s ++ t) ≡ onto p s ++ onto q t
unfolding onto
onto-append [] q [] t h = refl
onto-append [] q (y ∷ s) t h = absurd (omega arith)
onto-append (x ∷ p) q [] t h = absurd (omega arith)
onto-append (x ∷ p) q (y ∷ s) t h = ap (λ (l : List ℕ). add x y ∷ l) (onto-append p q s t (suc_inj h))

pub onto-zeros : (p : List ℕ) → onto p (replicate (length p) 0) ≡ p
unfolding onto
onto-zeros [] = refl
onto-zeros (x ∷ p) = ap₂ ◌∷◌ (add-zero x) (onto-zeros p)

pub zeros-onto : (n : ℕ) (q : List ℕ) → onto (replicate n 0) q ≡ q
unfolding onto
zeros-onto zero q = refl
zeros-onto (suc n) [] = refl
zeros-onto (suc n) (y ∷ q) = ap₂ ◌∷◌ (zero-add y) (zeros-onto n q)

-- a sum of zeros only is one of equals
pub onto-zero : (p q : List ℕ) → length p ≡ length q → onto p q ≡ replicate (length q) 0 → p ≡ q
unfolding onto
onto-zero [] [] l e = refl
onto-zero [] (y ∷ q) l e = absurd (omega arith)
onto-zero (x ∷ p) [] l e = absurd (omega arith)
onto-zero (x ∷ p) (y ∷ q) l e =
    let e' : add x y ∷ onto p q ≡ 0 ∷ replicate (length q) 0 = e in
    let head : add x y ≡ 0 = cc in
    let rest : onto p q ≡ replicate (length q) 0 = cc in
    ap₂ ◌∷◌ (add-eq x y head) (onto-zero p q (suc_inj l) rest)

-- ---- the product, coefficient by coefficient of the first
unfoldable pub product : List ℕ → List ℕ → List ℕ
product [] q = drop 1 (replicate (length q) 0)
product (c ∷ p) q = onto (scale c q) (0 ∷ product p q)

pub length-product : (p q : List ℕ) → 0 < length q → suc (length (product p q)) ≡ length p + length q
unfolding product
length-product [] [] h = absurd (omega arith)
length-product [] (y ∷ q) h = ap suc (length-replicate (length q) 0) ∙ omega arith
length-product (c ∷ p) q h = ap suc (length-onto (scale c q) (0 ∷ product p q) ∙ length-product p q h) ∙ omega arith
