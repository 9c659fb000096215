-- A row for each bit of a number, and the rows of its ones added.
-- length-kept, kept-zero, kept-one   a row where its bit is 1
-- length-summed, summed-append       rows behind others are those of the higher bits
-- summed-low, summed-onto            only so many bits count as there are rows; what is added to zeros can be added to anything
-- both, summed-both                  rows in two parts
-- doublings, bit_worths               what the bits of a byte are worth, and of so many bytes
-- spent-bits                         bytes that go are replaced bit by bit
use mathlib.Core.Path.{◌≡◌, refl, sym, ap, ap₂, ◌∙◌}
use mathlib.Core.List.{List, [], ◌∷◌, ◌++◌, map, map-map}
use Prim.Native.Nat.{ℕ, zero, suc, ◌+◌, ◌*◌, ◌/◌, ◌%◌, ◌^◌, ◌<◌}
use native.Mathlib.Nat.{mod-lt, mod-eq_of_lt, div-div-eq-div-mul, pow-suc, pow-succ', one-le-pow, suc_inj}
use native.Mathlib.Omega.{arith}
use lib.Arith.{digits_div, digits_mod, mod-mul}
use lib.ListN.{length, drop, get_or, replicate, length-append, length-replicate, length-map}
use lib.Pow.{pow-add}
use Rattle.base.specs.Bytes.{Each, IsByte, Bytes}
use Rattle.base.proofs.Bytes.{each_append, each-drop}
use Rattle.field.specs.Field.{add, double, shift_add, mul}
use Rattle.field.proofs.Product.{mul_comm}
use Rattle.word_spec.specs.Word.{scale, onto}
use Rattle.word_spec.specs.Private.{bytes_of, fed, kept, summed}
use Rattle.word_spec.proofs.Sums.{length-onto, bytes-scale, bytes-onto, onto-assoc, onto-append, zeros-onto}
use Rattle.word_spec.proofs.Packed.{length-bytes, bytes-head, size}
use Rattle.word_spec.proofs.Residue.{worth, spent}

pub length-kept : (b : ℕ) (r : List ℕ) → length (kept b r) ≡ length r
unfolding kept
length-kept b [] = refl
length-kept b (x ∷ r) = ap suc (length-kept b r)

pub kept-zero : (r : List ℕ) → kept 0 r ≡ replicate (length r) 0
unfolding kept
kept-zero [] = refl
kept-zero (x ∷ r) = ap₂ ◌∷◌ none (kept-zero r)
  where
    none : 0 * x ≡ 0
    none = omega arith

pub kept-one : (r : List ℕ) → kept 1 r ≡ r
unfolding kept
kept-one [] = refl
kept-one (x ∷ r) = ap₂ ◌∷◌ same (kept-one r)
  where
    same : 1 * x ≡ x
    same = omega arith

pub length-summed : (rs : List (List ℕ)) (h : ℕ) (v : List ℕ) → length (summed rs h v) ≡ length v
unfolding summed
length-summed [] h v = refl
length-summed (r ∷ rs) h v = length-onto (kept (h % 2) r) (summed rs (h / 2) v) ∙ length-summed rs (h / 2) v

-- rows behind others
pub summed-append : (ps qs : List (List ℕ)) (h : ℕ) (v : List ℕ) → summed (ps ++ qs) h v ≡ summed ps h (summed qs (h / 2 ^ length ps) v)
unfolding summed
summed-append [] qs h v = ap (λ (k : ℕ). summed qs k v) all
  where
    all : h ≡ h / 1
    all = omega arith
summed-append (p ∷ ps) qs h v =
    ap (onto (kept (h % 2) p))
    (summed-append ps qs (h / 2) v
    ∙ ap (λ (k : ℕ). summed ps (h / 2) (summed qs k v)) (div-div-eq-div-mul h 2 (2 ^ length ps) ∙ ap (λ (s : ℕ). h / s) (sym (pow-succ' 2 (length ps)))))

-- the bits above the rows do not count
pub summed-low : (rs : List (List ℕ)) (h : ℕ) (v : List ℕ) → summed rs (h % 2 ^ length rs) v ≡ summed rs h v
unfolding summed
summed-low [] h v = refl
summed-low (r ∷ rs) h v =
    ap₂ (λ (b k : ℕ). onto (kept b r) (summed rs k v)) (ap (λ (m : ℕ). m % 2) two ∙ digits_mod (h / 2 % n) low)
    (ap (λ (m : ℕ). m / 2) two ∙ digits_div (h / 2 % n) low)
    ∙ ap (onto (kept (h % 2) r)) (summed-low rs (h / 2) v)
  where
    n : ℕ
    n = 2 ^ length rs

    low : h % 2 < 2
    low = mod-lt h (omega arith)

    two : h % 2 ^ suc (length rs) ≡ h / 2 % n * 2 + h % 2
    two = ap (λ (m : ℕ). h % m) (pow-suc 2 (length rs)) ∙ mod-mul h (one-le-pow (length rs) 2 (omega arith)) (omega arith)

-- what is added to zeros can be added to anything
pub summed-onto : (rs : List (List ℕ)) (h : ℕ) (v : List ℕ) → Each (λ (r : List ℕ). length r ≡ length v) rs
    → onto (summed rs h (replicate (length v) 0)) v ≡ summed rs h v
unfolding summed
summed-onto [] h v e = zeros-onto (length v) v
summed-onto (r ∷ rs) h v e =
    onto-assoc (kept (h % 2) r) (summed rs (h / 2) zeros) v
    (omega (arith, length-kept (h % 2) r, length-summed rs (h / 2) zeros, length-replicate {A = ℕ} (length v) 0, e.0))
    ∙ ap (onto (kept (h % 2) r)) (summed-onto rs (h / 2) v e.1)
  where
    zeros : List ℕ
    zeros = replicate (length v) 0

-- ---- rows in two parts
unfoldable pub both : List (List ℕ) → List (List ℕ) → List (List ℕ)
both [] qs = []
both (p ∷ ps) [] = []
both (p ∷ ps) (q ∷ qs) = (p ++ q) ∷ both ps qs

kept_append : (b : ℕ) (p q : List ℕ) → kept b (p ++ q) ≡ kept b p ++ kept b q
unfolding kept
kept_append b [] q = refl
kept_append b (x ∷ p) q = ap (λ (l : List ℕ). b * x ∷ l) (kept_append b p q)

pub summed-both : (ps qs : List (List ℕ)) (h : ℕ) (v w : List ℕ) → length ps ≡ length qs → Each (λ (r : List ℕ). length r ≡ length v) ps
    → summed (both ps qs) h (v ++ w) ≡ summed ps h v ++ summed qs h w
unfolding both summed
summed-both [] [] h v w l e = refl
summed-both [] (q ∷ qs) h v w l e = absurd (omega arith)
summed-both (p ∷ ps) [] h v w l e = absurd (omega arith)
summed-both (p ∷ ps) (q ∷ qs) h v w l e =
    ap₂ onto (kept_append (h % 2) p q) (summed-both ps qs (h / 2) v w (suc_inj l) e.1)
    ∙ onto-append (kept (h % 2) p) (kept (h % 2) q) (summed ps (h / 2) v) (summed qs (h / 2) w)
    (length-kept (h % 2) p ∙ e.0 ∙ sym (length-summed ps (h / 2) v))

-- x, twice x, four times x, .., n of them
unfoldable pub doublings : ℕ → List ℕ → List (List ℕ)
doublings zero x = []
doublings (suc n) x = x ∷ doublings n (map double x)

-- ---- a byte's bits: its product with the byte is by its definition the sum of the doublings
kept_map : (b : ℕ) (f : ℕ → ℕ) (x : List ℕ) → onto (kept b x) (map f x) ≡ map (λ (y : ℕ). add (b * y) (f y)) x
unfolding kept onto
kept_map b f [] = refl
kept_map b f (y ∷ x) = ap (λ (l : List ℕ). add (b * y) (f y) ∷ l) (kept_map b f x)

none-map : (x : List ℕ) → map {B = ℕ} (λ (y : ℕ). 0) x ≡ replicate (length x) 0
none-map [] = refl
none-map (y ∷ x) = ap (λ (l : List ℕ). 0 ∷ l) (none-map x)

summed-doublings : (n c : ℕ) (x v : List ℕ) → summed (doublings n x) c v ≡ onto (map (λ (y : ℕ). shift_add n y c) x) v
unfolding summed doublings shift_add
summed-doublings zero c x v = sym (ap (λ (l : List ℕ). onto l v) (none-map x) ∙ zeros-onto (length x) v)
summed-doublings (suc n) c x v =
    ap (onto (kept (c % 2) x))
    (summed-doublings n (c / 2) (map double x) v ∙ ap (λ (l : List ℕ). onto l v) (map-map (λ (y : ℕ). shift_add n y (c / 2)) double x))
    ∙ sym (onto-assoc (kept (c % 2) x) (map f x) v (omega (arith, length-kept (c % 2) x, length-map x f)))
    ∙ ap (λ (l : List ℕ). onto l v) (kept_map (c % 2) f x)
  where
    f : ℕ → ℕ
    f y = shift_add n (double y) (c / 2)

scale-bits : (c : ℕ) (x : List ℕ) → Bytes x → map (λ (y : ℕ). shift_add 8 y c) x ≡ scale c x
unfolding scale mul
scale-bits c [] h = refl
scale-bits c (y ∷ x) h = ap₂ ◌∷◌ (sym (mul_comm c y ∙ ap (λ (z : ℕ). shift_add 8 z c) (mod-eq_of_lt h.0))) (scale-bits c x h.1)

-- ---- bytes that go
bytes-worth : (g : List ℕ) → Bytes g → (k : ℕ) → Bytes (worth g k)
unfolding worth fed
bytes-worth g b zero = b
bytes-worth g b (suc k) =
    bytes-onto (scale (get_or (worth g k) 0 0) g) (drop 1 (worth g k) ++ 0 ∷ []) (bytes-scale _ g)
    (each_append IsByte (drop 1 (worth g k)) (0 ∷ []) (each-drop IsByte 1 (worth g k) (bytes-worth g b k)) (omega arith, tt))

-- what each bit of the k bytes before the first place is worth, that of the nearest byte's lowest bit first
unfoldable pub bit_worths : List ℕ → ℕ → List (List ℕ)
bit_worths g zero = []
bit_worths g (suc k) = bit_worths g k ++ doublings 8 (worth g k)

length-doublings : (n : ℕ) (x : List ℕ) → length (doublings n x) ≡ n
unfolding doublings
length-doublings zero x = refl
length-doublings (suc n) x = ap suc (length-doublings n (map double x))

-- k bytes have as many numbers as their bits
bits-size : (g : List ℕ) (k : ℕ) → 2 ^ length (bit_worths g k) ≡ size k
unfolding bit_worths size
bits-size g zero = refl
bits-size g (suc k) =
    ap (λ (n : ℕ). 2 ^ n) (length-append (bit_worths g k) (doublings 8 (worth g k))
    ∙ ap (λ (n : ℕ). length (bit_worths g k) + n) (length-doublings 8 (worth g k)))
    ∙ pow-add 2 (length (bit_worths g k)) 8 ∙ ap (λ (s : ℕ). s * 256) (bits-size g k)

pub spent-bits : (g : List ℕ) → Bytes g → (k h : ℕ) (v : List ℕ) → spent g (bytes_of k h) v ≡ summed (bit_worths g k) h v
unfolding spent bytes_of bit_worths summed
spent-bits g b zero h v = refl
spent-bits g b (suc k) h v =
    ap (λ (cs : List ℕ). spent g cs v) (bytes-head k h)
    ∙ ap (λ (n : ℕ). spent g (bytes_of k h) (onto (scale c (worth g n)) v)) (length-bytes k h)
    ∙ spent-bits g b k h (onto (scale c (worth g k)) v)
    ∙ ap (summed (bit_worths g k) h) (sym byte)
    ∙ sym (summed-append (bit_worths g k) (doublings 8 (worth g k)) h v)
  where
    c : ℕ
    c = h / size k % 256

    byte : summed (doublings 8 (worth g k)) (h / 2 ^ length (bit_worths g k)) v ≡ onto (scale c (worth g k)) v
    byte =
        ap (λ (s : ℕ). summed (doublings 8 (worth g k)) (h / s) v) (bits-size g k)
        ∙ sym (summed-low (doublings 8 (worth g k)) (h / size k) v)
        ∙ ap (λ (n : ℕ). summed (doublings 8 (worth g k)) (h / size k % 2 ^ n) v) (length-doublings 8 (worth g k))
        ∙ summed-doublings 8 c (worth g k) v
        ∙ ap (λ (l : List ℕ). onto l v) (scale-bits c (worth g k) (bytes-worth g b k))
