-- The bytes of a number, all at once.
-- size, lows, ones            how many numbers n bytes have; n bytes of 7F, and n of 01
-- length-bytes, bytes-bytes   so many, and each a byte
-- bytes-xor, bytes-double     sum and double of the number, byte by byte
-- bytes-behind, bytes-first, bytes-head   a byte behind the others, and the first one apart
-- bytes-both                  a number behind another
-- bytes-zero, zero-append     all are zero exactly where the number is; of lists joined, where both are
-- below-packed, above-packed  the generator of 32 roots and the product for the next 32, the leading 1 aside, as four numbers: computed
use mathlib.Core.Path.{◌≡◌, refl, sym, ap, ap₂, ◌∙◌}
use mathlib.Core.Bool.{Bool, true, false, ◌&&◌}
use mathlib.Core.List.{List, [], ◌∷◌, ◌++◌, map, map-append, append_assoc, append-nil}
use Prim.Native.Nat.{ℕ, zero, suc, ◌+◌, ◌*◌, ◌/◌, ◌%◌, ◌<◌}
use native.Mathlib.Nat.{add-mul, mul_assoc, mul_comm, mul_right_comm, div-add-mod', mod-lt, div-div-eq-div-mul}
use native.Mathlib.Omega.{arith}
use lib.Arith.{digits_div, digits_mod, mod-mul}
use lib.Bits.{bit_xor, bit_and, xor_shr, xor_mod, and_block, xor_block, and_mask}
use lib.Dec.{eqb, eqb→eq, ltb, ltb→lt}
use lib.ListN.{length, length-append}
use borrow.Author.Tests.{eq-eqb, ne_eqb}
use Rattle.base.specs.Bytes.{IsByte, Bytes}
use Rattle.base.proofs.Bytes.{each_append}
use Rattle.base.proofs.Tests.{all-at, by-eq}
use Rattle.field.specs.Field.{polynomial, add, double, shift_add, mul, pow}
use Rattle.field.proofs.Product.{double-lt}
use Rattle.word_spec.specs.Word.{scale, onto, times_root, generator}
use Rattle.word_spec.specs.Residue.{generator_from}
use Rattle.word_spec.specs.Private.{bytes_of, below, above, is_zero}
use Rattle.word_spec.proofs.Sums.{onto-append}

pub length-bytes : (n x : ℕ) → length (bytes_of n x) ≡ n
unfolding bytes_of
length-bytes zero x = refl
length-bytes (suc n) x = length-append (bytes_of n (x / 256)) (x % 256 ∷ []) ∙ omega (arith, length-bytes n (x / 256))

pub bytes-bytes : (n x : ℕ) → Bytes (bytes_of n x)
unfolding bytes_of
bytes-bytes zero x = tt
bytes-bytes (suc n) x = each_append IsByte (bytes_of n (x / 256)) (x % 256 ∷ []) (bytes-bytes n (x / 256)) (mod-lt x (omega arith), tt)

pub bytes-xor : (n x y : ℕ) → bytes_of n (bit_xor x y) ≡ onto (bytes_of n x) (bytes_of n y)
unfolding bytes_of onto add
bytes-xor zero x y = refl
bytes-xor (suc n) x y =
    ap₂ (λ (q r : ℕ). bytes_of n q ++ r ∷ []) (xor_shr x y 8) (xor_mod x y 8)
    ∙ ap (λ (l : List ℕ). l ++ bit_xor (x % 256) (y % 256) ∷ []) (bytes-xor n (x / 256) (y / 256))
    ∙ sym (onto-append (bytes_of n (x / 256)) (x % 256 ∷ []) (bytes_of n (y / 256)) (y % 256 ∷ []) (length-bytes n (x / 256) ∙ sym (length-bytes n (y / 256))))

pub bytes-behind : (n q y : ℕ) → y < 256 → bytes_of (suc n) (q * 256 + y) ≡ bytes_of n q ++ y ∷ []
unfolding bytes_of
bytes-behind n q y h = ap₂ (λ (a b : ℕ). bytes_of n a ++ b ∷ []) (digits_div q h) (digits_mod q h)

-- ---- the first byte
-- how many numbers n bytes can be
unfoldable pub size : ℕ → ℕ
size zero = 1
size (suc n) = size n * 256

size-pos : (n : ℕ) → 0 < size n
unfolding size
size-pos zero = omega arith
size-pos (suc n) = omega (arith, size-pos n)

pub bytes-first : (n x : ℕ) → bytes_of (suc n) x ≡ x / size n % 256 ∷ bytes_of n (x % size n)
unfolding bytes_of size
bytes-first zero x = ap (λ (q : ℕ). q % 256 ∷ []) one
  where
    one : x ≡ x / 1
    one = omega arith
bytes-first (suc n) x =
    ap (λ (l : List ℕ). l ++ x % 256 ∷ []) (bytes-first n (x / 256))
    ∙ ap₂ (λ (q : ℕ) (l : List ℕ). q % 256 ∷ l) (div-div-eq-div-mul x 256 (size n) ∙ ap (λ (s : ℕ). x / s) (mul_comm 256 (size n)))
    (sym (ap (bytes_of (suc n)) (mod-mul x (size-pos n) (omega arith)) ∙ bytes-behind n (x / 256 % size n) (x % 256) (mod-lt x (omega arith))))

-- the first byte of one more, and the others as before
pub bytes-head : (n x : ℕ) → bytes_of (suc n) x ≡ x / size n % 256 ∷ bytes_of n x
unfolding bytes_of size
bytes-head zero x = ap (λ (q : ℕ). q % 256 ∷ []) one
  where
    one : x ≡ x / 1
    one = omega arith
bytes-head (suc n) x =
    ap (λ (l : List ℕ). l ++ x % 256 ∷ []) (bytes-head n (x / 256))
    ∙ ap (λ (q : ℕ). q % 256 ∷ bytes_of n (x / 256) ++ x % 256 ∷ []) (div-div-eq-div-mul x 256 (size n) ∙ ap (λ (s : ℕ). x / s) (mul_comm 256 (size n)))

-- a number of n bytes behind another
pub bytes-both : (m n p q : ℕ) → q < size n → bytes_of (m + n) (p * size n + q) ≡ bytes_of m p ++ bytes_of n q
unfolding bytes_of size
bytes-both m zero p q h = ap₂ bytes_of none same ∙ sym (append-nil (bytes_of m p))
  where
    none : m + 0 ≡ m
    none = omega arith

    same : p * 1 + q ≡ p
    same = omega arith
bytes-both m (suc n) p q h =
    ap₂ bytes_of more whole ∙ bytes-behind (m + n) (p * size n + q / 256) (q % 256) (omega arith)
    ∙ ap (λ (l : List ℕ). l ++ q % 256 ∷ []) (bytes-both m n p (q / 256) (omega arith))
    ∙ append_assoc (bytes_of m p) (bytes_of n (q / 256)) (q % 256 ∷ [])
  where
    more : m + suc n ≡ suc (m + n)
    more = omega arith

    whole : p * (size n * 256) + q ≡ (p * size n + q / 256) * 256 + q % 256
    whole = omega (arith, mul_assoc p (size n) 256)

-- ---- all bytes doubled
-- the masks: seven low bits of each byte, and one
unfoldable pub lows : ℕ → ℕ
lows zero = 0
lows (suc n) = lows n * 256 + 127

unfoldable pub ones : ℕ → ℕ
ones zero = 0
ones (suc n) = ones n * 256 + 1

-- of one byte: a test of all bytes
double-byte : (x : ℕ) → x < 256 → bit_xor (x % 128 * 2) (x / 128 * (polynomial % 256)) ≡ double x
unfolding double add
double-byte x h = eqb→eq _ _ (all-at 256 (λ (y : ℕ). eqb (bit_xor (y % 128 * 2) (y / 128 * (polynomial % 256))) (double y)) tt x h)

fold-lt : (x : ℕ) → x < 256 → x / 128 * (polynomial % 256) < 256
fold-lt x h = ltb→lt _ _ (all-at 256 (λ (y : ℕ). ltb (y / 128 * (polynomial % 256)) 256) tt x h)

-- the two parts of a number's double, by its last byte and the others
low_part : (n x : ℕ) → bit_and x (lows (suc n)) ≡ bit_and (x / 256) (lows n) * 256 + x % 256 % 128
unfolding lows
low_part n x =
    ap (λ (t : ℕ). bit_and t (lows n * 256 + 127)) (sym (div-add-mod' x 256))
    ∙ and_block 8 (x / 256) (lows n) (x % 256) 127 (mod-lt x (omega arith)) (omega arith)
    ∙ ap (λ (t : ℕ). bit_and (x / 256) (lows n) * 256 + t) (and_mask (x % 256) 7)

high_part : (n x : ℕ) → bit_and (x / 128) (ones (suc n)) ≡ bit_and (x / 256 / 128) (ones n) * 256 + x % 256 / 128
unfolding ones
high_part n x =
    ap (λ (t : ℕ). bit_and t (ones n * 256 + 1)) split
    ∙ and_block 8 (x / 256 / 128) (ones n) (x / 256 % 128 * 2 + x % 256 / 128) 1 (omega arith) (omega arith)
    ∙ ap (λ (t : ℕ). bit_and (x / 256 / 128) (ones n) * 256 + t) (and_mask (x / 256 % 128 * 2 + x % 256 / 128) 1 ∙ last)
  where
    split : x / 128 ≡ x / 256 / 128 * 256 + (x / 256 % 128 * 2 + x % 256 / 128)
    split = omega arith

    last : (x / 256 % 128 * 2 + x % 256 / 128) % 2 ≡ x % 256 / 128
    last = omega arith

times-block : (k a r : ℕ) → (a * 256 + r) * k ≡ a * k * 256 + r * k
times-block k a r = add-mul (a * 256) r k ∙ ap (λ (t : ℕ). t + r * k) (mul_right_comm a 256 k)

pub bytes-double : (n x : ℕ) → bytes_of n (bit_xor (bit_and x (lows n) * 2) (bit_and (x / 128) (ones n) * (polynomial % 256))) ≡ map double (bytes_of n x)
unfolding bytes_of
bytes-double zero x = refl
bytes-double (suc n) x =
    ap (bytes_of (suc n))
    (ap₂ (λ (s t : ℕ). bit_xor (s * 2) (t * (polynomial % 256))) (low_part n x) (high_part n x)
    ∙ ap₂ bit_xor (times-block 2 low (x % 256 % 128)) (times-block (polynomial % 256) high (x % 256 / 128))
    ∙ xor_block 8 (low * 2) (high * (polynomial % 256)) (x % 256 % 128 * 2) (x % 256 / 128 * (polynomial % 256)) (omega arith) (fold-lt (x % 256) small)
    ∙ ap (λ (t : ℕ). bit_xor (low * 2) (high * (polynomial % 256)) * 256 + t) (double-byte (x % 256) small))
    ∙ bytes-behind n (bit_xor (low * 2) (high * (polynomial % 256))) (double (x % 256)) (double-lt (x % 256))
    ∙ ap (λ (l : List ℕ). l ++ double (x % 256) ∷ []) (bytes-double n (x / 256))
    ∙ sym (map-append double (bytes_of n (x / 256)) (x % 256 ∷ []))
  where
    low : ℕ
    low = bit_and (x / 256) (lows n)

    high : ℕ
    high = bit_and (x / 256 / 128) (ones n)

    small : x % 256 < 256
    small = mod-lt x (omega arith)

-- ---- zero
pub zero-append : (xs ys : List ℕ) → is_zero (xs ++ ys) ≡ is_zero xs && is_zero ys
unfolding is_zero
zero-append [] ys = refl
zero-append (x ∷ xs) ys = grouped (eqb x 0) (zero-append xs ys)
  where
    grouped : (t : Bool) {u : Bool} → u ≡ is_zero xs && is_zero ys → t && u ≡ (t && is_zero xs) && is_zero ys
    grouped true e = e
    grouped false e = refl

pub bytes-zero : (n x : ℕ) → x < size n → is_zero (bytes_of n x) ≡ eqb x 0
unfolding bytes_of is_zero size
bytes-zero zero x h = sym (eq-eqb x 0 (omega arith))
bytes-zero (suc n) x h =
    zero-append (bytes_of n (x / 256)) (x % 256 ∷ []) ∙ ap (λ (t : Bool). t && (eqb (x % 256) 0 && true)) (bytes-zero n (x / 256) (omega arith)) ∙ parts
  where
    parts : eqb (x / 256) 0 && (eqb (x % 256) 0 && true) ≡ eqb x 0
    parts =
        by-eq x 0 (λ e. rw e refl)
        (λ e. by-eq (x / 256) 0 (λ q. rw (ne_eqb (x % 256) 0 (λ z. e (omega arith)), ne_eqb x 0 e, eq-eqb (x / 256) 0 q) refl)
        (λ q. rw (ne_eqb (x / 256) 0 q, ne_eqb x 0 e) refl))

-- ---- the generator of 32 roots
pub below-packed : bytes_of 8 0xE81DBD328EF6E80F ++ bytes_of 8 0x2B52A4EE019E0D77 ++ bytes_of 8 0x9EE086E3D2A3326B ++ bytes_of 8 0x281B68FD18EFD82D ≡ below
unfolding bytes_of generator times_root onto scale pow mul shift_add double add
below-packed = refl

pub above-packed : bytes_of 8 0x7765A7C27367EB1E ++ bytes_of 8 0xD8F2CFF6D10F89C1 ++ bytes_of 8 0xB3138D0A4560917F ++ bytes_of 8 0xFEB953B2417209EA ≡ above
unfolding bytes_of generator_from times_root onto scale pow mul shift_add double add
above-packed = refl
