-- Eight bytes enter the register at once as their bits do one by one.
-- left-sum, right-sum          numbers shifted go with sums
-- entered-zeros                what falls out of the register goes with sums
-- first, second, third, fourth, low   the steps by which the code makes them fall out
-- fall-is                      what it makes of the 64 bits that fall out: both sides go with sums, so there are 64 computed cases
-- eight-enters                 the whole step: the bits are added to the register, and fall out of it
-- little, register-little      bytes as one number, the first the lowest: they enter as all its bits do
-- Enters, eight-is             a number whose bits enter as bytes do: that of eight bytes, the first the lowest
-- eight-next, eights-done      a turn of a loop over eights, and its end
-- eights-enter                 eights and what is behind the last of them
use mathlib.Core.Path.{◌≡◌, refl, sym, ap, ap₂, ◌∙◌}
use Prim.Native.Nat.{ℕ, zero, suc, ◌+◌, ◌*◌, ◌/◌, ◌%◌, ◌^◌, ◌<◌, ◌≤◌}
use mathlib.Core.List.{List, [], ◌∷◌, ◌++◌, append_assoc}
use native.Mathlib.Nat.{mul-one, zero-add, suc-add, add-zero, zero-mul, pow-suc, div-lt_iff_lt-mul, div-eq_of_lt}
use native.Mathlib.Numerals.{add-one}
use native.Mathlib.Omega.{arith}
use lib.Arith.{lt-one}
use lib.Bits.{bit_xor, differ, xor_comm, xor_zero_r, xor_shr, xor_mod, xor_block, block_half, block_odd}
use lib.Dec.{eqb, eqb→eq}
use lib.ListN.{length, take, drop, get_or, drop_of_length-le, take-append-drop}
use lib.Pow.{pow_pos}
use lib.Seq.{drop-cons, drop-drop}
use Rattle.std.proofs.Common.{w64}
use Rattle.std.specs.Int.{from_le_bytes}
use Rattle.std.specs.List.{concat}
use Rattle.std.specs.Simd.{first_chunks}
use Rattle.base.specs.Bytes.{Bytes}
use Rattle.base.specs.Choice.{pick}
use Rattle.base.proofs.Bits.{bit, bit-ind, xor-half, xor-odd, xor_assoc, xor-swap, xor-four, Additive, agree}
use Rattle.base.proofs.Tests.{all-at}
use Rattle.fcs.specs.Fcs.{polynomial, entered, register, shifted}
use Rattle.fcs.proofs.Steps.{left}
use Rattle.fcs.proofs.Entering.{entered-sum}
use Rattle.fcs.proofs.Laws.{register-append}

-- ---- functions that go with sums
sum : (f g : ℕ → ℕ) → Additive f → Additive g → Additive (λ w. bit_xor (f w) (g w))
sum f g hf hg a b = ap₂ bit_xor (hf a b) (hg a b) ∙ xor-four (f a) (f b) (g a) (g b)

-- n bits that are zero enter
shifted_sum : Additive (λ r. shifted r 0)
shifted_sum a b =
    ap₂ (λ (h p : ℕ). pick (eqb p 0) h (bit_xor h polynomial)) (xor-half a b) (xor-odd a b)
    ∙ bit-ind (λ (p : ℕ). Same p (b % 2)) (bit-ind (λ (d : ℕ). Same 0 d) refl (xor_assoc h k polynomial) (b % 2) (bit b))
    (bit-ind (λ (d : ℕ). Same 1 d) (xor-swap h k polynomial) (sym (xor-four h polynomial k polynomial ∙ xor_zero_r (bit_xor h k))) (b % 2) (bit b)) (a % 2)
    (bit a)
  where
    h : ℕ
    h = a / 2

    k : ℕ
    k = b / 2

    Same : ℕ → ℕ → Type 0
    Same p d =
        pick (eqb (differ p d) 0) (bit_xor h k) (bit_xor (bit_xor h k) polynomial) ≡ bit_xor (pick (eqb p 0) h (bit_xor h polynomial))
        (pick (eqb d 0) k (bit_xor k polynomial))

pub entered-zeros : (n : ℕ) → Additive (λ r. entered n r 0)
unfolding entered
entered-zeros zero a b = refl
entered-zeros (suc n) a b = ap (λ (x : ℕ). entered n x 0) (shifted_sum a b) ∙ entered-zeros n (shifted a 0) (shifted b 0)

-- ---- the code's four lines, and what it takes of the last
pub left-sum : (k : ℕ) → Additive (left k)
left-sum k a b =
    ap (λ (x : ℕ). x % 2 ^ 64)
    (sym (add-zero (bit_xor a b * 2 ^ k)) ∙ sym (xor_block k a b 0 0 (pow_pos k) (pow_pos k)) ∙ ap₂ bit_xor (add-zero (a * 2 ^ k)) (add-zero (b * 2 ^ k)))
    ∙ xor_mod (a * 2 ^ k) (b * 2 ^ k) 64

unfoldable pub first : ℕ → ℕ
first w = bit_xor (bit_xor (bit_xor w (left 4 w)) (left 11 w)) (left 16 w)

unfoldable pub second : ℕ → ℕ
second a = bit_xor (bit_xor (bit_xor a (left 8 a)) (left 22 a)) (left 32 a)

unfoldable pub third : ℕ → ℕ
third b = bit_xor (bit_xor b (left 16 b)) (left 44 b)

unfoldable pub fourth : ℕ → ℕ
fourth c = bit_xor c (left 32 c)

unfoldable pub low : ℕ → ℕ
low y = bit_xor (bit_xor (y / 2 ^ 60) (y / 2 ^ 53)) (y / 2 ^ 48) % 2 ^ 16

abbrev fallen : ℕ → ℕ
fallen w = low (fourth (third (second (first w))))

same_sum : Additive (λ w. w)
same_sum a b = refl

two-sum : (j : ℕ) → Additive (λ w. bit_xor w (left j w))
two-sum j = sum (λ w. w) (left j) same_sum (left-sum j)

three-sum : (j k : ℕ) → Additive (λ w. bit_xor (bit_xor w (left j w)) (left k w))
three-sum j k = sum (λ w. bit_xor w (left j w)) (left k) (two-sum j) (left-sum k)

four-sum : (j k l : ℕ) → Additive (λ w. bit_xor (bit_xor (bit_xor w (left j w)) (left k w)) (left l w))
four-sum j k l = sum (λ w. bit_xor (bit_xor w (left j w)) (left k w)) (left l) (three-sum j k) (left-sum l)

first-sum : Additive first
unfolding first
first-sum = four-sum 4 11 16

second-sum : Additive second
unfolding second
second-sum = four-sum 8 22 32

third-sum : Additive third
unfolding third
third-sum = three-sum 16 44

fourth-sum : Additive fourth
unfolding fourth
fourth-sum = two-sum 32

pub right-sum : (k : ℕ) → Additive (λ y. y / 2 ^ k)
right-sum k a b = xor_shr a b k

low_sum : Additive low
unfolding low
low_sum a b = ap (λ (x : ℕ). x % 2 ^ 16)
    (sum high (λ y. y / 2 ^ 48) (sum (λ y. y / 2 ^ 60) (λ y. y / 2 ^ 53) (right-sum 60) (right-sum 53)) (right-sum 48) a b) ∙ xor_mod (whole a) (whole b) 16
  where
    high : ℕ → ℕ
    high y = bit_xor (y / 2 ^ 60) (y / 2 ^ 53)

    whole : ℕ → ℕ
    whole y = bit_xor (high y) (y / 2 ^ 48)

fallen-sum : Additive fallen
fallen-sum a b =
    ap (λ (x : ℕ). low (fourth (third (second x)))) (first-sum a b)
    ∙ ap (λ (x : ℕ). low (fourth (third x))) (second-sum _ _)
    ∙ ap (λ (x : ℕ). low (fourth x)) (third-sum _ _)
    ∙ ap low (fourth-sum _ _)
    ∙ low_sum _ _

single : (i : ℕ) → i < 64 → fallen (2 ^ i) ≡ entered 64 (2 ^ i) 0
unfolding first second third fourth low entered
single i h = eqb→eq _ _ (all-at 64 (λ (i : ℕ). eqb (fallen (2 ^ i)) (entered 64 (2 ^ i) 0)) tt i h)

pub fall-is : (w : ℕ) → w < 2 ^ 64 → fallen w ≡ entered 64 w 0
fall-is w h = agree fallen (λ w. entered 64 w 0) fallen-sum (entered-zeros 64) 64 single w h

pub eight-enters : (r n : ℕ) → n < 2 ^ 64 → entered 64 (bit_xor n r) 0 ≡ entered 64 r n
eight-enters r n h =
    ap (λ (x : ℕ). entered 64 x 0) (xor_comm n r) ∙ entered-sum 64 r n ∙ ap (bit_xor (entered 64 r n)) (div-eq_of_lt h) ∙ xor_zero_r (entered 64 r n)

-- ---- bytes as one number, the first the lowest
unfoldable pub little : List ℕ → ℕ
little [] = 0
little (b ∷ bs) = little bs * 256 + b

entered-join : (m n r b c : ℕ) → b < 2 ^ m → entered (m + n) r (c * 2 ^ m + b) ≡ entered n (entered m r b) c
unfolding entered
entered-join zero n r b c h = rw (lt-one h) (simp (zero-add, mul-one, add-zero))
entered-join (suc m) n r b c h =
    rw (suc-add m n)
    (ap₂ (λ (d x : ℕ). entered (m + n) (shifted r d) x) (block_odd c m b) (block_half c m b)
    ∙ entered-join m n (shifted r (b % 2)) (b / 2) c ((div-lt_iff_lt-mul (omega arith)).1 (rw pow-suc at h)))

pub register-little : (r : ℕ) (bs : List ℕ) → Bytes bs → register r bs ≡ entered (length bs * 8) r (little bs)
unfolding register little entered
register-little r [] h = refl
register-little r (b ∷ bs) h =
    let e : 8 + length bs * 8 ≡ suc (length bs) * 8 = omega arith in
    register-little (entered 8 r b) bs h.1 ∙ sym (entered-join 8 (length bs * 8) r b (little bs) h.0)
    ∙ ap (λ (n : ℕ). entered n r (little bs * 256 + b)) e

read-little : (bs : List ℕ) → length bs ≡ 8 → from_le_bytes w64 bs ≡ little bs
unfolding little
read-little (a ∷ b ∷ c ∷ d ∷ e ∷ f ∷ g ∷ h ∷ []) l = omega arith
read-little (a ∷ b ∷ c ∷ d ∷ e ∷ f ∷ g ∷ h ∷ i ∷ bs) l = absurd (omega arith)
read-little (a ∷ b ∷ c ∷ d ∷ e ∷ f ∷ g ∷ []) l = absurd (omega arith)
read-little (a ∷ b ∷ c ∷ d ∷ e ∷ f ∷ []) l = absurd (omega arith)
read-little (a ∷ b ∷ c ∷ d ∷ e ∷ []) l = absurd (omega arith)
read-little (a ∷ b ∷ c ∷ d ∷ []) l = absurd (omega arith)
read-little (a ∷ b ∷ c ∷ []) l = absurd (omega arith)
read-little (a ∷ b ∷ []) l = absurd (omega arith)
read-little (a ∷ []) l = absurd (omega arith)
read-little [] l = absurd (omega arith)

-- n's bits enter as those of the bytes do
abbrev pub Enters : List ℕ → ℕ → Type 0
Enters bs n = (r : ℕ) → register r bs ≡ entered 64 r n

pub eight-is : (bs : List ℕ) {n : ℕ} → length bs ≡ 8 → Bytes bs → n ≡ from_le_bytes w64 bs → Enters bs n
eight-is bs l bytes e r = register-little r bs bytes ∙ ap₂ (λ (k m : ℕ). entered (k * 8) r m) l (sym (e ∙ read-little bs l))

-- ---- a turn of a loop over eights, and its end
module _ (i r : ℕ) (ws : List (List ℕ)) where
  pub eight-next : (n : ℕ) {s t : ℕ} → i < length ws → Enters (get_or ws i []) n → s ≡ entered 64 r n → register r (concat (drop i ws)) ≡ t
      → register s (concat (drop (i + 1) ws)) ≡ t
  eight-next n h en es inv =
      ap (λ (q : ℕ). register q (concat (drop (i + 1) ws))) (es ∙ sym (en r))
      ∙ sym (register-append r (get_or ws i []) (concat (drop (i + 1) ws)))
      ∙ ap (λ (vs : List (List ℕ)). register r (concat vs)) (sym here)
      ∙ inv
    where
      here : drop i ws ≡ get_or ws i [] ∷ drop (i + 1) ws
      here = rw add-one (drop-cons ws i [] h)

  pub eights-done : {t : ℕ} → length ws ≤ i → register r (concat (drop i ws)) ≡ t → r ≡ t
  unfolding register
  eights-done h inv = rw (drop_of_length-le ws h) at inv

-- ---- eights, and what is behind the last of them, are all bytes
eights-join : (n k : ℕ) (l : List ℕ) → concat (first_chunks n k l) ++ drop (k * n) l ≡ l
eights-join n zero l = simp zero-mul
eights-join n (suc k) l =
    append_assoc (take n l) (concat (first_chunks n k (drop n l))) (drop (suc k * n) l)
    ∙ ap (λ (j : ℕ). take n l ++ (concat (first_chunks n k (drop n l)) ++ drop j l)) more
    ∙ ap (λ (v : List ℕ). take n l ++ (concat (first_chunks n k (drop n l)) ++ v)) (sym (drop-drop (k * n) n l))
    ∙ ap (λ (v : List ℕ). take n l ++ v) (eights-join n k (drop n l))
    ∙ take-append-drop n l
  where
    more : suc k * n ≡ n + k * n
    more = omega arith

pub eights-enter : (r n k : ℕ) (l : List ℕ) {ws : List (List ℕ)} {v : List ℕ} {m s : ℕ} → ws ≡ first_chunks n k l → v ≡ drop (k * n) l
    → m ≡ register r (concat ws) → s ≡ register m v → s ≡ register r l
eights-enter r n k l ews ev em es =
    es ∙ ap₂ register (em ∙ ap (λ (ws : List (List ℕ)). register r (concat ws)) ews) ev
    ∙ sym (register-append r (concat (first_chunks n k l)) (drop (k * n) l))
    ∙ ap (register r) (eights-join n k l)
