-- Laws of single bits, and of `bit_xor`, the sum bit by bit, on all numbers.
-- bit, bit-ind          a remainder by 2 is a bit; a fact of 0 and of 1 is a fact of each bit
-- xor-half, xor-odd     the rest and the low bit of a sum
-- xor_assoc, xor-swap   associative; the last of three goes to the middle
-- xor-four              .. of four the middle two change places
-- xor-parts             a number is the sum of its bits from k on and its k low bits
-- Additive              a function that goes with sums
-- at_zero, agree        it is zero at zero; two of them are equal below 2^k where they are equal at 1, 2, 4, .. 2^(k-1). So an identity that is
--                       additive in each of its variables needs only those cases, which are computed
use mathlib.Core.Path.{◌≡◌, refl, sym, ap, ap₂, ◌∙◌}
use Prim.Native.Nat.{ℕ, zero, suc, ◌+◌, ◌*◌, ◌/◌, ◌%◌, ◌^◌, ◌<◌}
use native.Mathlib.Nat.{mod-lt, zero-mul, one-mul, pow-succ', div-lt_iff_lt-mul}
use native.Mathlib.Omega.{arith}
use lib.Arith.{bin_ind, digits_mod, lt-one}
use lib.Bits.{bit_xor, differ, xor_step, xor_comm, xor_self, xor_shr, xor_shifted}
use lib.Pow.{split, pow_pos}

pub bit-ind : (P : ℕ → Type 0) → P 0 → P 1 → (n : ℕ) → n < 2 → P n
bit-ind P p q zero h = p
bit-ind P p q (suc zero) h = q
bit-ind P p q (suc (suc n)) h = absurd (omega arith)

pub bit : (n : ℕ) → n % 2 < 2
bit n = mod-lt n (omega arith)

differ-lt : (x y : ℕ) → x < 2 → y < 2 → differ x y < 2
differ-lt x y hx hy = bit-ind (λ (a : ℕ). differ a y < 2) hy (bit-ind (λ (b : ℕ). differ 1 b < 2) (omega arith) (omega arith) y hy) x hx

differ-assoc : (x y z : ℕ) → x < 2 → y < 2 → z < 2 → differ (differ x y) z ≡ differ x (differ y z)
differ-assoc x y z hx hy hz =
    bit-ind (λ (a : ℕ). differ (differ a y) z ≡ differ a (differ y z)) refl
    (bit-ind (λ (b : ℕ). differ (differ 1 b) z ≡ differ 1 (differ b z)) refl
    (bit-ind (λ (c : ℕ). differ (differ 1 1) c ≡ differ 1 (differ 1 c)) refl refl z hz) y hy)
    x hx

pub xor-half : (a b : ℕ) → bit_xor a b / 2 ≡ bit_xor (a / 2) (b / 2)
xor-half a b = xor_shr a b 1

pub xor-odd : (a b : ℕ) → bit_xor a b % 2 ≡ differ (a % 2) (b % 2)
xor-odd a b = ap (λ (x : ℕ). x % 2) (xor_step a b) ∙ digits_mod _ (differ-lt (a % 2) (b % 2) (bit a) (bit b))

pub xor_assoc : (a b c : ℕ) → bit_xor (bit_xor a b) c ≡ bit_xor a (bit_xor b c)
xor_assoc a =
    bin_ind (λ (n : ℕ). (b c : ℕ) → bit_xor (bit_xor n b) c ≡ bit_xor n (bit_xor b c)) (λ b c. refl)
    (λ n ih b c.
    xor_step (bit_xor n b) c
    ∙ ap₂ (λ (x y : ℕ). x * 2 + y)
    (ap (λ (x : ℕ). bit_xor x (c / 2)) (xor-half n b) ∙ ih (b / 2) (c / 2) ∙ ap (λ (x : ℕ). bit_xor (n / 2) x) (sym (xor-half b c)))
    (ap (λ (x : ℕ). differ x (c % 2)) (xor-odd n b)
    ∙ differ-assoc (n % 2) (b % 2) (c % 2) (bit n) (bit b) (bit c)
    ∙ ap (λ (x : ℕ). differ (n % 2) x) (sym (xor-odd b c)))
    ∙ sym (xor_step n (bit_xor b c))) a

pub xor-swap : (a b c : ℕ) → bit_xor (bit_xor a b) c ≡ bit_xor (bit_xor a c) b
xor-swap a b c = xor_assoc a b c ∙ ap (bit_xor a) (xor_comm b c) ∙ sym (xor_assoc a c b)

pub xor-four : (a b c d : ℕ) → bit_xor (bit_xor a b) (bit_xor c d) ≡ bit_xor (bit_xor a c) (bit_xor b d)
xor-four a b c d = sym (xor_assoc (bit_xor a b) c d) ∙ ap (λ (x : ℕ). bit_xor x d) (xor-swap a b c) ∙ xor_assoc (bit_xor a c) b d

pub xor-parts : (n k : ℕ) → n ≡ bit_xor (n / 2 ^ k * 2 ^ k) (n % 2 ^ k)
xor-parts n k = sym (xor_shifted (n / 2 ^ k) k (n % 2 ^ k) (mod-lt n (pow_pos k)) ∙ split n k)

-- ---- functions that go with sums
abbrev pub Additive : (ℕ → ℕ) → Type 0
Additive f = (a b : ℕ) → f (bit_xor a b) ≡ bit_xor (f a) (f b)

pub at_zero : (f : ℕ → ℕ) → Additive f → f 0 ≡ 0
at_zero f hf = hf 0 0 ∙ xor_self (f 0)

pub agree : (f g : ℕ → ℕ) → Additive f → Additive g → (k : ℕ) → ((i : ℕ) → i < k → f (2 ^ i) ≡ g (2 ^ i)) → (n : ℕ) → n < 2 ^ k → f n ≡ g n
agree f g hf hg zero h n l = rw (lt-one l) (at_zero f hf ∙ sym (at_zero g hg))
agree f g hf hg (suc k) h n l =
    ap f (xor-parts n k) ∙ hf _ _ ∙ ap₂ bit_xor top (agree f g hf hg k (λ i j. h i (omega arith)) (n % 2 ^ k) (mod-lt n (pow_pos k)))
    ∙ sym (ap g (xor-parts n k) ∙ hg _ _)
  where
    top : f (n / 2 ^ k * 2 ^ k) ≡ g (n / 2 ^ k * 2 ^ k)
    top =
        bit-ind (λ (x : ℕ). f (x * 2 ^ k) ≡ g (x * 2 ^ k)) (simp zero-mul (at_zero f hf ∙ sym (at_zero g hg))) (simp one-mul (h k (omega arith))) (n / 2 ^ k)
        ((div-lt_iff_lt-mul (pow_pos k)).1 (rw pow-succ' at l))
