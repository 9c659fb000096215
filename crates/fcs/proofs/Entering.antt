-- A byte enters the register at once as its eight bits do one by one.
-- entered-sum                 what is added to the register before falls out with it
-- folded, folded-lt           the code's step for the register's low byte: 256 computed cases
-- byte-enters                 the whole step: the byte is added, the low byte is spread, the high byte moves down and is added
use mathlib.Core.Path.{◌≡◌, refl, sym, ap, ap₂, ◌∙◌}
use Prim.Native.Nat.{ℕ, zero, suc, ◌*◌, ◌/◌, ◌%◌, ◌^◌, ◌<◌}
use native.Mathlib.Nat.{mod-lt, div-one, div-div-eq-div-mul, mul-div_cancel, pow-succ'}
use native.Mathlib.Omega.{arith}
use lib.Bits.{bit_xor, differ, xor_comm, xor_zero_r, xor_lt, shifted_half, shifted_even}
use lib.Dec.{eqb, eqb→eq}
use Rattle.base.specs.Choice.{pick}
use Rattle.base.proofs.Bits.{bit, bit-ind, xor-half, xor-odd, xor-swap, xor-parts}
use Rattle.base.proofs.Tests.{all-at}
use Rattle.fcs.specs.Fcs.{polynomial, entered, shifted}
use Rattle.fcs.proofs.Steps.{spread}

-- one bit: adding b to the register first, or its low bit to the bit and the rest of it behind
shifted_sum : (r b : ℕ) → shifted (bit_xor r b) 0 ≡ bit_xor (shifted r (b % 2)) (b / 2)
shifted_sum r b =
    ap₂ (λ (h p : ℕ). pick (eqb p 0) h (bit_xor h polynomial)) (xor-half r b) (xor-odd r b)
    ∙ bit-ind (λ (p : ℕ). Same p (b % 2)) (bit-ind (λ (d : ℕ). Same 0 d) refl swap (b % 2) (bit b))
    (bit-ind (λ (d : ℕ). Same 1 d) swap refl (b % 2) (bit b)) (r % 2) (bit r)
  where
    h : ℕ
    h = r / 2

    k : ℕ
    k = b / 2

    swap : bit_xor (bit_xor h k) polynomial ≡ bit_xor (bit_xor h polynomial) k
    swap = xor-swap h k polynomial

    Same : ℕ → ℕ → Type 0
    Same p d = pick (eqb (differ p d) 0) (bit_xor h k) (bit_xor (bit_xor h k) polynomial) ≡ bit_xor (pick (eqb p d) h (bit_xor h polynomial)) k

-- n bits: the same
pub entered-sum : (n r b : ℕ) → entered n (bit_xor r b) 0 ≡ bit_xor (entered n r b) (b / 2 ^ n)
unfolding entered
entered-sum zero r b = ap (bit_xor r) (sym (div-one b))
entered-sum (suc n) r b =
    ap (λ (x : ℕ). entered n x 0) (shifted_sum r b)
    ∙ entered-sum n (shifted r (b % 2)) (b / 2)
    ∙ ap (bit_xor (entered n (shifted r (b % 2)) (b / 2))) (div-div-eq-div-mul b 2 (2 ^ n) ∙ ap (λ (x : ℕ). b / x) (sym (pow-succ' 2 n)))

-- n bits that are zero
entered-none : (n r b : ℕ) → entered n r (b * 2 ^ n) ≡ entered n r 0
unfolding entered
entered-none zero r b = refl
entered-none (suc n) r b = ap₂ (λ (d c : ℕ). entered n (shifted r d) c) (shifted_even b n) (shifted_half b n) ∙ entered-none n (shifted r 0) b

-- the bits that call for the polynomial as the low byte x falls out: each bit of x, and each that an earlier polynomial turned
abbrev pub folded : ℕ → ℕ
folded x = bit_xor x (x * 16 % 256)

pub folded-lt : (n : ℕ) → folded (n % 256) < 256
folded-lt n = xor_lt 8 (n % 256) _ (mod-lt n (omega arith)) (mod-lt _ (omega arith))

entered-low : (x : ℕ) → x < 256 → entered 8 x 0 ≡ spread (folded x)
unfolding entered
entered-low x h = eqb→eq _ _ (all-at 256 (λ (x : ℕ). eqb (entered 8 x 0) (spread (folded x))) tt x h)

pub byte-enters : (r b : ℕ) → b < 256 → bit_xor (bit_xor r b / 256) (spread (folded (bit_xor r b % 256))) ≡ entered 8 r b
byte-enters r b small =
    ap (bit_xor h) (sym (entered-low l (mod-lt (bit_xor r b) (omega arith))))
    ∙ xor_comm h (entered 8 l 0)
    ∙ ap₂ bit_xor (sym (entered-none 8 l h)) (sym (mul-div_cancel h {n = 256} (omega arith)))
    ∙ sym (entered-sum 8 l (h * 256))
    ∙ ap (λ (x : ℕ). entered 8 x 0) (xor_comm l (h * 256) ∙ sym (xor-parts (bit_xor r b) 8))
    ∙ entered-sum 8 r b
    ∙ ap (bit_xor (entered 8 r b)) none
    ∙ xor_zero_r (entered 8 r b)
  where
    h : ℕ
    h = bit_xor r b / 256

    l : ℕ
    l = bit_xor r b % 256

    none : b / 256 ≡ 0
    none = omega arith
