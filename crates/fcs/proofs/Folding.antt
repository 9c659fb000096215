-- Four eights wait: the first of them, instead of falling out, is added to those behind it.
-- Fit                      the four are numbers of 64 bits
-- waiting                  the register once the four have fallen out
-- added                    what the first one is added as: both sides go with sums, so there are 64 computed cases
-- fit-more, folded-next    a turn of the loop: a fifth comes
-- folded-first             the first four
use mathlib.Core.Path.{◌≡◌, refl, sym, ap, ap₂, ◌∙◌}
use Prim.Native.Nat.{ℕ, ◌+◌, ◌-◌, ◌^◌, ◌<◌, ◌≤◌}
use mathlib.Core.List.{List, []}
use native.Mathlib.Nat.{mod-lt}
use native.Mathlib.Omega.{arith}
use lib.Bits.{bit_xor, xor_lt}
use lib.Dec.{eqb, eqb→eq}
use lib.ListN.{length, take, drop, get_or, length-drop}
use lib.Seq.{take_all}
use Rattle.std.specs.List.{concat}
use Rattle.base.proofs.Bits.{xor_assoc, xor-four, Additive, agree}
use Rattle.base.proofs.Tests.{all-at}
use Rattle.fcs.specs.Fcs.{entered, register}
use Rattle.fcs.proofs.Steps.{low_by, high_by, low, high}
use Rattle.fcs.proofs.Eights.{Enters, entered-zeros, left-sum, right-sum, eight-enters, eight-next}

-- 64 bits fall out, alone and added to a register
abbrev fell : ℕ → ℕ
fell x = entered 64 x 0

abbrev on : ℕ → ℕ → ℕ
on n r = fell (bit_xor n r)

-- four eights
abbrev pub Fit : ℕ → ℕ → ℕ → ℕ → Type 0
Fit a b c d = (a < 2 ^ 64) × (b < 2 ^ 64) × (c < 2 ^ 64) × (d < 2 ^ 64)

-- the register once they have fallen out
abbrev pub waiting : ℕ → ℕ → ℕ → ℕ → ℕ
waiting a b c d = entered 64 (entered 64 (entered 64 (entered 64 a 0) b) c) d

abbrev four : ℕ → ℕ → ℕ → ℕ → ℕ
four a b c d = on d (on c (on b (fell a)))

waiting-is : (a b c d : ℕ) → Fit a b c d → waiting a b c d ≡ four a b c d
waiting-is a b c d fit =
    sym (eight-enters _ d fit.3) ∙ ap (on d) (sym (eight-enters _ c fit.2)) ∙ ap (λ (r : ℕ). on d (on c r)) (sym (eight-enters (fell a) b fit.1))

-- ---- sums
on-sum : (n m r s : ℕ) → on (bit_xor n m) (bit_xor r s) ≡ bit_xor (on n r) (on m s)
on-sum n m r s = ap fell (xor-four n m r s) ∙ entered-zeros 64 (bit_xor n r) (bit_xor m s)

on-behind : (n r s : ℕ) → on n (bit_xor r s) ≡ bit_xor (on n r) (fell s)
on-behind n r s = ap fell (sym (xor_assoc n r s)) ∙ entered-zeros 64 (bit_xor n r) s

four-sum : (a b c d k l m n : ℕ) → four (bit_xor a k) (bit_xor b l) (bit_xor c m) (bit_xor d n) ≡ bit_xor (four a b c d) (four k l m n)
four-sum a b c d k l m n =
    ap (λ (r : ℕ). on (bit_xor d n) (on (bit_xor c m) (on (bit_xor b l) r))) (entered-zeros 64 a k)
    ∙ ap (λ (r : ℕ). on (bit_xor d n) (on (bit_xor c m) r)) (on-sum b l _ _)
    ∙ ap (on (bit_xor d n)) (on-sum c m _ _)
    ∙ on-sum d n _ _

-- ---- the first one: what is left of it behind four more, and where it is added to them
unfoldable five : ℕ → ℕ
five a = fell (fell (fell (fell (fell a))))

five-sum : Additive five
unfolding five
five-sum a b =
    ap (λ (r : ℕ). fell (fell (fell (fell r)))) (entered-zeros 64 a b)
    ∙ ap (λ (r : ℕ). fell (fell (fell r))) (entered-zeros 64 _ _)
    ∙ ap (λ (r : ℕ). fell (fell r)) (entered-zeros 64 _ _)
    ∙ ap fell (entered-zeros 64 _ _)
    ∙ entered-zeros 64 _ _

-- it is added to them in two parts
unfoldable added : ℕ → ℕ
added a = four a (low a) (high a) a

added-sum : Additive added
unfolding added
added-sum a b =
    ap₂ (λ (l h : ℕ). four (bit_xor a b) l h (bit_xor a b)) (left-sum low_by a b) (right-sum high_by a b) ∙ four-sum a (low a) (high a) a b (low b) (high b) b

single : (i : ℕ) → i < 64 → five (2 ^ i) ≡ added (2 ^ i)
unfolding five added entered
single i h = eqb→eq _ _ (all-at 64 (λ (i : ℕ). eqb (five (2 ^ i)) (added (2 ^ i))) tt i h)

added_is : (a : ℕ) → a < 2 ^ 64 → five a ≡ added a
added_is a h = agree five added five-sum added-sum 64 single a h

-- ---- a fifth comes
module _ (a b c d n : ℕ) (fit : Fit a b c d) (fits : n < 2 ^ 64) where
  pub fit-more : Fit (bit_xor b a) (bit_xor c (low a)) (bit_xor d (high a)) (bit_xor n a)
  fit-more =
      let below : high a < 2 ^ 64 = omega (arith, fit.0) in
      (xor_lt 64 b a fit.1 fit.0, xor_lt 64 c (low a) fit.2 (mod-lt _ (omega arith)), xor_lt 64 d (high a) fit.3 below, xor_lt 64 n a fits fit.0)

  waiting-more : entered 64 (waiting a b c d) n ≡ waiting (bit_xor b a) (bit_xor c (low a)) (bit_xor d (high a)) (bit_xor n a)
  unfolding five added
  waiting-more =
      sym (eight-enters _ n fits)
      ∙ ap (on n) (waiting-is a b c d fit ∙ ap (λ (r : ℕ). on d (on c r)) (entered-zeros 64 b (fell a)) ∙ ap (on d) (on-behind c _ _) ∙ on-behind d _ _)
      ∙ on-behind n _ _
      ∙ ap (bit_xor (four b c d n)) (added_is a fit.0)
      ∙ sym (four-sum b c d n a (low a) (high a) a)
      ∙ sym (waiting-is _ _ _ _ fit-more)

  pub folded-next : (i : ℕ) (ws : List (List ℕ)) {t : ℕ} → i < length ws → Enters (get_or ws i []) n
      → register (waiting a b c d) (concat (drop i ws)) ≡ t
      → register (waiting (bit_xor b a) (bit_xor c (low a)) (bit_xor d (high a)) (bit_xor n a)) (concat (drop (i + 1) ws)) ≡ t
  folded-next i ws h en inv = eight-next i _ ws n h en (sym waiting-more) inv

-- ---- the first four
pub folded-first : (r : ℕ) (ws : List (List ℕ)) (j k m n : ℕ) → 4 ≤ length ws → j < 2 ^ 64 → Enters (get_or ws 0 []) j → Enters (get_or ws 1 []) k
    → Enters (get_or ws 2 []) m → Enters (get_or ws 3 []) n
    → register (waiting (bit_xor j r) k m n) (concat (take (length ws - 4) (drop 4 ws))) ≡ register r (concat ws)
folded-first r ws j k m n room fits ej ek em en =
    ap (λ (vs : List (List ℕ)). register (waiting (bit_xor j r) k m n) (concat vs))
    (take_all (length ws - 4) (drop 4 ws) (omega (arith, length-drop 4 ws)))
    ∙ eight-next 3 _ ws n (omega arith) en refl
    (eight-next 2 _ ws m (omega arith) em refl
    (eight-next 1 _ ws k (omega arith) ek refl (eight-next 0 r ws _ (omega arith) ej (eight-enters r _ fits) refl)))
