-- A bit of bytes, by its place.
-- digit_at   bit k of the n low bits of a number
-- bits_at    a bit of bytes is a bit of a byte
-- bits-over  behind them there is none
-- zeros-at   zeros behind bits change none
-- eight-at   eight bits, one by one; byte_at: as a byte
use mathlib.Core.Path.{◌≡◌, refl, sym, ap, ◌∙◌}
use mathlib.Core.List.{List, [], ◌∷◌, ◌++◌}
use Prim.Native.Nat.{ℕ, zero, suc, ◌+◌, ◌-◌, ◌*◌, ◌/◌, ◌%◌, ◌^◌, ◌≤◌, ◌<◌}
use native.Mathlib.Nat.{div-div-eq-div-mul, div-one, pow-succ', pow-zero}
use native.Mathlib.Omega.{arith}
use lib.ListN.{length, take, drop, get_or, replicate, get_or-append, get_or-eq_default}
use lib.Seq.{get_or_at, get_or-append-add, drop-cons}
use Rattle.base.proofs.Tests.{by_le}
use Rattle.unit_spec.specs.Bits.{digits, bits, number}
use Rattle.unit_spec.proofs.Bits.{length_digits, length-bits}

pub digit_at : (n v k : ℕ) → k < n → v / 2 ^ (n - 1 - k) % 2 ≡ get_or (digits n v) k 0
unfolding digits
digit_at zero v k h = absurd (omega arith)
digit_at (suc n) v k h = by_le n k here (λ l. there l (digit_at n (v / 2) k l))
  where
    here : n ≤ k → v / 2 ^ (suc n - 1 - k) % 2 ≡ get_or (digits n (v / 2) ++ v % 2 ∷ []) k 0
    here l =
        let e : suc n - 1 - k ≡ 0 = omega arith in
        let f : n ≡ k = omega arith in
        ap (λ (m : ℕ). v / 2 ^ m % 2) e ∙ ap (λ (m : ℕ). v / m % 2) (pow-zero 2) ∙ ap (λ (m : ℕ). m % 2) (div-one v)
        ∙ sym (get_or_at (digits n (v / 2)) (v % 2) [] 0 k (length_digits n (v / 2) ∙ f))

    there : k < n → v / 2 / 2 ^ (n - 1 - k) % 2 ≡ get_or (digits n (v / 2)) k 0 → v / 2 ^ (suc n - 1 - k) % 2 ≡ get_or (digits n (v / 2) ++ v % 2 ∷ []) k 0
    there l again =
        let e : suc n - 1 - k ≡ suc (n - 1 - k) = omega arith in
        ap (λ (m : ℕ). v / 2 ^ m % 2) e
        ∙ ap (λ (m : ℕ). v / m % 2) (pow-succ' 2 (n - 1 - k))
        ∙ ap (λ (m : ℕ). m % 2) (sym (div-div-eq-div-mul v 2 (2 ^ (n - 1 - k))))
        ∙ again
        ∙ sym (get_or-append (digits n (v / 2)) (v % 2 ∷ []) 0 k (omega (arith, length_digits n (v / 2))))

at_byte : (p : List ℕ) (q k : ℕ) → k < 8 → q < length p → get_or (bits p) (q * 8 + k) 0 ≡ get_or (digits 8 (get_or p q 0)) k 0
unfolding bits
at_byte [] q k h l = absurd (omega arith)
at_byte (x ∷ p) zero k h l =
    ap (λ (i : ℕ). get_or (digits 8 x ++ bits p) i 0) (omega arith) ∙ get_or-append (digits 8 x) (bits p) 0 k (omega (arith, length_digits 8 x))
at_byte (x ∷ p) (suc q) k h l =
    let e : suc q * 8 + k ≡ length (digits 8 x) + (q * 8 + k) = omega (arith, length_digits 8 x) in
    ap (λ (i : ℕ). get_or (digits 8 x ++ bits p) i 0) e ∙ get_or-append-add (digits 8 x) (bits p) (q * 8 + k) 0 ∙ at_byte p q k h (omega arith)

pub bits_at : (p : List ℕ) (t : ℕ) → t / 8 < length p → get_or (digits 8 (get_or p (t / 8) 0)) (t % 8) 0 ≡ get_or (bits p) t 0
bits_at p t h =
    let e : t / 8 * 8 + t % 8 ≡ t = omega arith in
    sym (ap (λ (i : ℕ). get_or (bits p) i 0) (sym e) ∙ at_byte p (t / 8) (t % 8) (omega arith) h)

pub bits-over : (p : List ℕ) (t : ℕ) → length p ≤ t / 8 → 0 ≡ get_or (bits p) t 0
bits-over p t h = sym (get_or-eq_default (bits p) 0 {n = t} (omega (arith, length-bits p)))

pub zeros-at : (xs : List ℕ) (z t : ℕ) → get_or (xs ++ replicate z 0) t 0 ≡ get_or xs t 0
zeros-at xs z t = by_le (length xs) t over (λ l. get_or-append xs (replicate z 0) 0 t l)
  where
    zero-at : (z t : ℕ) → ◌≡◌ {A = ℕ} (get_or (replicate z 0) t 0) 0
    zero-at zero t = refl
    zero-at (suc z) zero = refl
    zero-at (suc z) (suc t) = zero-at z t

    over : length xs ≤ t → get_or (xs ++ replicate z 0) t 0 ≡ get_or xs t 0
    over l =
        let e : length xs + (t - length xs) ≡ t = omega arith in
        ap (λ (i : ℕ). get_or (xs ++ replicate z 0) i 0) (sym e) ∙ get_or-append-add xs (replicate z 0) (t - length xs) 0
        ∙ zero-at z (t - length xs) ∙ sym (get_or-eq_default xs 0 {n = t} l)

-- eight members from a place on
module _ (u : List ℕ) (i : ℕ) (l : i + 8 ≤ length u) where
  one : (k : ℕ) → k < 8 → drop (i + k) u ≡ get_or u (i + k) 0 ∷ drop (i + suc k) u
  one k h = let e : suc (i + k) ≡ i + suc k = omega arith in drop-cons u (i + k) 0 (omega arith) ∙ ap (λ (n : ℕ). get_or u (i + k) 0 ∷ drop n u) e

  eight-at : take 8 (drop i u) ≡ get_or u (i + 0) 0 ∷ get_or u (i + 1) 0 ∷ get_or u (i + 2) 0 ∷ get_or u (i + 3) 0 ∷ get_or u (i + 4) 0 ∷ get_or u
      (i + 5) 0 ∷ get_or u
      (i + 6) 0 ∷ get_or u (i + 7) 0 ∷ []
  eight-at =
      let z : i ≡ i + 0 = omega arith in
      ap (λ (n : ℕ). take 8 (drop n u)) z ∙ ap (take 8) (one 0 (omega arith))
      ∙ rw (one 1 (omega arith)) (rw (one 2 (omega arith)) (rw (one 3 (omega arith))
      (rw (one 4 (omega arith)) (rw (one 5 (omega arith)) (rw (one 6 (omega arith)) (rw (one 7 (omega arith)) refl))))))

  -- eight bits that are these members, as a byte
  pub byte_at : {a b c d e f g h : ℕ} → a ≡ get_or u (i + 0) 0 → b ≡ get_or u (i + 1) 0 → c ≡ get_or u (i + 2) 0 → d ≡ get_or u (i + 3) 0
      → e ≡ get_or u (i + 4) 0
      → f ≡ get_or u (i + 5) 0 → g ≡ get_or u (i + 6) 0 → h ≡ get_or u (i + 7) 0 → number 0 (a ∷ b ∷ c ∷ d ∷ e ∷ f ∷ g ∷ h ∷ []) ≡ number 0 (take 8 (drop i u))
  byte_at pa pb pc pd pe pf pg ph = rw (pa, pb, pc, pd, pe, pf, pg, ph) (ap (number 0) (sym eight-at))
