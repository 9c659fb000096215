-- A byte of a payload, by its place.
-- in-audio, in-fixed, in-gap, in-none, in-opportunistic, in-delimiter, before-delimiter   where it stands
-- marked-none, marked-some     the delimiter stands only before opportunistic data; length_some: what both take
-- length-laid                  how long the payload is
-- bits-any                     a bit of bytes is a bit of a byte, or 0 behind them
use mathlib.Core.Path.{◌≡◌, refl, sym, ap, ◌∙◌}
use mathlib.Core.List.{List, [], ◌++◌}
use Prim.Native.Nat.{ℕ, zero, suc, ◌+◌, ◌-◌, ◌/◌, ◌%◌, ◌≤◌, ◌<◌}
use native.Mathlib.Omega.{arith}
use lib.ListN.{length, get_or, replicate, length-append, length-replicate, get_or-append, get_or-eq_default}
use lib.Seq.{get_or-append-add}
use borrow.Author.Tests.{eq-eqb, ne_eqb}
use Rattle.base.proofs.Tests.{by_le}
use Rattle.unit_spec.specs.Bits.{digits, bits}
use Rattle.unit_spec.specs.Unit.{marked, laid_out}
use Rattle.unit.proofs.Digits.{bits_at, bits-over}

-- behind xs
right : (xs ys : List ℕ) (j : ℕ) → length xs ≤ j → get_or ys (j - length xs) 0 ≡ get_or (xs ++ ys) j 0
right xs ys j h =
    let e : length xs + (j - length xs) ≡ j = omega arith in sym (ap (λ (i : ℕ). get_or (xs ++ ys) i 0) (sym e) ∙ get_or-append-add xs ys (j - length xs) 0)

left : (xs ys : List ℕ) (j : ℕ) → j < length xs → get_or xs j 0 ≡ get_or (xs ++ ys) j 0
left xs ys j h = sym (get_or-append xs ys 0 j h)

zero-at : (z t : ℕ) → ◌≡◌ {A = ℕ} 0 (get_or (replicate z 0) t 0)
zero-at zero t = refl
zero-at (suc z) zero = refl
zero-at (suc z) (suc t) = zero-at z t

marked-none : (d o : List ℕ) → length o ≡ 0 → marked d o ≡ []
marked-none d o e = simp (eq-eqb (length o) 0 e)

marked-some : (d o : List ℕ) → (length o ≡ 0 → ⊥) → marked d o ≡ d ++ o
marked-some d o n = simp (ne_eqb (length o) 0 n)

pub length_some : (d o : List ℕ) → (length o ≡ 0 → ⊥) → length (marked d o) ≡ length d + length o
length_some d o n = ap length (marked-some d o n) ∙ length-append d o

-- places among the marked data: they begin at t, the delimiter has m bytes, the data o, and they end at e
behind-delimiter : (t m o e j : ℕ) → t + (m + o) ≡ e → e - o ≤ j → (j - (e - o) ≡ j - t - m) × (m ≤ j - t) × (t ≤ j)
behind-delimiter t m o e j h k = (omega arith, omega arith, omega arith)

within-delimiter : (t m o e j : ℕ) → t + (m + o) ≡ e → m ≡ 5 → j < e - o → e - o - 5 ≤ j → (j - (e - o - 5) ≡ j - t) × (j - t < m) × (t ≤ j)
within-delimiter t m o e j h f k l = (omega arith, omega arith, omega arith)

module _ (n : ℕ) (d audio opp fixed : List ℕ) (room : length audio + length (marked d opp) + length fixed ≤ n) (j : ℕ) where
  -- audio and zeros; with the marked data behind them
  z : ℕ
  z = n - (length audio + length (marked d opp) + length fixed)

  two : List ℕ
  two = audio ++ replicate z 0

  length_two : length two ≡ n - length fixed - length (marked d opp)
  unfolding two z
  length_two = length-append audio (replicate z 0) ∙ omega (arith, length-replicate {A = ℕ} z 0)

  length_three : length (two ++ marked d opp) ≡ n - length fixed
  length_three = length-append two (marked d opp) ∙ omega (arith, length_two)

  pub in-audio : j < length audio → get_or audio j 0 ≡ get_or (laid_out n d audio opp fixed) j 0
  unfolding laid_out two z
  in-audio h =
      left audio (replicate z 0) j h
      ∙ left two (marked d opp) j (omega (arith, length-append audio (replicate z 0)))
      ∙ left (two ++ marked d opp) fixed j (omega (arith, length-append audio (replicate z 0), length-append two (marked d opp)))

  pub in-fixed : n - length fixed ≤ j → get_or fixed (j - (n - length fixed)) 0 ≡ get_or (laid_out n d audio opp fixed) j 0
  unfolding laid_out two z
  in-fixed h = ap (λ (i : ℕ). get_or fixed (j - i) 0) (sym length_three) ∙ right (two ++ marked d opp) fixed j (omega (arith, length_three))

  module _ (k : j < n - length fixed) where
    in-marked : length two ≤ j → get_or (marked d opp) (j - length two) 0 ≡ get_or (laid_out n d audio opp fixed) j 0
    unfolding laid_out two z
    in-marked h = right two (marked d opp) j h ∙ left (two ++ marked d opp) fixed j (omega (arith, length_three))

    -- before the marked data, and behind the audio
    in-gap : length audio ≤ j → j < n - length fixed - length (marked d opp) → 0 ≡ get_or (laid_out n d audio opp fixed) j 0
    unfolding laid_out two z
    in-gap h m =
        zero-at z (j - length audio) ∙ right audio (replicate z 0) j h ∙ left two (marked d opp) j (omega (arith, length_two))
        ∙ left (two ++ marked d opp) fixed j (omega (arith, length_three))

    pub in-none : length audio ≤ j → length opp ≡ 0 → 0 ≡ get_or (laid_out n d audio opp fixed) j 0
    in-none h e = in-gap h (omega (arith, ap length (marked-none d opp e)))

    module _ (s : length opp ≡ 0 → ⊥) where
      some : get_or (d ++ opp) (j - length two) 0 ≡ get_or (marked d opp) (j - length two) 0
      some = ap (λ (x : List ℕ). get_or x (j - length two) 0) (sym (marked-some d opp s))

      marked-end : length two + (length d + length opp) ≡ n - length fixed
      marked-end = ap (λ (m : ℕ). length two + m) (sym (length_some d opp s)) ∙ sym (length-append two (marked d opp)) ∙ length_three

      pub in-opportunistic : n - length fixed - length opp ≤ j → get_or opp (j - (n - length fixed - length opp)) 0 ≡ get_or (laid_out n d audio opp fixed) j 0
      in-opportunistic h =
          let e = behind-delimiter (length two) (length d) (length opp) (n - length fixed) j marked-end h in
          ap (λ (i : ℕ). get_or opp i 0) e.0 ∙ right d opp (j - length two) e.1 ∙ some ∙ in-marked e.2

      module _ (five : length d ≡ 5) (h : j < n - length fixed - length opp) where
        pub in-delimiter : n - length fixed - length opp - 5 ≤ j
            → get_or d (j - (n - length fixed - length opp - 5)) 0 ≡ get_or (laid_out n d audio opp fixed) j 0
        in-delimiter m =
            let e = within-delimiter (length two) (length d) (length opp) (n - length fixed) j marked-end five h m in
            ap (λ (i : ℕ). get_or d i 0) e.0 ∙ left d opp (j - length two) e.1 ∙ some ∙ in-marked e.2

        pub before-delimiter : length audio ≤ j → j < n - length fixed - length opp - 5 → 0 ≡ get_or (laid_out n d audio opp fixed) j 0
        before-delimiter g m = in-gap g (omega (arith, length_some d opp s))

zero-digits : (k : ℕ) → ◌≡◌ {A = ℕ} (get_or (digits 8 0) k 0) 0
unfolding digits
zero-digits k = sym (zero-at 8 k)

pub length-laid : (n : ℕ) (d audio opp fixed : List ℕ) → length audio + length (marked d opp) + length fixed ≤ n → length (laid_out n d audio opp fixed) ≡ n
unfolding laid_out two z
length-laid n d audio opp fixed room =
    length-append (two n d audio opp fixed room 0 ++ marked d opp) fixed ∙ omega (arith, length_three n d audio opp fixed room 0)

-- a bit of bytes is a bit of a byte, or 0 behind them
pub bits-any : (p : List ℕ) (t : ℕ) → get_or (digits 8 (get_or p (t / 8) 0)) (t % 8) 0 ≡ get_or (bits p) t 0
bits-any p t = by_le (length p) (t / 8) over (bits_at p t)
  where
    over : length p ≤ t / 8 → get_or (digits 8 (get_or p (t / 8) 0)) (t % 8) 0 ≡ get_or (bits p) t 0
    over h = ap (λ (b : ℕ). get_or (digits 8 b) (t % 8) 0) (get_or-eq_default p 0 {n = t / 8} h) ∙ zero-digits (t % 8) ∙ bits-over p t h
