-- Laws of numbers.
-- digit-no, digit-yes                  a byte that is no digit, and a turn of the loop that reads digits
-- digits-over, digits-end              a number too high, and the end
-- number-none, number-long, number_is  a word by its length
use Prim.Native.Nat.{ℕ, ◌+◌, ◌-◌, ◌*◌, ◌≤◌, ◌<◌}
use native.Mathlib.Omega.{arith}
use mathlib.Core.Path.{◌≡◌, ◌∙◌, ap}
use mathlib.Core.Bool.{Bool, true, false, ◌&&◌}
use mathlib.Core.List.{List, [], ◌∷◌}
use lib.ListN.{length, drop, get_or}
use borrow.Author.Tests.{lt-ltb, le-ltb, le-leb, lt-leb}
use Rattle.base.specs.Choice.{pick}
use Rattle.base.proofs.Lists.{next, over}
use Rattle.base.proofs.Tests.{by_le, and-false}
use Rattle.bid.specs.Line.{is_digit, digits, value, no_number, number_from, number, digit_limit}

value-most : (n : ℕ) (w : List ℕ) → n ≤ value n w
unfolding value
value-most n [] = omega arith
value-most n (b ∷ w) = omega (arith, value-most (n * 10 + (b - 48)) w)

module _ (n : ℕ) (w : List ℕ) (i : ℕ) (h : i < length w) where
  pub digit-no : is_digit (get_or w i 0) ≡ false → number_from n (drop i w) ≡ no_number
  unfolding number_from digits value
  digit-no k = rw (next w i h) (simp k)

  pub digit-yes : is_digit (get_or w i 0) ≡ true → number_from n (drop i w) ≡ number_from (n * 10 + (get_or w i 0 - 48)) (drop (i + 1) w)
  unfolding number_from digits value
  digit-yes k = rw (next w i h) (simp k)

pub digits-over : (n : ℕ) (w : List ℕ) → no_number ≤ n → number_from n w ≡ no_number
unfolding number_from
digits-over n w h =
    let k : no_number ≤ value n w = omega (arith, value-most n w) in
    ap (λ (t : Bool). pick (digits w && t) (value n w) no_number) (le-ltb _ _ k) ∙ ap (λ (t : Bool). pick t (value n w) no_number) (and-false (digits w))

pub digits-end : (n : ℕ) (w : List ℕ) (i : ℕ) → length w ≤ i → n < no_number → number_from n (drop i w) ≡ n
unfolding number_from digits value
digits-end n w i h k = rw (over w i h) (simp (lt-ltb _ _ k))

module _ (w : List ℕ) where
  pub number-none : length w ≡ 0 → number w ≡ no_number
  unfolding number
  number-none e = let k : length w < 1 = omega arith in simp (lt-leb _ _ k)

  pub number-long : digit_limit < length w → number w ≡ no_number
  unfolding number
  number-long h = let k : 1 ≤ length w = omega arith in simp (lt-leb _ _ h, le-leb _ _ k)

  pub number_is : (length w ≡ 0 → ⊥) → length w ≤ digit_limit → number w ≡ number_from 0 w
  unfolding number
  number_is e h = let k : 1 ≤ length w = by_le 1 (length w) (λ g. g) (λ g. absurd (e (omega arith))) in simp (le-leb _ _ h, le-leb _ _ k)
