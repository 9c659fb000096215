-- Laws of decimal numbers.
-- wide                      numbers below 2^64
-- last-digit, more-digits   a number by its last digit and those before it
-- digits-short              at most 20 digits
-- digits-next               one digit more than those before the last
-- number_short              with a character behind them 21 bytes
use Prim.Native.Char.{Char, code}
use Prim.Native.Nat.{ℕ, zero, suc, ◌+◌, ◌*◌, ◌/◌, ◌%◌, ◌≤◌, ◌<◌}
use native.Mathlib.Omega.{arith}
use mathlib.Core.Path.{◌≡◌, ◌∙◌, ap}
use mathlib.Core.Bool.{Bool, true, false}
use mathlib.Core.List.{List, [], ◌∷◌, ◌++◌}
use lib.Dec.{ltb}
use lib.ListN.{length, length-append}
use borrow.Author.Tests.{lt-ltb, le-ltb}
use Rattle.base.specs.Choice.{pick}
use Rattle.text.specs.Text.{decimal_by, decimal, number}

-- ten to the power k
abbrev tens : ℕ → ℕ
tens zero = 1
tens (suc k) = 10 * tens k

-- numbers below 2^64
abbrev pub wide : ℕ
wide = 18446744073709551616

-- one digit more than needed changes nothing
more_by : (k n : ℕ) → n < tens (suc k) → decimal_by k n ≡ decimal_by (suc k) n
unfolding decimal_by
more_by zero n h = rw (lt-ltb n 10 (omega arith))
more_by (suc k) n h = rw (more_by k (n / 10) (omega arith))

pub last-digit : (n : ℕ) → n < 10 → decimal n ≡ (48 + n) ∷ []
unfolding decimal decimal_by
last-digit n h = rw (lt-ltb n 10 h)

fuelled : (k n : ℕ) → 10 ≤ n → decimal_by (suc k) n ≡ decimal_by k (n / 10) ++ ((48 + n % 10) ∷ [])
unfolding decimal_by
fuelled k n l = rw (le-ltb n 10 l)

pub more-digits : (n : ℕ) → n < wide → 10 ≤ n → decimal n ≡ decimal (n / 10) ++ ((48 + n % 10) ∷ [])
unfolding decimal
more-digits n h l = fuelled 18 n l ∙ ap (λ (x : List ℕ). x ++ ((48 + n % 10) ∷ [])) (more_by 18 (n / 10) (omega arith))

pick-short : (t : Bool) (a b : List ℕ) (n : ℕ) → length a ≤ n → length b ≤ n → length (pick t a b) ≤ n
pick-short true a b n h k = h
pick-short false a b n h k = k

short-by : (k n : ℕ) → length (decimal_by k n) ≤ suc k
unfolding decimal_by
short-by zero n = omega arith
short-by (suc k) n =
    pick-short (ltb n 10) ((48 + n) ∷ []) (decimal_by k (n / 10) ++ ((48 + n % 10) ∷ [])) (suc (suc k)) (omega arith)
    (omega (arith, length-append (decimal_by k (n / 10)) ((48 + n % 10) ∷ []), short-by k (n / 10)))

pub digits-short : (n : ℕ) → length (decimal n) ≤ 20
unfolding decimal
digits-short n = short-by 19 n

pub digits-next : (n : ℕ) → n < wide → 10 ≤ n → length (decimal n) ≡ length (decimal (n / 10)) + 1
digits-next n h k = ap length (more-digits n h k) ∙ length-append (decimal (n / 10)) ((48 + n % 10) ∷ [])

pub number_short : (n : ℕ) (c : Char) → length (number n c) ≤ 21
number_short n c = omega (arith, length-append (decimal n) (code c ∷ []), digits-short n)
