-- Numbers as they are printed, and as the office reads them.
-- decimal-digits   a number below 10^20 is printed in digits alone, their value is that number, and no zero leads
-- decimal-each, decimal-some, decimal-five   each of them a digit; one at least; below 65,536 at most five
-- number-decimal   a number below 65,536 printed, and read again, is the same
-- decimal-number   a number typed without leading zeros is printed as it was typed
-- printed_limit, Printed   numbers of at most 20 digits, and what is printed of one
-- IsDigit          a byte is a digit
use Prim.Native.Nat.{ℕ, zero, suc, ◌+◌, ◌-◌, ◌*◌, ◌/◌, ◌%◌, ◌≤◌, ◌<◌}
use native.Mathlib.Omega.{arith}
use mathlib.Core.Path.{◌≡◌, refl, sym, ◌∙◌, ap}
use mathlib.Core.Logic.{inl, inr}
use mathlib.Core.Bool.{Bool, true, false, ◌&&◌}
use mathlib.Core.List.{List, [], ◌∷◌, ◌++◌, append_assoc, append-nil}
use lib.Dec.{ltb, leb}
use lib.ListN.{length, get_or, length-append}
use borrow.Author.Tests.{ltb-true, ltb-false, le-leb, lt-ltb, leb-true}
use Rattle.base.specs.Bytes.{Each}
use Rattle.base.specs.Choice.{pick}
use Rattle.base.proofs.Tests.{by-eq, by_le, and_parts}
use Rattle.bid.specs.Line.{is_digit, digits, value, no_number, number_from, number}
use Rattle.bid.proofs.Decimal.{number_is, number-none, number-long}
use Rattle.text.specs.Text.{decimal_by, decimal}
use Rattle.text.proofs.Digits.{last-digit, more-digits, digits-next}
use Rattle.board_spec.specs.Typed.{NoZeros}

-- so many numbers have at most k + 1 digits
abbrev tens : ℕ → ℕ
tens zero = 10
tens (suc k) = 10 * tens k

-- numbers of at most 20 digits
abbrev pub printed_limit : ℕ
printed_limit = 100000000000000000000

-- bytes that are printed of n: digits, their value is n, and where n is not 0 the first is not `0`
abbrev pub Printed : ℕ → List ℕ → Type 0
Printed n bs = (digits bs ≡ true) × (value 0 bs ≡ n) × (1 ≤ n → get_or bs 0 48 ≡ 48 → ⊥)

-- one digit
one-digit : (n : ℕ) → n < 10 → is_digit (48 + n) ≡ true
one-digit n h =
    let l : leb 48 (48 + n) ≡ true = le-leb 48 (48 + n) (omega arith) in
    let m : leb (48 + n) 57 ≡ true = le-leb (48 + n) 57 (omega arith) in
    λ i. l i && m i

-- .. alone
alone : (n : ℕ) → n < 10 → Printed n ((48 + n) ∷ [])
unfolding digits value
alone n h = ((λ i. one-digit n h i && true), omega arith, λ l e. let f : 48 + n ≡ 48 = e in omega arith)

-- .. behind others: digits
digits-behind : (xs : List ℕ) (d : ℕ) → digits xs ≡ true → is_digit d ≡ true → digits (xs ++ d ∷ []) ≡ true
unfolding digits
digits-behind [] d e f = λ i. f i && true
digits-behind (x ∷ xs) d e f = go (is_digit x) e λ g. digits-behind xs d g f
  where
    go : (t : Bool) → (t && digits xs) ≡ true → (digits xs ≡ true → digits (xs ++ d ∷ []) ≡ true) → (t && digits (xs ++ d ∷ [])) ≡ true
    go true g k = k g
    go false g k = g

-- .. their value
value-behind : (xs : List ℕ) (m d : ℕ) → value m (xs ++ d ∷ []) ≡ value m xs * 10 + (d - 48)
unfolding value
value-behind [] m d = refl
value-behind (x ∷ xs) m d = value-behind xs (m * 10 + (x - 48)) d

-- .. the first of them
first-behind : (xs : List ℕ) (d : ℕ) → (get_or xs 0 48 ≡ 48 → ⊥) → get_or (xs ++ d ∷ []) 0 48 ≡ 48 → ⊥
first-behind [] d f e = f refl
first-behind (x ∷ xs) d f e = f e

-- .. all of it
behind : (n : ℕ) (xs : List ℕ) → 10 ≤ n → Printed (n / 10) xs → Printed n (xs ++ (48 + n % 10) ∷ [])
behind n xs h p =
    let v : value 0 xs ≡ n / 10 = p.1 in
    let s : value 0 xs * 10 + (48 + n % 10 - 48) ≡ n = omega (arith, v) in (
      digits-behind xs (48 + n % 10) p.0 (one-digit (n % 10) (omega arith)),
      value-behind xs 0 (48 + n % 10) ∙ s,
      λ l. first-behind xs (48 + n % 10) (p.2 (omega arith)),
    )

-- as many digits as there is room for
printed : (k n : ℕ) → n < tens k → Printed n (decimal_by k n)
unfolding decimal_by
printed zero n h = alone n h
printed (suc k) n h = go (ltb n 10) refl (printed k (n / 10))
  where
    go : (t : Bool) → ltb n 10 ≡ t → (n / 10 < tens k → Printed (n / 10) (decimal_by k (n / 10)))
        → Printed n (pick t ((48 + n) ∷ []) (decimal_by k (n / 10) ++ ((48 + n % 10) ∷ [])))
    go true e f = alone n (ltb-true _ _ e)
    go false e f = behind n (decimal_by k (n / 10)) (ltb-false _ _ e) (f (omega arith))

-- a number below 10^20
pub decimal-digits : (n : ℕ) → n < printed_limit → Printed n (decimal n)
unfolding decimal
decimal-digits n h = printed 19 n h

-- ---- each of them a digit
abbrev pub IsDigit : ℕ → Type 0
IsDigit b = (48 ≤ b) × (b ≤ 57)

each-digits : (w : List ℕ) → digits w ≡ true → Each IsDigit w
unfolding digits
each-digits [] e = tt
each-digits (b ∷ w) e =
    let p = and_parts (is_digit b) (digits w) e in
    let q = and_parts (leb 48 b) (leb b 57) p.0 in
    ((leb-true 48 b q.0, leb-true b 57 q.1), each-digits w p.1)

pub decimal-each : (n : ℕ) → n < printed_limit → Each IsDigit (decimal n)
decimal-each n h = each-digits (decimal n) (decimal-digits n h).0

-- one at least
some-by : (k n : ℕ) → 1 ≤ length (decimal_by k n)
unfolding decimal_by
some-by zero n = omega arith
some-by (suc k) n = go (ltb n 10)
  where
    go : (t : Bool) → 1 ≤ length (pick t ((48 + n) ∷ []) (decimal_by k (n / 10) ++ ((48 + n % 10) ∷ [])))
    go true = omega arith
    go false = omega (arith, length-append (decimal_by k (n / 10)) ((48 + n % 10) ∷ []))

pub decimal-some : (n : ℕ) → 1 ≤ length (decimal n)
unfolding decimal
decimal-some n = some-by 19 n

-- so many at most
decimal-few : (k n : ℕ) → n < tens k → n < no_number → length (decimal n) ≤ suc k
decimal-few zero n h w = omega (arith, ap length (last-digit n (omega arith)))
decimal-few (suc k) n h w =
    by_le 10 n (λ l. omega (arith, digits-next n (omega arith) l, decimal-few k (n / 10) (omega arith) (omega arith)))
    (λ l. omega (arith, ap length (last-digit n l)))

pub decimal-five : (n : ℕ) → n < no_number → length (decimal n) ≤ 5
decimal-five n h = decimal-few 4 n (omega arith) h

-- printed, and read again
pub number-decimal : (n : ℕ) → n < no_number → number (decimal n) ≡ n
unfolding number_from
number-decimal n h =
    let p = decimal-digits n (omega arith) in
    number_is (decimal n) (λ z. omega (arith, decimal-some n)) (decimal-five n h) ∙ rw (p.0, p.1, lt-ltb n no_number h) refl

-- ---- a number typed without leading zeros: digits behind those of n
module _ (b n : ℕ) (d : IsDigit b) where
  quotient : (n * 10 + (b - 48)) / 10 ≡ n
  quotient = omega arith

  last : 48 + (n * 10 + (b - 48)) % 10 ≡ b
  last = omega arith

value-most : (m : ℕ) (w : List ℕ) → m ≤ value m w
unfolding value
value-most m [] = omega arith
value-most m (c ∷ w) = omega (arith, value-most (m * 10 + (c - 48)) w)

decimal-from : (n : ℕ) (w : List ℕ) → 1 ≤ n → Each IsDigit w → value n w < no_number → decimal (value n w) ≡ decimal n ++ w
unfolding value
decimal-from n [] h d k = sym (append-nil (decimal n))
decimal-from n (b ∷ w) h d k =
    let m : ℕ = n * 10 + (b - 48) in
    let v : m ≤ value m w = value-most m w in
    let e : decimal m ≡ decimal n ++ b ∷ [] =
    more-digits m (omega arith) (omega arith) ∙ (λ i. decimal (quotient b n d.0 i) ++ last b n d.0 i ∷ []) in
    decimal-from m w (omega arith) d.1 k ∙ ap (λ (x : List ℕ). x ++ w) e ∙ append_assoc (decimal n) (b ∷ []) w

-- what a number that is there says of its word
record Read (w : List ℕ) : Type 0 where
  some : length w ≡ 0 → ⊥
  each : Each IsDigit w
  low : value 0 w < no_number
  worth : number w ≡ value 0 w

number_read : (w : List ℕ) → number w < no_number → Read w
unfolding number_from
number_read w h =
    by-eq (length w) 0 (λ z. absurd (omega (arith, number-none w z)))
    (λ z.
    by_le (length w) 5 (λ s. go (digits w) refl (ltb (value 0 w) no_number) refl z (number_is w z s))
    (λ s. absurd (omega (arith, number-long w s))))
  where
    go : (d : Bool) → digits w ≡ d → (t : Bool) → ltb (value 0 w) no_number ≡ t → (length w ≡ 0 → ⊥)
        → number w ≡ pick (digits w && ltb (value 0 w) no_number) (value 0 w) no_number → Read w
    go true e true f z r = record { some = z; each = each-digits w e; low = ltb-true _ _ f; worth = r ∙ (λ i. pick (e i && f i) (value 0 w) no_number) }
    go true e false f z r = let q = r ∙ (λ i. pick (e i && f i) (value 0 w) no_number) in absurd (omega arith)
    go false e t f z r = let q = r ∙ (λ i. pick (e i && ltb (value 0 w) no_number) (value 0 w) no_number) in absurd (omega arith)

-- it is printed as it was typed
pub decimal-number : (w : List ℕ) → number w < no_number → NoZeros w → decimal (number w) ≡ w
unfolding value
decimal-number w h z = let r = number_read w h in ap decimal r.worth ∙ go w r.some r.each r.low z
  where
    first : (b : ℕ) → IsDigit b → decimal (0 * 10 + (b - 48)) ≡ b ∷ []
    first b d = last-digit (0 * 10 + (b - 48)) (omega arith) ∙ ap (λ (x : ℕ). x ∷ []) (omega arith)

    go : (w : List ℕ) → (length w ≡ 0 → ⊥) → Each IsDigit w → value 0 w < no_number → NoZeros w → decimal (value 0 w) ≡ w
    go [] s d l z = absurd (s refl)
    go (b ∷ []) s d l z = first b d.0
    go (b ∷ c ∷ w) s d l (inl e) = absurd (omega arith)
    go (b ∷ c ∷ w) s d l (inr n) =
        let p : 1 ≤ 0 * 10 + (b - 48) = by_le 49 b (λ g. omega arith) (λ g. absurd (n (omega (arith, d.0.0)))) in
        decimal-from (0 * 10 + (b - 48)) (c ∷ w) p d.1 l ∙ ap (λ (x : List ℕ). x ++ c ∷ w) (first b d.0)
