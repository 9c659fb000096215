-- Long division, by any g behind a leading 1.
-- divide-step, quotient   one step of it, and the quotient
-- length-divide, length-quotient, length-remainder                 lengths
-- bytes_divide, bytes-quotient, bytes-remainder, bytes-digits      results are bytes
-- divide-whole          the division identity: quotient times divisor plus what is left is the dividend
-- digits, parity-whole  message times x^r is quotient times generator plus parity
-- word-multiple         a message with its parity behind it is the quotient times the generator
use mathlib.Core.Path.{◌≡◌, refl, sym, ap, ap₂, ◌∙◌}
use mathlib.Core.List.{List, [], ◌∷◌, ◌++◌}
use Prim.Native.Nat.{ℕ, zero, suc, ◌+◌, ◌-◌, ◌≤◌}
use native.Mathlib.Omega.{arith}
use lib.ListN.{length, drop, replicate, length-append, length-replicate}
use Rattle.base.specs.Bytes.{IsByte, Bytes}
use Rattle.base.proofs.Bytes.{each_append, each-replicate}
use Rattle.field.proofs.Sum.{add-zero}
use Rattle.field.proofs.Product.{mul-one}
use Rattle.word_spec.specs.Word.{scale, onto, generator, divide, remainder}
use Rattle.word_spec.proofs.Sums.{length-scale, length-onto, bytes-scale, bytes-onto, onto-assoc, onto-comm}
use Rattle.word_spec.proofs.Sums.{onto-twice, onto-append, onto-zeros, zeros-onto, product, length-product}
use Rattle.word_spec.proofs.Generator.{length-generator, generator-monic}

pub divide-step : (n c : ℕ) (g p : List ℕ) → divide (suc n) (1 ∷ g) (c ∷ p) ≡ divide n (1 ∷ g) (onto (scale c g) p)
unfolding divide scale onto
divide-step n c g p = refl

unfoldable pub quotient : ℕ → List ℕ → List ℕ → List ℕ
quotient zero g p = []
quotient (suc n) g [] = []
quotient (suc n) g (c ∷ p) = c ∷ quotient n g (drop 1 (onto (scale c g) (c ∷ p)))

pub length-divide : (n : ℕ) (g p : List ℕ) → n ≤ length p → length (divide n (1 ∷ g) p) ≡ length p - n
unfolding divide scale onto
length-divide zero g p h = omega arith
length-divide (suc n) g [] h = omega arith
length-divide (suc n) g (c ∷ p) h =
    length-divide n g (onto (scale c g) p) (omega (arith, length-onto (scale c g) p)) ∙ omega (arith, length-onto (scale c g) p)

pub bytes_divide : (n : ℕ) (g p : List ℕ) → Bytes p → Bytes (divide n (1 ∷ g) p)
unfolding divide scale onto
bytes_divide zero g p b = b
bytes_divide (suc n) g [] b = tt
bytes_divide (suc n) g (c ∷ p) b = bytes_divide n g (onto (scale c g) p) (bytes-onto (scale c g) p (bytes-scale c g) b.1)

pub length-quotient : (n : ℕ) (g p : List ℕ) → n ≤ length p → length (quotient n (1 ∷ g) p) ≡ n
unfolding quotient scale onto
length-quotient zero g p h = refl
length-quotient (suc n) g [] h = omega arith
length-quotient (suc n) g (c ∷ p) h = ap suc (length-quotient n g (onto (scale c g) p) (omega (arith, length-onto (scale c g) p)))

pub bytes-quotient : (n : ℕ) (g p : List ℕ) → Bytes p → Bytes (quotient n (1 ∷ g) p)
unfolding quotient scale onto
bytes-quotient zero g p b = tt
bytes-quotient (suc n) g [] b = tt
bytes-quotient (suc n) g (c ∷ p) b = (b.0, bytes-quotient n g (onto (scale c g) p) (bytes-onto (scale c g) p (bytes-scale c g) b.1))

-- the places of the quotient, which are gone, stand as zeros before what is left
pub divide-whole : (n : ℕ) (g p : List ℕ) → Bytes p → length p ≡ n + length g
    → onto (product (quotient n (1 ∷ g) p) (1 ∷ g)) (replicate n 0 ++ divide n (1 ∷ g) p) ≡ p
unfolding quotient divide product scale onto
divide-whole zero g p b l = zeros-onto (length g) p
divide-whole (suc n) g [] b l = absurd (omega arith)
divide-whole (suc n) g (c ∷ p) b l =
    ap₂ ◌∷◌ (add-zero _ ∙ add-zero _ ∙ mul-one c b.0)
    (onto-assoc s q left (omega (arith, length-scale c g, length-product (quotient n (1 ∷ g) rest) (1 ∷ g) (omega arith)))
    ∙ ap (onto s) (divide-whole n g rest (bytes-onto s p (bytes-scale c g) b.1) (length-onto s p ∙ omega arith))
    ∙ onto-twice s p)
  where
    s : List ℕ
    s = scale c g

    rest : List ℕ
    rest = onto s p

    q : List ℕ
    q = product (quotient n (1 ∷ g) rest) (1 ∷ g)

    left : List ℕ
    left = replicate n 0 ++ divide n (1 ∷ g) rest

-- ---- by the generator
pub length-remainder : (r : ℕ) (m : List ℕ) → length (remainder r m) ≡ r
unfolding remainder
length-remainder r m =
    ap (λ (g : List ℕ). length (divide (length m) g (m ++ replicate r 0))) (generator-monic r)
    ∙ length-divide (length m) (drop 1 (generator r)) (m ++ replicate r 0) (omega (arith, length-append m (replicate r 0)))
    ∙ omega (arith, length-append m (replicate r 0), length-replicate {A = ℕ} r 0)

module _ (r : ℕ) (m : List ℕ) (b : Bytes m) where
  bytes-dividend : Bytes (m ++ replicate r 0)
  bytes-dividend = each_append IsByte m (replicate r 0) b (each-replicate IsByte r 0 (omega arith))

  pub bytes-remainder : Bytes (remainder r m)
  unfolding remainder
  bytes-remainder = rw (generator-monic r) (bytes_divide (length m) (drop 1 (generator r)) (m ++ replicate r 0) bytes-dividend)

  long : length (m ++ replicate r 0) ≡ length m + length (drop 1 (generator r))
  long = length-append m (replicate r 0) ∙ omega (arith, length-replicate {A = ℕ} r 0, ap length (generator-monic r), length-generator r)

  -- the quotient of message times x^r
  unfoldable pub digits : List ℕ
  digits = quotient (length m) (generator r) (m ++ replicate r 0)

  length_digits : length digits ≡ length m
  unfolding digits
  length_digits = rw (generator-monic r)
      (length-quotient (length m) (drop 1 (generator r)) (m ++ replicate r 0) (omega (arith, length-append m (replicate r 0))))

  pub bytes-digits : Bytes digits
  unfolding digits
  bytes-digits = rw (generator-monic r) (bytes-quotient (length m) (drop 1 (generator r)) (m ++ replicate r 0) bytes-dividend)

  pub parity-whole : onto (product digits (generator r)) (replicate (length m) 0 ++ remainder r m) ≡ m ++ replicate r 0
  unfolding digits remainder
  parity-whole = rw (generator-monic r) (divide-whole (length m) (drop 1 (generator r)) (m ++ replicate r 0) bytes-dividend long)

  pub word-multiple : m ++ remainder r m ≡ product digits (generator r)
  word-multiple =
      sym
      (sym (onto-twice left _) ∙ ap (onto left) (onto-comm left _ same ∙ parity-whole)
      ∙ onto-append (replicate (length m) 0) (remainder r m) m (replicate r 0) (length-replicate (length m) 0)
      ∙ ap₂ ◌++◌ (zeros-onto (length m) m) (ap (λ (n : ℕ). onto (remainder r m) (replicate n 0)) (sym (length-remainder r m)) ∙ onto-zeros (remainder r m)))
    where
      left : List ℕ
      left = replicate (length m) 0 ++ remainder r m

      same : length left ≡ length (product digits (generator r))
      same =
          length-append (replicate (length m) 0) (remainder r m)
          ∙ omega (
            arith,
            length-replicate {A = ℕ} (length m) 0,
            length-remainder r m,
            length_digits,
            length-generator r,
            length-product digits (generator r) (omega (arith, length-generator r)),
          )
