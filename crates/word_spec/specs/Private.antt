-- What private functions of `parity` and `lanes` alone are promised by: values at points side by side, and long division byte by byte.
-- points     x, alpha x, alpha^2 x, ..
-- stepped    one step of Horner's rule at every point
-- below      the generator for `lane_roots` roots, its leading 1 aside
-- above      the product for as many roots behind them, its leading 1 aside
-- bytes_of    the bytes of a number
-- fed        a step of long division
-- fed_all     the division byte by byte
-- kept       a row where its bit is 1, zeros where it is 0
-- summed     a row for each bit of a number: those of its ones added
-- is_zero     whether nothing is left
use Rattle.std.specs.Prelude.{Bool, true, ◌&&◌, List, [], ◌∷◌, ◌++◌, ℕ, zero, suc, ◌*◌, ◌/◌, ◌%◌, eqb, drop, get_or}
use Rattle.field.specs.Field.{alpha, add, mul}
use Rattle.word_spec.specs.Word.{scale, onto, generator}
use Rattle.word_spec.specs.Residue.{generator_from, lane_roots, next_root}

-- n points from x on, each alpha times the one before it
unfoldable pub points : ℕ → ℕ → List ℕ
points x zero = []
points x (suc n) = x ∷ points (mul x alpha) n

-- the values at the points p when c comes behind the coefficients, v being the values before
unfoldable pub stepped : ℕ → List ℕ → List ℕ → List ℕ
stepped c [] v = v
stepped c (x ∷ p) [] = []
stepped c (x ∷ p) (y ∷ v) = add (mul x y) c ∷ stepped c p v

-- the generator's coefficients behind the leading 1
abbrev pub below : List ℕ
below = drop 1 (generator lane_roots)

-- those of the product for the roots behind them
abbrev pub above : List ℕ
above = drop 1 (generator_from next_root lane_roots)

-- the last n bytes of a number, the highest first
unfoldable pub bytes_of : ℕ → ℕ → List ℕ
bytes_of zero x = []
bytes_of (suc n) x = bytes_of n (x / 256) ++ x % 256 ∷ []

-- one step of division by 1 ∷ g: the first place goes, its multiple of g is taken away, and a byte comes behind
unfoldable pub fed : List ℕ → List ℕ → ℕ → List ℕ
fed g xs x = onto (scale (get_or xs 0 0) g) (drop 1 xs ++ x ∷ [])

-- the bytes one after the other
unfoldable pub fed_all : List ℕ → List ℕ → List ℕ → List ℕ
fed_all g xs [] = xs
fed_all g xs (b ∷ bs) = fed_all g (fed g xs b) bs

-- a row where the bit is 1, zeros where it is 0
unfoldable pub kept : ℕ → List ℕ → List ℕ
kept b [] = []
kept b (x ∷ r) = b * x ∷ kept b r

-- a row for each bit of h, that of the lowest first: those whose bit is 1 are added to v
unfoldable pub summed : List (List ℕ) → ℕ → List ℕ → List ℕ
summed [] h v = v
summed (r ∷ rs) h v = onto (kept (h % 2) r) (summed rs (h / 2) v)

-- whether every one is zero
unfoldable pub is_zero : List ℕ → Bool
is_zero [] = true
is_zero (x ∷ xs) = eqb x 0 && is_zero xs
