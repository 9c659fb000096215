-- The way to the repaired word, which the private functions follow. The promise says nothing of it; proofs/Meeting.antt proves that
-- it leads where the promise says, and nowhere else, so that other definitions may go on from `repaired`.
--
-- The sums S_1 to S_r are the word's values at its roots. A locator is a polynomial that is zero at the point of every altered
-- place; here it is a least solution of linear equations in the sums, found by elimination. Each altered byte follows from it.
-- low, tails                                     value at a point, quotient; a polynomial has its lowest coefficient first here
-- dot                                            a sum of products
-- sums, windows                                  the sums, and the equations: a row for each, 33 numbers wide
-- head, shift                                    a row's first coefficient, and the row without it
-- begins                                         whether that is other than zero
-- pivot, normal, reduced, extended, solve        elimination, column by column
-- locator                                        what it is
-- error_at, errors                                the byte to be added at a place, at all places
-- amended, settled, mended, repaired_by, repaired  the word that comes of it, and what is answered and left
use Rattle.std.specs.Prelude.{Bool, not, List, [], ◌∷◌, ◌++◌, map, ℕ, zero, suc, ◌+◌, ◌-◌, eqb, ltb, length, take, drop, get_or, replicate}
use Rattle.base.specs.Choice.{pick}
use Rattle.field.specs.Field.{alpha, add, mul, pow, inverse}
use Rattle.word_spec.specs.Word.{values_from, scale, onto}
use Rattle.parity.specs.Calls.{checked, root_limit}
use Rattle.parity.specs.Checked.{Checked}
use Rattle.parity.specs.Checked as check
use Rattle.repair.specs.Mended.{Mended}
use Rattle.repair.specs.Mended.{Clean, Repaired, Beyond, Refused}
use Rattle.repair.specs.Promise.{distance, half}

-- the value at x
unfoldable pub low : List ℕ → ℕ → ℕ
low [] x = 0
low (c ∷ cs) x = add c (mul x (low cs x))

-- the value at a, and behind it the quotient by x - a
unfoldable pub tails : List ℕ → ℕ → List ℕ
tails [] a = []
tails (c ∷ cs) a = low (c ∷ cs) a ∷ tails cs a

-- the sum of the products, as far as both lists go
unfoldable pub dot : List ℕ → List ℕ → ℕ
dot [] ys = 0
dot (x ∷ xs) [] = 0
dot (x ∷ xs) (y ∷ ys) = add (mul x y) (dot xs ys)

-- S_1 to S_r, and zeros up to 64
unfoldable pub sums : ℕ → List ℕ → List ℕ
sums r w = values_from w 1 r ++ replicate (root_limit - r) 0

-- m equations, from the one that begins at place i of the sums on
unfoldable pub windows : ℕ → ℕ → List ℕ → List (List ℕ)
windows i zero s = []
windows i (suc m) s = take 33 (drop i s) ∷ windows (suc i) m s

-- the first coefficient of a row
abbrev pub head : List ℕ → ℕ
head row = get_or row 0 0

-- a row without its first coefficient, and a zero at the end
abbrev pub shift : List ℕ → List ℕ
shift row = drop 1 row ++ 0 ∷ []

-- whether a row begins with another number than zero
abbrev pub begins : List ℕ → Bool
begins row = not (eqb (head row) 0)

-- the first row that does not begin with zero; where all do, zeros
unfoldable pub pivot : List (List ℕ) → List ℕ
pivot [] = replicate 33 0
pivot (row ∷ rows) = pick (eqb (head row) 0) (pivot rows) row

-- a row made to begin with 1, which is left out
unfoldable pub normal : List ℕ → List ℕ
normal row = scale (inverse (head row)) (shift row)

-- a row less its first coefficient times the pivot
unfoldable pub reduced : List ℕ → List ℕ → List ℕ
reduced p row = onto (scale (head row) p) (shift row)

-- the first unknown from the others by the pivot, and before them; none where they are none
unfoldable pub extended : List ℕ → List ℕ → List ℕ
extended p [] = []
extended p (x ∷ v) = dot (x ∷ v) p ∷ x ∷ v

-- a least solution of at most n numbers, or none: [] stands for none
unfoldable pub solve : ℕ → List (List ℕ) → List ℕ
solve zero rows = []
solve (suc n) rows =
    pick (eqb (head (pivot rows)) 0) (1 ∷ []) (extended (normal (pivot rows)) (solve n (map (reduced (normal (pivot rows))) rows)))

-- the byte to be added at the place of the point x, by the locator v and the sums s
unfoldable pub error_at : List ℕ → List ℕ → ℕ → ℕ
error_at v s x = pick (eqb (low v x) 0) (mul (dot (drop 1 (tails v x)) s) (inverse (mul x (low (drop 1 (tails v x)) x)))) 0

-- at each of the last n places: the place with n bytes behind it has the point alpha^n
unfoldable pub errors : List ℕ → List ℕ → ℕ → List ℕ
errors v s zero = []
errors v s (suc n) = error_at v s (pow alpha n) ∷ errors v s n

-- the locator of a word with the sums s
unfoldable pub locator : ℕ → List ℕ → List ℕ
locator r s = solve (half r + 1) (windows 0 (r - half r) s)

-- the word that comes of it
unfoldable pub amended : ℕ → List ℕ → List ℕ
amended r w = onto (errors (locator r (sums r w)) (sums r w) (length w)) w

-- it is taken where it is clean
abbrev pub settled : Checked → List ℕ → List ℕ → Mended × List ℕ
settled check.Clean w v = (Repaired (distance w v), v)
settled check.Damaged w v = (Beyond, w)
settled (check.Refused n) w v = (Beyond, w)

-- and near
unfoldable pub mended : ℕ → List ℕ → Mended × List ℕ
mended r w = pick (ltb (half r) (distance w (amended r w))) (Beyond, w) (settled (checked r (amended r w)) w (amended r w))

-- what is answered and left, by what the check finds
abbrev pub repaired_by : Checked → ℕ → List ℕ → Mended × List ℕ
repaired_by check.Clean r w = (Clean, w)
repaired_by check.Damaged r w = mended r w
repaired_by (check.Refused n) r w = (Refused n, w)

-- what is answered and left
unfoldable pub repaired : ℕ → List ℕ → Mended × List ℕ
repaired r w = repaired_by (checked r w) r w
