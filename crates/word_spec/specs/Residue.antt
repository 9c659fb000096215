-- What long division leaves of bytes, and the divisors by which the crate `lanes` divides.
-- residue                      what division by the generator leaves
-- generator_from, residue_from   the product for other roots that follow each other, and what division by it leaves
-- lane_roots, next_root          how many roots a divisor of that crate has, and the first root of its second one
use Rattle.std.specs.Prelude.{List, [], ◌∷◌, ◌++◌, ℕ, zero, suc, ◌+◌, length, replicate}
use Rattle.field.specs.Field.{alpha, pow}
use Rattle.word_spec.specs.Word.{times_root, generator, divide}

-- what long division by the generator leaves of bytes
unfoldable pub residue : ℕ → List ℕ → List ℕ
residue r w = divide (length w) (generator r) (replicate r 0 ++ w)

-- (x - alpha^j) (x - alpha^(j + 1)) .., n factors
unfoldable pub generator_from : ℕ → ℕ → List ℕ
generator_from j zero = 1 ∷ []
generator_from j (suc n) = times_root (pow alpha (j + n)) (generator_from j n)

-- what long division by it leaves of bytes
unfoldable pub residue_from : ℕ → ℕ → List ℕ → List ℕ
residue_from j n w = divide (length w) (generator_from j n) (replicate n 0 ++ w)

-- roots for which the generator, its leading 1 aside, is four numbers of eight bytes
abbrev pub lane_roots : ℕ
lane_roots = 32

-- the first root behind them
abbrev pub next_root : ℕ
next_root = 33
