-- Mended, Clean, Repaired, Beyond, Refused   what repair answers: what it found of the word, or a refusal by its number in the paper
-- as_mended   the same of what the code answers
use Rattle.std.specs.Prelude.{ℕ, Result, Ok, Err}
use Rattle.base.specs.declared.Refusal.{Refusal}
use Rattle.base.specs.Refusals.{number}
use Rattle.repair.specs.declared.Mended as answer
use Rattle.repair.specs.declared.Mended.TheVariants as found

-- a word is clean, repaired in so many places or beyond repair, or the call is refused, by this number of the paper
pub data Mended : Type 0 where
  Clean : Mended
  Repaired : ℕ → Mended
  Beyond : Mended
  Refused : ℕ → Mended

-- what the code answers, by the paper's numbers
abbrev pub as_mended : Result answer.Mended Refusal → Mended
as_mended (Ok found.Clean) = Clean
as_mended (Ok (found.Repaired n)) = Repaired n
as_mended (Ok found.Beyond) = Beyond
as_mended (Err r) = Refused (number r)
