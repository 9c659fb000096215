-- Checked, Clean, Damaged, Refused   what the check of a word answers: clean or damaged, or a refusal by its number in the paper
-- as_checked   the same of what the code answers
use Rattle.std.specs.Prelude.{ℕ, Result, Ok, Err}
use Rattle.base.specs.declared.Refusal.{Refusal}
use Rattle.base.specs.Refusals.{number}
use Rattle.parity.specs.declared.Checked as answer
use Rattle.parity.specs.declared.Checked.TheVariants as found

-- a word is clean or damaged, or the call is refused, by this number of the paper
pub data Checked : Type 0 where
  Clean : Checked
  Damaged : Checked
  Refused : ℕ → Checked

-- what the code answers, by the paper's numbers
abbrev pub as_checked : Result answer.Checked Refusal → Checked
as_checked (Ok found.Clean) = Clean
as_checked (Ok found.Damaged) = Damaged
as_checked (Err r) = Refused (number r)
