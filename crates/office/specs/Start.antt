-- What the office's start answers, by the paper's numbers.
-- Started, Ready, Refused   the office, or the number by which it is refused
-- as_started            the same of what the code answers
use Rattle.std.specs.Prelude.{ℕ, Result, Ok, Err}
use Rattle.base.specs.declared.Refusal.{Refusal}
use Rattle.base.specs.Refusals.{number}
use Rattle.office.specs.declared.Office.{Office}

-- one flag is held, or the call is refused by this number of the paper
pub data Started : Type 0 where
  Ready : Office → Started
  Refused : ℕ → Started

-- what the code answers, by the paper's numbers
abbrev pub as_started : Result Office Refusal → Started
as_started (Ok s) = Ready s
as_started (Err r) = Refused (number r)
