-- What becomes of a port to forget.
-- Forgot, Forgotten, Refused   it is forgotten, or the call is refused by this number of the paper
-- as_forgot                    the same of what the code answers
use Rattle.std.specs.Prelude.{ℕ, Result, Ok, Err}
use Rattle.base.specs.declared.Refusal.{Refusal}
use Rattle.base.specs.Refusals.{number}

-- it is forgotten, or the call is refused
pub data Forgot : Type 0 where
  Forgotten : Forgot
  Refused : ℕ → Forgot

-- what the code answers, by the paper's numbers
abbrev pub as_forgot : Result (Unit {0}) Refusal → Forgot
as_forgot (Ok done) = Forgotten
as_forgot (Err r) = Refused (number r)
