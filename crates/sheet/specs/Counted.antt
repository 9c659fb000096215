-- What becomes of a recording.
-- Counted, Counts, Wrong, Refused   it counts; it does not end as a recording; it is refused, by this number of the paper
-- Closed                            that, and the sheet then
-- as_counted, as_closed             the same of what the code answers
use Rattle.std.specs.Prelude.{ℕ, Result, Ok, Err}
use Rattle.base.specs.Refusals.{number}
use Rattle.sheet.specs.declared.Sheet.{Sheet}
use Rattle.sheet.specs.declared.Uncounted.{Uncounted}
use Rattle.sheet.specs.declared.Uncounted.TheVariants as uncounted
use Rattle.sheet.specs.declared.Closed.{Closed as Ended}

-- it counts, does not end as a recording, or is refused
pub data Counted : Type 0 where
  Counts : Counted
  Wrong : Counted
  Refused : ℕ → Counted

-- and the sheet then
pub record Closed : Type 0 where
  pub counted : Counted
  pub sheet : Sheet

-- why it does not count
abbrev why : Uncounted → Counted
why uncounted.Wrong = Wrong
why (uncounted.Refused r) = Refused (number r)

-- what the code answers, by the paper's numbers
abbrev pub as_counted : Result (Unit {0}) Uncounted → Counted
as_counted (Ok done) = Counts
as_counted (Err e) = why e

-- .. and the sheet then
abbrev pub as_closed : Ended → Closed
as_closed c = record { counted = as_counted c.counted; sheet = c.sheet }
