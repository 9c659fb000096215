-- What private functions alone are promised by.
-- narrow, narrow_row   numbers, and a row, if none passes 64 bits
-- counted_of           what becomes of a draft's recording
use Rattle.std.specs.Prelude.{Bool, Option, Some, None}
use Rattle.base.specs.Choice.{pick}
use Rattle.sheet_spec.specs.declared.Tally.{Tally}
use Rattle.sheet_spec.specs.declared.Row.{Row}
use Rattle.sheet_spec.specs.Tally.{wide}
use Rattle.sheet_spec.specs.Rows.{settled}
use Rattle.sheet.specs.declared.Draft.{Draft}
use Rattle.sheet.specs.Counted.{Counted, Refused}
use Rattle.sheet.specs.Call.{beyond, run_of, answer_of}

-- numbers, if none of them passes 64 bits
abbrev pub narrow : Tally → Option Tally
narrow t = pick (wide t) None (Some t)

-- .. and a row of such
abbrev pub narrow_row : Row → Option Row
narrow_row r = pick (wide r.tally) None (Some r)

-- a draft's recording at its end
abbrev pub counted_of : Draft → Bool → Counted
counted_of d well = pick (beyond d) (Refused 10) (answer_of (settled well (run_of d)))
