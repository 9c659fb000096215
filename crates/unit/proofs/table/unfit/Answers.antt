-- `unit::table::unfit` meets its contract: what the check leaves open.
use borrow.Author.Tests.{lt-ltb, le-ltb}
use Rattle.unit_spec.specs.Tables.{unfit}
use Rattle.unit.proofs.table.unfit.Goals as goal

pub returns-then-size-gt-MOST : goal.returns-then-size-gt-MOST
unfolding unfit
returns-then-size-gt-MOST c = simp (lt-ltb _ _ c.if-size-gt-MOST.true)

pub returns-else-size-gt-MOST : goal.returns-else-size-gt-MOST
unfolding unfit
returns-else-size-gt-MOST c = simp (le-ltb _ _ c.if-size-gt-MOST.false, c.step.ensures)
