-- `unit::table::step` meets its contract: what the check leaves open.
use borrow.Author.Tests.{eq-eqb, lt-ltb, le-ltb}
use Rattle.std.proofs.Common.{arith}
use Rattle.std.proofs.lemmas.Bool.Decides.{nat_tests}
use Rattle.unit_spec.specs.Tables.{step}
use Rattle.unit.proofs.table.step.Goals as goal

pub returns-in-0 : goal.returns-in-0
unfolding step
returns-in-0 c = simp (c.saturating_sub.ensures, lt-ltb _ _ c.if-size-lt-LONG.true, eq-eqb _ _ c.in-0.is)

pub returns-in-7 : goal.returns-in-7
unfolding step
returns-in-7 c = simp (c.saturating_sub-behind.ensures, lt-ltb _ _ c.if-size-lt-LONG.true) (grind (arith, nat_tests))

pub returns-in_default : goal.returns-in_default
unfolding step
returns-in_default c = simp (c.saturating_sub-behind.ensures, lt-ltb _ _ c.if-size-lt-LONG.true) (grind (arith, nat_tests))

pub returns-in-0-2 : goal.returns-in-0-2
unfolding step
returns-in-0-2 c = simp (le-ltb _ _ c.if-size-lt-LONG.false, eq-eqb _ _ c.in-0-2.is)

pub returns-in-7-2 : goal.returns-in-7-2
unfolding step
returns-in-7-2 c = simp (le-ltb _ _ c.if-size-lt-LONG.false) (grind (arith, nat_tests))

pub returns-in_default-2 : goal.returns-in_default-2
unfolding step
returns-in_default-2 c = simp (le-ltb _ _ c.if-size-lt-LONG.false) (grind (arith, nat_tests))
