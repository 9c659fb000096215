-- `unit::table::start` meets its contract: what the check leaves open.
use borrow.Author.Tests.{eq-eqb, lt-ltb, le-ltb}
use Rattle.std.proofs.Common.{arith}
use Rattle.std.proofs.lemmas.Bool.Decides.{nat_tests}
use Rattle.unit_spec.proofs.Rows.{pick_same}
use Rattle.unit_spec.specs.Tables.{start}
use Rattle.unit.proofs.table.start.Goals as goal

pub returns-then-size-lt-LONG : goal.returns-then-size-lt-LONG
unfolding start
returns-then-size-lt-LONG c = simp (lt-ltb _ _ c.if-size-lt-LONG.true)

pub returns-in-0 : goal.returns-in-0
unfolding start
returns-in-0 c = simp (le-ltb _ _ c.if-size-lt-LONG.false, eq-eqb _ _ c.in-0.is)

pub returns-in_default : goal.returns-in_default
unfolding start
returns-in_default c = simp (le-ltb _ _ c.if-size-lt-LONG.false, pick_same) (grind (arith, nat_tests))
