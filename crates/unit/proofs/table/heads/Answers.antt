-- `unit::table::heads` meets its contract: what the check leaves open.
use borrow.Author.Tests.{eq-eqb}
use Rattle.std.proofs.Common.{arith}
use Rattle.std.proofs.lemmas.Bool.Decides.{nat_tests}
use Rattle.unit_spec.specs.Tables.{heads}
use Rattle.unit.proofs.table.heads.Goals as goal

pub returns-in-0 : goal.returns-in-0
unfolding heads
returns-in-0 c = simp (eq-eqb _ _ c.in-0.is)

pub returns-in-7 : goal.returns-in-7
unfolding heads
returns-in-7 c = grind (arith, nat_tests)

pub returns-in_default : goal.returns-in_default
unfolding heads
returns-in_default c = grind (arith, nat_tests)
