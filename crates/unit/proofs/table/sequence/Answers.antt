-- `unit::table::sequence` meets its contract: what the check leaves open.
use borrow.Author.Tests.{eq-eqb, ne_eqb}
use Rattle.unit_spec.specs.Tables.{sequence}
use Rattle.unit_spec.proofs.Rows.{pick_same}
use Rattle.unit.proofs.table.sequence.Goals as goal

pub returns-in-0-eq0-default : goal.returns-in-0-eq0-default
unfolding sequence
returns-in-0-eq0-default c = let s = c.in-0-eq0-default in simp (eq-eqb _ _ s.is-0, eq-eqb _ _ s.is-1, pick_same)

pub returns-in-0-default-eq0 : goal.returns-in-0-default-eq0
unfolding sequence
returns-in-0-default-eq0 c = let s = c.in-0-default-eq0 in simp (eq-eqb _ _ s.is-0, ne_eqb _ _ s.is-1.1, eq-eqb _ _ s.is-2)

pub returns-in-0-default-default : goal.returns-in-0-default-default
unfolding sequence
returns-in-0-default-default c = let s = c.in-0-default-default in simp (eq-eqb _ _ s.is-0, ne_eqb _ _ s.is-2.1)

pub returns-in_default-eq0-eq0 : goal.returns-in_default-eq0-eq0
unfolding sequence
returns-in_default-eq0-eq0 c = let s = c.in_default-eq0-eq0 in simp (ne_eqb _ _ s.is-0.1, eq-eqb _ _ s.is-1, eq-eqb _ _ s.is-2)

pub returns-in_default-eq0-default : goal.returns-in_default-eq0-default
unfolding sequence
returns-in_default-eq0-default c = let s = c.in_default-eq0-default in simp (ne_eqb _ _ s.is-0.1, eq-eqb _ _ s.is-1, ne_eqb _ _ s.is-2.1)

pub returns-in_default-default-eq0 : goal.returns-in_default-default-eq0
unfolding sequence
returns-in_default-default-eq0 c = let s = c.in_default-default-eq0 in simp (ne_eqb _ _ s.is-0.1, ne_eqb _ _ s.is-1.1, eq-eqb _ _ s.is-2)

pub returns-in_default : goal.returns-in_default
unfolding sequence
returns-in_default c = let s = c.in_default in simp (ne_eqb _ _ s.is-0.1, ne_eqb _ _ s.is-1.1, ne_eqb _ _ s.is-2.1)
