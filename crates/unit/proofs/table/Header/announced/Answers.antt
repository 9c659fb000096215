-- `unit::table::Header::announced` meets its contract: what the check leaves open.
use Rattle.std.proofs.Common.{inl, inr}
use Rattle.unit_spec.specs.Tables.{announced}
use Rattle.unit.proofs.table.Header.announced.Goals as goal

pub returns-in-Cw1 : goal.returns-in-Cw1
unfolding announced
returns-in-Cw1 c = elim c.in-Cw1.is [ inl e ↦ rw e | inr e ↦ rw e ]

pub returns-in-Cw0 : goal.returns-in-Cw0
unfolding announced
returns-in-Cw0 c = elim c.in-Cw0.is [ inl e ↦ rw e | inr f ↦ elim f [ inl e ↦ rw e | inr e ↦ rw e ] ]
