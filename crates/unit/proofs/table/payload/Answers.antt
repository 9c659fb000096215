-- `unit::table::payload` meets its contract: what the check leaves open.
use Rattle.unit_spec.specs.Tables.{payload}
use Rattle.unit.proofs.table.payload.Goals as goal

pub returns : goal.returns
unfolding payload
returns c = rw (c.saturating_sub.ensures, c.heads.ensures)
