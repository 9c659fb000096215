-- `unit::table::lent` meets its contract: what the check leaves open.
use Rattle.std.proofs.Common.{arith}
use Rattle.unit_spec.specs.Tables.{lent}
use Rattle.unit.proofs.table.lent.Goals as goal

pub returns : goal.returns
unfolding lent
returns c = (omega arith, omega arith)
