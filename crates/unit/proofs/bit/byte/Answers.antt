-- `unit::bit::byte` meets its contract: what the check leaves open.
use Rattle.std.proofs.Common.{arith}
use Rattle.unit_spec.specs.Bits.{number}
use Rattle.unit.proofs.bit.byte.Goals as goal

pub returns : goal.returns
unfolding number
returns c = omega arith
