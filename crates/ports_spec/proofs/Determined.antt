-- Each public function's promise determines its result.
-- all-determined, has-determined    the range of all ports; whether a range has a port
use mathlib.Core.Path.{refl}
use Rattle.base.specs.Determined.{Determined}
use Rattle.base.proofs.Determining.{same}
use Rattle.ports_spec.proofs.Range.all.Kinds as all_kinds
use Rattle.ports_spec.proofs.Range.all.Reads as all-reads
use Rattle.ports_spec.proofs.Range.has.Kinds as has-kinds
use Rattle.ports_spec.proofs.Range.has.Reads as has-reads

pub all-determined : Determined all_kinds.ps all_kinds.r all-reads.Asked all-reads.Learnt
all-determined κs a z z' ws ws' pre p q = (same p q, refl)

pub has-determined : Determined has-kinds.ps has-kinds.r has-reads.Asked has-reads.Learnt
has-determined κs a z z' ws ws' pre p q = (same p q, refl)
