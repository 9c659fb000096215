-- Each public function's promise determines its result, and what the lent buffer then holds.
-- least-determined, up-to-determined, copy-determined   of the function of that name
-- try-from-determined                                   of the refusal that a number names
use mathlib.Core.Path.{refl}
use Rattle.base.specs.Determined.{Determined}
use Rattle.base.proofs.Determining.{same, buffer, skip}
use Rattle.base.proofs.Writing.{names-one}
use Rattle.base.proofs.RefusalTryFromU8.try_from.Kinds as try-from-kinds
use Rattle.base.proofs.RefusalTryFromU8.try_from.Reads as try-from-reads
use Rattle.base.proofs.least.Kinds as least-kinds
use Rattle.base.proofs.least.Reads as least-reads
use Rattle.base.proofs.up_to.Kinds as up-to-kinds
use Rattle.base.proofs.up_to.Reads as up-to-reads
use Rattle.base.proofs.copy.Kinds as copy-kinds
use Rattle.base.proofs.copy.Reads as copy-reads

pub least-determined : Determined least-kinds.ps least-kinds.r least-reads.Asked least-reads.Learnt
least-determined κs a z z' ws ws' pre p q = (same p q, refl)

pub up-to-determined : Determined up-to-kinds.ps up-to-kinds.r up-to-reads.Asked up-to-reads.Learnt
up-to-determined κs a z z' ws ws' pre p q = (same p.0 q.0, refl)

pub copy-determined : Determined copy-kinds.ps copy-kinds.r copy-reads.Asked copy-reads.Learnt
copy-determined κs a z z' ws ws' pre p q = (refl, skip (buffer (same p q) refl))

pub try-from-determined : Determined try-from-kinds.ps try-from-kinds.r try-from-reads.Asked try-from-reads.Learnt
try-from-determined κs a z z' ws ws' pre p q = (names-one _ z z' p q, refl)
