-- Each public function's promise determines its result.
-- fcs-determined, fresh-determined, feed-determined, check-determined   of the function of that name
use mathlib.Core.Path.{refl}
use Rattle.base.specs.Determined.{Determined}
use Rattle.base.proofs.Determining.{same}
use Rattle.fcs.proofs.fcs.Kinds as fcs-kinds
use Rattle.fcs.proofs.fcs.Reads as fcs-reads
use Rattle.fcs.proofs.Register.fresh.Kinds as fresh-kinds
use Rattle.fcs.proofs.Register.fresh.Reads as fresh-reads
use Rattle.fcs.proofs.Register.feed.Kinds as feed-kinds
use Rattle.fcs.proofs.Register.feed.Reads as feed-reads
use Rattle.fcs.proofs.Register.check.Kinds as check-kinds
use Rattle.fcs.proofs.Register.check.Reads as check-reads

pub fcs-determined : Determined fcs-kinds.ps fcs-kinds.r fcs-reads.Asked fcs-reads.Learnt
fcs-determined κs a z z' ws ws' pre p q = (same p q, refl)

pub fresh-determined : Determined fresh-kinds.ps fresh-kinds.r fresh-reads.Asked fresh-reads.Learnt
fresh-determined κs a z z' ws ws' pre p q = (same p q, refl)

pub feed-determined : Determined feed-kinds.ps feed-kinds.r feed-reads.Asked feed-reads.Learnt
feed-determined κs a z z' ws ws' pre p q = (same p q, refl)

pub check-determined : Determined check-kinds.ps check-kinds.r check-reads.Asked check-reads.Learnt
check-determined κs a z z' ws ws' pre p q = (same p q, refl)
