-- The public function's promise determines its result: read-determined.
use mathlib.Core.Path.{refl}
use Rattle.base.specs.Determined.{Determined}
use Rattle.base.proofs.Determining.{same}
use Rattle.bid.proofs.read.Kinds as read-kinds
use Rattle.bid.proofs.read.Reads as read-reads

pub read-determined : Determined read-kinds.ps read-kinds.r read-reads.Asked read-reads.Learnt
read-determined κs a z z' ws ws' pre p q = (same p q, refl)
