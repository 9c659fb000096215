-- Each public function's promise determines its result.
-- fresh-determined, shift-determined, at-marker-determined
use mathlib.Core.Path.{refl}
use Rattle.base.specs.Determined.{Determined}
use Rattle.base.proofs.Determining.{same}
use Rattle.channel_spec.proofs.Hunting.fresh.Kinds as fresh-kinds
use Rattle.channel_spec.proofs.Hunting.fresh.Reads as fresh-reads
use Rattle.channel_spec.proofs.Hunting.shift.Kinds as shift_kinds
use Rattle.channel_spec.proofs.Hunting.shift.Reads as shift-reads
use Rattle.channel_spec.proofs.Hunting.at_marker.Kinds as at-marker-kinds
use Rattle.channel_spec.proofs.Hunting.at_marker.Reads as at-marker-reads

pub fresh-determined : Determined fresh-kinds.ps fresh-kinds.r fresh-reads.Asked fresh-reads.Learnt
fresh-determined κs a z z' ws ws' pre p q = (same p q, refl)

pub shift-determined : Determined shift_kinds.ps shift_kinds.r shift-reads.Asked shift-reads.Learnt
shift-determined κs a z z' ws ws' pre p q = (same p q, refl)

pub at-marker-determined : Determined at-marker-kinds.ps at-marker-kinds.r at-marker-reads.Asked at-marker-reads.Learnt
at-marker-determined κs a z z' ws ws' pre p q = (same p q, refl)
