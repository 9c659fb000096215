-- Each public function's promise determines its result, and what the lent buffers then hold.
-- untold-determined, told-determined, sound-determined, hear-determined
use mathlib.Core.Path.{◌≡◌, refl}
use Rattle.base.specs.Determined.{Determined}
use Rattle.base.proofs.Determining.{same, buffer, skip}
use Rattle.subchannel_spec.proofs.Determined.{same-configured}
use Rattle.subchannel.proofs.sub.Sub.untold.Kinds as untold-kinds
use Rattle.subchannel.proofs.sub.Sub.untold.Reads as untold-reads
use Rattle.subchannel.proofs.sub.Sub.told.Kinds as told-kinds
use Rattle.subchannel.proofs.sub.Sub.told.Reads as told-reads
use Rattle.subchannel.proofs.sub.Sub.sound.Kinds as sound-kinds
use Rattle.subchannel.proofs.sub.Sub.sound.Reads as sound-reads
use Rattle.subchannel.proofs.sub.Sub.hear.Kinds as hear-kinds
use Rattle.subchannel.proofs.sub.Sub.hear.Reads as hear-reads

pub untold-determined : Determined untold-kinds.ps untold-kinds.r untold-reads.Asked untold-reads.Learnt
untold-determined κs a z z' ws ws' pre p q = (same p q, refl)

pub told-determined : Determined told-kinds.ps told-kinds.r told-reads.Asked told-reads.Learnt
told-determined κs a z z' ws ws' pre p q =
    let e = same p q in
    let r : z.answer ≡ z'.answer = same-configured z.answer z'.answer (λ i. (e i).0) in (λ i. record { answer = r i; sub = (e i).1 }, refl)

pub sound-determined : Determined sound-kinds.ps sound-kinds.r sound-reads.Asked sound-reads.Learnt
sound-determined κs a z z' ws ws' pre p q = (same p q, refl)

pub hear-determined : Determined hear-kinds.ps hear-kinds.r hear-reads.Asked hear-reads.Learnt
hear-determined κs a z z' ws ws' pre p q = (same p.0 q.0, skip (buffer (same p.1 q.1) (buffer (same p.2 q.2) refl)))
