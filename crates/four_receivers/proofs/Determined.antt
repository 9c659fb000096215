-- Each public function's promise determines its result.
-- fresh-determined, sound-determined, configure-determined, hear-determined
use mathlib.Core.Path.{◌≡◌, refl}
use Rattle.base.specs.Determined.{Determined}
use Rattle.base.proofs.Determining.{same, buffer, skip}
use Rattle.subchannel_spec.proofs.Determined.{same-configured}
use Rattle.four_receivers.proofs.Receiver.fresh.Kinds as fresh-kinds
use Rattle.four_receivers.proofs.Receiver.fresh.Reads as fresh-reads
use Rattle.four_receivers.proofs.Receiver.sound.Kinds as sound-kinds
use Rattle.four_receivers.proofs.Receiver.sound.Reads as sound-reads
use Rattle.four_receivers.proofs.Receiver.configure.Kinds as configure-kinds
use Rattle.four_receivers.proofs.Receiver.configure.Reads as configure-reads
use Rattle.four_receivers.proofs.Receiver.hear.Kinds as hear-kinds
use Rattle.four_receivers.proofs.Receiver.hear.Reads as hear-reads

pub fresh-determined : Determined fresh-kinds.ps fresh-kinds.r fresh-reads.Asked fresh-reads.Learnt
fresh-determined κs a z z' ws ws' pre p q = (same p q, refl)

pub sound-determined : Determined sound-kinds.ps sound-kinds.r sound-reads.Asked sound-reads.Learnt
sound-determined κs a z z' ws ws' pre p q = (same p q, refl)

pub configure-determined : Determined configure-kinds.ps configure-kinds.r configure-reads.Asked configure-reads.Learnt
configure-determined κs a z z' ws ws' pre p q =
    let e = same p.0 q.0 in
    let r : z.answer ≡ z'.answer = same-configured z.answer z'.answer (λ i. (e i).0) in
    (λ i. record { answer = r i; receiver = (e i).1 }, skip (skip (skip (skip (buffer (same p.1 q.1) refl)))))

pub hear-determined : Determined hear-kinds.ps hear-kinds.r hear-reads.Asked hear-reads.Learnt
hear-determined κs a z z' ws ws' pre p q = (
  same p.0 q.0,
  skip (skip (buffer (same p.1 q.1) (buffer (same p.2 q.2) (buffer (same p.3 q.3) refl)))),
)
