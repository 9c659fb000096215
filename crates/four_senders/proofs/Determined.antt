-- Each public function's promise determines its result, and what the lent output then holds.
-- fresh-determined, sound-determined, configure-determined, send-determined
use mathlib.Core.Path.{◌≡◌, refl}
use Rattle.base.specs.Determined.{Determined}
use Rattle.base.proofs.Determining.{same, same_answer, same-output, buffer, skip}
use Rattle.subchannel_spec.proofs.Determined.{same-configured}
use Rattle.four_senders.proofs.Sender.fresh.Kinds as fresh-kinds
use Rattle.four_senders.proofs.Sender.fresh.Reads as fresh-reads
use Rattle.four_senders.proofs.Sender.sound.Kinds as sound-kinds
use Rattle.four_senders.proofs.Sender.sound.Reads as sound-reads
use Rattle.four_senders.proofs.Sender.configure.Kinds as configure-kinds
use Rattle.four_senders.proofs.Sender.configure.Reads as configure-reads
use Rattle.four_senders.proofs.Sender.send.Kinds as send-kinds
use Rattle.four_senders.proofs.Sender.send.Reads as send-reads

pub fresh-determined : Determined fresh-kinds.ps fresh-kinds.r fresh-reads.Asked fresh-reads.Learnt
fresh-determined κs a z z' ws ws' pre p q = (same p q, refl)

pub sound-determined : Determined sound-kinds.ps sound-kinds.r sound-reads.Asked sound-reads.Learnt
sound-determined κs a z z' ws ws' pre p q = (same p q, refl)

pub configure-determined : Determined configure-kinds.ps configure-kinds.r configure-reads.Asked configure-reads.Learnt
configure-determined κs a z z' ws ws' pre p q =
    let e = same p q in
    let r : z.answer ≡ z'.answer = same-configured z.answer z'.answer (λ i. (e i).0) in (λ i. record { answer = r i; sender = (e i).1 }, refl)

pub send-determined : Determined send-kinds.ps send-kinds.r send-reads.Asked send-reads.Learnt
send-determined κs a z z' ws ws' pre p q = (same_answer p q, skip (skip (skip (buffer (same-output p q) refl))))
