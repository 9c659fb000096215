-- Each public function's promise determines its result, and what the output then holds.
-- mark-determined, send-determined
use mathlib.Core.Path.{refl}
use Rattle.base.specs.Determined.{Determined}
use Rattle.base.proofs.Determining.{same_answer, same-output, buffer, skip}
use Rattle.channel_sender.proofs.mark.Kinds as mark-kinds
use Rattle.channel_sender.proofs.mark.Reads as mark-reads
use Rattle.channel_sender.proofs.send.Kinds as send-kinds
use Rattle.channel_sender.proofs.send.Reads as send-reads

pub mark-determined : Determined mark-kinds.ps mark-kinds.r mark-reads.Asked mark-reads.Learnt
mark-determined κs a z z' ws ws' pre p q = (same_answer p q, skip (buffer (same-output p q) refl))

pub send-determined : Determined send-kinds.ps send-kinds.r send-reads.Asked send-reads.Learnt
send-determined κs a z z' ws ws' pre p q = (same_answer p q, skip (buffer (same-output p q) refl))
