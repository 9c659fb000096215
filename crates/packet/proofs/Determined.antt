-- Each public function's promise determines its result, and what the lent buffer then holds.
-- class-of-determined, wrong-behind-determined, up-to-determined, pair-determined, payload-at-determined, judge-determined, write-as-determined,
-- write-determined   of the function of that name
use mathlib.Core.Path.{refl}
use Rattle.base.specs.Determined.{Determined}
use Rattle.base.proofs.Determining.{same, same_answer, same-output, buffer, skip}
use Rattle.packet.proofs.port.class_of.Kinds as class-of-kinds
use Rattle.packet.proofs.port.class_of.Reads as class-of-reads
use Rattle.packet.proofs.escape.wrong_behind.Kinds as wrong-behind-kinds
use Rattle.packet.proofs.escape.wrong_behind.Reads as wrong-behind-reads
use Rattle.packet.proofs.search.up_to.Kinds as up-to-kinds
use Rattle.packet.proofs.search.up_to.Reads as up-to-reads
use Rattle.packet.proofs.frame.pair.Kinds as pair-kinds
use Rattle.packet.proofs.frame.pair.Reads as Pair-reads
use Rattle.packet.proofs.frame.payload_at.Kinds as payload-at-kinds
use Rattle.packet.proofs.frame.payload_at.Reads as payload-at-reads
use Rattle.packet.proofs.frame.judge.Kinds as judge-kinds
use Rattle.packet.proofs.frame.judge.Reads as judge-reads
use Rattle.packet.proofs.sender.write_as.Kinds as write-as-kinds
use Rattle.packet.proofs.sender.write_as.Reads as write-as-reads
use Rattle.packet.proofs.sender.write.Kinds as write-kinds
use Rattle.packet.proofs.sender.write.Reads as write-reads

pub class-of-determined : Determined class-of-kinds.ps class-of-kinds.r class-of-reads.Asked class-of-reads.Learnt
class-of-determined κs a z z' ws ws' pre p q = (same p q, refl)

pub wrong-behind-determined : Determined wrong-behind-kinds.ps wrong-behind-kinds.r wrong-behind-reads.Asked wrong-behind-reads.Learnt
wrong-behind-determined κs a z z' ws ws' pre p q = (same p q, refl)

pub up-to-determined : Determined up-to-kinds.ps up-to-kinds.r up-to-reads.Asked up-to-reads.Learnt
up-to-determined κs a z z' ws ws' pre p q = (same p.0 q.0, refl)

pub pair-determined : Determined pair-kinds.ps pair-kinds.r Pair-reads.Asked Pair-reads.Learnt
pair-determined κs a z z' ws ws' pre p q = (same p q, refl)

pub payload-at-determined : Determined payload-at-kinds.ps payload-at-kinds.r payload-at-reads.Asked payload-at-reads.Learnt
payload-at-determined κs a z z' ws ws' pre p q = (same p q, refl)

pub judge-determined : Determined judge-kinds.ps judge-kinds.r judge-reads.Asked judge-reads.Learnt
judge-determined κs a z z' ws ws' pre p q = (same p.0 q.0, buffer (same p.1 q.1) refl)

pub write-as-determined : Determined write-as-kinds.ps write-as-kinds.r write-as-reads.Asked write-as-reads.Learnt
write-as-determined κs a z z' ws ws' pre p q = (same_answer p q, skip (skip (skip (skip (skip (skip (buffer (same-output p q) refl)))))))

pub write-determined : Determined write-kinds.ps write-kinds.r write-reads.Asked write-reads.Learnt
write-determined κs a z z' ws ws' pre p q = (same_answer p q, skip (skip (skip (buffer (same-output p q) refl))))
