-- Each public function's promise determines its result, and what the lent buffer then holds. `payload` and `key` return parts
-- of the buffer: what these hold is determined.
-- fresh-determined, sound-determined, read-determined, payload-determined, key-determined, begin-determined, append-as-determined,
-- append-determined   of the function of that name
use mathlib.Core.Path.{refl}
use Rattle.base.specs.Determined.{Determined, DeterminedAs}
use Rattle.base.proofs.Determining.{same, same_answer, same-output, buffer, skip}
use Rattle.stream.proofs.frame.FrameReader.fresh.Kinds as fresh-kinds
use Rattle.stream.proofs.frame.FrameReader.fresh.Reads as fresh-reads
use Rattle.stream.proofs.frame.FrameReader.sound.Kinds as sound-kinds
use Rattle.stream.proofs.frame.FrameReader.sound.Reads as sound-reads
use Rattle.stream.proofs.frame.FrameReader.read.Kinds as read-kinds
use Rattle.stream.proofs.frame.FrameReader.read.Reads as read-reads
use Rattle.stream.proofs.frame.payload.Kinds as payload-kinds
use Rattle.stream.proofs.frame.payload.Reads as payload-reads
use Rattle.stream.proofs.frame.key.Kinds as key-kinds
use Rattle.stream.proofs.frame.key.Reads as key_reads
use Rattle.stream.proofs.sender.begin.Kinds as begin-kinds
use Rattle.stream.proofs.sender.begin.Reads as begin-reads
use Rattle.stream.proofs.sender.append_as.Kinds as append-as-kinds
use Rattle.stream.proofs.sender.append_as.Reads as append-as-reads
use Rattle.stream.proofs.sender.append.Kinds as append-kinds
use Rattle.stream.proofs.sender.append.Reads as append-reads

pub fresh-determined : Determined fresh-kinds.ps fresh-kinds.r fresh-reads.Asked fresh-reads.Learnt
fresh-determined κs a z z' ws ws' pre p q = (same p q, refl)

pub sound-determined : Determined sound-kinds.ps sound-kinds.r sound-reads.Asked sound-reads.Learnt
sound-determined κs a z z' ws ws' pre p q = (same p q, refl)

pub read-determined : Determined read-kinds.ps read-kinds.r read-reads.Asked read-reads.Learnt
read-determined κs a z z' ws ws' pre p q = (same p.0 q.0, skip (buffer (same p.1 q.1) refl))

pub payload-determined : DeterminedAs payload-kinds.ps payload-kinds.r (λ κs z. z.now) payload-reads.Asked payload-reads.Learnt
payload-determined κs a z z' ws ws' pre p q = (same p q, refl)

pub key-determined : DeterminedAs key-kinds.ps key-kinds.r (λ κs z. z.now) key_reads.Asked key_reads.Learnt
key-determined κs a z z' ws ws' pre p q = (same p q, refl)

pub begin-determined : Determined begin-kinds.ps begin-kinds.r begin-reads.Asked begin-reads.Learnt
begin-determined κs a z z' ws ws' pre p q = (same_answer p q, buffer (same-output p q) refl)

pub append-as-determined : Determined append-as-kinds.ps append-as-kinds.r append-as-reads.Asked append-as-reads.Learnt
append-as-determined κs a z z' ws ws' pre p q = (same_answer p q, buffer (same-output p q) refl)

pub append-determined : Determined append-kinds.ps append-kinds.r append-reads.Asked append-reads.Learnt
append-determined κs a z z' ws ws' pre p q = (same_answer p q, buffer (same-output p q) refl)
