-- Each public function's promise determines its result, and what the lent buffers then hold.
-- fresh-determined, sound-determined, has-room-determined, hear-determined
use mathlib.Core.Path.{refl}
use Rattle.base.specs.Determined.{Determined}
use Rattle.base.proofs.Determining.{same, buffer, skip}
use Rattle.channel.proofs.receiver.Receiver.fresh.Kinds as fresh-kinds
use Rattle.channel.proofs.receiver.Receiver.fresh.Reads as fresh-reads
use Rattle.channel.proofs.receiver.Receiver.sound.Kinds as sound-kinds
use Rattle.channel.proofs.receiver.Receiver.sound.Reads as sound-reads
use Rattle.channel.proofs.receiver.Receiver.has_room.Kinds as has-room-kinds
use Rattle.channel.proofs.receiver.Receiver.has_room.Reads as has-room-reads
use Rattle.channel.proofs.receiver.Receiver.hear.Kinds as hear-kinds
use Rattle.channel.proofs.receiver.Receiver.hear.Reads as hear-reads

pub fresh-determined : Determined fresh-kinds.ps fresh-kinds.r fresh-reads.Asked fresh-reads.Learnt
fresh-determined κs a z z' ws ws' pre p q = (same p q, refl)

pub sound-determined : Determined sound-kinds.ps sound-kinds.r sound-reads.Asked sound-reads.Learnt
sound-determined κs a z z' ws ws' pre p q = (same p q, refl)

pub has-room-determined : Determined has-room-kinds.ps has-room-kinds.r has-room-reads.Asked has-room-reads.Learnt
has-room-determined κs a z z' ws ws' pre p q = (same p q, refl)

pub hear-determined : Determined hear-kinds.ps hear-kinds.r hear-reads.Asked hear-reads.Learnt
hear-determined κs a z z' ws ws' pre p q = (same p.0 q.0, skip (buffer (same p.1 q.1) (buffer (same p.2 q.2) refl)))
