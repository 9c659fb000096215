-- A capture, written (request W11).
-- packed_part, Fetched    what is fetched behind a delivery, to be written, and that it is the packet's own bytes
-- entering_by, entering   what the call for one record answers and leaves
use Rattle.std.specs.Prelude.{ℕ, ◌+◌, ◌≡◌, List}
use Rattle.base.specs.Bytes.{Bytes}
use Rattle.base.specs.Written.{Outcome, refused, write}
use Rattle.packet_spec.specs.Contents.{packed, payload_at}
use Rattle.packet_spec.specs.Frame.{Told, packet, refusal, broken, delivery, part}
use Rattle.packet_spec.specs.declared.Delivery.{Delivery}
use Rattle.capture_spec.specs.File.{record_of}
use Rattle.capture_spec.specs.Meaning.{entry}

-- format byte to last payload byte are a part of the receive buffer, from its start
abbrev pub packed_part : Delivery → List ℕ → List ℕ
packed_part d recv = part 0 (payload_at d.key + d.length) recv

-- of a packet, they are its own in the buffer that came back
abbrev pub Fetched : Told → List ℕ → Type 0
Fetched (packet p) recv = Bytes recv → packed_part (delivery p) recv ≡ packed p
Fetched (refusal n) recv = Unit {0}
Fetched (broken n) recv = Unit {0}

-- by what the bytes are told to be
abbrev pub entering_by : Told → ℕ → List ℕ → List ℕ → Outcome
entering_by (packet p) number bs out = write (record_of number bs) out
entering_by (refusal n) number bs out = refused n out
entering_by (broken n) number bs out = refused 62 out

-- one record: 62 no packet that the sender would accept; then 23 as for every call that writes
abbrev pub entering : ℕ → List ℕ → List ℕ → Outcome
entering number bs out = entering_by (entry bs) number bs out
