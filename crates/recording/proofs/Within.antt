-- No call takes more bytes than it is lent, whatever its state and its buffers are: what a caller's loop over a piece asks.
-- next-within     a call for an answer
-- packet-within   a call for a packet
-- call-within     .. and what is defined of it
use Prim.Native.Nat.{ℕ, ◌≤◌, zero-le}
use native.Mathlib.Omega.{arith}
use mathlib.Core.Path.{ap}
use mathlib.Core.Bool.{Bool, true, false}
use mathlib.Core.List.{List}
use lib.ListN.{length}
use Rattle.channel.specs.Call.{sound, roomy}
use Rattle.recording.specs.declared.reader.Hearing.{Hearing}
use Rattle.recording.specs.declared.reader.NextPacket.{NextPacket}
use Rattle.recording.specs.Deck.{Deck, deck_hand, deck_eat}
use Rattle.recording.specs.Call.{near_spot, tape_by, tape_call, NextIs}
use Rattle.recording.specs.Found.{Got}
use Rattle.recording.specs.Packets.{packet_hand, packet_eat, packet_by, packet_call, PacketIs}
use Rattle.recording.proofs.Kept.{within-kept}

tape-by : (s n b : Bool) (m : Deck) (bs : List ℕ) → (tape_by s n b m bs).1 ≤ length bs
tape-by false n b m bs = zero-le
tape-by true false b m bs = zero-le
tape-by true true false m bs = zero-le
tape-by true true true m bs = within-kept (λ d. (deck_hand d).0) (λ d b. (deck_eat d b).0) m bs

packet-by : (s n b : Bool) (m : Deck) (bs : List ℕ) → (packet_by s n b m bs).1 ≤ length bs
packet-by false n b m bs = zero-le
packet-by true false b m bs = zero-le
packet-by true true false m bs = zero-le
packet-by true true true m bs = within-kept (λ d. (packet_hand d).0) (λ d b. (packet_eat d b).0) m bs

pub next-within : (m : Deck) (bs : List ℕ) {r : Hearing} {l k : List ℕ} → NextIs (tape_call m bs) r l k → r.taken ≤ length bs
next-within m bs h =
    omega (
      arith,
      ap (λ (x : Hearing). x.taken) h.0,
      tape-by (sound m.ear.memory.st) (near_spot m.spot (length bs)) (roomy m.ear.memory.recv m.ear.memory.word) m bs,
    )

pub call-within : (m : Deck) (bs : List ℕ) → (packet_call m bs).1 ≤ length bs
call-within m bs =
    packet-by (sound m.ear.memory.st) (near_spot m.spot (length bs)) (roomy m.ear.memory.recv m.ear.memory.word) m bs

pub packet-within : (m : Deck) (bs : List ℕ) (r : NextPacket) {l k : List ℕ} → PacketIs (packet_call m bs) r l k → r.taken ≤ length bs
packet-within m bs r h =
    omega (
      arith,
      ap (λ (x : Got). x.taken) h.0,
      call-within m bs,
    )
