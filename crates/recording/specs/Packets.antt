-- A recording's packets by calls: the packets among its answers, one a call, and nothing else of them (`RecordingReader::next_packet`).
-- Item                                a packet, or a refused call
-- packet_in, packets_in                 the packet of an answer, and those among answers
-- packet_hand, packet_eat, packet_all, packet_hear   the reader of a recording's packets
-- packet_call, packet_by, found_of, PacketIs   one call, and that the code's results are those
-- EveryPacket                         a recording, cut in every way
use Rattle.std.specs.Prelude.{ℕ, ◌≤◌, ◌≡◌, Bool, true, false, List, length}
use Rattle.std.proofs.Math.Option.{Option, some, none}
use Rattle.base.specs.Calls.{joined, all, hear, Yields}
use Rattle.packet_spec.specs.Contents.{Packet, raw_limit}
use Rattle.packet_spec.specs.Frame.{packet, refusal, broken, delivery}
use Rattle.channel_spec.specs.Sender.{word_bytes}
use Rattle.channel_spec.specs.Meaning.{Event, said, block, lost}
use Rattle.channel.specs.Call.{sound, roomy}
use Rattle.recording.specs.Found.{Found, as_got}
use Rattle.recording.specs.Found as found
use Rattle.recording.specs.declared.reader.NextPacket.{NextPacket}
use Rattle.recording.specs.Deck.{Deck, fresh, deck_owes, deck_hand, deck_eat}
use Rattle.recording.specs.Call.{near_spot, tape_of}
use Rattle.recording.specs.Sift.{sift_all, sift_hand, sift_eat}

-- a packet, or the number by which a call is refused
pub data Item : Type 0 where
  delivered : Packet → Item
  refused : ℕ → Item

-- the packet that an answer tells of
abbrev pub packet_in : Event → Option Item
packet_in (said (packet p)) = some (delivered p)
packet_in (said (refusal n)) = none
packet_in (said (broken n)) = none
packet_in (block c) = none
packet_in lost = none

-- those among answers, in order
abbrev pub packets_in : List Event → List Item
packets_in = sift_all packet_in

-- an owed move ..
abbrev pub packet_hand : Deck → Option Item × Deck
packet_hand = sift_hand packet_in deck_hand

-- .. and a byte of the recording
abbrev pub packet_eat : Deck → ℕ → Option Item × Deck
packet_eat = sift_eat packet_in deck_eat

-- bytes of a recording: their packets, and the deck behind them
abbrev pub packet_all : Deck → List ℕ → List Item × Deck
packet_all = all deck_owes packet_hand packet_eat

-- one call: the packet (none: "more wanted"), the bytes taken, the deck
abbrev pub packet_hear : Deck → List ℕ → Option Item × ℕ × Deck
packet_hear = hear deck_owes packet_hand packet_eat

-- by: does it pass 10 (the receiver's counts, and the offset), does it pass 11 (the buffers)
abbrev pub packet_by : Bool → Bool → Bool → Deck → List ℕ → Option Item × ℕ × Deck
packet_by false n b m bs = (some (refused 10), 0, m)
packet_by true false b m bs = (some (refused 10), 0, m)
packet_by true true false m bs = (some (refused 11), 0, m)
packet_by true true true m bs = packet_hear m bs

-- one call behind these refusals
abbrev pub packet_call : Deck → List ℕ → Option Item × ℕ × Deck
packet_call m bs = packet_by (sound m.ear.memory.st) (near_spot m.spot (length bs)) (roomy m.ear.memory.recv m.ear.memory.word) m bs

-- the code's answer
abbrev pub found_of : Option Item → Found
found_of none = found.More
found_of (some (delivered p)) = found.Packet (delivery p)
found_of (some (refused n)) = found.Refused n

-- r is the result, l the receive buffer and k the word buffer of a call
abbrev pub PacketIs : Option Item × ℕ × Deck → NextPacket → List ℕ → List ℕ → Type 0
PacketIs x r l k =
    (as_got r ≡ record { found = found_of x.0; taken = x.1; tape = tape_of x.2 }) × (l ≡ x.2.ear.memory.recv) × (k ≡ x.2.ear.memory.word)

-- a recording is taken from its first byte on, cut in every way, with all buffers that pass 11: the calls come to their end, and P holds of
-- their packets, and of the deck behind them
abbrev pub EveryPacket : List ℕ → (List Item → Deck → Type 0) → Type 0
EveryPacket file P =
    (recv word : List ℕ) → raw_limit ≤ length recv → word_bytes ≤ length word →
    (pieces : List (List ℕ)) → joined pieces ≡ file → Yields packet_call (fresh recv word) pieces P
