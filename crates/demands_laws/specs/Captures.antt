-- Rows of refusals of request W11.
-- CaptureBeyond                    10: a count of the state is beyond its limit
-- NoPacket                         62: no packet that the sender would accept
-- HeaderMissed, RecordCut, FaultBefore   60 to 62 at the end of a file
-- ByEnd                            that an end refuses by a number
-- Fetched..                        that what is fetched behind an answer is the packet's own bytes
-- put, put_by, entries_by            what calls write, one behind the other
use Rattle.std.specs.Prelude.{ℕ, suc, ◌≤◌, ◌<◌, ◌≡◌, ◌⊎◌, List, [], ◌∷◌, ◌++◌, take}
use Rattle.base.specs.Written.{Outcome}
use Rattle.base.specs.Written.{Written}
use Rattle.base.specs.Written.{Wrote, Refused as NotWritten}
use Rattle.packet_spec.specs.Contents.{Packet, packed}
use Rattle.packet_spec.specs.Frame.{Told}
use Rattle.packet_spec.specs.Sender.{Accepted}
use Rattle.stream.specs.Call.{Held}
use Rattle.channel_spec.specs.Meaning.{Event, said, block, lost}
use Rattle.channel.specs.Call.{Memory}
use Rattle.subchannel.specs.Call.{Memory as SubMemory}
use Rattle.recording.specs.Deck.{Deck}
use Rattle.capture.specs.Export.{Fetched, entering}
use Rattle.capture.specs.declared.reader.CaptureReader.{CaptureReader}
use Rattle.capture.specs.declared.reader.CaptureReader.TheVariants.{Header, Head, Record, Behind}
use Rattle.capture.specs.Call.{Ended, Refused}

-- 24 bytes of the header or more, 16 of a record's head or more, all of its bytes or more, or a fault other than 60 to 62
abbrev pub CaptureBeyond : CaptureReader → Type 0
CaptureBeyond (Header k) = 24 ≤ k
CaptureBeyond (Head k) = 16 ≤ k
CaptureBeyond (Record n d) = n ≤ d
CaptureBeyond (Behind f) = (f < 60) ⊎ (62 < f)

-- no packet that the sender would accept has these bytes, format byte to last payload byte
abbrev pub NoPacket : List ℕ → Type 0
NoPacket bs = (p : Packet) → Accepted p → packed p ≡ bs → ⊥

-- the file ends inside the header, or was refused with 60
abbrev pub HeaderMissed : CaptureReader → Type 0
HeaderMissed (Header k) = Unit {0}
HeaderMissed (Head k) = ⊥
HeaderMissed (Record n d) = ⊥
HeaderMissed (Behind f) = f ≡ 60

-- it ends inside a record, or was refused with 61
abbrev pub RecordCut : CaptureReader → Type 0
RecordCut (Header k) = ⊥
RecordCut (Head k) = 0 < k
RecordCut (Record n d) = Unit {0}
RecordCut (Behind f) = f ≡ 61

-- it was refused with 62
abbrev pub FaultBefore : CaptureReader → Type 0
FaultBefore (Header k) = ⊥
FaultBefore (Head k) = ⊥
FaultBefore (Record n d) = ⊥
FaultBefore (Behind f) = f ≡ 62

-- the end of a capture is refused
abbrev pub ByEnd : Ended → ℕ → Type 0
ByEnd e n = e ≡ Refused n

-- what is fetched behind an answer of a receiver is the packet's own bytes
abbrev pub FetchedEvent : Event → List ℕ → Type 0
FetchedEvent (said t) recv = Fetched t recv
FetchedEvent (block c) recv = Unit {0}
FetchedEvent lost recv = Unit {0}

-- .. of the frame reader
abbrev pub FetchedHeld : Told → Held → Type 0
FetchedHeld t h = Fetched t h.recv

-- .. of the channel's receiver
abbrev pub FetchedMemory : Event → Memory → Type 0
FetchedMemory e c = FetchedEvent e c.recv

-- .. of a fixed sub-channel's
abbrev pub FetchedSub : Event → SubMemory → Type 0
FetchedSub e c = FetchedEvent e c.recv

-- .. and of a recording's
abbrev pub FetchedDeck : Event → Deck → Type 0
FetchedDeck e m = FetchedEvent e m.ear.memory.recv

-- the bytes that a call wrote, by its answer: a refused one none
abbrev pub put_by : Written → List ℕ → List ℕ
put_by (Wrote n) out = take n out
put_by (NotWritten n) out = []

abbrev pub put : Outcome → List ℕ
put o = put_by o.answer o.output

-- packets, each with an output of its own, entered as number i, i + 1, ..: what the calls write, one behind the other
abbrev pub entries_by : ℕ → List (Packet × List ℕ) → List ℕ
entries_by i [] = []
entries_by i (x ∷ xs) = put (entering i (packed x.0) x.1) ++ entries_by (suc i) xs
