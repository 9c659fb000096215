-- What private functions alone are promised by: what the code does with many bytes at once.
-- run_of, skipped, left_at, on_to   a run of stream bytes
-- ear_hear, EarIs, PlainIs   one call on stream bytes
-- headed               behind a byte that is none
-- TurnIs, TurnBy, CallIs, Stays, HeardIs   a turn of a call on a recording's bytes, and the call
-- AdmittedIs           refusals 10 and 11 of both calls, or none
-- passed, passed_frame, found_in, found_frame   an answer that is passed over on the way to a packet, and what is found in one that is not
-- FoundIs, SoughtIs    a call for a packet
use Rattle.std.specs.Prelude.{ℕ, ◌+◌, ◌-◌, ◌≤◌, ◌<◌, min, ◌≡◌, Bool, true, false, List, eqb, ltb, length, drop}
use Rattle.std.specs.Prelude.{Option as Maybe, Some, None, Result, Ok, Err}
use Rattle.std.proofs.Math.Option.{Option, some}
use Rattle.base.specs.Choice.{pick}
use Rattle.base.specs.declared.Refusal.{Refusal}
use Rattle.base.specs.Refusals.{number}
use Rattle.base.specs.Calls.{hear, after}
use Rattle.channel_spec.specs.Meaning.{Event, said}
use Rattle.packet_spec.specs.Frame.{refusal}
use Rattle.channel.specs.Call.{memory, sound, roomy}
use Rattle.channel_spec.specs.Answer.{answered}
use Rattle.channel.specs.declared.receiver.Receiver.{Receiver}
use Rattle.packet_spec.specs.declared.Judged.{Judged}
use Rattle.packet_spec.specs.declared.Judged.TheVariants.{Packet, Refused, Broken}
use Rattle.channel_spec.specs.declared.Answer.{Answer}
use Rattle.channel_spec.specs.declared.Answer.TheVariants.{More, Said, Block, LockLost}
use Rattle.channel.specs.declared.answer.Hearing.{Hearing as ChannelHearing}
use Rattle.listing_spec.specs.declared.Place.{Place}
use Rattle.listing_spec.specs.declared.Place.TheVariants.{Mode, Mark, Second, Low, High, Inside, Wrong}
use Rattle.listing_spec.specs.declared.Spot.{Spot}
use Rattle.listing_spec.specs.Apart.{most, next}
use Rattle.recording.specs.declared.reader.RecordingReader.{RecordingReader}
use Rattle.recording.specs.declared.reader.Hearing.{Hearing}
use Rattle.recording.specs.declared.reader.Turn.{Turn}
use Rattle.recording.specs.declared.reader.NextPacket.{NextPacket}
use Rattle.recording.specs.Found.{Found, as_found}
use Rattle.recording.specs.Found as found
use Rattle.recording.specs.Deck.{Ear, ear, ear_owes, ear_hand, ear_eat, channel_at, Deck, deck_hear}
use Rattle.recording.specs.Call.{deck_of, tape_by}
use Rattle.recording.specs.Packets.{Item, refused, packet_hear, packet_by, found_of}

-- stream bytes left in the record, this one with them
abbrev pub left_at : Place → ℕ
left_at Mode = 0
left_at Mark = 0
left_at Second = 0
left_at Low = 0
left_at (High l) = 0
left_at (Inside k) = k + 1
left_at Wrong = 0

-- how many of the next n bytes are stream bytes of this record
abbrev pub run_of : Spot → ℕ → ℕ
run_of p n = min n (min (left_at p.place) (most - p.count))

-- the place n stream bytes on
abbrev pub on_to : Place → ℕ → Place
on_to q n = pick (eqb n 0) q (pick (ltb n (left_at q)) (Inside (left_at q - n - 1)) Mark)

-- n stream bytes on
abbrev pub skipped : Spot → ℕ → Spot
skipped p n = record { place = on_to p.place n; offset = p.offset + n; count = p.count + n }

-- one call on stream bytes
abbrev pub ear_hear : Ear → List ℕ → Option Event × ℕ × Ear
ear_hear = hear ear_owes ear_hand ear_eat

-- r is its result, l and k the buffers then
abbrev pub EarIs : Bool → Option Event × ℕ × Ear → ChannelHearing → List ℕ → List ℕ → Type 0
EarIs t x r l k = (r.answer ≡ answered x.0) × (x ≡ (x.0, r.taken, ear t (memory r.receiver l k)))

-- of a plain stream: whatever the word buffer holds, it stays
abbrev pub PlainIs : Receiver → List ℕ → List ℕ → ChannelHearing → List ℕ → Type 0
PlainIs s l bs r l' = (k : List ℕ) → EarIs false (ear_hear (ear false (memory s l k)) bs) r l' k

-- behind a byte that is no stream byte
abbrev pub headed : RecordingReader → ℕ → RecordingReader
headed t b = record { spot = next t.spot b; channel = channel_at t.spot.place b t.channel; receiver = t.receiver }

-- a call with this answer, so many bytes taken and this tape
abbrev pub CallIs : Option Event × ℕ × Deck → Answer → ℕ → RecordingReader → List ℕ → List ℕ → Type 0
CallIs x a n t l k = (a ≡ answered x.0) × (x ≡ (x.0, n, deck_of t l k))

-- by: the answer with which the turn ends the call. Without one the call goes on behind it, a byte further at least
abbrev pub TurnBy : Maybe Answer → Deck → List ℕ → Turn → List ℕ → List ℕ → Type 0
TurnBy (Some a) m bs t l k = CallIs (deck_hear m bs) a t.taken t.tape l k
TurnBy None m bs t l k = (deck_hear m bs ≡ after t.taken (deck_hear (deck_of t.tape l k) (drop t.taken bs))) × (0 < t.taken)

-- what stays within its limits behind n bytes
pub record Stays (m : Deck) (bs : List ℕ) (n : ℕ) (t : RecordingReader) (l k : List ℕ) : Type 0 where
  pub within : n ≤ length bs
  pub near : t.spot.offset ≤ m.spot.offset + n
  pub sound : sound t.receiver ≡ true
  pub roomy : roomy l k ≡ true

-- a turn
abbrev pub TurnIs : Deck → List ℕ → Turn → List ℕ → List ℕ → Type 0
TurnIs m bs t l k = TurnBy t.answer m bs t l k × Stays m bs t.taken t.tape l k

-- one call
abbrev pub HeardIs : Deck → List ℕ → Hearing → List ℕ → List ℕ → Type 0
HeardIs m bs r l k = CallIs (deck_hear m bs) r.answer r.taken r.tape l k × Stays m bs r.taken r.tape l k

-- refusals 10 and 11, by: are the receiver's counts and the offset within their limits, have the buffers room. A refused call's answer is so
-- of both calls
abbrev pub AdmittedIs : Bool → Bool → Bool → Result (Unit {0}) Refusal → Type 0
AdmittedIs s n b (Ok u) = (s ≡ true) × (n ≡ true) × (b ≡ true)
AdmittedIs s n b (Err r) =
    (m : Deck) (bs : List ℕ) → (tape_by s n b m bs ≡ (some (said (refusal (number r))), 0, m))
    × (packet_by s n b m bs ≡ (some (refused (number r)), 0, m))

-- a frame that is no packet is passed over ..
abbrev pub passed_frame : Judged → Bool
passed_frame (Packet d) = false
passed_frame (Refused n) = true
passed_frame (Broken n) = true

-- .. and so is every answer but a packet and "more wanted"
abbrev pub passed : Answer → Bool
passed More = false
passed (Said j) = passed_frame j
passed (Block c) = true
passed LockLost = true

-- what is found in a frame ..
abbrev pub found_frame : Judged → Found
found_frame (Packet d) = found.Packet d
found_frame (Refused n) = found.More
found_frame (Broken n) = found.More

-- .. and in an answer that is not passed over
abbrev pub found_in : Answer → Found
found_in More = found.More
found_in (Said j) = found_frame j
found_in (Block c) = found.More
found_in LockLost = found.More

-- a call with this packet, so many bytes taken and this tape
abbrev pub FoundIs : Option Item × ℕ × Deck → NextPacket → List ℕ → List ℕ → Type 0
FoundIs x r l k = (as_found r.found ≡ found_of x.0) × (x ≡ (x.0, r.taken, deck_of r.tape l k))

-- a call for a packet, behind refusals 10 and 11
abbrev pub SoughtIs : Deck → List ℕ → NextPacket → List ℕ → List ℕ → Type 0
SoughtIs m bs r l k = FoundIs (packet_hear m bs) r l k × Stays m bs r.taken r.tape l k
