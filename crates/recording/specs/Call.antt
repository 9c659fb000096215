-- A recording's bytes by calls (paper 01, "The listing program", "Numbered refusals"): the tape, which is the state of a recording's
-- reader (`RecordingReader`), and the two lent buffers go in and come back, and one call gives at most one answer.
-- fresh_tape            before the first byte
-- deck_of, tape_of       the deck of a tape and the buffers lent, and a deck's tape
-- is_more               that an answer is "more wanted"
-- far, near_spot        the highest offset, and that n bytes more do not pass it
-- tape_call, tape_by, heard_of, NextIs   one call, and that the code's results are those
-- EveryCut             a recording, cut in every way
-- ThereDeck            that a delivered payload and its key stand in the receive buffer
use Rattle.std.specs.Prelude.{ℕ, ◌-◌, ◌≤◌, ◌≡◌, Bool, true, false, List, leb, length}
use Rattle.std.proofs.Math.Option.{Option, some}
use Rattle.base.specs.Calls.{joined, Yields}
use Rattle.base.specs.Highest.{highest}
use Rattle.packet_spec.specs.Contents.{raw_limit}
use Rattle.packet_spec.specs.Frame.{refusal}
use Rattle.channel_spec.specs.Sender.{word_bytes}
use Rattle.channel_spec.specs.Meaning.{Event, said}
use Rattle.channel.specs.Call.{memory, sound, roomy, fresh_receiver, ThereEvent}
use Rattle.channel_spec.specs.Answer.{answered}
use Rattle.channel_spec.specs.declared.Answer.{Answer}
use Rattle.channel_spec.specs.declared.Answer.TheVariants.{More, Said, Block, LockLost}
use Rattle.listing_spec.specs.declared.Spot.{Spot}
use Rattle.listing_spec.specs.Apart.{fresh_spot}
use Rattle.recording.specs.declared.reader.RecordingReader.{RecordingReader}
use Rattle.recording.specs.declared.reader.Hearing.{Hearing}
use Rattle.recording.specs.Deck.{ear, Deck, deck, fresh, deck_hear}

-- numbers are below 2^64
abbrev pub far : ℕ
far = highest

-- before the first byte
abbrev pub fresh_tape : RecordingReader
fresh_tape = record { spot = fresh_spot; channel = false; receiver = fresh_receiver }

-- the deck of a tape and the buffers lent ..
abbrev pub deck_of : RecordingReader → List ℕ → List ℕ → Deck
deck_of t recv word = deck t.spot (ear t.channel (memory t.receiver recv word))

-- .. and a deck's tape
abbrev pub tape_of : Deck → RecordingReader
tape_of m = record { spot = m.spot; channel = m.ear.channel; receiver = m.ear.memory.st }

-- "more wanted"
abbrev pub is_more : Answer → Bool
is_more More = true
is_more (Said j) = false
is_more (Block c) = false
is_more LockLost = false

-- on n bytes the offset cannot pass its width
abbrev pub near_spot : Spot → ℕ → Bool
near_spot p n = leb p.offset (far - n)

-- by: does it pass 10 (the receiver's counts, and the offset), does it pass 11 (the buffers)
abbrev pub tape_by : Bool → Bool → Bool → Deck → List ℕ → Option Event × ℕ × Deck
tape_by false n b m bs = (some (said (refusal 10)), 0, m)
tape_by true false b m bs = (some (said (refusal 10)), 0, m)
tape_by true true false m bs = (some (said (refusal 11)), 0, m)
tape_by true true true m bs = deck_hear m bs

-- one call: the answer (none: "more wanted"), the bytes taken, the deck. Which stream it is comes in with the bytes: both buffers are
-- measured of a plain stream too
abbrev pub tape_call : Deck → List ℕ → Option Event × ℕ × Deck
tape_call m bs = tape_by (sound m.ear.memory.st) (near_spot m.spot (length bs)) (roomy m.ear.memory.recv m.ear.memory.word) m bs

-- the code's result of a call
abbrev pub heard_of : Option Event × ℕ × Deck → Hearing
heard_of x = record { answer = answered x.0; taken = x.1; tape = tape_of x.2 }

-- r is the result, l the receive buffer and k the word buffer of a call
abbrev pub NextIs : Option Event × ℕ × Deck → Hearing → List ℕ → List ℕ → Type 0
NextIs x r l k = (r ≡ heard_of x) × (l ≡ x.2.ear.memory.recv) × (k ≡ x.2.ear.memory.word)

-- a recording is heard from its first byte on, cut in every way, with all buffers that pass 11: the calls come to their end, and P holds of
-- their answers, and of the deck behind them
abbrev pub EveryCut : List ℕ → (List Event → Deck → Type 0) → Type 0
EveryCut file P =
    (recv word : List ℕ) → raw_limit ≤ length recv → word_bytes ≤ length word →
    (pieces : List (List ℕ)) → joined pieces ≡ file → Yields tape_call (fresh recv word) pieces P

-- a delivered payload and its key stand in the receive buffer that comes back
abbrev pub ThereDeck : Event → Deck → Type 0
ThereDeck e m = ThereEvent e m.ear.memory
