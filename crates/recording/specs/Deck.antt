-- A recording as it is taken, byte by byte (paper 01, "The listing program"): a reader of its bytes, in the sense of base/specs/Calls.
-- Ear                           which stream it is, and the receiver that hears it
-- with_held, plainly, owes_by, eat_by, begun   of a plain stream the frame reader's, of the channel the receiver's
-- ear_owes, ear_hand, ear_eat      a stream byte as it is heard
-- Deck, deck, fresh             where the taking apart stands, and the ear
-- deck_owes, deck_hand, deck_eat, byte_by, channel_at   a byte of the recording; the first says which stream it is
-- deck_all, deck_hear             all its bytes, and one call
use Rattle.std.specs.Prelude.{ℕ, Bool, true, false, List, eqb}
use Rattle.std.proofs.Math.Option.{Option, none}
use Rattle.base.specs.Calls.{all, hear}
use Rattle.packet_spec.specs.Frame.{Told}
use Rattle.stream.specs.Call.{Held, take_byte}
use Rattle.channel_spec.specs.Meaning.{Event}
use Rattle.channel.specs.Call.{Memory, memory, held_in, owed, hand_on, eat_byte, as_event, fresh_receiver}
use Rattle.listing_spec.specs.declared.Place.{Place}
use Rattle.listing_spec.specs.declared.Place.TheVariants.{Mode, Mark, Second, Low, High, Inside, Wrong}
use Rattle.listing_spec.specs.declared.Spot.{Spot}
use Rattle.listing_spec.specs.Apart.{fresh_spot, next, in_stream}

-- which stream it is, and the receiver with its buffers; of a plain stream its frame reader hears
pub record Ear : Type 0 where
  pub channel : Bool
  pub memory : Memory

-- the ear of these
abbrev pub ear : Bool → Memory → Ear
ear t c = record { channel = t; memory = c }

-- a frame reader put back into the receiver
abbrev pub with_held : Memory → Held → Memory
with_held c h = memory (record { locked = c.st.locked; hunting = c.st.hunting; lock = c.st.lock; frame = h.st }) h.recv c.word

-- what the frame reader says of a byte
abbrev pub plainly : Option Told × Held → Memory → Option Event × Ear
plainly r c = (as_event r.0, ear false (with_held c r.1))

-- moves owed, by: is it the opportunistic channel
abbrev pub owes_by : Bool → Memory → ℕ
owes_by true c = owed c
owes_by false c = 0

-- a stream byte, by: is it the opportunistic channel
abbrev pub eat_by : Bool → Memory → ℕ → Option Event × Ear
eat_by true c b = ((eat_byte c b).0, ear true (eat_byte c b).1)
eat_by false c b = plainly (take_byte (held_in c) b) c

-- moves that the ear owes
unfoldable pub ear_owes : Ear → ℕ
ear_owes d = owes_by d.channel d.memory

-- one of them
unfoldable pub ear_hand : Ear → Option Event × Ear
ear_hand d = ((hand_on d.memory).0, ear d.channel (hand_on d.memory).1)

-- a stream byte
unfoldable pub ear_eat : Ear → ℕ → Option Event × Ear
ear_eat d b = eat_by d.channel d.memory b

-- where the taking apart stands, and the ear
pub record Deck : Type 0 where
  pub spot : Spot
  pub ear : Ear

-- the deck of these
abbrev pub deck : Spot → Ear → Deck
deck p d = record { spot = p; ear = d }

-- before the first byte, with these buffers
abbrev pub fresh : List ℕ → List ℕ → Deck
fresh recv word = deck fresh_spot (ear false (memory fresh_receiver recv word))

-- the first byte says which stream it is; no other byte changes that
abbrev pub channel_at : Place → ℕ → Bool → Bool
channel_at Mode b t = eqb b 0x4F
channel_at Mark b t = t
channel_at Second b t = t
channel_at Low b t = t
channel_at (High l) b t = t
channel_at (Inside k) b t = t
channel_at Wrong b t = t

-- the ear behind a byte that is no stream byte
abbrev pub begun : Place → ℕ → Ear → Ear
begun q b d = ear (channel_at q b d.channel) d.memory

-- moves owed are the ear's
abbrev pub deck_owes : Deck → ℕ
deck_owes m = ear_owes m.ear

-- one of them; the recording stands where it stood
abbrev pub deck_hand : Deck → Option Event × Deck
deck_hand m = ((ear_hand m.ear).0, deck m.spot (ear_hand m.ear).1)

-- a byte of the recording, by: is it a stream byte
abbrev pub byte_by : Bool → Deck → ℕ → Option Event × Deck
byte_by true m b = ((ear_eat m.ear b).0, deck (next m.spot b) (ear_eat m.ear b).1)
byte_by false m b = (none, deck (next m.spot b) (begun m.spot.place b m.ear))

-- a byte of the recording
abbrev pub deck_eat : Deck → ℕ → Option Event × Deck
deck_eat m b = byte_by (in_stream m.spot.place m.spot.count) m b

-- bytes of a recording: their answers, and the deck behind them
abbrev pub deck_all : Deck → List ℕ → List Event × Deck
deck_all = all deck_owes deck_hand deck_eat

-- one call: the answer (none: "more wanted"), the bytes taken, the deck
abbrev pub deck_hear : Deck → List ℕ → Option Event × ℕ × Deck
deck_hear = hear deck_owes deck_hand deck_eat
