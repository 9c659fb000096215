-- deck-hand-there, deck-eat-there   a delivered payload is the part of the receive buffer that a call of its own hands out: behind one move ..
-- payload-next                      .. and behind a call
use Prim.Native.Nat.{ℕ}
use mathlib.Core.Bool.{Bool, true, false}
use mathlib.Core.List.{List}
use mathlib.Core.Option.{Option, some, none}
use lib.ListN.{length}
use Rattle.base.specs.Calls.{With}
use Rattle.base.proofs.Calls.{with-hear}
use Rattle.stream.specs.Call.{take_byte}
use Rattle.stream.proofs.Delivery.{there-byte}
use Rattle.channel_spec.specs.Meaning.{Event}
use Rattle.channel.specs.Call.{Memory, held_in, sound, roomy, ThereEvent}
use Rattle.channel.proofs.Delivery.{there-as, hand-there, eat-there}
use Rattle.listing_spec.specs.Apart.{in_stream}
use Rattle.recording.specs.Deck.{with_held, eat_by, ear_hand, ear_eat, Deck, deck_owes, deck_hand, byte_by, deck_eat}
use Rattle.recording.specs.Call.{near_spot, tape_by, tape_call, ThereDeck}
use Rattle.recording.proofs.Ears.{deck-hand-one}

there-ear : (t : Bool) (c : Memory) (b : ℕ) → With ThereEvent (eat_by t c b).0 (eat_by t c b).1.memory
there-ear true c b = eat-there c b
there-ear false c b = there-as (take_byte (held_in c) b).0 (with_held c (take_byte (held_in c) b).1) (there-byte (held_in c) b)

there-byte-by : (t : Bool) (m : Deck) (b : ℕ) → With ThereEvent (byte_by t m b).0 (byte_by t m b).1.ear.memory
unfolding ear_eat
there-byte-by true m b = there-ear m.ear.channel m.ear.memory b
there-byte-by false m b = tt

pub deck-hand-there : (m : Deck) → With ThereEvent (deck_hand m).0 (deck_hand m).1.ear.memory
unfolding ear_hand
deck-hand-there m = hand-there m.ear.memory

pub deck-eat-there : (m : Deck) (b : ℕ) → With ThereEvent (deck_eat m b).0 (deck_eat m b).1.ear.memory
deck-eat-there m b = there-byte-by (in_stream m.spot.place m.spot.count) m b

there-deck : (o : Option Event) (m : Deck) → With ThereEvent o m.ear.memory → With ThereDeck o m
there-deck none m t = tt
there-deck (some e) m t = t

there-by-call : (s n r : Bool) (m : Deck) (bs : List ℕ) → With ThereDeck (tape_by s n r m bs).0 (tape_by s n r m bs).2
there-by-call false n r m bs = tt
there-by-call true false r m bs = tt
there-by-call true true false m bs = tt
there-by-call true true true m bs =
    with-hear deck_owes deck_hand deck_eat deck-hand-one ThereDeck (λ d. there-deck (deck_hand d).0 (deck_hand d).1 (deck-hand-there d))
    (λ d b. there-deck (deck_eat d b).0 (deck_eat d b).1 (deck-eat-there d b)) m bs

-- a delivered payload is the part of the receive buffer that a call of its own hands out
pub payload-next : (m : Deck) (bs : List ℕ) → With ThereDeck (tape_call m bs).0 (tape_call m bs).2
payload-next m bs = there-by-call (sound m.ear.memory.st) (near_spot m.spot (length bs)) (roomy m.ear.memory.recv m.ear.memory.word) m bs
