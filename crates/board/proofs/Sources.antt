-- What comes in is heard as the receiver hears it, or the tape.
-- source-hand-one          a move leaves one less
-- hear-bare, hear-taped    a call is the receiver's, or the tape's
-- all-bare, all-taped      so are all answers
-- source-there             a delivered payload stands in the receive buffer
-- ThereIn                  that, of a source
use Prim.Native.Nat.{ℕ, suc}
use mathlib.Core.Path.{◌≡◌, refl}
use mathlib.Core.Bool.{Bool, true, false}
use mathlib.Core.List.{List}
use mathlib.Core.Option.{Option, some, none}
use Rattle.base.specs.Calls.{With}
use Rattle.base.proofs.Calls.{with-hear}
use Rattle.base.proofs.Above.{hear-seen, all_seen}
use Rattle.channel_spec.specs.Meaning.{Event}
use Rattle.channel.specs.Call.{Memory, owed, hand_on, eat_byte, hear_on, hear_all, ThereEvent}
use Rattle.channel.proofs.Cutting.{hand-one}
use Rattle.channel.proofs.Delivery.{hand-there, eat-there}
use Rattle.recording.specs.Deck.{Deck, deck_owes, deck_hand, deck_eat, deck_all, deck_hear}
use Rattle.recording.proofs.Ears.{deck-hand-one}
use Rattle.recording.proofs.Delivery.{deck-hand-there, deck-eat-there}
use Rattle.board.specs.Source.{Source, source, memory_in, with_memory, owes_by, hand_by, eat_by, source_owes, source_hand, source_eat, source_all, source_hear}

one-by : (b : Bool) (m : Deck) (n : ℕ) → owes_by b m ≡ suc n → source_owes (hand_by b m).1 ≡ n
unfolding source_owes
one-by true m n e = hand-one (memory_in m) n e
one-by false m n e = deck-hand-one m n e

pub source-hand-one : (s : Source) (n : ℕ) → source_owes s ≡ suc n → source_owes (source_hand s).1 ≡ n
unfolding source_owes source_hand
source-hand-one s n e = one-by s.bare s.deck n e

-- a call, and all answers: bare bytes ..
module _ (m : Deck) where
  pub hear-bare : (bs : List ℕ)
      → source_hear (source true m) bs ≡ ((hear_on (memory_in m) bs).0, (hear_on (memory_in m) bs).1, source true (with_memory m (hear_on (memory_in m) bs).2))
  unfolding source_owes source_hand source_eat
  hear-bare =
      hear-seen owed hand_on eat_byte hand-one source_owes source_hand source_eat source-hand-one (λ (c : Memory). source true (with_memory m c))
      (λ (a : Event). a)
      (λ o. o)
      (λ l. l) refl (λ a. refl) refl (λ a xs. refl) (λ c. refl) (λ c n e. refl) (λ c b. refl) (memory_in m)

  pub all-bare : (bs : List ℕ) → source_all (source true m) bs ≡ ((hear_all (memory_in m) bs).0, source true (with_memory m (hear_all (memory_in m) bs).1))
  unfolding source_owes source_hand source_eat
  all-bare =
      all_seen owed hand_on eat_byte hand-one source_owes source_hand source_eat source-hand-one (λ (c : Memory). source true (with_memory m c))
      (λ (a : Event). a)
      (λ o. o)
      (λ l. l) refl (λ a. refl) refl (λ a xs. refl) (λ c. refl) (λ c n e. refl) (λ c b. refl) (memory_in m)

-- .. and a recording's
pub hear-taped : (m : Deck) (bs : List ℕ) → source_hear (source false m) bs ≡ ((deck_hear m bs).0, (deck_hear m bs).1, source false (deck_hear m bs).2)
unfolding source_owes source_hand source_eat
hear-taped =
    hear-seen deck_owes deck_hand deck_eat deck-hand-one source_owes source_hand source_eat source-hand-one (source false) (λ (a : Event). a) (λ o. o)
    (λ l. l) refl (λ a. refl) refl (λ a xs. refl) (λ c. refl) (λ c n e. refl) (λ c b. refl)

pub all-taped : (m : Deck) (bs : List ℕ) → source_all (source false m) bs ≡ ((deck_all m bs).0, source false (deck_all m bs).1)
unfolding source_owes source_hand source_eat
all-taped =
    all_seen deck_owes deck_hand deck_eat deck-hand-one source_owes source_hand source_eat source-hand-one (source false) (λ (a : Event). a) (λ o. o)
    (λ l. l) refl (λ a. refl) refl (λ a xs. refl) (λ c. refl) (λ c n e. refl) (λ c b. refl)

-- a delivered payload stands in the receive buffer
abbrev pub ThereIn : Event → Source → Type 0
ThereIn e s = ThereEvent e (memory_in s.deck)

with-source : (o : Option Event) (s : Source) → With ThereEvent o (memory_in s.deck) → With ThereIn o s
with-source none s t = tt
with-source (some e) s t = t

hand-by : (b : Bool) (m : Deck) → With ThereIn (hand_by b m).0 (hand_by b m).1
hand-by true m = with-source (hand_on (memory_in m)).0 (hand_by true m).1 (hand-there (memory_in m))
hand-by false m = with-source (deck_hand m).0 (hand_by false m).1 (deck-hand-there m)

eat-by : (t : Bool) (m : Deck) (b : ℕ) → With ThereIn (eat_by t m b).0 (eat_by t m b).1
eat-by true m b = with-source (eat_byte (memory_in m) b).0 (eat_by true m b).1 (eat-there (memory_in m) b)
eat-by false m b = with-source (deck_eat m b).0 (eat_by false m b).1 (deck-eat-there m b)

pub source-there : (s : Source) (bs : List ℕ) → With ThereIn (source_hear s bs).0 (source_hear s bs).2
unfolding source_hand source_eat
source-there =
    with-hear source_owes source_hand source_eat source-hand-one ThereIn (λ s. hand-by s.bare s.deck) (λ s b. eat-by s.bare s.deck b)
