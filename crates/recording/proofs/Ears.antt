-- What the ear hears is what the receiver hears, or of a plain stream the frame reader.
-- ear-hand-one, deck-hand-one                       a move that is owed leaves one less
-- channel-hear, plain-hear                          of one call
-- channel-all, plain-all                            of a whole byte string
-- listen-..                                         as the code hears it
-- plain-fine                                        a plain stream's frame reader passes 10
use Prim.Native.Nat.{ℕ, suc, ◌≤◌}
use native.Mathlib.Omega.{arith}
use mathlib.Core.Path.{◌≡◌, refl, sym, ◌∙◌, ap, subst}
use mathlib.Core.Bool.{Bool, true, false}
use mathlib.Core.List.{List, map}
use mathlib.Core.Option.{Option, some, none}
use lib.ListN.{length}
use lib.Dec.{leb}
use borrow.Author.Tests.{leb-true}
use Rattle.base.specs.Calls.{owes_none, hands_none, all}
use Rattle.base.proofs.Calls.{none-owed}
use Rattle.base.proofs.Above.{hear-seen, all_seen}
use Rattle.base.proofs.Tests.{and_parts}
use Rattle.packet_spec.specs.Contents.{raw_limit}
use Rattle.packet_spec.specs.Frame.{Told}
use Rattle.packet_spec.specs.declared.Judged.{Judged}
use Rattle.stream.specs.Call.{Held, held, take_byte, read_all, read_on, read_call, ReadIs, sound as sound_frame, answered as heard_of}
use Rattle.stream.specs.declared.frame.Read.{Read}
use Rattle.std.specs.Prelude.{Option as Perhaps, None as NoMore, Some as Says}
use Rattle.stream.proofs.Fine.{fine_of as frame-fine}
use Rattle.stream.proofs.Cutting.{read-agrees}
use Rattle.channel_spec.specs.Meaning.{said}
use Rattle.channel.specs.Call.{Memory, memory, held_in, owed, hand_on, eat_byte, as_event, hear_all, hear_on, hear_call, HearingIs, sound, roomy}
use Rattle.channel_spec.specs.Answer.{answered}
use Rattle.channel.specs.declared.receiver.Receiver.{Receiver}
use Rattle.channel.specs.declared.answer.Hearing.{Hearing}
use Rattle.channel_spec.specs.declared.Answer.{Answer}
use Rattle.channel_spec.specs.declared.Answer.TheVariants.{More, Said}
use Rattle.channel.proofs.Fine.{fine_of}
use Rattle.channel.proofs.Cutting.{hand-one, hear-agrees}
use Rattle.recording.specs.Deck.{Ear, ear, with_held, owes_by, ear_owes, ear_hand, ear_eat, Deck, deck_owes, deck_hand}
use Rattle.recording.specs.Private.{ear_hear, EarIs, PlainIs}

-- a move that is owed leaves one less
hand-one-by : (t : Bool) (c : Memory) (n : ℕ) → owes_by t c ≡ suc n → owes_by t (hand_on c).1 ≡ n
hand-one-by true c n e = hand-one c n e
hand-one-by false c n e = absurd (omega arith)

pub ear-hand-one : (d : Ear) (n : ℕ) → ear_owes d ≡ suc n → ear_owes (ear_hand d).1 ≡ n
unfolding ear_owes ear_hand
ear-hand-one d n e = hand-one-by d.channel d.memory n e

pub deck-hand-one : (m : Deck) (n : ℕ) → deck_owes m ≡ suc n → deck_owes (deck_hand m).1 ≡ n
deck-hand-one m n e = ear-hand-one m.ear n e

-- ---- the opportunistic channel
abbrev on_channel : Memory → Ear
on_channel c = ear true c

channel-pend : (c : Memory) → ear_owes (on_channel c) ≡ owed c
unfolding ear_owes
channel-pend c = refl

channel-hand : (c : Memory) (n : ℕ) → owed c ≡ suc n → ear_hand (on_channel c) ≡ ((hand_on c).0, on_channel (hand_on c).1)
unfolding ear_hand
channel-hand c n e = refl

channel-eat : (c : Memory) (b : ℕ) → ear_eat (on_channel c) b ≡ ((eat_byte c b).0, on_channel (eat_byte c b).1)
unfolding ear_eat
channel-eat c b = refl

pub channel-hear : (c : Memory) (bs : List ℕ) → ear_hear (ear true c) bs ≡ ((hear_on c bs).0, (hear_on c bs).1, ear true (hear_on c bs).2)
channel-hear c bs =
    hear-seen owed hand_on eat_byte hand-one ear_owes ear_hand ear_eat ear-hand-one on_channel (λ a. a) (λ o. o) (λ l. l) refl (λ a. refl) refl (λ a xs. refl)
    channel-pend channel-hand channel-eat c bs

pub channel-all : (c : Memory) (bs : List ℕ) → all ear_owes ear_hand ear_eat (ear true c) bs ≡ ((hear_all c bs).0, ear true (hear_all c bs).1)
channel-all c bs =
    all_seen owed hand_on eat_byte hand-one ear_owes ear_hand ear_eat ear-hand-one on_channel (λ a. a) (λ o. o) (λ l. l) refl (λ a. refl) refl (λ a xs. refl)
    channel-pend channel-hand channel-eat c bs

-- ---- a plain stream
module _ (c : Memory) where
  abbrev plain : Held → Ear
  plain h = ear false (with_held c h)

  plain-pend : (h : Held) → ear_owes (plain h) ≡ owes_none h
  unfolding ear_owes
  plain-pend h = refl

  plain-hand : (h : Held) (n : ℕ) → owes_none h ≡ suc n → ear_hand (plain h) ≡ (as_event (hands_none h).0, plain h)
  plain-hand h n e = absurd (omega arith)

  plain-eat : (h : Held) (b : ℕ) → ear_eat (plain h) b ≡ (as_event (take_byte h b).0, plain (take_byte h b).1)
  unfolding ear_eat
  plain-eat h b = refl

  pub plain-hear : (bs : List ℕ)
      → ear_hear (ear false c) bs ≡ (as_event (read_on (held_in c) bs).0, (read_on (held_in c) bs).1, ear false (with_held c (read_on (held_in c) bs).2))
  plain-hear bs =
      hear-seen owes_none hands_none take_byte none-owed ear_owes ear_hand ear_eat ear-hand-one plain said as_event (map said) refl (λ a. refl) refl
      (λ a xs. refl)
      plain-pend plain-hand plain-eat (held_in c) bs

  pub plain-all : (bs : List ℕ)
      → all ear_owes ear_hand ear_eat (ear false c) bs ≡ (map said (read_all (held_in c) bs).0, ear false (with_held c (read_all (held_in c) bs).1))
  plain-all bs =
      all_seen owes_none hands_none take_byte none-owed ear_owes ear_hand ear_eat ear-hand-one plain said as_event (map said) refl (λ a. refl) refl
      (λ a xs. refl)
      plain-pend plain-hand plain-eat (held_in c) bs

-- ---- as the code hears it
pub listen-channel : (c : Memory) (bs : List ℕ) {r : Hearing} {l k : List ℕ} → sound c.st ≡ true → roomy c.recv c.word ≡ true
    → HearingIs (hear_call c bs) r l k → EarIs true (ear_hear (ear true c) bs) r l k
listen-channel c bs {r} {l} {k} s q h =
    let j : HearingIs (hear_on c bs) r l k = subst (λ x. HearingIs x r l k) (hear-agrees c bs (fine_of c s q)) h in
    subst (λ x. EarIs true x r l k) (sym (channel-hear c bs)) (
      ap (λ x. x.answer) j.0,
      λ i. ((hear_on c bs).0, (sym j.0 i).taken, ear true (memory (sym j.0 i).receiver (sym j.1 i) (sym j.2 i))),
    )

-- the same, by: is it the channel
pub listen-on : (t : Bool) (c : Memory) (bs : List ℕ) {r : Hearing} {l k : List ℕ} → t ≡ true → sound c.st ≡ true → roomy c.recv c.word ≡ true
    → HearingIs (hear_call c bs) r l k → EarIs t (ear_hear (ear t c) bs) r l k
listen-on t c bs {r} {l} {k} e s q h = subst (λ (u : Bool). EarIs u (ear_hear (ear u c) bs) r l k) (sym e) (listen-channel c bs s q h)

pub listen-off : (t : Bool) (s : Receiver) (l k bs : List ℕ) {r : Hearing} {l' : List ℕ} → t ≡ false → PlainIs s l bs r l'
    → EarIs t (ear_hear (ear t (memory s l k)) bs) r l' k
listen-off t s l k bs {r} {l'} e h = subst (λ (u : Bool). EarIs u (ear_hear (ear u (memory s l k)) bs) r l' k) (sym e) (h k)

-- what a plain stream asks is among what the channel asks
pub plain-fine : (s : Receiver) (l k : List ℕ) → sound s ≡ true → roomy l k ≡ true → (sound_frame s.frame ≡ true) × (raw_limit ≤ length l)
plain-fine s l k a b = ((and_parts _ _ a).0, leb-true _ _ (and_parts (leb raw_limit (length l)) _ b).0)

-- what tells the frame reader's answers apart
abbrev heard_tag : Perhaps Judged → ℕ
heard_tag NoMore = 0
heard_tag (Says j) = 1

-- a plain stream's answer, as the channel's
heard-more : (o : Option Told) → heard_of o ≡ NoMore → More ≡ answered (as_event o)
heard-more none e = refl
heard-more (some t) e = absurd (omega (arith, ap heard_tag e))

heard-said : (o : Option Told) (j : Judged) → heard_of o ≡ Says j → Said j ≡ answered (as_event o)
heard-said none j e = absurd (omega (arith, ap heard_tag e))
heard-said (some t) j e = ap (λ (x : Perhaps Judged). answer_of x) (sym e)
  where
    answer_of : Perhaps Judged → Answer
    answer_of NoMore = More
    answer_of (Says i) = Said i

module _ (s : Receiver) (bs l : List ℕ) {read : Read} {l' : List ℕ} (fine : sound_frame s.frame ≡ true) (room : raw_limit ≤ length l)
    (h : ReadIs (read_call (held s.frame l) bs) read l') where
  abbrev kept : Receiver
  kept = record { locked = s.locked; hunting = s.hunting; lock = s.lock; frame = read.frame }

  listen-plain : (a : Answer) → a ≡ answered (as_event (read_on (held s.frame l) bs).0)
      → PlainIs s l bs (record { answer = a; taken = read.taken; receiver = kept }) l'
  listen-plain a e k =
      let x : Option Told × ℕ × Held = read_on (held s.frame l) bs in
      let j : ReadIs x read l' = subst (λ y. ReadIs y read l') (read-agrees (held s.frame l) bs (frame-fine s.frame l fine room)) h in
      subst (λ y. EarIs false y (record { answer = a; taken = read.taken; receiver = kept }) l' k) (sym (plain-hear (memory s l k) bs)) (
        e,
        λ i. (
          as_event x.0,
          (sym j.0 i).taken,
          ear false (memory (record { locked = s.locked; hunting = s.hunting; lock = s.lock; frame = (sym j.0 i).frame }) (sym j.1 i) k),
        ),
      )

  says : read.heard ≡ heard_of (read_on (held s.frame l) bs).0
  says =
      ap (λ x. x.heard) h.0 ∙ ap (λ (y : Option Told × ℕ × Held). heard_of y.0) (read-agrees (held s.frame l) bs (frame-fine s.frame l fine room))

  pub listen-more : read.heard ≡ NoMore → PlainIs s l bs (record { answer = More; taken = read.taken; receiver = kept }) l'
  listen-more e = listen-plain More (heard-more (read_on (held s.frame l) bs).0 (sym says ∙ e))

  pub listen-said : (j : Judged) → read.heard ≡ Says j → PlainIs s l bs (record { answer = Said j; taken = read.taken; receiver = kept }) l'
  listen-said j e = listen-plain (Said j) (heard-said (read_on (held s.frame l) bs).0 j (sym says ∙ e))
