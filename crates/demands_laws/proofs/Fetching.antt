-- What is fetched behind a delivery is the packet's own bytes, and the sender accepts it, whichever receiver delivers it.
-- packet-there                   behind a frame of bytes in the receive buffer
-- OwnHeld, OwnMemory, OwnSub, OwnDeck   that what stands there is the packet's own
-- plain-own, memory-own          behind a call that leaves bytes there: of the plain stream, of the channel ..
-- sub-own, deck-own              .. of a fixed sub-channel, of a recording
-- plain-fetched, memory-fetched, sub-fetched, deck-fetched  what is fetched alone
use Prim.Native.Nat.{ℕ, ◌≤◌}
use native.Mathlib.Omega.{arith}
use mathlib.Core.Path.{◌≡◌, refl, sym, ap, ◌∙◌, subst}
use mathlib.Core.Bool.{Bool, true, false}
use mathlib.Core.List.{List, ◌++◌, append_assoc}
use mathlib.Core.Option.{Option, some, none}
use lib.Dec.{eqb, ltb, leb}
use lib.ListN.{length, take, drop, get_or, length-take}
use lib.Seq.{take_all}
use borrow.Author.Tests.{ltb-false}
use Rattle.base.specs.Bytes.{IsByte, Bytes}
use Rattle.base.specs.Calls.{With, owes_none, hands_none}
use Rattle.base.specs.Choice.{pick}
use Rattle.base.proofs.Bytes.{each_take}
use Rattle.base.proofs.Calls.{none-owed, with-hear}
use Rattle.fcs.specs.Fcs.{fcs}
use Rattle.packet_spec.specs.Contents.{raw_limit, two, packed, with_check, contents}
use Rattle.packet_spec.specs.Escape.{flag, plain, scan}
use Rattle.packet_spec.specs.Frame.{Told, packet, refusal, broken, Closed, delivery, kept, judge_contents, closed_by, closed, judge}
use Rattle.packet_spec.specs.declared.Escapes.{Escapes}
use Rattle.packet_spec.specs.declared.Escapes.TheVariants.{Right, Unfinished, Wrong}
use Rattle.packet_spec.proofs.Judging.{closed-as}
use Rattle.packet_spec.proofs.Only.{judge-only}
use Rattle.stream.specs.Call.{Held, shut, take_by, take_byte, sound as sound_frame, read_by, read_call}
use Rattle.channel_spec.specs.Meaning.{Event, said, block, lost}
use Rattle.channel.specs.Call.{Memory, held_in, eat_byte, as_event, hand_on, sound, roomy, hear_by, hear_call}
use Rattle.channel.proofs.Delivery.{quiet-with, eat-quiet, heard-with}
use Rattle.subchannel.specs.Call as fixed
use Rattle.subchannel.proofs.Delivery as sub
use Rattle.listing_spec.specs.Apart.{in_stream}
use Rattle.recording.specs.Deck.{with_held, eat_by as eat_ear, ear_hand, ear_eat, Deck, deck_owes, deck_hand, byte_by, deck_eat}
use Rattle.recording.specs.Call.{near_spot, tape_by, tape_call}
use Rattle.recording.proofs.Ears.{deck-hand-one}
use Rattle.capture.specs.Export.{packed_part}
use Rattle.capture.proofs.There.{Own, packed-there, export-own, own-fetched}
use Rattle.demands_laws.specs.Captures.{FetchedEvent, FetchedHeld, FetchedMemory, FetchedSub, FetchedDeck}

-- ---- a frame of m raw bytes
judge-right : (raw : List ℕ) → length raw ≤ raw_limit → scan raw ≡ Right → judge raw ≡ judge_contents (plain raw)
unfolding judge closed_by
judge-right raw h e =
    let all : take (length raw) raw ≡ raw = take_all (length raw) raw (omega arith) in
    ap (λ (c : Closed). c.told) (closed-as raw (length raw) h Right (ap scan all ∙ e)) ∙ ap (λ (l : List ℕ). judge_contents (plain l)) all

pub packet-there : (recv : List ℕ) (m : ℕ) → Bytes recv → Own (closed recv m).told (closed recv m).recv
unfolding closed closed_by contents with_check
packet-there recv m b = go (ltb raw_limit m) refl (scan raw) refl
  where
    raw : List ℕ
    raw = take m recv

    told : m ≤ raw_limit → scan raw ≡ Right → (j : Told) → judge_contents (plain raw) ≡ j → Own j (plain raw ++ drop (length (plain raw)) recv)
    told h f (refusal n) q = tt
    told h f (broken n) q = tt
    told h f (packet p) q =
        let o = judge-only raw (each_take IsByte m recv b) p (judge-right raw (omega (arith, length-take m recv, h)) f ∙ q) in
        let r : List ℕ = drop (length (plain raw)) recv in
        let s : plain raw ++ r ≡ packed p ++ (two (fcs (packed p)) ++ r) =
        ap (λ (x : List ℕ). x ++ r) (sym o.0) ∙ append_assoc (packed p) (two (fcs (packed p))) r in
        (ap (packed_part (delivery p)) s ∙ (packed-there p o.1 (two (fcs (packed p)) ++ r)).1, o.1)

    go : (t : Bool) → ltb raw_limit m ≡ t → (s : Escapes) → scan raw ≡ s
        → Own (pick t (kept 1 recv) (closed_by s raw recv)).told (pick t (kept 1 recv) (closed_by s raw recv)).recv
    go true e s f = tt
    go false e Unfinished f = tt
    go false e (Wrong n) f = tt
    go false e Right f = told (ltb-false _ _ e) f (judge_contents (plain raw)) refl

-- ---- of an answer and the buffer that comes with it
abbrev pub OwnHeld : Told → Held → Type 0
OwnHeld t h = Bytes h.recv → Own t h.recv

abbrev OwnEvent : Event → List ℕ → Type 0
OwnEvent (said t) recv = Bytes recv → Own t recv
OwnEvent (block c) recv = Unit {0}
OwnEvent lost recv = Unit {0}

abbrev pub OwnMemory : Event → Memory → Type 0
OwnMemory e c = OwnEvent e c.recv

abbrev pub OwnSub : Event → fixed.Memory → Type 0
OwnSub e c = OwnEvent e c.recv

abbrev pub OwnDeck : Event → Deck → Type 0
OwnDeck e m = OwnEvent e m.ear.memory.recv

-- ---- the plain stream
shut-own : (z : Bool) (h : Held) → With OwnHeld (shut z h).0 (shut z h).1
shut-own true h = tt
shut-own false h = export-own h.recv h.st.raw

by-own : (t o : Bool) (h : Held) (b : ℕ) → With OwnHeld (take_by t o h b).0 (take_by t o h b).1
by-own false false h b = tt
by-own true false h b = tt
by-own false true h b = tt
by-own true true h b = shut-own (eqb h.st.raw 0) h

byte-own : (h : Held) (b : ℕ) → With OwnHeld (take_byte h b).0 (take_byte h b).1
byte-own h b = by-own (eqb b flag) h.st.opened h b

pub plain-own : (h : Held) (bs : List ℕ) → With OwnHeld (read_call h bs).0 (read_call h bs).2
plain-own h bs = go (sound_frame h.st) (leb raw_limit (length h.recv))
  where
    go : (s r : Bool) → With OwnHeld (read_by s r h bs).0 (read_by s r h bs).2
    go false r = λ b. tt
    go true false = λ b. tt
    go true true = with-hear owes_none hands_none take_byte none-owed OwnHeld (λ g. tt) byte-own h bs

-- ---- the channel: the frame reader's answers are passed on with the buffer
eat-own : (c : Memory) (b : ℕ) → With OwnMemory (eat_byte c b).0 (eat_byte c b).1
eat-own c b = quiet-with OwnMemory (λ x d. tt) (λ d. tt) (eat_byte c b).0 (eat_byte c b).1 (eat-quiet c b)

passed_on : (o : Option Told) (h : Held) (d : Memory) → With OwnHeld o h → d.recv ≡ h.recv → With OwnMemory (as_event o) d
passed_on none h d w e = tt
passed_on (some a) h d w e = subst (λ (l : List ℕ). Bytes l → Own a l) (sym e) w

hand-own : (c : Memory) → With OwnMemory (hand_on c).0 (hand_on c).1
hand-own c =
    let b = get_or c.word c.st.lock.handed 0 in
    passed_on (take_byte (held_in c) b).0 (take_byte (held_in c) b).1 (hand_on c).1 (byte-own (held_in c) b) refl

pub memory-own : (c : Memory) (bs : List ℕ) → With OwnMemory (hear_call c bs).0 (hear_call c bs).2
memory-own c bs = go (sound c.st) (roomy c.recv c.word)
  where
    go : (s r : Bool) → With OwnMemory (hear_by s r c bs).0 (hear_by s r c bs).2
    go false r = λ b. tt
    go true false = λ b. tt
    go true true = heard-with OwnMemory (λ x d. tt) (λ d. tt) hand-own c bs

-- ---- a fixed sub-channel: the frame reader's answers are passed on
sub-passed : (o : Option Told) (h : Held) (d : fixed.Memory) → With OwnHeld o h → d.recv ≡ h.recv → With OwnSub (as_event o) d
sub-passed none h d w e = tt
sub-passed (some a) h d w e = subst (λ (l : List ℕ). Bytes l → Own a l) (sym e) w

sub-hand : (c : fixed.Memory) → With OwnSub (fixed.hand_on c).0 (fixed.hand_on c).1
sub-hand c =
    let h : Held = fixed.held_in c in
    let b : ℕ = get_or c.word c.st.lane.counts.handed 0 in
    sub-passed (take_byte h b).0 (take_byte h b).1 (fixed.hand_on c).1 (byte-own h b) refl

pub sub-own : (c : fixed.Memory) (bs : List ℕ) → With OwnSub (fixed.hear_call c bs).0 (fixed.hear_call c bs).2
sub-own c bs = go (fixed.sound c.st) (roomy c.recv c.word)
  where
    go : (s r : Bool) → With OwnSub (fixed.hear_by s r c bs).0 (fixed.hear_by s r c bs).2
    go false r = λ b. tt
    go true false = λ b. tt
    go true true = sub.heard-with OwnSub (λ x d. tt) (λ d. tt) sub-hand c bs

-- ---- a recording: the plain stream or the channel
in-deck : (o : Option Event) (c : Memory) (m : Deck) → m.ear.memory ≡ c → With OwnMemory o c → With OwnDeck o m
in-deck none c m e w = tt
in-deck (some a) c m e w = subst (OwnMemory a) (sym e) w

byte-by : (t : Bool) (m : Deck) (b : ℕ) → With OwnMemory (eat_ear t m.ear.memory b).0 (eat_ear t m.ear.memory b).1.memory
byte-by true m b = eat-own m.ear.memory b
byte-by false m b =
    let h = held_in m.ear.memory in
    passed_on (take_byte h b).0 (take_byte h b).1 (with_held m.ear.memory (take_byte h b).1) (byte-own h b) refl

deck-byte : (t : Bool) (m : Deck) (b : ℕ) → With OwnDeck (byte_by t m b).0 (byte_by t m b).1
unfolding ear_eat
deck-byte true m b = in-deck (eat_ear m.ear.channel m.ear.memory b).0 (eat_ear m.ear.channel m.ear.memory b).1.memory
    (byte_by true m b).1 refl (byte-by m.ear.channel m b)
deck-byte false m b = tt

deck-hand : (m : Deck) → With OwnDeck (deck_hand m).0 (deck_hand m).1
unfolding ear_hand
deck-hand m = in-deck (hand_on m.ear.memory).0 (hand_on m.ear.memory).1 (deck_hand m).1 refl (hand-own m.ear.memory)

pub deck-own : (m : Deck) (bs : List ℕ) → With OwnDeck (tape_call m bs).0 (tape_call m bs).2
deck-own m bs = go (sound m.ear.memory.st) (near_spot m.spot (length bs)) (roomy m.ear.memory.recv m.ear.memory.word)
  where
    go : (s n r : Bool) → With OwnDeck (tape_by s n r m bs).0 (tape_by s n r m bs).2
    go false n r = λ b. tt
    go true false r = λ b. tt
    go true true false = λ b. tt
    go true true true =
        with-hear deck_owes deck_hand deck_eat deck-hand-one OwnDeck deck-hand (λ d b. deck-byte (in_stream d.spot.place d.spot.count) d b) m bs

-- ---- what is fetched alone
with-so : {S A : Type 0} (Q R : A → S → Type 0) (o : Option A) (s : S) → ((a : A) → Q a s → R a s) → With Q o s → With R o s
with-so Q R none s f w = tt
with-so Q R (some a) s f w = f a w

event-fetched : (e : Event) (recv : List ℕ) → OwnEvent e recv → FetchedEvent e recv
event-fetched (said t) recv w = own-fetched t recv w
event-fetched (block c) recv w = tt
event-fetched lost recv w = tt

pub plain-fetched : (h : Held) (bs : List ℕ) → With FetchedHeld (read_call h bs).0 (read_call h bs).2
plain-fetched h bs = let x = read_call h bs in with-so OwnHeld FetchedHeld x.0 x.2 (λ t. own-fetched t x.2.recv) (plain-own h bs)

pub memory-fetched : (c : Memory) (bs : List ℕ) → With FetchedMemory (hear_call c bs).0 (hear_call c bs).2
memory-fetched c bs = let x = hear_call c bs in with-so OwnMemory FetchedMemory x.0 x.2 (λ e. event-fetched e x.2.recv) (memory-own c bs)

pub sub-fetched : (c : fixed.Memory) (bs : List ℕ) → With FetchedSub (fixed.hear_call c bs).0 (fixed.hear_call c bs).2
sub-fetched c bs = let x = fixed.hear_call c bs in with-so OwnSub FetchedSub x.0 x.2 (λ e. event-fetched e x.2.recv) (sub-own c bs)

pub deck-fetched : (m : Deck) (bs : List ℕ) → With FetchedDeck (tape_call m bs).0 (tape_call m bs).2
deck-fetched m bs = let x = tape_call m bs in with-so OwnDeck FetchedDeck x.0 x.2 (λ e. event-fetched e x.2.ear.memory.recv) (deck-own m bs)
