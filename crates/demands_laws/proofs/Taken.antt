-- The refusals of a call on a recording, 10 and 11: on its bytes, for its next packet, and where it is listed.
-- next-exact, packet-exact, take_exact   row by row
-- next-same, packet-same, take_same      with nothing taken or printed, and state and buffers as they were
-- next-given                             the numbers that are given
use Prim.Native.Nat.{ℕ, ◌-◌, ◌≤◌, ◌<◌}
use native.Mathlib.Omega.{arith}
use mathlib.Core.Path.{◌≡◌, refl, sym, ap, subst, ◌∙◌}
use mathlib.Core.Bool.{Bool, true, false, ◌&&◌}
use mathlib.Core.Logic.{◌⊎◌, ◌↔◌, ⊎_elim}
use mathlib.Core.Logic.◌⊎◌.{inl, inr}
use mathlib.Core.List.{List, [], ◌∷◌}
use mathlib.Core.Option.{Option, some, none}
use lib.Dec.{leb}
use lib.ListN.{length}
use borrow.Author.Tests.{leb-false}
use Rattle.base.specs.Calls.{With}
use Rattle.base.proofs.Calls.{with-hear}
use Rattle.base.proofs.Tests.{and_parts}
use Rattle.packet_spec.specs.Frame.{Told, packet, refusal, broken}
use Rattle.stream.specs.Call.{take_byte}
use Rattle.channel_spec.specs.Meaning.{Event, said, block, lost}
use Rattle.channel.proofs.Delivery.{quiet-with, eat-quiet}
use Rattle.channel.specs.Call.{Memory, held_in, hand_on, eat_byte, sound, roomy}
use Rattle.listing_spec.specs.declared.Spot.{Spot}
use Rattle.listing_spec.specs.Apart.{in_stream}
use Rattle.recording.specs.Deck.{eat_by, ear_hand, ear_eat, Deck, deck_owes, deck_hand, byte_by, deck_eat, deck_hear}
use Rattle.recording.specs.Call.{far, near_spot, tape_by, tape_call}
use Rattle.recording.specs.Sift.{sifted}
use Rattle.recording.specs.Packets.{Item, delivered, refused, packet_in, packet_hand, packet_eat, packet_hear, packet_by, packet_call}
use Rattle.recording.proofs.Ears.{deck-hand-one}
use Rattle.listing_lines.specs.declared.totals.Totals.{Totals}
use Rattle.listing.specs.Wants.{Refused}
use Rattle.listing.specs.Call.{printed, near_totals, near, takes_by, takes}
use Rattle.listing.proofs.Ends.{print-not}
use Rattle.demands_laws.specs.Table.{Exact}
use Rattle.demands_laws.specs.Refusals.{NextBeyond, TapeBeyond, Short, OfCall, ByFrame, ByNext, ByPacket, ByTake}
use Rattle.demands_laws.proofs.Rows.{applies, over, passed, not-both}
use Rattle.demands_laws.proofs.Called.{not-most, beyond, within, short, long, SmallEvent, small-byte}
use Rattle.demands_laws.proofs.Called.{small-as, small-hand, event-only, Given, number-given}

-- ---- numbers near their width
module _ (t : Totals) (room : ℕ) where
  abbrev Far : Type 0
  Far = (far - room < t.packets) ⊎ (far - room < t.refused) ⊎ (far - room < t.damaged) ⊎ (far - room < t.lost)

  abbrev tests : Bool × Bool × Bool × Bool
  tests = (leb t.packets (far - room), leb t.refused (far - room), leb t.damaged (far - room), leb t.lost (far - room))

  totals-far : near_totals t room ≡ false → Far
  totals-far e =
      ⊎_elim (λ h. inl (leb-false _ _ h))
      (λ h. inr (⊎_elim (λ k. inl (leb-false _ _ k))
      (λ k. inr (⊎_elim (λ l. inl (leb-false _ _ l)) (λ l. inr (leb-false _ _ l)) (not-both tests.2 tests.3 k)))
      (not-both tests.1 (tests.2 && tests.3) h)))
      (not-both tests.0 (tests.1 && (tests.2 && tests.3)) e)

  totals-near : near_totals t room ≡ true → Far → ⊥
  totals-near e =
      let a = and_parts tests.0 (tests.1 && (tests.2 && tests.3)) e in
      let b = and_parts tests.1 (tests.2 && tests.3) a.1 in
      let c = and_parts tests.2 tests.3 b.1 in
      ⊎_elim (not-most _ _ a.0) (⊎_elim (not-most _ _ b.0) (⊎_elim (not-most _ _ c.0) (not-most _ _ c.1)))

module _ (p : Spot) (t : Totals) (n room : ℕ) where
  all-far : near p t n room ≡ false → (far - n < p.offset) ⊎ Far t room
  all-far e = ⊎_elim (λ h. inl (leb-false _ _ h)) (λ h. inr (totals-far t room h)) (not-both (leb p.offset (far - n)) (near_totals t room) e)

  all_near : near p t n room ≡ true → (far - n < p.offset) ⊎ Far t room → ⊥
  all_near e =
      let a = and_parts (leb p.offset (far - n)) (near_totals t room) e in
      ⊎_elim (not-most _ _ a.0) (totals-near t room a.1)

-- ---- the call on its bytes: a frame's numbers are no call's
small-in : {S T : Type 0} (o : Option Event) (s : S) (t : T) → With SmallEvent o s → With SmallEvent o t
small-in none s t w = tt
small-in (some (said x)) s t w = w
small-in (some (block x)) s t w = tt
small-in (some lost) s t w = tt

small-stream : (t : Bool) (c : Memory) (b : ℕ) → With SmallEvent (eat_by t c b).0 (eat_by t c b).1
small-stream true c b = quiet-with SmallEvent (λ x s. tt) (λ s. tt) (eat_byte c b).0 (eat_by true c b).1 (eat-quiet c b)
small-stream false c b = let r = take_byte (held_in c) b in small-as r.0 r.1 (eat_by false c b).1 (small-byte (held_in c) b)

small-deck : (m : Deck) → With SmallEvent (deck_hand m).0 (deck_hand m).1
unfolding ear_hand
small-deck m = small-in (hand_on m.ear.memory).0 (hand_on m.ear.memory).1 (deck_hand m).1 (small-hand m.ear.memory)

small-record : (t : Bool) (m : Deck) (b : ℕ) → With SmallEvent (byte_by t m b).0 (byte_by t m b).1
unfolding ear_eat
small-record true m b =
    small-in (ear_eat m.ear b).0 (ear_eat m.ear b).1 (byte_by true m b).1 (small-stream m.ear.channel m.ear.memory b)
small-record false m b = tt

small-heard : (m : Deck) (bs : List ℕ) → With SmallEvent (deck_hear m bs).0 (deck_hear m bs).2
small-heard m bs =
    with-hear deck_owes deck_hand deck_eat deck-hand-one SmallEvent small-deck (λ k b. small-record (in_stream k.spot.place k.spot.count) k b) m bs

-- .. and what is looked for among the answers is a packet
abbrev Delivered : Item → Deck → Type 0
Delivered (delivered p) m = Unit {0}
Delivered (refused n) m = ⊥

only-delivered : (o : Option Event) (m : Deck) → With Delivered (sifted packet_in o) m
only-delivered none m = tt
only-delivered (some (said (packet p))) m = tt
only-delivered (some (said (refusal n))) m = tt
only-delivered (some (said (broken n))) m = tt
only-delivered (some (block c)) m = tt
only-delivered (some lost) m = tt

packets-heard : (m : Deck) (bs : List ℕ) → With Delivered (packet_hear m bs).0 (packet_hear m bs).2
packets-heard =
    with-hear deck_owes packet_hand packet_eat deck-hand-one Delivered (λ k. only-delivered (deck_hand k).0 (deck_hand k).1)
    (λ k b. only-delivered (deck_eat k b).0 (deck_eat k b).1)

none-refused : (o : Option Item) (m : Deck) (n : ℕ) → With Delivered o m → o ≡ some (refused n) → ⊥
none-refused o m n w e = subst (λ (o : Option Item). With Delivered o m) e w

is-packet : (m : Deck) (k n : ℕ) → ByPacket (some (refused k), 0, m) n ↔ n ≡ k
is-packet m k n = (λ e. let z : k ≡ n = cc in sym z, λ e i. some (refused (sym e i)))

is-next : (m : Deck) (k n : ℕ) → OfCall k → ByNext (some (said (refusal k)), 0, m) n ↔ n ≡ k
is-next m k n h = (λ e. let z : k ≡ n = cc in sym z, λ e. (subst OfCall (sym e) h, λ i. some (said (refusal (sym e i)))))

module _ (m : Deck) (bs : List ℕ) where
  abbrev soundly : Bool
  soundly = sound m.ear.memory.st

  abbrev nearly : Bool
  nearly = near_spot m.spot (length bs)

  abbrev roomily : Bool
  roomily = roomy m.ear.memory.recv m.ear.memory.word

  pub next-exact : Exact ByNext (tape_call m bs)
      ((10, NextBeyond m.ear.memory.st m.spot (length bs)) ∷ (11, Short m.ear.memory.recv m.ear.memory.word) ∷ [])
  next-exact = go soundly nearly roomily refl refl refl
    where
      go : (s n r : Bool) → soundly ≡ s → nearly ≡ n → roomily ≡ r
          → Exact ByNext (tape_by s n r m bs)
          ((10, NextBeyond m.ear.memory.st m.spot (length bs)) ∷ (11, Short m.ear.memory.recv m.ear.memory.word) ∷ [])
      go false n r e f g = applies ByNext _ (λ k. is-next m 10 k (inl refl)) (inl (beyond m.ear.memory.st e))
      go true false r e f g = applies ByNext _ (λ k. is-next m 10 k (inl refl)) (inr (leb-false _ _ f))
      go true true false e f g =
          over ByNext (⊎_elim (within m.ear.memory.st e) (not-most _ _ f))
          (applies ByNext _ (λ k. is-next m 11 k (inr refl)) (short m.ear.memory.recv m.ear.memory.word g))
      go true true true e f g =
          over ByNext (⊎_elim (within m.ear.memory.st e) (not-most _ _ f))
          (over ByNext (long m.ear.memory.recv m.ear.memory.word g)
          (passed ByNext λ n b. event-only (deck_hear m bs).0 (deck_hear m bs).2 n (small-heard m bs) b.0 b.1))

  pub next-same : (n : ℕ) → ByNext (tape_call m bs) n → tape_call m bs ≡ (some (said (refusal n)), 0, m)
  next-same n = go soundly nearly roomily
    where
      go : (s k r : Bool) → ByNext (tape_by s k r m bs) n → tape_by s k r m bs ≡ (some (said (refusal n)), 0, m)
      go false k r b = λ i. (b.1 i, 0, m)
      go true false r b = λ i. (b.1 i, 0, m)
      go true true false b = λ i. (b.1 i, 0, m)
      go true true true b = absurd (event-only (deck_hear m bs).0 (deck_hear m bs).2 n (small-heard m bs) b.0 b.1)

  next-refused : (n : ℕ) → (tape_call m bs).0 ≡ some (said (refusal n)) → Given n
  next-refused n = go soundly nearly roomily
    where
      go : (s k r : Bool) → (tape_by s k r m bs).0 ≡ some (said (refusal n)) → Given n
      go false k r e = let z : 10 ≡ n = cc in inr (inl (sym z))
      go true false r e = let z : 10 ≡ n = cc in inr (inl (sym z))
      go true true false e = let z : 11 ≡ n = cc in inr (inr (sym z))
      go true true true e = inl (subst (λ (o : Option Event). With SmallEvent o (deck_hear m bs).2) e (small-heard m bs))

  pub next-given : (t : Told) (n : ℕ) → (tape_call m bs).0 ≡ some (said t) → ByFrame t n → Given n
  next-given t n e k = number-given t n k (λ i z. next-refused i (e ∙ ap (λ (t : Told). some (said t)) z))

  pub packet-exact : Exact ByPacket (packet_call m bs)
      ((10, NextBeyond m.ear.memory.st m.spot (length bs)) ∷ (11, Short m.ear.memory.recv m.ear.memory.word) ∷ [])
  packet-exact = go soundly nearly roomily refl refl refl
    where
      go : (s n r : Bool) → soundly ≡ s → nearly ≡ n → roomily ≡ r
          → Exact ByPacket (packet_by s n r m bs)
          ((10, NextBeyond m.ear.memory.st m.spot (length bs)) ∷ (11, Short m.ear.memory.recv m.ear.memory.word) ∷ [])
      go false n r e f g = applies ByPacket _ (is-packet m 10) (inl (beyond m.ear.memory.st e))
      go true false r e f g = applies ByPacket _ (is-packet m 10) (inr (leb-false _ _ f))
      go true true false e f g =
          over ByPacket (⊎_elim (within m.ear.memory.st e) (not-most _ _ f))
          (applies ByPacket _ (is-packet m 11) (short m.ear.memory.recv m.ear.memory.word g))
      go true true true e f g =
          over ByPacket (⊎_elim (within m.ear.memory.st e) (not-most _ _ f))
          (over ByPacket (long m.ear.memory.recv m.ear.memory.word g)
          (passed ByPacket λ n b. none-refused (packet_hear m bs).0 (packet_hear m bs).2 n (packets-heard m bs) b))

  pub packet-same : (n : ℕ) → ByPacket (packet_call m bs) n → packet_call m bs ≡ (some (refused n), 0, m)
  packet-same n = go soundly nearly roomily
    where
      go : (s k r : Bool) → ByPacket (packet_by s k r m bs) n → packet_by s k r m bs ≡ (some (refused n), 0, m)
      go false k r b = λ i. (b i, 0, m)
      go true false r b = λ i. (b i, 0, m)
      go true true false b = λ i. (b i, 0, m)
      go true true true b = absurd (none-refused (packet_hear m bs).0 (packet_hear m bs).2 n (packets-heard m bs) b)

-- ---- the call where it is listed
is-take : (m : Deck) (t : Totals) (k n : ℕ) → ByTake (printed (Refused k) m t) n ↔ n ≡ k
is-take m t k n = (λ e. let z : k ≡ n = cc in sym z, λ e i. Refused (sym e i))

module _ (m : Deck) (t : Totals) (room : ℕ) (bs : List ℕ) where
  pub take_exact : Exact ByTake (takes m t room bs)
      ((10, TapeBeyond m.ear.memory.st m.spot t (length bs) room) ∷ (11, Short m.ear.memory.recv m.ear.memory.word) ∷ [])
  take_exact = go (sound m.ear.memory.st) (near m.spot t (length bs) room) (roomy m.ear.memory.recv m.ear.memory.word) refl refl refl
    where
      go : (s n r : Bool) → sound m.ear.memory.st ≡ s → near m.spot t (length bs) room ≡ n → roomy m.ear.memory.recv m.ear.memory.word ≡ r
          → Exact ByTake (takes_by s n r m t room bs)
          ((10, TapeBeyond m.ear.memory.st m.spot t (length bs) room) ∷ (11, Short m.ear.memory.recv m.ear.memory.word) ∷ [])
      go false n r e f g = applies ByTake _ (is-take m t 10) (inl (beyond m.ear.memory.st e))
      go true false r e f g = applies ByTake _ (is-take m t 10) (inr (all-far m.spot t (length bs) room f))
      go true true false e f g =
          over ByTake (⊎_elim (within m.ear.memory.st e) (all_near m.spot t (length bs) room f))
          (applies ByTake _ (is-take m t 11) (short m.ear.memory.recv m.ear.memory.word g))
      go true true true e f g =
          over ByTake (⊎_elim (within m.ear.memory.st e) (all_near m.spot t (length bs) room f))
          (over ByTake (long m.ear.memory.recv m.ear.memory.word g) (passed ByTake λ n b. print-not room room m t bs n b))

  pub take_same : (n : ℕ) → ByTake (takes m t room bs) n → takes m t room bs ≡ printed (Refused n) m t
  take_same n = go (sound m.ear.memory.st) (near m.spot t (length bs) room) (roomy m.ear.memory.recv m.ear.memory.word)
    where
      go : (s k r : Bool) → ByTake (takes_by s k r m t room bs) n → takes_by s k r m t room bs ≡ printed (Refused n) m t
      go false k r b = λ i. printed (b i) m t
      go true false r b = λ i. printed (b i) m t
      go true true false b = λ i. printed (b i) m t
      go true true true b = absurd (print-not room room m t bs n b)
