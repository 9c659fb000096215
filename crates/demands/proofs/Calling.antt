-- The paper's sentences on calls, of the receiving calls: "One call gives at most one answer, with the number of bytes taken. It takes
-- no byte behind the one that caused the answer, and the rest of a stored word is handed on before any new byte is taken. It says "more
-- wanted" exactly when all bytes are taken, a stored word is handed on whole and no answer is owed."
-- That a call gives at most one answer is its type (`Option Event`); with the answers of `hear_all` it is tied by `hear-first`.
-- both, none-owing, past-both, as_before   what the laws of all of them share
-- hear-..    on the channel
-- fixed-..   on a fixed sub-channel (request W7); that its calls end
-- read-.., read_first    on the plain stream
-- next-..    on a recording's bytes
-- packet-..  .. for its next packet
-- take-wanting, show-wanting   where a recording is listed, where a board is written
-- desk-.., AllWritten   on the office's input; that all that is due is written
-- import-..  on a capture (request W11); behind a fault all bytes are taken
use Prim.Native.Nat.{ℕ, zero, suc, ◌+◌, ◌-◌, ◌≤◌}
use native.Mathlib.Omega.{arith}
use mathlib.Core.Path.{◌≡◌, refl, sym, ◌∙◌, ap, subst}
use mathlib.Core.Bool.{Bool, true, false}
use mathlib.Core.Logic.{◌↔◌}
use mathlib.Core.List.{List, [], ◌∷◌, ◌++◌}
use mathlib.Core.Option.{Option, some, none, none-ne-some}
use lib.ListN.{length, get_or, take, drop, set, length-append, length-drop, length-take}
use lib.Dec.{eqb, ltb, leb}
use borrow.Author.Tests.{ltb-true, ltb-false, le-leb}
use Rattle.base.specs.Calls.{joined, Yields, With, owes_none, hands_none, unless, told, one_more}
use Rattle.base.specs.Choice.{pick}
use Rattle.base.proofs.Calls.{none-owed, law, fits, FitsBy, more-iff, with-hear, inv-hear}
use Rattle.packet_spec.specs.Contents.{raw_limit}
use Rattle.packet_spec.specs.Frame.{Told, packet, refusal, broken}
use Rattle.stream.specs.Call.{Held, take_byte, read_all, read_on, read_by, read_call, sound as sound_frame, Fine as FineFrame}
use Rattle.stream.proofs.Cutting.{read-agrees, read-law}
use Rattle.channel_spec.specs.Meaning.{Event}
use Rattle.channel.specs.Call.{Memory, owed, hand_on, eat_byte, sound, roomy, hear_all, hear_on, hear_by, hear_call, Fine}
use Rattle.channel.proofs.Fine.{fine_of, fine-hand, fine-eat}
use Rattle.channel.proofs.Cutting.{hand-one, hear-agrees, hear-law}
use Rattle.subchannel.specs.Call as fixed
use Rattle.subchannel.proofs.Fine as fixed-fine
use Rattle.subchannel.proofs.Cutting as fixed-cut
use Rattle.base.proofs.Stopping.{stops, blind, owed-first, wanting}
use Rattle.recording.specs.Deck.{Deck, deck_owes, deck_hand, deck_eat, deck_all, deck_hear}
use Rattle.recording.specs.declared.reader.Hearing.{Hearing}
use Rattle.recording.specs.declared.reader.NextPacket.{NextPacket}
use Rattle.recording.specs.Call.{far, tape_call, NextIs}
use Rattle.recording.specs.Packets.{Item, packet_hand, packet_eat, packet_all, packet_hear, packet_call, PacketIs}
use Rattle.recording.proofs.Ears.{deck-hand-one}
use Rattle.recording.proofs.Kept.{hear-kept, packet-kept}
use Rattle.recording.proofs.Next.{tape-agrees}
use Rattle.recording.proofs.Packets.{safe-on}
use Rattle.recording.proofs.Within as lent
use Rattle.channel_spec.specs.declared.Answer.{Answer}
use Rattle.listing_spec.specs.Lines.{line, given, longest}
use Rattle.listing_lines.proofs.Short.{line-some}
use Rattle.listing_lines.specs.declared.totals.Totals.{Totals}
use Rattle.listing.specs.Wants.{More, Room}
use Rattle.listing.specs.Call as listing
use Rattle.listing.specs.Call.{Printed, printed, further, on_answer, counted, print, near}
use Rattle.listing.proofs.Tags.{wants_tag}
use Rattle.board.specs.Wants as showing
use Rattle.board.specs.Source.{Source, memory_in, source_owes, source_hand, source_eat, source_all, source_hear}
use Rattle.board.specs.Owed.{nothing}
use Rattle.board.specs.Call.{Screen, readout_of, recv_on, owed_on, Part, partly, heard_by, takes_on, sound_state}
use Rattle.board.specs.Call as screen
use Rattle.board.proofs.Sources.{source-hand-one}
use Rattle.board.proofs.Left.{left-none}
use Rattle.office.specs.Meaning.{Said, Desk, eat, desk_all}
use Rattle.office.specs.Call as office
use Rattle.office.proofs.Taking as office-hearing
use Rattle.office.proofs.Sent as office-sent
use Rattle.capture_spec.specs.File.{header}
use Rattle.capture_spec.specs.Meaning.{entry, entry_limit, four_at}
use Rattle.capture.specs.declared.reader.CaptureReader.{CaptureReader}
use Rattle.capture.specs.declared.reader.CaptureReader.TheVariants.{Header, Head, Record, Behind}
use Rattle.capture.specs.Call as capture
use Rattle.capture.proofs.Hearing.{fine-take}

-- ---- for all of them: equal pairs have equal parts; where a reader owes no move, that of `wanting` which says so goes without saying
both : {A B : Type 0} {x y : A × B} → x ≡ y → (x.0 ≡ y.0) × (x.1 ≡ y.1)
both {A} {B} e = (ap (λ (q : A × B). q.0) e, ap (λ (q : A × B). q.1) e)

none-owing : {P Q R : Type 0} {n : ℕ} → P ↔ (Q × (n ≡ n) × R) → P ↔ (Q × R)
none-owing w = (λ e. ((w.0 e).0, (w.0 e).2), λ p. w.1 (p.0, refl, p.1))

-- a call by two tests that takes nothing where one fails: where it took a byte both hold; and two such calls are equal where they are behind both
module _ {A S : Type 0} (call : Bool → Bool → Option A × ℕ × S) where
  past-both : {x y : A} {c : S} → ((r : Bool) → call false r ≡ (some x, 0, c)) → call true false ≡ (some y, 0, c)
      → (s r : Bool) {e : A} {n : ℕ} {d : S} → call s r ≡ (some e, suc n, d) → call true true ≡ (some e, suc n, d)
  past-both p q false r {e} {n} {d} h = absurd (let z : 0 ≡ suc n = ap (λ (t : Option A × ℕ × S). t.1) (sym (p r) ∙ h) in omega arith)
  past-both p q true false {e} {n} {d} h = absurd (let z : 0 ≡ suc n = ap (λ (t : Option A × ℕ × S). t.1) (sym q ∙ h) in omega arith)
  past-both p q true true h = h

  as_before : (other : Bool → Bool → Option A × ℕ × S) {z : Option A × ℕ × S} → ((r : Bool) → other false r ≡ call false r) → other true false ≡ call true false
      → (call true true ≡ z → other true true ≡ z) → (s r : Bool) → call s r ≡ z → other s r ≡ z
  as_before other p q k false r h = p r ∙ h
  as_before other p q k true false h = q ∙ h
  as_before other p q k true true h = k h

-- ---- on the channel
-- "with the number of bytes taken": the answer is the first of all, and the others are those of the state that it leaves and the bytes behind
-- those taken
pub hear-first : (c : Memory) → Fine c → (bs : List ℕ) (e : Event) (n : ℕ) (d : Memory) → hear_call c bs ≡ (some e, n, d)
    → ((hear_all c bs).0 ≡ e ∷ (hear_all d (drop n bs)).0) × ((hear_all c bs).1 ≡ (hear_all d (drop n bs)).1)
hear-first c f bs e n d h = both (hear-law c bs f ∙ ap (λ r. told owed hand_on eat_byte r bs) h)

-- "It takes no byte behind the one that caused the answer": before that one, byte n, there is no answer ..
pub hear-stops : (c : Memory) (bs : List ℕ) (e : Event) (n : ℕ) (d : Memory) → hear_call c bs ≡ (some e, suc n, d) → (hear_all c (take n bs)).0 ≡ []
hear-stops c bs e n d h =
    stops owed hand_on eat_byte hand-one c bs e n d (past-both (λ s r. hear_by s r c bs) (λ r. refl) refl (sound c.st) (roomy c.recv c.word) h)

-- .. and whatever stands behind it makes no difference
pub hear-blind : (c : Memory) (bs : List ℕ) (e : Event) (n : ℕ) (d : Memory) → hear_call c bs ≡ (some e, n, d)
    → (cs : List ℕ) → hear_call c (take n bs ++ cs) ≡ (some e, n, d)
hear-blind c bs e n d h cs =
    as_before (λ s r. hear_by s r c bs) (λ s r. hear_by s r c (take n bs ++ cs)) (λ r. refl) refl (blind owed hand_on eat_byte hand-one cs c bs e n d)
    (sound c.st) (roomy c.recv c.word) h

-- "the rest of a stored word is handed on before any new byte is taken": a call begins as a call on no bytes does, and goes on to the bytes
-- where that gives no answer
pub hear-owed : (c : Memory) (bs : List ℕ) → hear_call c bs ≡ unless (hear_call c []).0 0 (hear_call c []).2 (hear_call (hear_call c []).2 bs)
hear-owed c bs = go (sound c.st) (roomy c.recv c.word) refl refl
  where
    go : (s r : Bool) → sound c.st ≡ s → roomy c.recv c.word ≡ r
        → hear_by s r c bs ≡ unless (hear_by s r c []).0 0 (hear_by s r c []).2 (hear_call (hear_by s r c []).2 bs)
    go false r e f = refl
    go true false e f = refl
    go true true e f =
        owed-first owed hand_on eat_byte hand-one c bs
        ∙ ap (unless (hear_on c []).0 0 (hear_on c []).2)
        (sym (hear-agrees (hear_on c []).2 bs (inv-hear owed hand_on eat_byte hand-one Fine fine-hand fine-eat c [] (fine_of c e f))))

-- "It says "more wanted" exactly when all bytes are taken, a stored word is handed on whole and no answer is owed"
pub hear-wanting : (c : Memory) → Fine c → (bs : List ℕ)
    → ((hear_call c bs).0 ≡ none) ↔ (((hear_call c bs).1 ≡ length bs) × (owed (hear_call c bs).2 ≡ 0) × ((hear_all c bs).0 ≡ []))
hear-wanting c f bs = rw (hear-agrees c bs f) (wanting owed hand_on eat_byte hand-one c bs)

-- ---- on a fixed sub-channel, of any R and depth that pass 10
pub fixed-first : (c : fixed.Memory) → fixed.Fine c → (bs : List ℕ) (e : Event) (n : ℕ) (d : fixed.Memory) → fixed.hear_call c bs ≡ (some e, n, d)
    → ((fixed.hear_all c bs).0 ≡ e ∷ (fixed.hear_all d (drop n bs)).0) × ((fixed.hear_all c bs).1 ≡ (fixed.hear_all d (drop n bs)).1)
fixed-first c f bs e n d h = both (fixed-cut.hear-law c bs f ∙ ap (λ r. told fixed.owed fixed.hand_on fixed.eat_byte r bs) h)

pub fixed-stops : (c : fixed.Memory) (bs : List ℕ) (e : Event) (n : ℕ) (d : fixed.Memory) → fixed.hear_call c bs ≡ (some e, suc n, d)
    → (fixed.hear_all c (take n bs)).0 ≡ []
fixed-stops c bs e n d h =
    stops fixed.owed fixed.hand_on fixed.eat_byte fixed-cut.hand-one c bs e n d
    (past-both (λ s r. fixed.hear_by s r c bs) (λ r. refl) refl (fixed.sound c.st) (roomy c.recv c.word) h)

pub fixed-blind : (c : fixed.Memory) (bs : List ℕ) (e : Event) (n : ℕ) (d : fixed.Memory) → fixed.hear_call c bs ≡ (some e, n, d)
    → (cs : List ℕ) → fixed.hear_call c (take n bs ++ cs) ≡ (some e, n, d)
fixed-blind c bs e n d h cs =
    as_before (λ s r. fixed.hear_by s r c bs) (λ s r. fixed.hear_by s r c (take n bs ++ cs)) (λ r. refl) refl
    (blind fixed.owed fixed.hand_on fixed.eat_byte fixed-cut.hand-one cs c bs e n d) (fixed.sound c.st) (roomy c.recv c.word) h

pub fixed-owed : (c : fixed.Memory) (bs : List ℕ)
    → fixed.hear_call c bs ≡ unless (fixed.hear_call c []).0 0 (fixed.hear_call c []).2 (fixed.hear_call (fixed.hear_call c []).2 bs)
fixed-owed c bs = go (fixed.sound c.st) (roomy c.recv c.word) refl refl
  where
    go : (s r : Bool) → fixed.sound c.st ≡ s → roomy c.recv c.word ≡ r
        → fixed.hear_by s r c bs ≡ unless (fixed.hear_by s r c []).0 0 (fixed.hear_by s r c []).2 (fixed.hear_call (fixed.hear_by s r c []).2 bs)
    go false r e f = refl
    go true false e f = refl
    go true true e f =
        owed-first fixed.owed fixed.hand_on fixed.eat_byte fixed-cut.hand-one c bs
        ∙ ap (unless (fixed.hear_on c []).0 0 (fixed.hear_on c []).2)
        (sym
        (fixed-cut.hear-agrees (fixed.hear_on c []).2 bs
        (inv-hear fixed.owed fixed.hand_on fixed.eat_byte fixed-cut.hand-one fixed.Fine fixed-fine.fine-hand fixed-fine.fine-eat c []
        (fixed-fine.fine_of c e f))))

pub fixed-wanting : (c : fixed.Memory) → fixed.Fine c → (bs : List ℕ)
    → ((fixed.hear_call c bs).0 ≡ none)
    ↔ (((fixed.hear_call c bs).1 ≡ length bs) × (fixed.owed (fixed.hear_call c bs).2 ≡ 0) × ((fixed.hear_all c bs).0 ≡ []))
fixed-wanting c f bs = rw (fixed-cut.hear-agrees c bs f) (wanting fixed.owed fixed.hand_on fixed.eat_byte fixed-cut.hand-one c bs)

-- "A piece counts as read when its rest has been handed in until then": the calls come to their end, from every state and buffers that pass 10 and 11,
-- with a word half handed on too, and their answers are those of the uncut string
pub fixed-ends : (c : fixed.Memory) → fixed.Fine c → (p : List ℕ) (ps : List (List ℕ))
    → Yields fixed.hear_call c (p ∷ ps) λ es d. (es, d) ≡ fixed.hear_all c (joined (p ∷ ps))
fixed-ends = fixed-cut.hear-yields

-- ---- on the plain stream
pub read_first : (h : Held) → FineFrame h → (bs : List ℕ) (t : Told) (n : ℕ) (g : Held) → read_call h bs ≡ (some t, n, g)
    → ((read_all h bs).0 ≡ t ∷ (read_all g (drop n bs)).0) × ((read_all h bs).1 ≡ (read_all g (drop n bs)).1)
read_first h f bs t n g e = both (read-law h bs f ∙ ap (λ r. told owes_none hands_none take_byte r bs) e)

pub read-stops : (h : Held) (bs : List ℕ) (t : Told) (n : ℕ) (g : Held) → read_call h bs ≡ (some t, suc n, g) → (read_all h (take n bs)).0 ≡ []
read-stops h bs t n g e =
    stops owes_none hands_none take_byte none-owed h bs t n g
    (past-both (λ s r. read_by s r h bs) (λ r. refl) refl (sound_frame h.st) (leb raw_limit (length h.recv)) e)

pub read-blind : (h : Held) (bs : List ℕ) (t : Told) (n : ℕ) (g : Held) → read_call h bs ≡ (some t, n, g)
    → (cs : List ℕ) → read_call h (take n bs ++ cs) ≡ (some t, n, g)
read-blind h bs t n g e cs =
    as_before (λ s r. read_by s r h bs) (λ s r. read_by s r h (take n bs ++ cs)) (λ r. refl) refl (blind owes_none hands_none take_byte none-owed cs h bs t n g)
    (sound_frame h.st) (leb raw_limit (length h.recv)) e

pub read-wanting : (h : Held) → FineFrame h → (bs : List ℕ) → ((read_call h bs).0 ≡ none) ↔ (((read_call h bs).1 ≡ length bs) × ((read_all h bs).0 ≡ []))
read-wanting h f bs = rw (read-agrees h bs f) (none-owing (wanting owes_none hands_none take_byte none-owed h bs))

-- ---- on a recording's bytes, by a call that is not refused: the receiver and both buffers pass, and the offset stays below 2^64
module _ (m : Deck) (f : Fine m.ear.memory) (bs : List ℕ) (o : m.spot.offset + length bs ≤ far) where
  pub next-first : (e : Event) (n : ℕ) (d : Deck) → tape_call m bs ≡ (some e, n, d)
      → ((deck_all m bs).0 ≡ e ∷ (deck_all d (drop n bs)).0) × ((deck_all m bs).1 ≡ (deck_all d (drop n bs)).1)
  next-first e n d h =
      both (law deck_owes deck_hand deck_eat deck-hand-one m bs ∙ ap (λ r. told deck_owes deck_hand deck_eat r bs) (sym (tape-agrees m bs f o) ∙ h))

  pub next-stops : (e : Event) (n : ℕ) (d : Deck) → tape_call m bs ≡ (some e, suc n, d) → (deck_all m (take n bs)).0 ≡ []
  next-stops e n d h = stops deck_owes deck_hand deck_eat deck-hand-one m bs e n d (sym (tape-agrees m bs f o) ∙ h)

  pub next-blind : (e : Event) (n : ℕ) (d : Deck) → tape_call m bs ≡ (some e, n, d)
      → (cs : List ℕ) → m.spot.offset + length (take n bs ++ cs) ≤ far → tape_call m (take n bs ++ cs) ≡ (some e, n, d)
  next-blind e n d h cs p =
      tape-agrees m (take n bs ++ cs) f p ∙ blind deck_owes deck_hand deck_eat deck-hand-one cs m bs e n d (sym (tape-agrees m bs f o) ∙ h)

  pub next-owed : tape_call m bs ≡ unless (tape_call m []).0 0 (tape_call m []).2 (tape_call (tape_call m []).2 bs)
  next-owed =
      let k = hear-kept m [] f in
      let none_yet = tape-agrees m [] f (omega arith) in
      tape-agrees m bs f o ∙ owed-first deck_owes deck_hand deck_eat deck-hand-one m bs
      ∙ ap (unless (deck_hear m []).0 0 (deck_hear m []).2) (sym (tape-agrees (deck_hear m []).2 bs k.fine (omega (arith, k.within, k.near))))
      ∙ ap (λ (x : Option Event × ℕ × Deck). unless x.0 0 x.2 (tape_call x.2 bs)) (sym none_yet)

  pub next-wanting : ((tape_call m bs).0 ≡ none) ↔ (((tape_call m bs).1 ≡ length bs) × (deck_owes (tape_call m bs).2 ≡ 0) × ((deck_all m bs).0 ≡ []))
  next-wanting = rw (tape-agrees m bs f o) (wanting deck_owes deck_hand deck_eat deck-hand-one m bs)

-- "with the number of bytes taken": whatever state and buffers are, no more than are lent
pub next-within : (m : Deck) (bs : List ℕ) {r : Hearing} {l k : List ℕ} → NextIs (tape_call m bs) r l k → r.taken ≤ length bs
next-within m bs h = lent.next-within m bs h

-- ---- .. for its next packet: the answers are its packets, the others passed over
packet-agrees : (m : Deck) (bs : List ℕ) → Fine m.ear.memory → m.spot.offset + length bs ≤ far → packet_call m bs ≡ packet_hear m bs
packet-agrees m bs f o = safe-on m bs 0 (record { fine = f; offset = omega (arith, o) })

module _ (m : Deck) (f : Fine m.ear.memory) (bs : List ℕ) (o : m.spot.offset + length bs ≤ far) where
  pub packet-first : (e : Item) (n : ℕ) (d : Deck) → packet_call m bs ≡ (some e, n, d)
      → ((packet_all m bs).0 ≡ e ∷ (packet_all d (drop n bs)).0) × ((packet_all m bs).1 ≡ (packet_all d (drop n bs)).1)
  packet-first e n d h =
      both (law deck_owes packet_hand packet_eat deck-hand-one m bs ∙ ap (λ r. told deck_owes packet_hand packet_eat r bs) (sym (packet-agrees m bs f o) ∙ h))

  pub packet-stops : (e : Item) (n : ℕ) (d : Deck) → packet_call m bs ≡ (some e, suc n, d) → (packet_all m (take n bs)).0 ≡ []
  packet-stops e n d h = stops deck_owes packet_hand packet_eat deck-hand-one m bs e n d (sym (packet-agrees m bs f o) ∙ h)

  pub packet-blind : (e : Item) (n : ℕ) (d : Deck) → packet_call m bs ≡ (some e, n, d)
      → (cs : List ℕ) → m.spot.offset + length (take n bs ++ cs) ≤ far → packet_call m (take n bs ++ cs) ≡ (some e, n, d)
  packet-blind e n d h cs p =
      packet-agrees m (take n bs ++ cs) f p ∙ blind deck_owes packet_hand packet_eat deck-hand-one cs m bs e n d (sym (packet-agrees m bs f o) ∙ h)

  pub packet-owed : packet_call m bs ≡ unless (packet_call m []).0 0 (packet_call m []).2 (packet_call (packet_call m []).2 bs)
  packet-owed =
      let k = packet-kept m [] f in
      let none_yet = packet-agrees m [] f (omega arith) in
      packet-agrees m bs f o ∙ owed-first deck_owes packet_hand packet_eat deck-hand-one m bs
      ∙ ap (unless (packet_hear m []).0 0 (packet_hear m []).2) (sym (packet-agrees (packet_hear m []).2 bs k.fine (omega (arith, k.within, k.near))))
      ∙ ap (λ (x : Option Item × ℕ × Deck). unless x.0 0 x.2 (packet_call x.2 bs)) (sym none_yet)

  pub packet-wanting : ((packet_call m bs).0 ≡ none)
      ↔ (((packet_call m bs).1 ≡ length bs) × (deck_owes (packet_call m bs).2 ≡ 0) × ((packet_all m bs).0 ≡ []))
  packet-wanting = rw (packet-agrees m bs f o) (wanting deck_owes packet_hand packet_eat deck-hand-one m bs)

pub packet-within : (m : Deck) (bs : List ℕ) (r : NextPacket) {l k : List ℕ} → PacketIs (packet_call m bs) r l k → r.taken ≤ length bs
packet-within m bs r h = lent.packet-within m bs r h

-- ---- where a recording is listed, by a call that is not refused: "more" exactly when all bytes are taken, a stored word is handed on whole, and any
-- line would still have room (an answer is asked for only where it has)
abbrev Listed : ℕ → List ℕ → Printed → Type 0
Listed room bs r = (r.taken ≡ length bs) × (deck_owes r.deck ≡ 0) × (longest ≤ room - length r.text)

print-wanting : (f room : ℕ) (m : Deck) (t : Totals) (bs : List ℕ) → room ≤ f
    → ((print f room m t bs).wants ≡ More) ↔ Listed room bs (print f room m t bs)
unfolding print
print-wanting zero room m t bs l = (λ e. absurd (omega (arith, ap wants_tag e)), λ p. absurd (omega (arith, l, p.2)))
print-wanting (suc f) room m t bs l =
    let x = deck_hear m bs in
    go (λ v. print-wanting f (room - length (line (given v))) x.2 (counted t (given v)) (drop x.1 bs) (omega (arith, l, line-some v)))
    (ltb room longest) x.0 refl refl
  where
    x : Option Event × ℕ × Deck
    x = deck_hear m bs

    rest : Answer → Printed
    rest a = print f (room - length (line a)) x.2 (counted t a) (drop x.1 bs)

    within : (o : Option Event) → FitsBy deck_owes deck_hand deck_eat deck-hand-one o x.1 x.2 bs → x.1 ≤ length bs
    within none p = omega (arith, p.0)
    within (some e) p = p

    go : ((v : Event) → ((rest (given v)).wants ≡ More) ↔ Listed (room - length (line (given v))) (drop x.1 bs) (rest (given v)))
        → (full : Bool) (o : Option Event) → ltb room longest ≡ full → x.0 ≡ o
        → let r = pick full (printed Room m t) (on_answer o (further x.1 [] (printed More x.2 t)) (λ a. further x.1 (line a) (rest a))) in
        (r.wants ≡ More) ↔ Listed room bs r
    go k true o h q = (λ e. absurd (omega (arith, ap wants_tag e)), λ p. absurd (omega (arith, ltb-true room longest h, p.2)))
    go k false none h q =
        let w = (wanting deck_owes deck_hand deck_eat deck-hand-one m bs).0 q in
        ((λ e. (omega (arith, w.0), w.1, omega (arith, ltb-false room longest h))), (λ p. refl))
    go k false (some v) h q =
        let a = length-append (line (given v)) (rest (given v)).text in
        let d = length-drop x.1 bs in
        let n = within x.0 (fits deck_owes deck_hand deck_eat deck-hand-one m bs) in (
          (λ e. let r = (k v).0 e in (omega (arith, r.0, d, n), r.1, omega (arith, r.2, a))),
          (λ p. (k v).1 (omega (arith, p.0, d, n), p.1, omega (arith, p.2, a))),
        )

pub take-wanting : (m : Deck) (t : Totals) (room : ℕ) (bs : List ℕ) → sound m.ear.memory.st ≡ true
    → near m.spot t (length bs) room ≡ true → roomy m.ear.memory.recv m.ear.memory.word ≡ true
    → let r = listing.takes m t room bs in
    (r.wants ≡ More) ↔ ((r.taken ≡ length bs) × (deck_owes r.deck ≡ 0) × (longest ≤ room - length r.text))
take-wanting m t room bs e f g = rw (e, f, g) (print-wanting room room m t bs (omega arith))

-- ---- where a board is written, by a call that is not refused: "more" exactly when all bytes are taken and give no answer, and all text that was owed
-- is written; then no text and no move is owed
abbrev shows_tag : showing.Wants → ℕ
shows_tag showing.More = 0
shows_tag showing.Again = 1
shows_tag (showing.Refused n) = 2

module _ (room : ℕ) (s : Screen) (bs : List ℕ) where
  abbrev pub AllWritten : Part → Type 0
  AllWritten p =
      (p.taken ≡ length bs) × (p.text ≡ owed_on s) × (owed_on p.screen ≡ []) × (source_owes p.screen.source ≡ 0)
      × ((source_all s.source bs).0 ≡ [])

  heard-wanting : (x : Option Event × ℕ × Source) → source_hear s.source bs ≡ x → ((heard_by s x).wants ≡ showing.More) ↔ AllWritten (heard_by s x)
  heard-wanting (none, n, y) q =
      let w = (wanting source_owes source_hand source_eat source-hand-one s.source bs).0 (ap (λ (r : Option Event × ℕ × Source). r.0) q) in
      let taken : n ≡ length bs = sym (ap (λ (r : Option Event × ℕ × Source). r.1) q) ∙ w.0 in
      let left : source_owes y ≡ 0 = sym (ap (λ (r : Option Event × ℕ × Source). source_owes r.2) q) ∙ w.1 in
      ((λ e. (taken, refl, left-none nothing (memory_in y.deck).recv refl, left, w.2)), (λ p. refl))
  heard-wanting (some v, n, y) q = (
    (λ e. absurd (omega (arith, ap shows_tag e))),
    (λ p.
        let o = (more-iff source_owes source_hand source_eat source-hand-one s.source bs).1 p.4 in
        absurd (none-ne-some v (sym o ∙ ap (λ (r : Option Event × ℕ × Source). r.0) q))),
  )

  on-wanting : ((takes_on room s bs).wants ≡ showing.More) ↔ AllWritten (takes_on room s bs)
  unfolding takes_on
  on-wanting = go (ltb room (length (owed_on s))) refl
    where
      go : (t : Bool) → ltb room (length (owed_on s)) ≡ t
          → let p = pick t (partly room s) (heard_by s (source_hear s.source bs)) in (p.wants ≡ showing.More) ↔ AllWritten p
      go true q = (
        (λ e. absurd (omega (arith, ap shows_tag e))),
        (λ p. let l = ltb-true room (length (owed_on s)) q in absurd (omega (arith, l, sym (length-take room (owed_on s)) ∙ ap length p.1))),
      )
      go false q = heard-wanting (source_hear s.source bs) refl

  pub show-wanting : sound_state (readout_of s) (length bs) ≡ true → roomy (recv_on s) (memory_in s.source.deck).word ≡ true
      → ((screen.takes room s bs).wants ≡ showing.More) ↔ AllWritten (screen.takes room s bs)
  show-wanting e f = rw (e, f) on-wanting

-- ---- on the office's input, by a call that is not refused: state and buffers pass, and there is room for any line's blocks
module _ (room : ℕ) (enough : office.out_limit ≤ room) (d : Desk) (f : office.Fine d) (bs : List ℕ) where
  desk-agrees : (cs : List ℕ) → office.hear_call room d cs ≡ office.hear_on d cs
  desk-agrees cs = office-hearing.call-on room d cs (office-sent.fine-sound d f) (office-sent.fine-roomy d f) enough

  pub desk-first : (x : Said) (n : ℕ) (g : Desk) → office.hear_call room d bs ≡ (some x, n, g)
      → ((desk_all d bs).0 ≡ x ∷ (desk_all g (drop n bs)).0) × ((desk_all d bs).1 ≡ (desk_all g (drop n bs)).1)
  desk-first x n g h = both (law owes_none hands_none eat none-owed d bs ∙ ap (λ r. told owes_none hands_none eat r bs) (sym (desk-agrees bs) ∙ h))

  pub desk-stops : (x : Said) (n : ℕ) (g : Desk) → office.hear_call room d bs ≡ (some x, suc n, g) → (desk_all d (take n bs)).0 ≡ []
  desk-stops x n g h = stops owes_none hands_none eat none-owed d bs x n g (sym (desk-agrees bs) ∙ h)

  pub desk-blind : (x : Said) (n : ℕ) (g : Desk) → office.hear_call room d bs ≡ (some x, n, g)
      → (cs : List ℕ) → office.hear_call room d (take n bs ++ cs) ≡ (some x, n, g)
  desk-blind x n g h cs = desk-agrees (take n bs ++ cs) ∙ blind owes_none hands_none eat none-owed cs d bs x n g (sym (desk-agrees bs) ∙ h)

  pub desk-wanting : ((office.hear_call room d bs).0 ≡ none) ↔ (((office.hear_call room d bs).1 ≡ length bs) × ((desk_all d bs).0 ≡ []))
  desk-wanting = rw (desk-agrees bs) (none-owing (wanting owes_none hands_none eat none-owed d bs))

-- ---- on a capture, by a call that is not refused
import-agrees : (h : capture.Held) (bs : List ℕ) → capture.Fine h → capture.read_call h bs ≡ capture.read_on h bs
import-agrees h bs f = rw (f.counts, le-leb entry_limit (length h.store) f.room) refl

module _ (h : capture.Held) (f : capture.Fine h) (bs : List ℕ) where
  pub import-first : (t : Told) (n : ℕ) (g : capture.Held) → capture.read_call h bs ≡ (some t, n, g)
      → ((capture.read_all h bs).0 ≡ t ∷ (capture.read_all g (drop n bs)).0) × ((capture.read_all h bs).1 ≡ (capture.read_all g (drop n bs)).1)
  import-first t n g e =
      both (law owes_none hands_none capture.take_byte none-owed h bs
      ∙ ap (λ r. told owes_none hands_none capture.take_byte r bs) (sym (import-agrees h bs f) ∙ e))

  pub import-stops : (t : Told) (n : ℕ) (g : capture.Held) → capture.read_call h bs ≡ (some t, suc n, g) → (capture.read_all h (take n bs)).0 ≡ []
  import-stops t n g e = stops owes_none hands_none capture.take_byte none-owed h bs t n g (sym (import-agrees h bs f) ∙ e)

  pub import-blind : (t : Told) (n : ℕ) (g : capture.Held) → capture.read_call h bs ≡ (some t, n, g)
      → (cs : List ℕ) → capture.read_call h (take n bs ++ cs) ≡ (some t, n, g)
  import-blind t n g e cs =
      import-agrees h (take n bs ++ cs) f ∙ blind owes_none hands_none capture.take_byte none-owed cs h bs t n g (sym (import-agrees h bs f) ∙ e)

  pub import-wanting : ((capture.read_call h bs).0 ≡ none) ↔ (((capture.read_call h bs).1 ≡ length bs) × ((capture.read_all h bs).0 ≡ []))
  import-wanting = rw (import-agrees h bs f) (none-owing (wanting owes_none hands_none capture.take_byte none-owed h bs))

-- W11: "60 ..; 61 ..; 62 ..; first found in file order": behind one of these all further bytes are taken, there is no other answer, and state and
-- store stay as they are
abbrev Dead : Told → capture.Held → Type 0
Dead (packet p) h = Unit {0}
Dead (refusal n) h = h.st ≡ Behind n
Dead (broken n) h = Unit {0}

dead-take : (c : CaptureReader) (st : List ℕ) (b : ℕ) → With Dead (capture.take_by c st b).0 (capture.take_by c st b).1
dead-take (Header k) st b = go (eqb b (get_or header k 0))
  where
    ways : Bool → Option Told × CaptureReader
    ways t = pick t (none, pick (eqb (k + 1) 24) (Head 0) (Header (k + 1))) (capture.says (refusal 60))

    go : (t : Bool) → With Dead (ways t).0 (capture.held (ways t).1 st)
    go true = tt
    go false = refl
dead-take (Head k) st b = go (eqb (k + 1) 16) (eqb (four_at l 8) (four_at l 12)) (eqb (four_at l 8) 0)
  where
    l : List ℕ
    l = set st k b

    ways : Bool → Bool → Bool → Option Told × CaptureReader
    ways t u v = pick t (pick u (pick v (capture.says (refusal 62)) (none, Record (four_at l 8) 0)) (capture.says (refusal 61))) (none, Head (k + 1))

    go : (t u v : Bool) → With Dead (ways t u v).0 (capture.held (ways t u v).1 l)
    go false u v = tt
    go true false v = refl
    go true true false = tt
    go true true true = refl
dead-take (Record n d) st b = go (eqb (d + 1) n)
  where
    l : List ℕ
    l = set st d b

    said-dead : (t : Told) → With Dead (capture.says t).0 (capture.held (capture.says t).1 l)
    said-dead (packet p) = tt
    said-dead (refusal m) = refl
    said-dead (broken m) = tt

    go : (t : Bool) → let r = pick t (capture.whole_by n l) (none, Record n (d + 1)) in With Dead r.0 (capture.held r.1 l)
    go false = tt
    go true = said-dead (pick (ltb entry_limit n) (refusal 62) (entry (take n l)))
dead-take (Behind m) st b = tt

dead-on : (n : ℕ) (st bs : List ℕ) → capture.read_on (capture.held (Behind n) st) bs ≡ (none, length bs, capture.held (Behind n) st)
dead-on n st [] = refl
dead-on n st (b ∷ bs) = ap one_more (dead-on n st bs)

pub import-behind : (h : capture.Held) → capture.Fine h → (bs : List ℕ) (n k : ℕ) (g : capture.Held)
    → capture.read_call h bs ≡ (some (refusal n), k, g) → (cs : List ℕ) → capture.read_call g cs ≡ (none, length cs, g)
import-behind h f bs n k g e cs =
    let q = sym (import-agrees h bs f) ∙ e in
    let dead : g.st ≡ Behind n =
    subst (λ (r : Option Told × ℕ × capture.Held). With Dead r.0 r.2) q
    (with-hear owes_none hands_none capture.take_byte none-owed Dead (λ g. tt) (λ g b. dead-take g.st g.store b) h bs) in
    let fine : capture.Fine g =
    subst (λ (r : Option Told × ℕ × capture.Held). capture.Fine r.2) q
    (inv-hear owes_none hands_none capture.take_byte none-owed capture.Fine (λ g n e i. i) (λ g b e i. fine-take g b i) h bs f) in
    let is : g ≡ capture.held (Behind n) g.store = λ i. capture.held (dead i) g.store in
    import-agrees g cs fine ∙ ap (λ (x : capture.Held). capture.read_on x cs) is ∙ dead-on n g.store cs ∙ (λ i. (none, length cs, sym is i))
