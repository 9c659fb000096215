-- The refusals of a receiving call, 10 and 11: of the plain stream and of the channel.
-- beyond, within, short, long, not-most, frame-beyond, frame-within   10 and 11 as facts
-- read-exact, hear-exact   row by row
-- read_same, hear-same     with no byte taken, and state and buffers as they were
-- SmallEvent, small-..     a frame's numbers are none of these
-- Given, event-only, is-hear, ..-given   the numbers that are given
use Prim.Native.Nat.{ℕ, suc, ◌≤◌, ◌<◌, min}
use native.Mathlib.Omega.{arith}
use mathlib.Core.Path.{◌≡◌, refl, sym, ap, subst, ◌∙◌}
use mathlib.Core.Bool.{Bool, true, false, ◌&&◌}
use mathlib.Core.Logic.{◌⊎◌, ◌↔◌, ⊎_elim}
use mathlib.Core.Logic.◌⊎◌.{inl, inr}
use mathlib.Core.List.{List, [], ◌∷◌}
use mathlib.Core.Option.{Option, some, none}
use lib.Dec.{eqb, leb}
use lib.ListN.{length, get_or}
use borrow.Author.Tests.{eqb-true, eqb-false, leb-true, leb-false}
use Rattle.base.specs.Calls.{With, owes_none, hands_none}
use Rattle.base.proofs.Calls.{none-owed, with-hear}
use Rattle.base.proofs.Tests.{and_parts}
use Rattle.packet_spec.specs.Contents.{raw_limit}
use Rattle.packet_spec.specs.Escape.{flag}
use Rattle.packet_spec.specs.Frame.{Told, packet, refusal, broken}
use Rattle.stream.specs.Call.{Held, place_limit, shut, take_by, take_byte, read_on, read_by, read_call, sound as sound_frame}
use Rattle.stream.specs.declared.frame.FrameReader.{FrameReader}
use Rattle.channel_spec.specs.Meaning.{Event, said, block, lost}
use Rattle.channel.specs.Call.{Memory, held_in, as_event, hand_on, sound_lock, sound, roomy, hear_on, hear_by, hear_call}
use Rattle.channel_spec.specs.Sender.{message_bytes, word_bytes}
use Rattle.channel.specs.declared.locked.Locked.{Locked}
use Rattle.channel.specs.declared.receiver.Receiver.{Receiver}
use Rattle.channel.proofs.Delivery.{heard-with}
use Rattle.demands_laws.specs.Table.{Exact}
use Rattle.demands_laws.specs.Refusals.{FrameBeyond, Beyond, Short, OfFrame, OfCall, ByFrame, ByRead, ByHear}
use Rattle.demands_laws.proofs.Rows.{applies, over, passed, not-both}
use Rattle.demands_laws.proofs.Frames.{Small, small, frame-or-call}

pub not-most : (a b : ℕ) → leb a b ≡ true → b < a → ⊥
not-most a b e h = let k : a ≤ b = leb-true a b e in omega arith

-- ---- 10 and 11, as facts
pub frame-beyond : (f : FrameReader) → sound_frame f ≡ false → FrameBeyond f
frame-beyond f e =
    ⊎_elim (λ h. inl (eqb-false _ _ h))
    (λ h. inr (⊎_elim (λ k. inl (leb-false _ _ k)) (λ k. inr (leb-false _ _ k)) (not-both (leb f.raw (suc raw_limit)) (leb f.place place_limit) h)))
    (not-both (eqb f.stored (min f.raw raw_limit)) (leb f.raw (suc raw_limit) && leb f.place place_limit) e)

pub frame-within : (f : FrameReader) → sound_frame f ≡ true → FrameBeyond f → ⊥
frame-within f e =
    let p = and_parts (eqb f.stored (min f.raw raw_limit)) (leb f.raw (suc raw_limit) && leb f.place place_limit) e in
    let q = and_parts (leb f.raw (suc raw_limit)) (leb f.place place_limit) p.1 in
    ⊎_elim (λ h. h (eqb-true _ _ p.0)) (⊎_elim (λ h. not-most _ _ q.0 h) (λ h. not-most _ _ q.1 h))

lock-beyond : (l : Locked) → sound_lock l ≡ false → (word_bytes < l.word) ⊎ (3 < l.marker) ⊎ (message_bytes < l.handed)
lock-beyond l e =
    ⊎_elim (λ h. inl (leb-false _ _ h))
    (λ h. inr (⊎_elim (λ k. inl (leb-false _ _ k)) (λ k. inr (leb-false _ _ k)) (not-both (leb l.marker 3) (leb l.handed message_bytes) h)))
    (not-both (leb l.word word_bytes) (leb l.marker 3 && leb l.handed message_bytes) e)

lock-within : (l : Locked) → sound_lock l ≡ true → (word_bytes < l.word) ⊎ (3 < l.marker) ⊎ (message_bytes < l.handed) → ⊥
lock-within l e =
    let p = and_parts (leb l.word word_bytes) (leb l.marker 3 && leb l.handed message_bytes) e in
    let q = and_parts (leb l.marker 3) (leb l.handed message_bytes) p.1 in
    ⊎_elim (λ h. not-most _ _ p.0 h) (⊎_elim (λ h. not-most _ _ q.0 h) (λ h. not-most _ _ q.1 h))

pub beyond : (s : Receiver) → sound s ≡ false → Beyond s
beyond s e = ⊎_elim (λ h. inl (frame-beyond s.frame h)) (λ h. inr (lock-beyond s.lock h)) (not-both (sound_frame s.frame) (sound_lock s.lock) e)

pub within : (s : Receiver) → sound s ≡ true → Beyond s → ⊥
within s e =
    let p = and_parts (sound_frame s.frame) (sound_lock s.lock) e in
    ⊎_elim (frame-within s.frame p.0) (lock-within s.lock p.1)

pub short : (recv word : List ℕ) → roomy recv word ≡ false → Short recv word
short recv word e =
    ⊎_elim (λ h. inl (leb-false _ _ h)) (λ h. inr (leb-false _ _ h)) (not-both (leb raw_limit (length recv)) (leb word_bytes (length word)) e)

pub long : (recv word : List ℕ) → roomy recv word ≡ true → Short recv word → ⊥
long recv word e =
    let p = and_parts (leb raw_limit (length recv)) (leb word_bytes (length word)) e in
    ⊎_elim (λ h. not-most _ _ p.0 h) (λ h. not-most _ _ p.1 h)

-- ---- the plain stream: a call's numbers are no frame's
abbrev SmallHeld : Told → Held → Type 0
SmallHeld t h = Small t

small_shut : (z : Bool) (h : Held) → With SmallHeld (shut z h).0 (shut z h).1
small_shut true h = tt
small_shut false h = small h.recv h.st.raw

small-take : (t o : Bool) (h : Held) (b : ℕ) → With SmallHeld (take_by t o h b).0 (take_by t o h b).1
small-take false false h b = tt
small-take true false h b = tt
small-take false true h b = tt
small-take true true h b = small_shut (eqb h.st.raw 0) h

pub small-byte : (h : Held) (b : ℕ) → With SmallHeld (take_byte h b).0 (take_byte h b).1
small-byte h b = small-take (eqb b flag) h.st.opened h b

frame-only : (o : Option Told) (h : Held) (n : ℕ) → With SmallHeld o h → OfCall n → o ≡ some (refusal n) → ⊥
frame-only o h n w k e = frame-or-call n (subst (λ (o : Option Told). With SmallHeld o h) e w) k

is_read : (h : Held) (m n : ℕ) → OfCall m → ByRead {B = Held} (some (refusal m), 0, h) n ↔ n ≡ m
is_read h m n k = (λ e. let z : m ≡ n = cc in sym z, λ e. (subst OfCall (sym e) k, λ i. some (refusal (sym e i))))

pub read-exact : (h : Held) (bs : List ℕ) → Exact ByRead (read_call h bs) ((10, FrameBeyond h.st) ∷ (11, length h.recv < raw_limit) ∷ [])
read-exact h bs = go (sound_frame h.st) (leb raw_limit (length h.recv)) refl refl
  where
    go : (s r : Bool) → sound_frame h.st ≡ s → leb raw_limit (length h.recv) ≡ r
        → Exact ByRead (read_by s r h bs) ((10, FrameBeyond h.st) ∷ (11, length h.recv < raw_limit) ∷ [])
    go false r e f = applies ByRead _ (λ n. is_read h 10 n (inl refl)) (frame-beyond h.st e)
    go true false e f = over ByRead (frame-within h.st e) (applies ByRead _ (λ n. is_read h 11 n (inr refl)) (leb-false _ _ f))
    go true true e f =
        over ByRead (frame-within h.st e) (over ByRead (not-most _ _ f) (passed ByRead λ n b.
        frame-only (read_on h bs).0 (read_on h bs).2 n
        (with-hear owes_none hands_none take_byte none-owed SmallHeld (λ g. tt) small-byte h bs) b.0 b.1))

pub read_same : (h : Held) (bs : List ℕ) (n : ℕ) → ByRead (read_call h bs) n → read_call h bs ≡ (some (refusal n), 0, h)
read_same h bs n = go (sound_frame h.st) (leb raw_limit (length h.recv))
  where
    go : (s r : Bool) → ByRead (read_by s r h bs) n → read_by s r h bs ≡ (some (refusal n), 0, h)
    go false r b = λ i. (b.1 i, 0, h)
    go true false b = λ i. (b.1 i, 0, h)
    go true true b =
        absurd (frame-only (read_on h bs).0 (read_on h bs).2 n
        (with-hear owes_none hands_none take_byte none-owed SmallHeld (λ g. tt) small-byte h bs) b.0 b.1)

-- ---- the channel
abbrev pub SmallEvent : {S : Type 0} → Event → S → Type 0
SmallEvent (said t) s = Small t
SmallEvent (block t) s = Unit {0}
SmallEvent lost s = Unit {0}

pub small-as : {S : Type 0} (o : Option Told) (h : Held) (s : S) → With SmallHeld o h → With SmallEvent (as_event o) s
small-as none h s w = tt
small-as (some t) h s w = w

pub small-hand : (c : Memory) → With SmallEvent (hand_on c).0 (hand_on c).1
small-hand c =
    let b : ℕ = get_or c.word c.st.lock.handed 0 in
    let r = take_byte (held_in c) b in
    small-as r.0 r.1 (hand_on c).1 (small-byte (held_in c) b)

small-hear : (c : Memory) (bs : List ℕ) → With SmallEvent (hear_on c bs).0 (hear_on c bs).2
small-hear = heard-with SmallEvent (λ x d. tt) (λ d. tt) small-hand

pub event-only : {S : Type 0} (o : Option Event) (s : S) (n : ℕ) → With SmallEvent o s → OfCall n → o ≡ some (said (refusal n)) → ⊥
event-only o s n w k e = frame-or-call n (subst (λ (o : Option Event). With SmallEvent o s) e w) k

pub is-hear : {B : Type 0} (c : B) (m n : ℕ) → OfCall m → ByHear {B = B} (some (said (refusal m)), 0, c) n ↔ n ≡ m
is-hear c m n k = (λ e. let z : m ≡ n = cc in sym z, λ e. (subst OfCall (sym e) k, λ i. some (said (refusal (sym e i)))))

pub hear-exact : (c : Memory) (bs : List ℕ) → Exact ByHear (hear_call c bs) ((10, Beyond c.st) ∷ (11, Short c.recv c.word) ∷ [])
hear-exact c bs = go (sound c.st) (roomy c.recv c.word) refl refl
  where
    go : (s r : Bool) → sound c.st ≡ s → roomy c.recv c.word ≡ r
        → Exact ByHear (hear_by s r c bs) ((10, Beyond c.st) ∷ (11, Short c.recv c.word) ∷ [])
    go false r e f = applies ByHear _ (λ n. is-hear c 10 n (inl refl)) (beyond c.st e)
    go true false e f = over ByHear (within c.st e) (applies ByHear _ (λ n. is-hear c 11 n (inr refl)) (short c.recv c.word f))
    go true true e f =
        over ByHear (within c.st e) (over ByHear (long c.recv c.word f)
        (passed ByHear λ n b. event-only (hear_on c bs).0 (hear_on c bs).2 n (small-hear c bs) b.0 b.1))

pub hear-same : (c : Memory) (bs : List ℕ) (n : ℕ) → ByHear (hear_call c bs) n → hear_call c bs ≡ (some (said (refusal n)), 0, c)
hear-same c bs n = go (sound c.st) (roomy c.recv c.word)
  where
    go : (s r : Bool) → ByHear (hear_by s r c bs) n → hear_by s r c bs ≡ (some (said (refusal n)), 0, c)
    go false r b = λ i. (b.1 i, 0, c)
    go true false b = λ i. (b.1 i, 0, c)
    go true true b = absurd (event-only (hear_on c bs).0 (hear_on c bs).2 n (small-hear c bs) b.0 b.1)

-- ---- the numbers that are given
-- of a frame 1 to 8 and 12, of a call 10 and 11
abbrev pub Given : ℕ → Type 0
Given n = OfFrame n ⊎ OfCall n

-- an answer by its number: that of a place is 3
pub number-given : (t : Told) (n : ℕ) → ByFrame t n → ((m : ℕ) → t ≡ refusal m → Given m) → Given n
number-given (packet p) n e f = let z : ◌≡◌ {A = ℕ} 0 1 = cc in absurd (omega arith)
number-given (refusal m) n e f = let z : m ≡ n = cc in subst Given z (f m refl)
number-given (broken m) n e f = let z : 3 ≡ n = cc in inl (inl (omega arith, omega arith))

read-refused : (h : Held) (bs : List ℕ) (n : ℕ) → (read_call h bs).0 ≡ some (refusal n) → Given n
read-refused h bs n = go (sound_frame h.st) (leb raw_limit (length h.recv))
  where
    go : (s r : Bool) → (read_by s r h bs).0 ≡ some (refusal n) → Given n
    go false r e = let z : 10 ≡ n = cc in inr (inl (sym z))
    go true false e = let z : 11 ≡ n = cc in inr (inr (sym z))
    go true true e =
        inl (subst (λ (o : Option Told). With SmallHeld o (read_on h bs).2) e
        (with-hear owes_none hands_none take_byte none-owed SmallHeld (λ g. tt) small-byte h bs))

pub read-given : (h : Held) (bs : List ℕ) (t : Told) (n : ℕ) → (read_call h bs).0 ≡ some t → ByFrame t n → Given n
read-given h bs t n e k = number-given t n k (λ m z. read-refused h bs m (e ∙ ap (λ (t : Told). some t) z))

hear-refused : (c : Memory) (bs : List ℕ) (n : ℕ) → (hear_call c bs).0 ≡ some (said (refusal n)) → Given n
hear-refused c bs n = go (sound c.st) (roomy c.recv c.word)
  where
    go : (s r : Bool) → (hear_by s r c bs).0 ≡ some (said (refusal n)) → Given n
    go false r e = let z : 10 ≡ n = cc in inr (inl (sym z))
    go true false e = let z : 11 ≡ n = cc in inr (inr (sym z))
    go true true e = inl (subst (λ (o : Option Event). With SmallEvent o (hear_on c bs).2) e (small-hear c bs))

pub hear-given : (c : Memory) (bs : List ℕ) (t : Told) (n : ℕ) → (hear_call c bs).0 ≡ some (said t) → ByFrame t n → Given n
hear-given c bs t n e k = number-given t n k (λ m z. hear-refused c bs m (e ∙ ap (λ (t : Told). some (said t)) z))
