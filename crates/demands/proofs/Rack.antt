-- Request W14, in its words:
--   "A monitor rack written in C wants parity making, word checking and stream reading as functions it can call with numbers and byte slices. ..
--   Bring word checking within twice the Rust time, its promises unaltered."
-- What each function answers and leaves is `making`, `checking`, `mending`, `reading`, `hearing` (crates/rack/specs), to which Promises binds it;
-- these are the landed definitions with each case told by its number.
-- ..-refusals   the paper's table, row by row; ..-keeps, what a refused call leaves
-- rack-read-numbers, rack-hear-numbers   the numbers that the receiving calls give; never-nine, of both
-- rack-packet, rack-channel-packet   256 is told of a packet alone
-- mends-as-promised   a repair's number and word are those of every answer that repair promises
-- zeros-..      a state of zeros is a fresh one
-- ..-back       a state handed back as it was received is the same state
-- any_flag      a flag is set by every number but 0
use Prim.Native.Nat.{ℕ, ◌-◌, ◌<◌, ◌%◌}
use native.Mathlib.Omega.{arith}
use mathlib.Core.Path.{◌≡◌, refl, sym, ap, subst, ◌∙◌}
use mathlib.Core.Bool.{Bool, true, false, not}
use mathlib.Core.Logic.{◌⊎◌, ◌≢◌}
use mathlib.Core.Logic.◌⊎◌.{inl, inr}
use mathlib.Core.List.{List, [], ◌∷◌}
use mathlib.Core.Option.{Option, some, none}
use lib.ListN.{length, replicate}
use borrow.Author.Tests.{ne_eqb}
use Rattle.base.specs.Bytes.{Bytes}
use Rattle.base.specs.Written.{Written}
use Rattle.base.specs.Written as written
use Rattle.packet_spec.specs.Contents.{raw_limit, Packet}
use Rattle.packet_spec.specs.Frame.{Told, packet, refusal, broken}
use Rattle.parity.specs.Calls.{made, checked}
use Rattle.parity.specs.Checked.{Checked}
use Rattle.parity.specs.Checked as check
use Rattle.repair.specs.Promise.{Promised}
use Rattle.repair.specs.Way.{repaired}
use Rattle.repair.specs.Mended.{Mended}
use Rattle.repair.specs.Mended as repair
use Rattle.repair.proofs.Promising.{promised-is}
use Rattle.repair.proofs.Meeting.{repaired-promised}
use Rattle.stream.specs.Call as plain
use Rattle.stream.specs.declared.frame.FrameReader.{FrameReader}
use Rattle.std.specs.Prelude.{Option as Perhaps, None}
use Rattle.packet_spec.specs.declared.Judged.{Judged}
use Rattle.channel_spec.specs.Meaning.{Event, said, block, lost}
use Rattle.channel_spec.specs.declared.Condition.TheVariants.{Clean, Repaired, Beyond}
use Rattle.channel.specs.Call.{memory, fresh_receiver, hear_call}
use Rattle.channel_spec.specs.Answer.{answered}
use Rattle.channel.specs.declared.receiver.Receiver.{Receiver}
use Rattle.channel_spec.specs.declared.Answer.{Answer}
use Rattle.rack.specs.Words.{written_number, checked_number, mended_number, making, checking, mending}
use Rattle.rack.specs.Answers as told
use Rattle.rack.specs.Call.{read_by, reading, heard_by, hearing}
use Rattle.demands_laws.specs.Table.{Exact}
use Rattle.demands_laws.specs.Refusals.{FrameBeyond, Beyond as BeyondState, Short, OfFrame, OfCall, ByFrame}
use Rattle.demands.specs.Rack.{ByWord, ByCalled, OfReading, OfHearing, held_by, memory_by}
use Rattle.demands_laws.proofs.Rows.{first-each}
use Rattle.demands.proofs.Demand1.{make-refusals, make-keeps-out, check-refusals, repair-refusals, repair-keeps}
use Rattle.demands.proofs.Demand1.{read-refusals, read-keeps-all, hear-refusals, hear-keeps-all}
use Rattle.demands.proofs.Demand1.{read-numbers, hear-numbers}

-- a number that is neither 10 nor 11
no_call : (n m : ℕ) → OfCall n → m ≡ n → (m ≢ 10) × (m ≢ 11) → ⊥
no_call n m (inl e) k h = h.0 (k ∙ e)
no_call n m (inr e) k h = h.1 (k ∙ e)

-- ---- words
-- the numbers of the table of words
abbrev OfWord : ℕ → Type 0
OfWord n = (1 < n) × (n < 256)

by_written : (w : Written) (n : ℕ) → ByWord (written_number w) n → w ≡ written.Refused n
by_written (written.Wrote k) n b = absurd (omega (arith, b.0, b.1))
by_written (written.Refused m) n b = ap written.Refused b.0

by-checked : (c : Checked) (n : ℕ) → ByWord (checked_number c) n → c ≡ check.Refused n
by-checked check.Clean n b = absurd (omega (arith, b.0, b.1))
by-checked check.Damaged n b = absurd (omega (arith, b.0, b.1))
by-checked (check.Refused m) n b = ap check.Refused b.0

pub rack-make-refusals : (r : ℕ) (message out : List ℕ) → Exact ByWord (making r message out).0
    ((30, 64 < r) ∷  -- R above 64
    (31, length message ≢ 255 - r) ∷  -- message not 255 - R bytes
    (23, length out < r) ∷  -- output shorter than the result
    [])
rack-make-refusals r message out =
    let t = make-refusals r message out in
    record {
      says = λ n. (
        λ b. (t.says n).0 (by_written (made r message out).answer n b),
        λ f.
            let w = first-each OfWord ((30, 64 < r) ∷ (31, length message ≢ 255 - r) ∷ (23, length out < r) ∷ [])
            ((omega arith, omega arith), ((omega arith, omega arith), ((omega arith, omega arith), tt))) n f in
            (ap written_number ((t.says n).1 f), w.0, w.1),
      );
    }

pub rack-make-keeps : (r n : ℕ) (message out : List ℕ) → ByWord (making r message out).0 n → making r message out ≡ (n, out)
rack-make-keeps r n message out b =
    let k = make-keeps-out r message out n (by_written (made r message out).answer n b) in
    λ i. (b.0 i, k i)

pub rack-check-refusals : (r : ℕ) (word : List ℕ) → Exact ByWord (checking r word)
    ((30, 64 < r) ∷  -- R above 64
    (31, length word ≢ 255) ∷  -- word not 255
    [])
rack-check-refusals r word =
    let t = check-refusals r word in
    record {
      says = λ n. (
        λ b. (t.says n).0 (by-checked (checked r word) n b),
        λ f.
            let w = first-each OfWord ((30, 64 < r) ∷ (31, length word ≢ 255) ∷ []) ((omega arith, omega arith), ((omega arith, omega arith), tt)) n f in
            (ap checked_number ((t.says n).1 f), w.0, w.1),
      );
    }

-- what repair promises of a word is what the number and the word left say, and nothing else is
pub mends-as-promised : (r : ℕ) (word : List ℕ) → Bytes word → (a : Mended) (left : List ℕ) → Promised r word a left → (mended_number a, left) ≡ mending r word
mends-as-promised r word h a left p = let s = promised-is r word h a left p in λ i. (mended_number (s.0 i), s.1 i)

by-mended : (a : Mended) (n : ℕ) → ByWord (mended_number a) n → a ≡ repair.Refused n
by-mended repair.Clean n b = absurd (omega (arith, b.0, b.1))
by-mended (repair.Repaired k) n b = absurd (omega (arith, b.0, b.2))
by-mended repair.Beyond n b = absurd (omega (arith, b.0, b.1))
by-mended (repair.Refused m) n b = ap repair.Refused b.0

pub rack-repair-refusals : (r : ℕ) (word : List ℕ) → Bytes word → Exact ByWord (mending r word).0
    ((30, 64 < r) ∷  -- R above 64
    (31, length word ≢ 255) ∷  -- word not 255
    [])
rack-repair-refusals r word h =
    let t = repair-refusals r word (repaired r word).0 (repaired r word).1 (repaired-promised r word h) in
    record {
      says = λ n. (
        λ b. (t.says n).0 (by-mended (repaired r word).0 n b),
        λ f.
            let w = first-each OfWord ((30, 64 < r) ∷ (31, length word ≢ 255) ∷ []) ((omega arith, omega arith), ((omega arith, omega arith), tt)) n f in
            (ap mended_number ((t.says n).1 f), w.0, w.1),
      );
    }

pub rack-repair-keeps : (r n : ℕ) (word : List ℕ) → Bytes word → ByWord (mending r word).0 n → mending r word ≡ (n, word)
rack-repair-keeps r n word h b =
    let e = by-mended (repaired r word).0 n b in
    let p = subst (λ (a : Mended). Promised r word a (repaired r word).1) e (repaired-promised r word h) in
    let k = repair-keeps r n word (repaired r word).1 p in
    λ i. (b.0 i, k i)

-- ---- the plain stream
by-told : (o : Option Told) (n : ℕ) → ByCalled (told.of_heard (plain.answered o)).number n → o ≡ some (refusal n)
by-told none n b = absurd (no_call n 0 b.0 b.1 (omega arith, omega arith))
by-told (some (packet p)) n b = absurd (no_call n 256 b.0 b.1 (omega arith, omega arith))
by-told (some (refusal m)) n b = ap (λ (m : ℕ). some (refusal m)) b.1
by-told (some (broken k)) n b = absurd (no_call n 3 b.0 b.1 (omega arith, omega arith))

pub rack-read-refusals : (s recv bs : List ℕ) → Exact ByCalled (reading s recv bs).0
    ((10, FrameBeyond (told.frame_of s)) ∷  -- a count of the state is beyond its limit
    (11, length recv < raw_limit) ∷  -- receive buffer under 8,272 bytes
    [])
rack-read-refusals s recv bs =
    let x = plain.read_call (plain.held (told.frame_of s) recv) bs in
    let t = read-refusals (plain.held (told.frame_of s) recv) bs in
    record {
      says = λ n. (
        λ b. (t.says n).0 (b.0, by-told x.0 n b),
        λ f. let r = (t.says n).1 f in (r.0, ap (λ (o : Option Told). (told.of_heard (plain.answered o)).number) r.1),
      );
    }

-- no number of the state and no byte is changed
pub rack-read-keeps : (s recv bs : List ℕ) (n : ℕ) → ByCalled (reading s recv bs).0 n → reading s recv bs ≡ (n, s, recv)
rack-read-keeps s recv bs n b =
    let h = plain.held (told.frame_of s) recv in
    ap (read_by s) (read-keeps-all h bs n (b.0, by-told (plain.read_call h bs).0 n b)) ∙ kept n b.0
  where
    kept : (n : ℕ) → OfCall n → read_by s (some (refusal n), 0, plain.held (told.frame_of s) recv) ≡ (n, s, recv)
    kept n (inl e) = subst (λ (m : ℕ). read_by s (some (refusal m), 0, plain.held (told.frame_of s) recv) ≡ (m, s, recv)) (sym e) refl
    kept n (inr e) = subst (λ (m : ℕ). read_by s (some (refusal m), 0, plain.held (told.frame_of s) recv) ≡ (m, s, recv)) (sym e) refl

-- ---- the channel
by-event : (o : Option Event) (n : ℕ) → ByCalled (told.of_answer (answered o)).number n → o ≡ some (said (refusal n))
by-event none n b = absurd (no_call n 0 b.0 b.1 (omega arith, omega arith))
by-event (some (said (packet p))) n b = absurd (no_call n 256 b.0 b.1 (omega arith, omega arith))
by-event (some (said (refusal m))) n b = ap (λ (m : ℕ). some (said (refusal m))) b.1
by-event (some (said (broken k))) n b = absurd (no_call n 3 b.0 b.1 (omega arith, omega arith))
by-event (some (block Clean)) n b = absurd (no_call n 258 b.0 b.1 (omega arith, omega arith))
by-event (some (block (Repaired k))) n b = absurd (no_call n 259 b.0 b.1 (omega arith, omega arith))
by-event (some (block Beyond)) n b = absurd (no_call n 260 b.0 b.1 (omega arith, omega arith))
by-event (some lost) n b = absurd (no_call n 257 b.0 b.1 (omega arith, omega arith))

pub rack-hear-refusals : (s recv word bs : List ℕ) → Exact ByCalled (hearing s recv word bs).0
    ((10, BeyondState (told.receiver_of s)) ∷  -- a count of the state is beyond its limit
    (11, Short recv word) ∷  -- receive buffer under 8,272 bytes, word buffer under 255
    [])
rack-hear-refusals s recv word bs =
    let x = hear_call (memory (told.receiver_of s) recv word) bs in
    let t = hear-refusals (memory (told.receiver_of s) recv word) bs in
    record {
      says = λ n. (
        λ b. (t.says n).0 (b.0, by-event x.0 n b),
        λ f. let r = (t.says n).1 f in (r.0, ap (λ (o : Option Event). (told.of_answer (answered o)).number) r.1),
      );
    }

pub rack-hear-keeps : (s recv word bs : List ℕ) (n : ℕ) → ByCalled (hearing s recv word bs).0 n → hearing s recv word bs ≡ (n, s, recv, word)
rack-hear-keeps s recv word bs n b =
    let c = memory (told.receiver_of s) recv word in
    ap (heard_by s) (hear-keeps-all c bs n (b.0, by-event (hear_call c bs).0 n b)) ∙ kept n b.0
  where
    kept : (n : ℕ) → OfCall n → heard_by s (some (said (refusal n)), 0, memory (told.receiver_of s) recv word) ≡ (n, s, recv, word)
    kept n (inl e) = subst (λ (m : ℕ). heard_by s (some (said (refusal m)), 0, memory (told.receiver_of s) recv word) ≡ (m, s, recv, word)) (sym e) refl
    kept n (inr e) = subst (λ (m : ℕ). heard_by s (some (said (refusal m)), 0, memory (told.receiver_of s) recv word) ≡ (m, s, recv, word)) (sym e) refl

-- ---- request W9, "Show that 9 is never given": the numbers that the two receiving calls give, and 9 is none of them
-- a frame's answer has a number of frames or of calls
abbrev Numbered : (Told → Type 0) → Type 0
Numbered Is = (t : Told) (n : ℕ) → Is t → ByFrame t n → OfFrame n ⊎ OfCall n

told-number : (o : Option Told) → Numbered (λ t. o ≡ some t) → OfReading (told.of_heard (plain.answered o)).number
told-number none h = inl refl
told-number (some (packet p)) h = inr (inl refl)
told-number (some (refusal m)) h = inr (inr (h (refusal m) m refl refl))
told-number (some (broken k)) h = inr (inr (h (broken k) 3 refl refl))

event-number : (o : Option Event) → Numbered (λ t. o ≡ some (said t)) → OfHearing (told.of_answer (answered o)).number
event-number none h = inl (inl refl)
event-number (some (said (packet p))) h = inl (inr (inl refl))
event-number (some (said (refusal m))) h = inl (inr (inr (h (refusal m) m refl refl)))
event-number (some (said (broken k))) h = inl (inr (inr (h (broken k) 3 refl refl)))
event-number (some (block Clean)) h = inr (omega arith, omega arith)
event-number (some (block (Repaired k))) h = inr (omega arith, omega arith)
event-number (some (block Beyond)) h = inr (omega arith, omega arith)
event-number (some lost) h = inr (omega arith, omega arith)

pub rack-read-numbers : (s recv bs : List ℕ) → OfReading (reading s recv bs).0
rack-read-numbers s recv bs = let h = plain.held (told.frame_of s) recv in told-number (plain.read_call h bs).0 (read-numbers h bs)

pub rack-hear-numbers : (s recv word bs : List ℕ) → OfHearing (hearing s recv word bs).0
rack-hear-numbers s recv word bs = let c = memory (told.receiver_of s) recv word in event-number (hear_call c bs).0 (hear-numbers c bs)

no_nine : (n : ℕ) → OfReading n → n ≢ 9
no_nine n (inl e) k = omega (arith, e, k)
no_nine n (inr (inl e)) k = omega (arith, e, k)
no_nine n (inr (inr (inl (inl h)))) k = omega (arith, h.0, h.1, k)
no_nine n (inr (inr (inl (inr e)))) k = omega (arith, e, k)
no_nine n (inr (inr (inr h))) k = no_call n 9 h (sym k) (omega arith, omega arith)

none-nine : (n : ℕ) → OfHearing n → n ≢ 9
none-nine n (inl h) k = no_nine n h k
none-nine n (inr h) k = omega (arith, h.0, k)

pub never-nine : (s recv word bs : List ℕ) → ((reading s recv bs).0 ≢ 9) × ((hearing s recv word bs).0 ≢ 9)
never-nine s recv word bs = (no_nine _ (rack-read-numbers s recv bs), none-nine _ (rack-hear-numbers s recv word bs))

-- 256 is no refusal's number: where it is told, the receiver has delivered a packet
no-packet : (n : ℕ) → OfFrame n ⊎ OfCall n → n ≢ 256
no-packet n (inl (inl h)) k = omega (arith, h.1, k)
no-packet n (inl (inr e)) k = omega (arith, e, k)
no-packet n (inr h) k = no_call n 256 h (sym k) (omega arith, omega arith)

told-packet : (o : Option Told) → Numbered (λ t. o ≡ some t) → (told.of_heard (plain.answered o)).number ≡ 256 → (p : Packet) × (o ≡ some (packet p))
told-packet none h k = absurd (omega (arith, k))
told-packet (some (packet p)) h k = (p, refl)
told-packet (some (refusal m)) h k = absurd (no-packet m (h (refusal m) m refl refl) k)
told-packet (some (broken i)) h k = absurd (omega (arith, k))

event-packet : (o : Option Event) → Numbered (λ t. o ≡ some (said t)) → (told.of_answer (answered o)).number ≡ 256
    → (p : Packet) × (o ≡ some (said (packet p)))
event-packet none h k = absurd (omega (arith, k))
event-packet (some (said (packet p))) h k = (p, refl)
event-packet (some (said (refusal m))) h k = absurd (no-packet m (h (refusal m) m refl refl) k)
event-packet (some (said (broken i))) h k = absurd (omega (arith, k))
event-packet (some (block Clean)) h k = absurd (omega (arith, k))
event-packet (some (block (Repaired i))) h k = absurd (omega (arith, k))
event-packet (some (block Beyond)) h k = absurd (omega (arith, k))
event-packet (some lost) h k = absurd (omega (arith, k))

pub rack-packet : (s recv bs : List ℕ) → (reading s recv bs).0 ≡ 256 → (p : Packet) × ((plain.read_call (held_by (s, recv)) bs).0 ≡ some (packet p))
rack-packet s recv bs k = let h = held_by (s, recv) in told-packet (plain.read_call h bs).0 (read-numbers h bs) k

pub rack-channel-packet : (s recv word bs : List ℕ) → (hearing s recv word bs).0 ≡ 256
    → (p : Packet) × ((hear_call (memory_by (s, recv, word)) bs).0 ≡ some (said (packet p)))
rack-channel-packet s recv word bs k = let c = memory_by (s, recv, word) in event-packet (hear_call c bs).0 (hear-numbers c bs) k

-- ---- states as numbers: zeros are fresh
pub zeros-fresh : (told.frame_of (replicate 12 0) ≡ plain.fresh) × (told.receiver_of (replicate 21 0) ≡ fresh_receiver)
zeros-fresh = (refl, refl)

-- what a call leaves is read as the state that it gave, whatever else it tells
flag-back : (b : Bool) → told.is_set (told.flag_number b) ≡ b
flag-back true = refl
flag-back false = refl

byte-back : (x : ℕ) → x < 256 → x % 256 ≡ x
byte-back x h = omega arith

pub stream-back : (taken : ℕ) (a : Perhaps Judged) (f : FrameReader) → told.frame_of (told.stream_numbers taken (told.of_heard a) f) ≡ f
stream-back taken a f = λ i. record { opened = flag-back f.opened i; raw = f.raw; stored = f.stored; place = f.place }

pub channel-back : (taken : ℕ) (a : Answer) (s : Receiver) → Bytes (s.hunting.a ∷ s.hunting.b ∷ s.hunting.c ∷ s.hunting.d ∷ [])
    → told.receiver_of (told.channel_numbers taken (told.of_answer a) s) ≡ s
channel-back taken a s h = λ i. record {
  locked = flag-back s.locked i;
  hunting = record { a = byte-back _ h.0 i; b = byte-back _ h.1.0 i; c = byte-back _ h.1.1.0 i; d = byte-back _ h.1.1.1.0 i };
  lock = s.lock;
  frame = stream-back taken None s.frame i;
}

-- numbers that no call leaves: a flag above 1 is set, and of a hunted byte's number the lowest byte counts. Every other number is a count, which 10 measures
pub any_flag : (n : ℕ) → 0 < n → told.is_set n ≡ true
any_flag n h = ap not (ne_eqb n 0 (λ e. omega (arith, e)))
