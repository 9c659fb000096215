-- A new byte is never answered by a frame, and a delivered payload stands in the receive buffer that comes back.
-- Quiet, quiet-with       no frame's answer, and what holds of such an answer
-- eat-quiet               a new byte
-- heard-with              so what holds of each block's answer, of a lost lock, and of a stored byte's answer, holds of a call
-- there-as                what the frame reader says of a byte, as the channel's answer
-- hand-there, eat-there   a delivered payload is the part of the receive buffer that a call of its own hands out: behind one move ..
-- payload-there           .. and behind a call
use Prim.Native.Nat.{ℕ, suc}
use mathlib.Core.Bool.{Bool, true, false}
use mathlib.Core.List.{List}
use mathlib.Core.Option.{Option, some, none}
use lib.ListN.{get_or, set}
use lib.Dec.{ltb}
use Rattle.base.specs.Calls.{With}
use Rattle.base.proofs.Calls.{with-hear}
use Rattle.packet_spec.specs.Frame.{Told}
use Rattle.stream.specs.Call.{take_byte}
use Rattle.stream.proofs.Delivery.{ThereIf, there-byte}
use Rattle.channel_spec.specs.declared.Hunting.{Hunting}
use Rattle.channel_spec.specs.declared.Condition.{Condition}
use Rattle.channel_spec.specs.Sender.{word_bytes}
use Rattle.channel_spec.specs.Meaning.{Event, said, block, lost, is_marker, shift}
use Rattle.channel.specs.Call.{Memory, held_in, word_on, compare_on, mark_on, eat_by, eat_byte, owed, as_event, hand_on}
use Rattle.channel.specs.Call.{sound, roomy, hear_on, hear_by, hear_call, ThereEvent}
use Rattle.channel.proofs.Cutting.{hand-one}

-- ---- a new byte
abbrev pub Quiet : Option Event → Type 0
Quiet none = Unit {0}
Quiet (some (said a)) = ⊥
Quiet (some (block x)) = Unit {0}
Quiet (some lost) = Unit {0}

pub quiet-with : {S : Type 0} (Q : Event → S → Type 0) → ((x : Condition) (s : S) → Q (block x) s) → ((s : S) → Q lost s)
    → (o : Option Event) (s : S) → Quiet o → With Q o s
quiet-with Q by-block by-lost none s q = tt
quiet-with Q by-block by-lost (some (said a)) s q = absurd q
quiet-with Q by-block by-lost (some (block x)) s q = by-block x s
quiet-with Q by-block by-lost (some lost) s q = by-lost s

quiet_word : (t : Bool) (c : Memory) (k : List ℕ) → Quiet (word_on t c k).0
quiet_word true c k = tt
quiet_word false c k = tt

quiet-compare : (t : Bool) (f : Hunting) (c : Memory) → Quiet (compare_on t f c).0
quiet-compare true f c = tt
quiet-compare false f c = tt

quiet-mark : (t : Bool) (f : Hunting) (c : Memory) → Quiet (mark_on t f c).0
quiet-mark true f c = tt
quiet-mark false f c = quiet-compare (is_marker f) f c

quiet_by : (l t : Bool) (c : Memory) (b : ℕ) → Quiet (eat_by l t c b).0
quiet_by false t c b = tt
quiet_by true true c b = quiet_word (ltb (suc c.st.lock.word) word_bytes) c (set c.word c.st.lock.word b)
quiet_by true false c b = quiet-mark (ltb (suc c.st.lock.marker) 4) (shift c.st.hunting b) c

pub eat-quiet : (c : Memory) (b : ℕ) → Quiet (eat_byte c b).0
eat-quiet c b = quiet_by c.st.locked (ltb c.st.lock.word word_bytes) c b

pub heard-with : (Q : Event → Memory → Type 0) → ((x : Condition) (c : Memory) → Q (block x) c) → ((c : Memory) → Q lost c)
    → ((c : Memory) → With Q (hand_on c).0 (hand_on c).1) → (c : Memory) (bs : List ℕ) → With Q (hear_on c bs).0 (hear_on c bs).2
heard-with Q by-block by-lost by_hand =
    with-hear owed hand_on eat_byte hand-one Q by_hand (λ c b. quiet-with Q by-block by-lost (eat_byte c b).0 (eat_byte c b).1 (eat-quiet c b))

-- ---- a delivered payload
pub there-as : (o : Option Told) (d : Memory) → ThereIf o d.recv → With ThereEvent (as_event o) d
there-as none d t = tt
there-as (some a) d t = t

pub hand-there : (c : Memory) → With ThereEvent (hand_on c).0 (hand_on c).1
hand-there c =
    let b : ℕ = get_or c.word c.st.lock.handed 0 in
    there-as (take_byte (held_in c) b).0 (hand_on c).1 (there-byte (held_in c) b)

pub eat-there : (c : Memory) (b : ℕ) → With ThereEvent (eat_byte c b).0 (eat_byte c b).1
eat-there c b = quiet-with ThereEvent (λ x d. tt) (λ d. tt) (eat_byte c b).0 (eat_byte c b).1 (eat-quiet c b)

there-by-call : (s r : Bool) (c : Memory) (bs : List ℕ) → With ThereEvent (hear_by s r c bs).0 (hear_by s r c bs).2
there-by-call false r c bs = tt
there-by-call true false c bs = tt
there-by-call true true c bs = heard-with ThereEvent (λ x d. tt) (λ d. tt) hand-there c bs

-- a delivered payload is the part of the receive buffer that a call of its own hands out
pub payload-there : (c : Memory) (bs : List ℕ) → With ThereEvent (hear_call c bs).0 (hear_call c bs).2
payload-there c bs = there-by-call (sound c.st) (roomy c.recv c.word) c bs
