-- A new byte is never answered by a frame, and a delivered payload stands in the receive buffer that comes back.
-- eat-quiet               a new byte
-- heard-with              so what holds of each block's answer, of a lost lock, and of a stored byte's answer, holds of a call
-- hand-there, eat-there   a delivered payload is the part of the receive buffer that a call of its own hands out: behind one move ..
-- payload-there           .. and behind a call
use Prim.Native.Nat.{ℕ, suc}
use mathlib.Core.Bool.{Bool, true, false}
use mathlib.Core.List.{List}
use mathlib.Core.Option.{Option, some, none}
use lib.ListN.{get_or, set}
use lib.Dec.{ltb}
use Rattle.base.specs.Calls.{With}
use Rattle.base.proofs.Calls.{with-hear}
use Rattle.packet_spec.specs.Frame.{Told}
use Rattle.stream.specs.Call.{take_byte}
use Rattle.stream.proofs.Delivery.{ThereIf, there-byte}
use Rattle.interleaver_spec.specs.Running.{pull}
use Rattle.interleaver_spec.specs.declared.Back.{Back}
use Rattle.channel_spec.specs.declared.Hunting.{Hunting}
use Rattle.channel_spec.specs.Sender.{word_bytes}
use Rattle.channel_spec.specs.declared.Condition.{Condition}
use Rattle.channel_spec.specs.Meaning.{Event, block, lost, is_marker, shift}
use Rattle.channel.specs.Call.{as_event, roomy}
use Rattle.channel.proofs.Delivery.{Quiet, quiet-with}
use Rattle.subchannel_spec.specs.Sender.{group_bytes}
use Rattle.subchannel.specs.declared.lane.Lane.{Lane}
use Rattle.subchannel.specs.Call.{Memory, held_in, word_at, word_on, group_on, compare_on, mark_on, eat_by, eat_byte, owed, hand_on}
use Rattle.subchannel.specs.Call.{sound, hear_on, hear_by, hear_call, ThereEvent}
use Rattle.subchannel.proofs.Cutting.{hand-one}

-- ---- a new byte
quiet_word : (t : Bool) (s : Lane) (w : ℕ) (l : List ℕ) → Quiet (word_on t s w l).0
quiet_word true s w l = tt
quiet_word false s w l = tt

quiet-group : (o : Option ℕ) (s : Lane) (l : List ℕ) → Quiet (group_on o s l).0
quiet-group none s l = tt
quiet-group (some y) s l = let w : ℕ = word_at s.counts.word in quiet_word (ltb (suc w) word_bytes) s w (set l w y)

quiet-compare : (t : Bool) (f : Hunting) (s : Lane) → Quiet (compare_on t f s).0
quiet-compare true f s = tt
quiet-compare false f s = tt

quiet-mark : (t : Bool) (f : Hunting) (s : Lane) → Quiet (mark_on t f s).0
quiet-mark true f s = tt
quiet-mark false f s = quiet-compare (is_marker f) f s

quiet_by : (o l t : Bool) (s : Lane) (k : Back) (w : List ℕ) (b : ℕ) → Quiet (eat_by o l t s k w b).0
quiet_by true l t s k w b = tt
quiet_by false false t s k w b = tt
quiet_by false true true s k w b = quiet-group (pull s.settings.depth k b).0 s w
quiet_by false true false s k w b = quiet-mark (ltb (suc s.counts.marker) 4) (shift s.hunting b) s

pub eat-quiet : (c : Memory) (b : ℕ) → Quiet (eat_byte c b).0
eat-quiet c b =
    let s : Lane = c.st.lane in quiet_by s.lost s.locked (ltb s.counts.group group_bytes) s c.st.back c.word b

pub heard-with : (Q : Event → Memory → Type 0) → ((x : Condition) (c : Memory) → Q (block x) c) → ((c : Memory) → Q lost c)
    → ((c : Memory) → With Q (hand_on c).0 (hand_on c).1) → (c : Memory) (bs : List ℕ) → With Q (hear_on c bs).0 (hear_on c bs).2
heard-with Q by-block by-lost by_hand =
    with-hear owed hand_on eat_byte hand-one Q by_hand (λ c b. quiet-with Q by-block by-lost (eat_byte c b).0 (eat_byte c b).1 (eat-quiet c b))

-- ---- a delivered payload
there-as : (o : Option Told) (c : Memory) → ThereIf o c.recv → With ThereEvent (as_event o) c
there-as none c t = tt
there-as (some a) c t = t

pub hand-there : (c : Memory) → With ThereEvent (hand_on c).0 (hand_on c).1
hand-there c =
    let b : ℕ = get_or c.word c.st.lane.counts.handed 0 in
    there-as (take_byte (held_in c) b).0 (hand_on c).1 (there-byte (held_in c) b)

pub eat-there : (c : Memory) (b : ℕ) → With ThereEvent (eat_byte c b).0 (eat_byte c b).1
eat-there c b = quiet-with ThereEvent (λ x d. tt) (λ d. tt) (eat_byte c b).0 (eat_byte c b).1 (eat-quiet c b)

there-by-call : (s r : Bool) (c : Memory) (bs : List ℕ) → With ThereEvent (hear_by s r c bs).0 (hear_by s r c bs).2
there-by-call false r c bs = tt
there-by-call true false c bs = tt
there-by-call true true c bs = heard-with ThereEvent (λ x d. tt) (λ d. tt) hand-there c bs

-- a delivered payload is the part of the receive buffer that a call of its own hands out
pub payload-there : (c : Memory) (bs : List ℕ) → With ThereEvent (hear_call c bs).0 (hear_call c bs).2
payload-there c bs = there-by-call (sound c.st) (roomy c.recv c.word) c bs
