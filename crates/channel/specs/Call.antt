-- The receiver as it is called (paper 01, "Opportunistic channel" on buffers and on calls): its state and the two lent buffers go in
-- and come back, and one call gives at most one answer.
-- Memory, memory, held_in           state, receive buffer and word buffer; the frame reader in it
-- counts, hunting_with, fresh_receiver, locked_with   states, by their counts
-- hunt_on, mend_in, word_on, compare_on, mark_on, eat_by, eat_byte   one new byte, by where it comes
-- owed_by, owes, owed               message bytes of a stored word that are not handed on yet
-- as_event, hand_with, hand_on        one of them handed on
-- hear_all                          what a byte string means: its answers, and state and buffers behind it
-- sound_lock, sound, roomy, Fine    what 10 and 11 ask; states and buffers that pass them
-- hear_on, hear_by, hear_call         one call
-- hearing_of, HearingIs             .. and that the code's results are those
-- EveryCut                         a byte string, cut in every way
-- ThereEvent                       that a delivered payload stands in the receive buffer
-- in_use                            the final state that counts
-- memory_of                         the state of the receiver without a limit, in numbers and the buffers
use Rattle.std.specs.Prelude.{ℕ, suc, ◌-◌, ◌≤◌, ◌≡◌, Bool, true, false, ◌&&◌, List, ◌++◌, length, take, drop, get_or, set, eqb, ltb, leb}
use Rattle.std.proofs.Math.Option.{Option, some, none}
use Rattle.base.specs.Calls.{joined, all, hear, Yields}
use Rattle.packet_spec.specs.Contents.{raw_limit}
use Rattle.packet_spec.specs.Frame.{Told, refusal, There}
use Rattle.stream.specs.Call.{Held, held, fresh, take_byte, held_of, sound as sound_frame, Fine as FineFrame}
use Rattle.channel_spec.specs.declared.Hunting.{Hunting}
use Rattle.channel.specs.declared.locked.Locked.{Locked}
use Rattle.channel.specs.declared.receiver.Receiver.{Receiver}
use Rattle.channel_spec.specs.Answer.{answered}
use Rattle.channel.specs.declared.answer.Hearing.{Hearing}
use Rattle.channel_spec.specs.Sender.{message_bytes, word_bytes}
use Rattle.channel_spec.specs.Meaning.{condition, mend}
use Rattle.channel_spec.specs.Meaning.{Event, said, block, lost, shift, is_marker, zeros, Chan, hunting, in_word, in_mark}

-- state, receive buffer and word buffer
pub record Memory : Type 0 where
  pub st : Receiver
  pub recv : List ℕ
  pub word : List ℕ

-- .. put together
abbrev pub memory : Receiver → List ℕ → List ℕ → Memory
memory s recv word = record { st = s; recv = recv; word = word }

-- the frame reader in it
abbrev pub held_in : Memory → Held
held_in c = held c.st.frame c.recv

-- bytes of a word, message bytes of it handed on, marker bytes behind it
abbrev pub counts : ℕ → ℕ → ℕ → Locked
counts w h m = record { word = w; handed = h; marker = m }

-- hunting with the last four bytes: counts zero, waiting for a flag
abbrev pub hunting_with : Hunting → List ℕ → List ℕ → Memory
hunting_with f l k = memory (record { locked = false; hunting = f; lock = counts 0 0 0; frame = fresh }) l k

-- fresh: four hunted bytes of zero
abbrev pub fresh_receiver : Receiver
fresh_receiver = record { locked = false; hunting = zeros; lock = counts 0 0 0; frame = fresh }

-- locked, with these counts
abbrev pub locked_with : Hunting → ℕ → ℕ → ℕ → Held → List ℕ → Memory
locked_with f w h m r k = memory (record { locked = true; hunting = f; lock = counts w h m; frame = r.st }) r.recv k

-- hunting, by: are the last four the marker
abbrev pub hunt_on : Bool → Hunting → Memory → Memory
hunt_on true f c = locked_with f 0 0 0 (held_in c) c.word
hunt_on false f c = memory (record { locked = false; hunting = f; lock = c.st.lock; frame = c.st.frame }) c.recv c.word

-- the word buffer, the whole word at its start as repair leaves it
abbrev pub mend_in : List ℕ → List ℕ
mend_in k = mend (take word_bytes k) ++ drop word_bytes k

-- a byte of a word, by: is it not whole yet. A whole word gives the block's answer
abbrev pub word_on : Bool → Memory → List ℕ → Option Event × Memory
word_on true c k = (none, locked_with c.st.hunting (suc c.st.lock.word) c.st.lock.handed c.st.lock.marker (held_in c) k)
word_on false c k = (some (block (condition (take word_bytes k))), locked_with c.st.hunting word_bytes 0 0 (held_in c) (mend_in k))

-- four marker bytes, by: are they the marker. Lock lost: any open packet is dropped, and they are hunted in
abbrev pub compare_on : Bool → Hunting → Memory → Option Event × Memory
compare_on true f c = (none, locked_with f 0 0 0 (held_in c) c.word)
compare_on false f c = (some lost, hunting_with f c.recv c.word)

-- a marker byte, by: are they not four yet
abbrev pub mark_on : Bool → Hunting → Memory → Option Event × Memory
mark_on true f c = (none, locked_with f c.st.lock.word c.st.lock.handed (suc c.st.lock.marker) (held_in c) c.word)
mark_on false f c = compare_on (is_marker f) f c

-- one new byte, by: is it locked, is the word not whole yet
abbrev pub eat_by : Bool → Bool → Memory → ℕ → Option Event × Memory
eat_by false t c b = (none, hunt_on (is_marker (shift c.st.hunting b)) (shift c.st.hunting b) c)
eat_by true true c b = word_on (ltb (suc c.st.lock.word) word_bytes) c (set c.word c.st.lock.word b)
eat_by true false c b = mark_on (ltb (suc c.st.lock.marker) 4) (shift c.st.hunting b) c

-- one new byte
abbrev pub eat_byte : Memory → ℕ → Option Event × Memory
eat_byte c b = eat_by c.st.locked (ltb c.st.lock.word word_bytes) c b

-- message bytes not handed on yet, by: is it locked, is the word whole
abbrev pub owed_by : Bool → Bool → ℕ → ℕ
owed_by true true h = message_bytes - h
owed_by true false h = 0
owed_by false t h = 0

-- message bytes of a stored word that are not handed on yet
abbrev pub owes : Receiver → ℕ
owes s = owed_by s.locked (eqb s.lock.word word_bytes) s.lock.handed

-- .. of those in memory
abbrev pub owed : Memory → ℕ
owed c = owes c.st

-- a frame's answer is one of the channel
abbrev pub as_event : Option Told → Option Event
as_event none = none
as_event (some a) = some (said a)

-- by what the frame reader makes of a byte: one more is handed on
abbrev pub hand_with : Option Told × Held → Memory → Option Event × Memory
hand_with r c = (as_event r.0, locked_with c.st.hunting c.st.lock.word (suc c.st.lock.handed) c.st.lock.marker r.1 c.word)

-- one stored message byte is handed on to the frame reader
abbrev pub hand_on : Memory → Option Event × Memory
hand_on c = hand_with (take_byte (held_in c) (get_or c.word c.st.lock.handed 0)) c

-- a byte string: its answers, and state and buffers behind it
abbrev pub hear_all : Memory → List ℕ → List Event × Memory
hear_all = all owed hand_on eat_byte

-- one call behind refusals 10 and 11: the answer (none: "more wanted"), the bytes taken, state and buffers
abbrev pub hear_on : Memory → List ℕ → Option Event × ℕ × Memory
hear_on = hear owed hand_on eat_byte

-- what 10 asks of the lock's counts
abbrev pub sound_lock : Locked → Bool
sound_lock l = leb l.word word_bytes && (leb l.marker 3 && leb l.handed message_bytes)

-- 10: stored or raw count as for a frame, word above 255, marker above 3, handed on above 223
abbrev pub sound : Receiver → Bool
sound s = sound_frame s.frame && sound_lock s.lock

-- 11: receive buffer under 8,272 bytes, word buffer under 255
abbrev pub roomy : List ℕ → List ℕ → Bool
roomy recv word = leb raw_limit (length recv) && leb word_bytes (length word)

-- state and buffers pass 10 and 11
pub record Fine (c : Memory) : Type 0 where
  pub frame : FineFrame (held_in c)
  pub word : c.st.lock.word ≤ word_bytes
  pub marker : c.st.lock.marker ≤ 3
  pub handed : c.st.lock.handed ≤ message_bytes
  pub room : word_bytes ≤ length c.word

-- by: does it pass 10, does it pass 11
abbrev pub hear_by : Bool → Bool → Memory → List ℕ → Option Event × ℕ × Memory
hear_by false r c bs = (some (said (refusal 10)), 0, c)
hear_by true false c bs = (some (said (refusal 11)), 0, c)
hear_by true true c bs = hear_on c bs

-- one call
abbrev pub hear_call : Memory → List ℕ → Option Event × ℕ × Memory
hear_call c bs = hear_by (sound c.st) (roomy c.recv c.word) c bs

-- bs is heard by a fresh receiver, cut in every way, with all buffers that pass 11: the calls come to their end, and P holds of their
-- answers, and of state and buffers behind them
abbrev pub EveryCut : List ℕ → (List Event → Memory → Type 0) → Type 0
EveryCut bs P =
    (recv word : List ℕ) → raw_limit ≤ length recv → word_bytes ≤ length word →
    (pieces : List (List ℕ)) → joined pieces ≡ bs → Yields hear_call (memory fresh_receiver recv word) pieces P

-- a delivered payload stands in the receive buffer that comes back
abbrev pub ThereEvent : Event → Memory → Type 0
ThereEvent (said a) d = There a d.recv
ThereEvent (block c) d = Unit {0}
ThereEvent lost d = Unit {0}

-- the code's result of a call
abbrev pub hearing_of : Option Event × ℕ × Memory → Hearing
hearing_of x = record { answer = answered x.0; taken = x.1; receiver = x.2.st }

-- r is the result, l the receive buffer and k the word buffer of a call
abbrev pub HearingIs : Option Event × ℕ × Memory → Hearing → List ℕ → List ℕ → Type 0
HearingIs x r l k = (r ≡ hearing_of x) × (l ≡ x.2.recv) × (k ≡ x.2.word)

-- the state's numbers and the hunted bytes, and the bytes in use in both buffers: as many as the counts say, from the start
abbrev pub in_use : Memory → Receiver × List ℕ × List ℕ
in_use c = (c.st, take c.st.frame.stored c.recv, take c.st.lock.word c.word)

-- a word's bytes so far stand at the start of the word buffer, a frame's as `held_of` says; behind them stand the bytes k and j
abbrev pub memory_of : Chan → List ℕ → List ℕ → Memory
memory_of (hunting f) j k = hunting_with f j k
memory_of (in_word f w r) j k = locked_with f (length w) 0 0 (held_of r j) (w ++ k)
memory_of (in_mark f w n r) j k = locked_with f word_bytes message_bytes n (held_of r j) (w ++ k)
