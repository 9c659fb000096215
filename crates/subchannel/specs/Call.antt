-- One sub-channel as it is called (request W7): its state and its two lent buffers go in and come back, and one call gives at most one answer.
-- Memory, memory         state, receive buffer and word buffer
-- sub, lane, counts      .. of its parts; held_in: the frame reader in it
-- fresh_sub, told_sub, untold   at first; just told its settings; not told
-- telling                .. as it is told: 30, 32; as_telling: the same of the code's result
-- moved, counted, handing, handed   with other counts, last four bytes, frame reader
-- hunt_on, word_at, mend_in, word_on, group_on, compare_on, mark_on   one new byte, by where it stands
-- Given, behind, grouped, eat_by, in_memory   .. and what it gives
-- owed_by, owes, owed, hand_with   message bytes that are not handed on yet
-- eat, eat_byte, hand_on   one new byte; one stored message byte handed on
-- hear_all                what a byte string means: its answers, and state and buffers behind it
-- sound_counts, sound_lane, sound   what 10 asks
-- hear_on, hear_by, hear_call   one call; hearing_of, HearingIs: that the code's results are those
-- EveryCut               a byte string, cut in every way
-- Fine                   states and buffers that pass 10 and 11
-- ThereEvent             that a delivered payload stands in the receive buffer
-- in_use                  the final state that counts
-- handed_of, locked_with, memory_of   the state of the receiver without a limit, in numbers and the buffers
use Rattle.std.specs.Prelude.{ℕ, suc, ◌-◌, ◌≤◌, ◌≡◌, Bool, true, false, ◌&&◌, not, List, ◌++◌, length, take, drop, get_or, set, eqb, ltb, leb}
use Rattle.std.proofs.Math.Option.{Option, some, none}
use Rattle.base.specs.Calls.{joined, all, hear, Yields}
use Rattle.base.specs.Choice.{pick}
use Rattle.packet_spec.specs.Contents.{raw_limit}
use Rattle.packet_spec.specs.Frame.{Told, refusal, There}
use Rattle.parity.specs.Calls.{root_limit}
use Rattle.stream.specs.declared.frame.FrameReader.{FrameReader}
use Rattle.stream.specs.Call.{Held, held, fresh, take_byte, held_of, sound as sound_frame, Fine as FineFrame}
use Rattle.interleaver_spec.specs.Running.{depth_limit, fresh_back, pull, beyond}
use Rattle.interleaver_spec.specs.declared.Back.{Back}
use Rattle.channel_spec.specs.declared.Hunting.{Hunting}
use Rattle.channel_spec.specs.Sender.{word_bytes}
use Rattle.channel_spec.specs.Meaning.{Event, said, block, lost, shift, is_marker, zeros}
use Rattle.channel.specs.Call.{as_event, roomy}
use Rattle.channel_spec.specs.Answer.{answered}
use Rattle.subchannel_spec.specs.Sender.{message_bytes, group_bytes}
use Rattle.subchannel_spec.specs.Word.{condition, mend}
use Rattle.subchannel_spec.specs.Meaning as model
use Rattle.subchannel_spec.specs.Settings.{settings, within, Configured, Done, Refused, as_configured}
use Rattle.subchannel_spec.specs.declared.Settings.{Settings}
use Rattle.subchannel.specs.declared.counts.Counts.{Counts}
use Rattle.subchannel.specs.declared.lane.Lane.{Lane}
use Rattle.subchannel.specs.declared.sub.Sub.{Sub}
use Rattle.subchannel.specs.declared.sub.Hearing.{Hearing}
use Rattle.subchannel.specs.declared.sub.Telling.{Telling}

-- state, receive buffer and word buffer
pub record Memory : Type 0 where
  pub st : Sub
  pub recv : List ℕ
  pub word : List ℕ

-- .. put together
abbrev pub memory : Sub → List ℕ → List ℕ → Memory
memory s recv word = record { st = s; recv = recv; word = word }

abbrev pub sub : Lane → Back → Sub
sub s k = record { lane = s; back = k }

abbrev pub lane : Settings → Bool → Bool → Hunting → Counts → FrameReader → Lane
lane s l o f n h = record { settings = s; locked = l; lost = o; hunting = f; counts = n; frame = h }

-- bytes of the group, of the next marker; bytes in the word buffer, message bytes of it handed on
abbrev pub counts : ℕ → ℕ → ℕ → ℕ → Counts
counts g m w n = record { group = g; marker = m; word = w; handed = n }

-- with settings: hunting with four bytes of zero, waiting for a flag, counts zero, the interleaver at row zero
abbrev pub fresh_sub : Settings → Sub
fresh_sub s = sub (lane s false false zeros (counts 0 0 0 0) fresh) fresh_back

-- just told
abbrev pub told_sub : ℕ → ℕ → Sub
told_sub r d = fresh_sub (settings true r d)

-- not told
abbrev pub untold : Sub
untold = fresh_sub (settings false 0 0)

-- "30 and 32 on configuring": R above 64, depth above 64. Where they are refused it is not told
abbrev pub telling : ℕ → ℕ → Configured × Sub
telling r d = pick (ltb root_limit r) (Refused 30, untold) (pick (ltb depth_limit d) (Refused 32, untold) (Done, told_sub r d))

-- the same of the code's result
abbrev pub as_telling : Telling → Configured × Sub
as_telling x = (as_configured x.answer, x.sub)

-- the frame reader in it
abbrev pub held_in : Memory → Held
held_in c = held c.st.lane.frame c.recv

-- with other last four bytes, and counts
abbrev pub moved : Lane → Hunting → Counts → Lane
moved s f n = lane s.settings s.locked s.lost f n s.frame

-- with other counts
abbrev pub counted : Lane → Counts → Lane
counted s n = moved s s.hunting n

-- hunting, by: are the last four the marker
abbrev pub hunt_on : Bool → Hunting → Lane → Lane
hunt_on true f s = lane s.settings true false f (counts 0 0 0 0) s.frame
hunt_on false f s = moved s f s.counts

-- where the next byte of a word goes: behind a whole word a new one begins
abbrev pub word_at : ℕ → ℕ
word_at w = pick (ltb w word_bytes) w 0

-- the word buffer, the whole word at its start as repair leaves it
abbrev pub mend_in : ℕ → List ℕ → List ℕ
mend_in r l = mend r (take word_bytes l) ++ drop word_bytes l

-- a byte of a word, stored in its place w, by: is the word not whole yet. A whole word gives the block's answer
abbrev pub word_on : Bool → Lane → ℕ → List ℕ → Option Event × Lane × List ℕ
word_on true s w l = (none, counted s (counts (suc s.counts.group) s.counts.marker (suc w) 0), l)
word_on false s w l = (
  some (block (condition s.settings.parity (take word_bytes l))),
  counted s (counts (suc s.counts.group) s.counts.marker word_bytes 0),
  mend_in s.settings.parity l,
)

-- a byte of a group, by the byte that it brings, if any
abbrev pub group_on : Option ℕ → Lane → List ℕ → Option Event × Lane × List ℕ
group_on none s l = (none, counted s (counts (suc s.counts.group) s.counts.marker s.counts.word s.counts.handed), l)
group_on (some y) s l =
    let w : ℕ = word_at s.counts.word in word_on (ltb (suc w) word_bytes) s w (set l w y)

-- four marker bytes, by: are they the marker. Lock lost: any open packet is dropped, and nothing more is given
abbrev pub compare_on : Bool → Hunting → Lane → Option Event × Lane
compare_on true f s = (none, moved s f (counts 0 0 s.counts.word s.counts.handed))
compare_on false f s = (some lost, lane s.settings false true f (counts 0 0 0 0) fresh)

-- a marker byte, by: are they not four yet
abbrev pub mark_on : Bool → Hunting → Lane → Option Event × Lane
mark_on true f s = (none, moved s f (counts s.counts.group (suc s.counts.marker) s.counts.word s.counts.handed))
mark_on false f s = compare_on (is_marker f) f s

-- what a new byte gives: an answer, if there is one; the state and the word buffer
abbrev pub Given : Type 0
Given = Option Event × Lane × Back × List ℕ

-- .. behind the cells
abbrev pub behind : Back → Option Event × Lane × List ℕ → Given
behind k x = (x.0, x.1, k, x.2)

-- a byte of a group goes through the interleaver
abbrev pub grouped : Lane → Back → List ℕ → ℕ → Given
grouped s k w b = let x : Option ℕ × Back = pull s.settings.depth k b in behind x.1 (group_on x.0 s w)

-- one new byte, by: is lock lost, is it locked, is the group not whole yet
abbrev pub eat_by : Bool → Bool → Bool → Lane → Back → List ℕ → ℕ → Given
eat_by true l t s k w b = (none, s, k, w)
eat_by false false t s k w b = (none, hunt_on (is_marker (shift s.hunting b)) (shift s.hunting b) s, k, w)
eat_by false true true s k w b = grouped s k w b
eat_by false true false s k w b =
    let x : Option Event × Lane = mark_on (ltb (suc s.counts.marker) 4) (shift s.hunting b) s in (x.0, x.1, k, w)

abbrev pub eat : Lane → Back → List ℕ → ℕ → Given
eat s k w b = eat_by s.lost s.locked (ltb s.counts.group group_bytes) s k w b

-- .. the receive buffer stays
abbrev pub in_memory : List ℕ → Given → Option Event × Memory
in_memory recv x = (x.0, memory (sub x.1 x.2) recv x.3)

abbrev pub eat_byte : Memory → ℕ → Option Event × Memory
eat_byte c b = in_memory c.recv (eat c.st.lane c.st.back c.word b)

-- message bytes of a stored word that are not handed on yet, by: is lock lost, is it locked, is the word whole
abbrev pub owed_by : Bool → Bool → Bool → ℕ → ℕ → ℕ
owed_by true l t m n = 0
owed_by false false t m n = 0
owed_by false true true m n = m - n
owed_by false true false m n = 0

abbrev pub owes : Lane → ℕ
owes s = owed_by s.lost s.locked (eqb s.counts.word word_bytes) (message_bytes s.settings.parity) s.counts.handed

-- .. of those in memory
abbrev pub owed : Memory → ℕ
owed c = owes c.st.lane

-- n message bytes handed on, and the frame reader behind them
abbrev pub handing : Lane → ℕ → FrameReader → Lane
handing s n h = lane s.settings s.locked s.lost s.hunting (counts s.counts.group s.counts.marker s.counts.word n) h

-- .. in memory
abbrev pub handed : Memory → ℕ → Held → Memory
handed c n h = memory (sub (handing c.st.lane n h.st) c.st.back) h.recv c.word

-- by what the frame reader makes of a byte: one more is handed on
abbrev pub hand_with : Option Told × Held → Memory → Option Event × Memory
hand_with x c = (as_event x.0, handed c (suc c.st.lane.counts.handed) x.1)

-- one stored message byte is handed on to the frame reader
abbrev pub hand_on : Memory → Option Event × Memory
hand_on c = hand_with (take_byte (held_in c) (get_or c.word c.st.lane.counts.handed 0)) c

-- a byte string: its answers, and state and buffers behind it
abbrev pub hear_all : Memory → List ℕ → List Event × Memory
hear_all = all owed hand_on eat_byte

-- one call behind refusals 10 and 11: the answer (none: "more wanted"), the bytes taken, state and buffers
abbrev pub hear_on : Memory → List ℕ → Option Event × ℕ × Memory
hear_on = hear owed hand_on eat_byte

-- what 10 asks of the counts: "also when a group counts more than four words", marker above 3, word above 255, handed on above 255 - R
abbrev pub sound_counts : ℕ → Counts → Bool
sound_counts r n = leb n.group group_bytes && (leb n.marker 3 && (leb n.word word_bytes && leb n.handed (message_bytes r)))

-- of all but the cells
abbrev pub sound_lane : Lane → Bool
sound_lane s = sound_frame s.frame && (within s.settings && sound_counts s.settings.parity s.counts)

-- 10: a count beyond its limit, settings that no configuring takes, a cell place of N or more
abbrev pub sound : Sub → Bool
sound s = sound_lane s.lane && not (beyond s.lane.settings.depth s.back.matrix.place)

-- by: does it pass 10, does it pass 11
abbrev pub hear_by : Bool → Bool → Memory → List ℕ → Option Event × ℕ × Memory
hear_by false r c bs = (some (said (refusal 10)), 0, c)
hear_by true false c bs = (some (said (refusal 11)), 0, c)
hear_by true true c bs = hear_on c bs

-- one call
abbrev pub hear_call : Memory → List ℕ → Option Event × ℕ × Memory
hear_call c bs = hear_by (sound c.st) (roomy c.recv c.word) c bs

-- the code's result of a call
abbrev pub hearing_of : Option Event × ℕ × Memory → Hearing
hearing_of x = record { answer = answered x.0; taken = x.1; sub = x.2.st }

-- r is the result, l the receive buffer and k the word buffer of a call
abbrev pub HearingIs : Option Event × ℕ × Memory → Hearing → List ℕ → List ℕ → Type 0
HearingIs x r l k = (r ≡ hearing_of x) × (l ≡ x.2.recv) × (k ≡ x.2.word)

-- bs is heard by a sub-channel that was just told r and d, cut in every way, with all buffers that pass 11: the calls come to their end, and P
-- holds of their answers, and of state and buffers behind them
abbrev pub EveryCut : ℕ → ℕ → List ℕ → (List Event → Memory → Type 0) → Type 0
EveryCut r d bs P =
    (recv word : List ℕ) → raw_limit ≤ length recv → word_bytes ≤ length word →
    (pieces : List (List ℕ)) → joined pieces ≡ bs → Yields hear_call (memory (told_sub r d) recv word) pieces P

-- state and buffers pass 10 and 11
pub record Fine (c : Memory) : Type 0 where
  pub frame : FineFrame (held_in c)
  pub parity : c.st.lane.settings.parity ≤ root_limit
  pub depth : c.st.lane.settings.depth ≤ depth_limit
  pub group : c.st.lane.counts.group ≤ group_bytes
  pub marker : c.st.lane.counts.marker ≤ 3
  pub word : c.st.lane.counts.word ≤ word_bytes
  pub handed : c.st.lane.counts.handed ≤ message_bytes c.st.lane.settings.parity
  pub place : beyond c.st.lane.settings.depth c.st.back.matrix.place ≡ false
  pub room : word_bytes ≤ length c.word

-- a delivered payload stands in the receive buffer that comes back
abbrev pub ThereEvent : Event → Memory → Type 0
ThereEvent (said a) c = There a c.recv
ThereEvent (block x) c = Unit {0}
ThereEvent lost c = Unit {0}

-- the state, and the bytes in use in both buffers: as many as the counts say, from the start
abbrev pub in_use : Memory → Sub × List ℕ × List ℕ
in_use c = (c.st, take c.st.lane.frame.stored c.recv, take c.st.lane.counts.word c.word)

-- of a word's bytes so far: a whole word is handed on
abbrev pub handed_of : ℕ → List ℕ → ℕ
handed_of r w = pick (ltb (length w) word_bytes) 0 (message_bytes r)

-- locked, in a group or behind one
abbrev pub locked_with : ℕ → ℕ → Hunting → Counts → Back → Held → List ℕ → Memory
locked_with r d f n k h w = memory (sub (lane (settings true r d) true false f n h.st) k) h.recv w

-- a word's bytes so far stand at the start of the word buffer, a frame's as `held_of` says; behind them stand the bytes l and j
abbrev pub memory_of : ℕ → ℕ → model.Sub → List ℕ → List ℕ → Memory
memory_of r d (model.hunting f) j l = memory (sub (lane (settings true r d) false false f (counts 0 0 0 0) fresh) fresh_back) j l
memory_of r d (model.in_group f n k w q) j l = locked_with r d f (counts n 0 (length w) (handed_of r w)) k (held_of q j) (w ++ l)
memory_of r d (model.in_mark f n k w q) j l = locked_with r d f (counts group_bytes n (length w) (handed_of r w)) k (held_of q j) (w ++ l)
memory_of r d (model.silent f k) j l = memory (sub (lane (settings true r d) false true f (counts 0 0 0 0) fresh) k) j l
