-- A receiver's answers and states, for C: each answer as a number and what it tells besides, each state as numbers.
-- bare, of_judged, of_block                       a number alone; what is told of a closed frame, of a block
-- of_heard, of_answer                             an answer by its number, on the plain stream and on the channel
-- of_call                                        the numbers that refuse a call
-- is_set, flag_number                             a flag from its number, and back
-- frame_by, frame_of, receiver_of                  a state read from its numbers, whatever these are
-- told_numbers, stream_numbers, channel_numbers    the numbers behind a call
use Rattle.std.specs.Prelude.{ℕ, ◌%◌, Bool, not, ◌||◌, List, [], ◌∷◌, ◌++◌, eqb, get_or}
use Rattle.base.specs.Choice.{pick}
use Rattle.packet_spec.specs.Contents.{payload_at}
use Rattle.packet_spec.specs.Frame.{no_delivery}
use Rattle.packet_spec.specs.declared.Judged.{Judged}
use Rattle.packet_spec.specs.declared.Judged.TheVariants.{Packet, Refused, Broken}
use Rattle.stream.specs.declared.frame.FrameReader.{FrameReader}
use Rattle.std.specs.Prelude.{Option, None, Some}
use Rattle.channel_spec.specs.declared.Condition.{Condition}
use Rattle.channel_spec.specs.declared.Condition.TheVariants.{Clean, Repaired, Beyond}
use Rattle.channel.specs.declared.receiver.Receiver.{Receiver}
use Rattle.channel_spec.specs.declared.Answer.{Answer}
use Rattle.channel_spec.specs.declared.Answer.TheVariants.{More, Said, Block, LockLost}
use Rattle.rack.specs.declared.answers.Numbered.{Numbered}

-- a number alone: 0 is "more wanted", a refusal has the paper's number
abbrev pub bare : ℕ → Numbered
bare n = record { number = n; delivery = no_delivery; place = 0; repaired = 0 }

-- a packet: 256, and where its payload stands in the receive buffer. An escape that broke: 3, and the place of the byte behind 7D
abbrev pub of_judged : Judged → Numbered
of_judged (Packet d) = record { number = 256; delivery = d; place = payload_at d.key; repaired = 0 }
of_judged (Refused n) = bare n
of_judged (Broken k) = record { number = 3; delivery = no_delivery; place = k; repaired = 0 }

-- on the plain stream
abbrev pub of_heard : Option Judged → Numbered
of_heard None = bare 0
of_heard (Some j) = of_judged j

-- a block: clean 258, repaired 259 and in how many places, beyond repair 260
abbrev pub of_block : Condition → Numbered
of_block Clean = bare 258
of_block (Repaired k) = record { number = 259; delivery = no_delivery; place = 0; repaired = k }
of_block Beyond = bare 260

-- on the channel: also lock lost, 257
abbrev pub of_answer : Answer → Numbered
of_answer More = bare 0
of_answer (Said j) = of_judged j
of_answer (Block c) = of_block c
of_answer LockLost = bare 257

-- 10 and 11 refuse a call; every other number is an accepted call's
abbrev pub of_call : ℕ → Bool
of_call n = eqb n 10 || eqb n 11

-- a flag is set by every number but 0
abbrev pub is_set : ℕ → Bool
is_set n = not (eqb n 0)

-- .. and told as 1
abbrev pub flag_number : Bool → ℕ
flag_number b = pick b 1 0

-- the frame reader of its four numbers
abbrev pub frame_by : ℕ → ℕ → ℕ → ℕ → FrameReader
frame_by opened raw stored place = record { opened = is_set opened; raw = raw; stored = stored; place = place }

-- .. which stand from number 8 on
abbrev pub frame_of : List ℕ → FrameReader
frame_of s = frame_by (get_or s 8 0) (get_or s 9 0) (get_or s 10 0) (get_or s 11 0)

-- the channel's receiver; of a hunted byte's number the lowest byte counts
abbrev pub receiver_of : List ℕ → Receiver
receiver_of s = record {
  locked = is_set (get_or s 13 0);
  hunting = record { a = get_or s 17 0 % 256; b = get_or s 18 0 % 256; c = get_or s 19 0 % 256; d = get_or s 20 0 % 256 };
  lock = record { word = get_or s 14 0; handed = get_or s 15 0; marker = get_or s 16 0 };
  frame = frame_of s;
}

-- 0 to 7: bytes taken; format, key number, key length, port, sequence and payload length of a packet; the place that is told
abbrev pub told_numbers : ℕ → Numbered → List ℕ
told_numbers taken t =
    taken ∷ t.delivery.format ∷ t.delivery.number ∷ t.delivery.key ∷ t.delivery.port ∷ t.delivery.sequence ∷ t.delivery.length ∷ t.place ∷ []

-- 8 to 11: the frame reader
abbrev frame_numbers : FrameReader → List ℕ
frame_numbers f = flag_number f.opened ∷ f.raw ∷ f.stored ∷ f.place ∷ []

-- 12 to 20 on the channel: places repaired; the lock and its counts, the hunted bytes
abbrev lock_numbers : Numbered → Receiver → List ℕ
lock_numbers t s =
    t.repaired ∷ flag_number s.locked ∷ s.lock.word ∷ s.lock.handed ∷ s.lock.marker
    ∷ s.hunting.a ∷ s.hunting.b ∷ s.hunting.c ∷ s.hunting.d ∷ []

-- behind a call on the plain stream
abbrev pub stream_numbers : ℕ → Numbered → FrameReader → List ℕ
stream_numbers taken t f = told_numbers taken t ++ frame_numbers f

-- .. on the channel
abbrev pub channel_numbers : ℕ → Numbered → Receiver → List ℕ
channel_numbers taken t s = told_numbers taken t ++ (frame_numbers s.frame ++ lock_numbers t s)
