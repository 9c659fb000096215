-- The numbers that C sees, said a second time and computed: a slip in a definition is seen here.
-- answers, words            each answer's number, of a receiver and of a word
-- stream-told, plain-told, channel-told, block-told, lost-told   which number of the state stands where behind a call
-- frame-read, receiver-read, hunted-read   .. and before one
use Prim.Native.Nat.{ℕ}
use mathlib.Core.Path.{◌≡◌, refl}
use mathlib.Core.Bool.{true}
use mathlib.Core.List.{List, [], ◌∷◌, ◌++◌}
use lib.ListN.{replicate}
use Rattle.base.specs.Written as written
use Rattle.packet_spec.specs.declared.Delivery.{Delivery}
use Rattle.packet_spec.specs.declared.Judged.TheVariants.{Packet, Refused, Broken}
use Rattle.stream.specs.declared.frame.FrameReader.{FrameReader}
use Rattle.std.specs.Prelude.{None, Some}
use Rattle.channel_spec.specs.declared.Condition.TheVariants.{Clean, Repaired, Beyond}
use Rattle.parity.specs.Checked as check
use Rattle.repair.specs.Mended as repair
use Rattle.channel.specs.declared.receiver.Receiver.{Receiver}
use Rattle.channel_spec.specs.declared.Answer.TheVariants.{More, Said, Block, LockLost}
use Rattle.rack.specs.Words.{written_number, checked_number, mended_number}
use Rattle.rack.specs.Answers.{of_heard, of_answer, frame_of, receiver_of, stream_numbers, channel_numbers}

-- a packet for subscribers with a key of three bytes, each of its numbers another one
abbrev sent : Delivery
sent = record { format = 0x26; number = 102; key = 3; port = 104; sequence = 105; length = 106 }

abbrev reader : FrameReader
reader = record { opened = true; raw = 109; stored = 110; place = 111 }

abbrev receiver : Receiver
receiver = record {
  locked = true;
  hunting = record { a = 117; b = 118; c = 119; d = 120 };
  lock = record { word = 114; handed = 115; marker = 116 };
  frame = reader;
}

-- more wanted; a packet; frames refused; lock lost; the three blocks
pub answers : (of_heard None).number ∷ (of_heard (Some (Packet sent))).number ∷ (of_heard (Some (Refused 12))).number
    ∷ (of_heard (Some (Broken 7))).number ∷ (of_answer More).number ∷ (of_answer (Said (Packet sent))).number ∷ (of_answer LockLost).number
    ∷ (of_answer (Block Clean)).number ∷ (of_answer (Block (Repaired 16))).number ∷ (of_answer (Block Beyond)).number ∷ []
    ≡ 0 ∷ 256 ∷ 12 ∷ 3 ∷ 0 ∷ 256 ∷ 257 ∷ 258 ∷ 259 ∷ 260 ∷ []
answers = refl

-- made; clean, damaged; clean, repaired in 16 places, beyond repair; refused
pub words : written_number (written.Wrote 32) ∷ written_number (written.Refused 23) ∷ checked_number check.Clean ∷ checked_number check.Damaged
    ∷ checked_number (check.Refused 31) ∷ mended_number repair.Clean ∷ mended_number (repair.Repaired 16) ∷ mended_number repair.Beyond
    ∷ mended_number (repair.Refused 30) ∷ []
    ≡ 0 ∷ 23 ∷ 0 ∷ 1 ∷ 31 ∷ 0 ∷ 272 ∷ 1 ∷ 30 ∷ []
words = refl

-- behind a key of three bytes the payload stands at 10: format, key length, key number, key, port, sequence
pub stream-told : stream_numbers 100 (of_heard (Some (Packet sent))) reader
    ≡ 100 ∷ 0x26 ∷ 102 ∷ 3 ∷ 104 ∷ 105 ∷ 106 ∷ 10 ∷ 1 ∷ 109 ∷ 110 ∷ 111 ∷ []
stream-told = refl

-- .. and of a packet that everybody may read, without a key, at 5
abbrev everybody : Delivery
everybody = record { format = 0x21; number = 0; key = 0; port = 104; sequence = 105; length = 106 }

pub plain-told : stream_numbers 100 (of_heard (Some (Packet everybody))) reader
    ≡ 100 ∷ 0x21 ∷ 0 ∷ 0 ∷ 104 ∷ 105 ∷ 106 ∷ 5 ∷ 1 ∷ 109 ∷ 110 ∷ 111 ∷ []
plain-told = refl

-- a broken escape tells its place, a repaired block in how many places
pub channel-told : channel_numbers 100 (of_answer (Said (Broken 7))) receiver
    ≡ 100 ∷ 0 ∷ 0 ∷ 0 ∷ 0 ∷ 0 ∷ 0 ∷ 7 ∷ 1 ∷ 109 ∷ 110 ∷ 111 ∷ 0 ∷ 1 ∷ 114 ∷ 115 ∷ 116 ∷ 117 ∷ 118 ∷ 119 ∷ 120 ∷ []
channel-told = refl

pub block-told : channel_numbers 100 (of_answer (Block (Repaired 16))) receiver
    ≡ 100 ∷ 0 ∷ 0 ∷ 0 ∷ 0 ∷ 0 ∷ 0 ∷ 0 ∷ 1 ∷ 109 ∷ 110 ∷ 111 ∷ 16 ∷ 1 ∷ 114 ∷ 115 ∷ 116 ∷ 117 ∷ 118 ∷ 119 ∷ 120 ∷ []
block-told = refl

-- an answer that tells nothing besides writes zeros
pub lost-told : channel_numbers 100 (of_answer LockLost) receiver
    ≡ 100 ∷ 0 ∷ 0 ∷ 0 ∷ 0 ∷ 0 ∷ 0 ∷ 0 ∷ 1 ∷ 109 ∷ 110 ∷ 111 ∷ 0 ∷ 1 ∷ 114 ∷ 115 ∷ 116 ∷ 117 ∷ 118 ∷ 119 ∷ 120 ∷ []
lost-told = refl

-- a state's numbers, whatever stands in those that are only written
abbrev lent : List ℕ
lent = 0 ∷ 1 ∷ 2 ∷ 3 ∷ 4 ∷ 5 ∷ 6 ∷ 7 ∷ 1 ∷ 109 ∷ 110 ∷ 111 ∷ 12 ∷ 1 ∷ 114 ∷ 115 ∷ 116 ∷ 117 ∷ 118 ∷ 119 ∷ 120 ∷ []

pub frame-read : frame_of lent ≡ reader
frame-read = refl

pub receiver-read : receiver_of lent ≡ receiver
receiver-read = refl

-- of a hunted byte's number the lowest byte counts
pub hunted-read : (receiver_of (replicate 17 0 ++ 0x17D ∷ 0x23A ∷ 0x3E2 ∷ 0x442 ∷ [])).hunting ≡ record { a = 0x7D; b = 0x3A; c = 0xE2; d = 0x42 }
hunted-read = refl
