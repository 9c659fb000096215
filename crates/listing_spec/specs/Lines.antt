-- The lines of a listing (paper 01, "The listing program"), as ASCII.
-- letter, told, block_line   the letter of a class; the lines of a frame and of a block
-- line, given, lines   an answer's line; the answer of an event; line after line
-- total_of              the total that an answer counts in
-- in_packets, in_refusals, in_damaged, in_lost, one   which total it is; 1 where a test holds
-- is_packet, is_refusal, is_damaged, is_lost, count   an answer counts in it, and how many answers are such
-- packets_in, refusals_in, damaged_in   the same told of the frame answers, and of the block answers
-- end_line, wrong_line   the last line
-- longest              no line is longer
use Rattle.std.specs.Prelude.{ℕ, suc, ◌+◌, Bool, true, false, List, [], ◌∷◌, ◌++◌}
use Prim.Native.Char.{code}
use Rattle.std.proofs.Math.Option.{some}
use Rattle.base.specs.Choice.{pick}
use Rattle.text.specs.Text.{ascii, number}
use Rattle.packet_spec.specs.Port.{class}
use Rattle.packet_spec.specs.declared.Class.{Class}
use Rattle.packet_spec.specs.declared.Class.TheVariants.{System, Applications, M, D, Future, Barred}
use Rattle.packet_spec.specs.declared.Judged.{Judged}
use Rattle.packet_spec.specs.declared.Judged.TheVariants.{Packet, Refused, Broken}
use Rattle.packet_spec.specs.Frame.{Told, packet, refusal, broken}
use Rattle.channel_spec.specs.Meaning.{Event}
use Rattle.listing_spec.specs.declared.Total.{Total}
use Rattle.listing_spec.specs.declared.Total.TheVariants.{Packets, Refusals, Damaged, Lost, Nothing}
use Rattle.channel_spec.specs.declared.Condition.{Condition}
use Rattle.channel_spec.specs.declared.Condition.TheVariants.{Clean, Repaired, Beyond}
use Rattle.channel_spec.specs.Answer.{answered}
use Rattle.channel_spec.specs.declared.Answer.{Answer}
use Rattle.channel_spec.specs.declared.Answer.TheVariants.{More, Said, Block, LockLost}

-- the letter of a class; a port that may not be used is never delivered
abbrev pub letter : Class → ℕ
letter System = code "S"
letter Applications = code "A"
letter M = code "M"
letter D = code "D"
letter Future = code "F"
letter Barred = code "F"

-- `P port sequence payload-length class`, or `R n`; `R 3 place` where an escape broke
unfoldable pub told : Judged → List ℕ
told (Packet d) = ascii "P " ++ number d.port " " ++ number d.sequence " " ++ number d.length " " ++ (letter (class d.port) ∷ ascii "\n")
told (Refused n) = ascii "R " ++ number n "\n"
told (Broken n) = ascii "R " ++ number 3 " " ++ number n "\n"

-- `B 0` clean, `B count` repaired, `B X` beyond repair
abbrev pub block_line : Condition → List ℕ
block_line Clean = ascii "B 0\n"
block_line (Repaired n) = ascii "B " ++ number n "\n"
block_line Beyond = ascii "B X\n"

-- an answer's line: these; `L` lock lost; "more wanted" has none
abbrev pub line : Answer → List ℕ
line More = []
line (Said j) = told j
line (Block c) = block_line c
line LockLost = ascii "L\n"

-- the answer that a call gives of an event
abbrev pub given : Event → Answer
given e = answered (some e)

-- no line is longer, the last one too
abbrev pub longest : ℕ
longest = 128

-- line after line
unfoldable pub lines : List Event → List ℕ
lines [] = []
lines (e ∷ es) = line (given e) ++ lines es

-- the total that an answer counts in
abbrev pub total_of : Answer → Total
total_of More = Nothing
total_of (Said (Packet d)) = Packets
total_of (Said (Refused n)) = Refusals
total_of (Said (Broken n)) = Refusals
total_of (Block Clean) = Nothing
total_of (Block (Repaired n)) = Nothing
total_of (Block Beyond) = Damaged
total_of LockLost = Lost

-- a delivered packet ..
abbrev pub in_packets : Total → Bool
in_packets Packets = true
in_packets Refusals = false
in_packets Damaged = false
in_packets Lost = false
in_packets Nothing = false

-- .. a frame refusal ..
abbrev pub in_refusals : Total → Bool
in_refusals Packets = false
in_refusals Refusals = true
in_refusals Damaged = false
in_refusals Lost = false
in_refusals Nothing = false

-- .. a damaged block, one beyond repair ..
abbrev pub in_damaged : Total → Bool
in_damaged Packets = false
in_damaged Refusals = false
in_damaged Damaged = true
in_damaged Lost = false
in_damaged Nothing = false

-- .. or a lost lock
abbrev pub in_lost : Total → Bool
in_lost Packets = false
in_lost Refusals = false
in_lost Damaged = false
in_lost Lost = true
in_lost Nothing = false

-- an answer counts as a delivered packet
abbrev pub is_packet : Answer → Bool
is_packet a = in_packets (total_of a)

-- it counts as a refusal
abbrev pub is_refusal : Answer → Bool
is_refusal a = in_refusals (total_of a)

-- it counts as a damaged block
abbrev pub is_damaged : Answer → Bool
is_damaged a = in_damaged (total_of a)

-- it counts as a lost lock
abbrev pub is_lost : Answer → Bool
is_lost a = in_lost (total_of a)

-- one where the test holds
abbrev pub one : Bool → ℕ
one t = pick t 1 0

-- how many answers are such
unfoldable pub count : (Answer → Bool) → List Event → ℕ
count f [] = 0
count f (e ∷ es) = one (f (given e)) + count f es

-- of the frame answers: how many are packets ..
abbrev pub packets_in : List Told → ℕ
packets_in [] = 0
packets_in (packet p ∷ ts) = suc (packets_in ts)
packets_in (refusal n ∷ ts) = packets_in ts
packets_in (broken n ∷ ts) = packets_in ts

-- .. and how many are refusals
abbrev pub refusals_in : List Told → ℕ
refusals_in [] = 0
refusals_in (packet p ∷ ts) = refusals_in ts
refusals_in (refusal n ∷ ts) = suc (refusals_in ts)
refusals_in (broken n ∷ ts) = suc (refusals_in ts)

-- of the block answers: how many are beyond repair
abbrev pub damaged_in : List Condition → ℕ
damaged_in [] = 0
damaged_in (Clean ∷ cs) = damaged_in cs
damaged_in (Repaired n ∷ cs) = damaged_in cs
damaged_in (Beyond ∷ cs) = suc (damaged_in cs)

-- `E stream-bytes packets frame-refusals damaged-blocks lost-locks`
unfoldable pub end_line : ℕ → ℕ → ℕ → ℕ → ℕ → List ℕ
end_line n packets refused damaged lost =
    ascii "E " ++ number n " " ++ number packets " " ++ number refused " " ++ number damaged " " ++ number lost "\n"

-- `X offset`
unfoldable pub wrong_line : ℕ → List ℕ
wrong_line offset = ascii "X " ++ number offset "\n"
