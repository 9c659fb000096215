-- How the rows of Printed and Requested tell an answer by a number or a letter: what only those tables need.
-- told_number, judged_by, unread_by, key_refusal   a frame's refusal; raw bytes', a packet's on reading, contents' of format 0x26
-- refusal_of, paying, port_of, headed            a packet's refusal on writing, and the packets that are tried
-- number_of, refusal_at, unmade_by, unchecked_by, unheard_by   a call's refusal
-- place_of, places                              where an escape broke
-- told_of, unforgotten_of, table_of               what the table of ports answers
-- letter_of, unusable                           a port's class
-- answers_of, ends_with, behind_stream            what is listed
use Rattle.std.specs.Prelude.{ℕ, zero, suc, ◌-◌, true, false, List, [], ◌∷◌, ◌++◌, map, length, replicate}
use Rattle.std.proofs.Math.Option.{Option, some, none}
use Rattle.base.specs.Calls.{joined}
use Rattle.base.specs.Choice.{pick}
use Rattle.base.specs.Written.{Written}
use Rattle.base.specs.Written.{Wrote, Refused}
use Rattle.parity.specs.Calls as parity
use Rattle.parity.specs.Checked.{Checked}
use Rattle.parity.specs.Checked as checking
use Rattle.interleaver_spec.specs.Running as interleaver
use Rattle.packet_spec.specs.Contents.{Packet, packet_of, plain_packet, packed, with_check}
use Rattle.packet_spec.specs.Frame.{Told, packet, refusal, broken, judge_contents, judge_body, judge}
use Rattle.packet_spec.specs.Port.{class, barred}
use Rattle.packet_spec.specs.Sender.{refusing}
use Rattle.stream.specs.Meaning.{waiting, reads}
use Rattle.stream.specs.Call.{fresh}
use Rattle.channel_spec.specs.Meaning.{Event, said, block, lost, zeros}
use Rattle.channel_spec.specs.declared.Condition.TheVariants.{Clean, Repaired, Beyond}
use Rattle.channel.specs.Call.{memory, counts, fresh_receiver, hear_call}
use Rattle.listing_spec.specs.Apart as listed
use Rattle.listing_spec.specs.Lines.{letter, count}
use Rattle.listing_spec.specs.Meaning.{last_line}
use Rattle.listing_spec.specs.declared.Place.TheVariants.{Mark, Inside}
use Rattle.listing_spec.specs.declared.Spot.{Spot}
use Rattle.listing.specs.declared.lister.Lister.{Lister}
use Rattle.ports_spec.specs.Ports.{entry}
use Rattle.ports_spec.specs.declared.Entry.{Entry}
use Rattle.ports_spec.specs.declared.Noted.{Noted}
use Rattle.ports_spec.specs.declared.Noted.TheVariants.{First, InOrder, Repeated, Missing, Late, Refused as NotNoted}
use Rattle.ports_spec.specs.Forgot.{Forgot, Forgotten, Refused as Unforgotten}

-- the number by which a frame is refused; 0 where it is a packet
abbrev pub told_number : Told → ℕ
told_number (packet p) = 0
told_number (refusal n) = n
told_number (broken n) = 3

-- so many packets, refusals, blocks beyond repair and lost locks among the answers, and a clean and a repaired block besides
abbrev pub answers_of : ℕ → ℕ → ℕ → ℕ → List Event
answers_of packets refusals damaged locks =
    block Clean ∷ block (Repaired 1)
    ∷ replicate packets (said (packet (plain_packet 0x5100 0 (0x41 ∷ []))))
    ++ (replicate refusals (said (refusal 4)) ++ (replicate damaged (block Beyond) ++ replicate locks lost))

-- a recording that may end here, with so many stream bytes and these totals
abbrev pub ends_with : ℕ → ℕ → ℕ → ℕ → ℕ → Lister
ends_with bytes packets refusals damaged locks = record {
  tape = record { spot = record { place = Mark; offset = 0; count = bytes }; channel = false; receiver = fresh_receiver };
  totals = record { packets = packets; refused = refusals; damaged = damaged; lost = locks };
}

-- the letter of a port's class
abbrev pub letter_of : ℕ → ℕ
letter_of port = letter (class port)

-- 1 where a port may not be used
abbrev pub unusable : ℕ → ℕ
unusable port = pick (barred port) 1 0

-- the number by which a packet is refused; 0 where it passes
abbrev pub refusal_of : Packet → ℕ
refusal_of p = refusing p (λ n. n) 0

-- a payload for port 5100
abbrev pub paying : List ℕ → Packet
paying payload = plain_packet 0x5100 0 payload

-- a format, a key number and a key of so many bytes, for port 5100
abbrev pub headed : ℕ → ℕ → ℕ → Packet
headed format number k = packet_of format number (replicate k 0xAA) 0x5100 0 (0x41 ∷ [])

-- the number by which contents of format 0x26 are refused that say so many key bytes, and have so many bytes behind them, with their check; 0 where they pass
abbrev pub key_refusal : ℕ → ℕ → ℕ
key_refusal k behind = told_number (judge_contents (with_check (0x26 ∷ k ∷ 0x07 ∷ (replicate k 0xAA ++ replicate (behind - 2) 0x41))))

-- the place where an escape broke
abbrev pub place_of : Told → List ℕ
place_of (packet p) = []
place_of (refusal n) = []
place_of (broken n) = n ∷ []

-- .. of each frame of a stream from its start
abbrev pub places : List ℕ → List ℕ
places bs = joined (map place_of (reads waiting bs).0)

-- the number by which a call is refused; 0 where it writes
abbrev pub number_of : Written → ℕ
number_of (Wrote n) = 0
number_of (Refused n) = n

-- .. a push of no bytes, at a depth and a place
abbrev pub refusal_at : ℕ → ℕ → ℕ
refusal_at d p = number_of (interleaver.pushing d (interleaver.matrix p []) [] []).0.answer

-- what a packet is to its port: a letter and, of missing ones, how many; the number of a refusal
abbrev pub told_of : Noted → List ℕ
told_of First = 70 ∷ []
told_of InOrder = 73 ∷ []
told_of Repeated = 82 ∷ []
told_of (Missing n) = 77 ∷ n ∷ []
told_of Late = 76 ∷ []
told_of (NotNoted n) = n ∷ []

-- the number by which a port is not forgotten
abbrev pub unforgotten_of : Forgot → List ℕ
unforgotten_of Forgotten = []
unforgotten_of (Unforgotten n) = n ∷ []

-- the number by which raw bytes are refused; 0 where they are a packet
abbrev pub judged_by : List ℕ → ℕ
judged_by raw = told_number (judge raw)

-- .. and format byte to last payload byte of a packet, on reading
abbrev pub unread_by : Packet → ℕ
unread_by p = told_number (judge_body (packed p))

-- a port, with a payload of one byte
abbrev pub port_of : ℕ → Packet
port_of port = plain_packet port 0 (0x41 ∷ [])

-- the number by which making parity is refused, with R, a message of n bytes and an output of m; 0 where it is made
abbrev pub unmade_by : ℕ → ℕ → ℕ → ℕ
unmade_by r n m = number_of (parity.made r (replicate n 0) (replicate m 0)).answer

-- .. and the check of a word; 0 where it is clean or damaged
abbrev check_number : Checked → ℕ
check_number checking.Clean = 0
check_number checking.Damaged = 0
check_number (checking.Refused n) = n

-- .. with R, of n zeros and 01
abbrev pub unchecked_by : ℕ → ℕ → ℕ
unchecked_by r n = check_number (parity.checked r (replicate n 0 ++ 0x01 ∷ []))

-- the number by which an answer of the channel refuses; 0 where more is wanted
abbrev hear_number : Option Event → ℕ
hear_number none = 0
hear_number (some (said t)) = told_number t
hear_number (some (block c)) = 0
hear_number (some lost) = 0

-- .. a call of no bytes, with bytes of a word, message bytes handed on, marker bytes, and a receive buffer and a word buffer of so many bytes
abbrev pub unheard_by : ℕ → ℕ → ℕ → ℕ → ℕ → ℕ
unheard_by w h m n k =
    hear_number (hear_call (memory (record { locked = true; hunting = zeros; lock = counts w h m; frame = fresh }) (replicate n 0) (replicate k 0)) []).0

-- the bytes 41 42 in a record behind so many stream bytes, at offset 7: the stream bytes among them, and the last line
abbrev pub behind_stream : ℕ → List ℕ
behind_stream n =
    let r : List ℕ × Spot = listed.apart (record { place = Inside 5; offset = 7; count = n }) (0x41 ∷ 0x42 ∷ []) in
    r.0 ++ last_line r.1 (length r.0) []

-- so many ports, all held
abbrev pub table_of : ℕ → List Entry
table_of zero = []
table_of (suc n) = entry n 7 ∷ table_of n
