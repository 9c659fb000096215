-- What paper 02 prints of fixed sub-channels (W7), Layer 2 units (W10), captures (W11) and the monthly sheet (W13), its numbers said a second time as
-- specs/Printed does it of paper 01, and from row 21 on what Printed has not of the requests before them (W3, W5, W6, W8), and calls refused.
-- What a law says for all numbers stands in proofs/SubChannels, proofs/Units, proofs/Capture and proofs/Sheet. The rack's (W14): crates/rack/proofs.
-- requested    the rows
use Rattle.std.specs.Prelude.{ℕ, zero, suc, ◌-◌, true, false, List, [], ◌∷◌, ◌++◌, map, length, replicate}
use Rattle.std.proofs.Math.Option.{Option, some, none}
use Rattle.text.specs.Text.{ascii}
use Rattle.base.specs.Calls.{joined, run}
use Rattle.base.specs.Choice.{pick}
use Rattle.base.specs.Written.{Written}
use Rattle.base.specs.Written.{Wrote, Refused as Unwritten}
use Rattle.packet_spec.specs.Contents.{plain_packet, packet_of, with_check}
use Rattle.packet_spec.specs.Frame.{Told as FrameTold, packet, refusal, broken, judge_contents}
use Rattle.packet_spec.specs.Sender.{refusing}
use Rattle.repair.specs.Promise.{half}
use Rattle.stream.specs.Call.{fresh, held, read_call}
use Rattle.channel_spec.specs.declared.Condition.TheVariants.{Clean}
use Rattle.channel_spec.specs.Meaning.{Event, said, block, lost, zeros}
use Rattle.channel_spec.specs.Sender.{parity_bytes, marking}
use Rattle.interleaver_spec.specs.Running.{fresh_back}
use Rattle.interleaver_spec.specs.Running as interleaver
use Rattle.subchannel_spec.specs.Sender.{group_words, group_bytes, closing_words, completing, grouped}
use Rattle.subchannel.specs.Call as sub
use Rattle.subchannel_spec.specs.Settings.{settings, Configured, Done, Refused}
use Rattle.four_receivers.specs.Call.{Receiver}
use Rattle.four_receivers.specs.Call as receiver
use Rattle.four_senders.specs.Call as sender
use Rattle.unit_spec.specs.Bits.{digits, number}
use Rattle.unit_spec.specs.Tables as units
use Rattle.unit_spec.specs.Unit.{written}
use Rattle.unit_spec.specs.Reading.{named, read_unit}
use Rattle.capture_spec.specs.File.{header, records}
use Rattle.capture_spec.specs.Meaning.{entry_limit, imported}
use Rattle.sheet_spec.specs.Line.{row_line, row_longest}
use Rattle.sheet_spec.specs.Tally.{far, wide}
use Rattle.sheet_spec.specs.Recording.{marks}
use Rattle.sheet_spec.specs.Meaning.{Mark, port_limit, Counting, counts, wrong, refuses, ruling, ruling_of}
use Rattle.demands.specs.Numbers.{Line}
use Rattle.demands.specs.Telling.{told_number, number_of}

-- ---- W3 to W8
-- how many bytes the receiving side gives back at depth 2, of so many taken in
abbrev returned : ℕ → ℕ
returned n = length (run (interleaver.pull 2) fresh_back (replicate n 9)).0

-- the bytes that a call writes, and the number by which it is refused
abbrev written_of : Written → ℕ × ℕ
written_of (Wrote n) = (n, 0)
written_of (Unwritten n) = (0, n)

-- .. of a block, with a message of n bytes and an output of r
abbrev marking_by : ℕ → ℕ → ℕ × ℕ
marking_by n r = written_of (marking (replicate n 0) (replicate r 0)).answer

-- the number by which an answer of the plain stream refuses; 0 where more is wanted
abbrev read_number : Option FrameTold → ℕ
read_number none = 0
read_number (some t) = told_number t

-- .. a call of no bytes, with a raw count, stored bytes, a remembered place and a receive buffer of n bytes
abbrev reading_by : ℕ → ℕ → ℕ → ℕ → ℕ
reading_by raw stored place n =
    read_number (read_call (held (record { opened = true; raw = raw; stored = stored; place = place }) (replicate n 0)) []).0

-- the number by which contents are refused that begin with a format byte and k, and have their check; 0 where they pass
abbrev format_refusal : ℕ → ℕ → ℕ
format_refusal k format = told_number (judge_contents (with_check (format ∷ k ∷ 0 ∷ replicate 8 0x41)))

-- .. and a packet of another format is, for a port
abbrev format_unsent : ℕ → ℕ
format_unsent port = refusing (packet_of 0x22 0 [] port 0 (0x41 ∷ [])) (λ n. n) 0

-- ---- W7
-- the number by which configuring a sub-channel is refused; 0 where it is told
abbrev untold_by : Configured → ℕ
untold_by Done = 0
untold_by (Refused n) = n

-- .. of a fresh receiver, and of a fresh sender
abbrev configuring_by : ℕ → ℕ → ℕ → List ℕ
configuring_by n r d = untold_by (receiver.configuring receiver.fresh_receiver n r d).0 ∷ untold_by (sender.configuring sender.fresh_sender n r d).0 ∷ []

-- a receiver whose sub-channel 3 alone is told, and counts so many bytes of a group
abbrev counting : ℕ → Receiver
counting g = receiver.put receiver.fresh_receiver 3 (sub.sub (sub.lane (settings true 16 3) true false zeros (sub.counts g 0 0 0) fresh) fresh_back)

-- the number by which an answer refuses
abbrev denied_by : Option Event → List ℕ
denied_by none = []
denied_by (some (said t)) = told_number t ∷ []
denied_by (some (block c)) = []
denied_by (some lost) = []

-- .. a call on sub-channel n of that receiver, with empty buffers
abbrev hearing_by : ℕ → ℕ → List ℕ
hearing_by n g = denied_by (receiver.hear_four (counting g) n [] [] []).0

-- the number by which sending nothing on sub-channel n is refused, of which 3 alone is told; 0 where it writes
abbrev sending_by : ℕ → ℕ
sending_by n = number_of (sender.send_four (sender.configuring sender.fresh_sender 3 0 0).1 n [] []).answer

-- ---- W10
-- table 5-3, CW0 to CW4 ..
abbrev sequences : List ℕ
sequences = 0x38D8D3 ∷ 0xCE3634 ∷ 0xE3634C ∷ 0x8D8D33 ∷ 0x3634CE ∷ []

-- .. and those that are reserved
abbrev reserved : List ℕ
reserved = 0x8D338D ∷ 0xD8D338 ∷ 0x634CE3 ∷ []

-- the sequence that 24 header bits name; 0 for none
abbrev named_by : ℕ → ℕ
named_by cw = named 24 (number 0 (digits 24 cw))

-- N start, N offset and header length of a unit of l bits
abbrev spread_of : ℕ → List ℕ
spread_of l = units.start l ∷ (units.step l - 1) ∷ units.heads l ∷ []

-- 1 where no unit has l bits
abbrev unfit_of : ℕ → ℕ
unfit_of l = pick (units.unfit l) 1 0

-- delimiter bytes, and such that a gap hides
abbrev delimiter : List ℕ
delimiter = 0x01 ∷ 0x02 ∷ 0x03 ∷ 0x04 ∷ 0x05 ∷ []

abbrev hiding : List ℕ
hiding = replicate 5 0

-- the number by which writing a unit of l bits is refused, with so many bytes of audio, opportunistic and fixed data and of output; 0 where it is written
abbrev unwritten_by : ℕ → List ℕ → ℕ → ℕ → ℕ → ℕ → ℕ
unwritten_by l d a o f r = number_of (written l d (replicate a 0x41) (replicate o 0x42) (replicate f 0x43) (replicate r 0)).answer

-- .. and reading one of 144 bits, its payload and its header lent, with audio and fixed lengths told
abbrev unread_by : List ℕ → List ℕ → ℕ → ℕ → ℕ → ℕ
unread_by p header a f r = number_of (read_unit 144 delimiter a f (p ++ header) (replicate r 0)).answer

-- ---- W11
-- the number that a capture ends with; 0 where it is whole
abbrev import_number : List ℕ → ℕ
import_number bs = (imported bs).1

-- a record of six bytes: its number in seconds, format byte, port 5100, sequence 0, and a payload byte
abbrev recorded : ℕ → ℕ → List ℕ
recorded i b = i ∷ 0 ∷ 0 ∷ 0 ∷ 0 ∷ 0 ∷ 0 ∷ 0 ∷ 6 ∷ 0 ∷ 0 ∷ 0 ∷ 6 ∷ 0 ∷ 0 ∷ 0 ∷ 0x21 ∷ 0x00 ∷ 0x51 ∷ 0x00 ∷ 0x00 ∷ b ∷ []

-- ---- W13
-- what becomes of a recording on the monthly sheet: 0 where it counts, `X`, or the number of a refusal
abbrev becomes : Counting → List ℕ
becomes counts = 0 ∷ []
becomes wrong = ascii "X"
becomes (refuses n) = n ∷ []

-- two packets, and every other kind of answer between them
abbrev answers : List Event
answers =
    said (packet (plain_packet 5121 88 (0x41 ∷ []))) ∷ said (refusal 5) ∷ said (broken 3) ∷
    block Clean ∷ lost ∷ said (packet (plain_packet 5122 7 (0x42 ∷ []))) ∷ []

-- so many delivered packets, each of another port
abbrev marks_of : ℕ → List Mark
marks_of zero = []
marks_of (suc n) = (n, 7) ∷ marks_of n

-- what becomes of a recording with a new port on a sheet of so many
abbrev becomes_on : ℕ → List ℕ
becomes_on n = becomes (ruling_of true (marks_of n ∷ []) ((100, 7) ∷ []))

-- 1 where one of a port's five numbers passes 64 bits
abbrev wide_of : ℕ → ℕ → ℕ → ℕ → ℕ → ℕ
wide_of delivered repeated late missing total =
    pick (wide (record { delivered = delivered; repeated = repeated; late = late; missing = missing; total = total })) 1 0

-- the number of a row, what the definitions give, what the paper prints
abbrev pub requested : List Line
requested =
    -- W7: "the marker before every four words": 1,020 bytes, and 1,024 with it
    (1, group_words ∷ group_bytes ∷ length (grouped 1 (replicate 1020 0)) ∷ [], 4 ∷ 1020 ∷ 1024 ∷ []) ∷
    -- "At depth D of 2 or more the closing push is made of D words of flags"
    (2, map closing_words (0 ∷ 1 ∷ 2 ∷ 64 ∷ []), 0 ∷ 0 ∷ 2 ∷ 64 ∷ []) ∷
    -- "A group of four is always complete"
    (3, map completing (0 ∷ 1 ∷ 2 ∷ 3 ∷ 4 ∷ 5 ∷ []), 0 ∷ 3 ∷ 2 ∷ 1 ∷ 0 ∷ 3 ∷ []) ∷
    -- "42 for a sub-channel number above 3", "30 and 32 on configuring"
    (
      4,
      joined (configuring_by 3 64 64 ∷ configuring_by 4 64 64 ∷ configuring_by 3 65 65 ∷ configuring_by 3 64 65 ∷ configuring_by 4 65 65 ∷ []),
      0 ∷ 0 ∷ 42 ∷ 42 ∷ 30 ∷ 30 ∷ 32 ∷ 32 ∷ 42 ∷ 42 ∷ [],
    ) ∷
    -- 10 "when a group counts more than four words"; "then 42 for a sub-channel number above 3 or .. one not configured; then 11"
    (5, joined (hearing_by 0 1020 ∷ hearing_by 3 1020 ∷ hearing_by 4 1020 ∷ hearing_by 3 1021 ∷ hearing_by 4 1021 ∷ []), 42 ∷ 11 ∷ 42 ∷ 10 ∷ 10 ∷ []) ∷
    -- .. on sending
    (6, map sending_by (0 ∷ 3 ∷ 4 ∷ []), 42 ∷ 0 ∷ 42 ∷ []) ∷
    -- W10: "units of up to 146,176 bits", which are 18,272 bytes; a 24-bit sequence
    (7, units.most ∷ units.most_bytes ∷ length (digits 24 units.cw0) ∷ [], 146176 ∷ 18272 ∷ 24 ∷ []) ∷
    -- table 5-3, CW0 to CW4
    (8, units.cw0 ∷ units.cw1 ∷ units.cw2 ∷ units.cw3 ∷ units.cw4 ∷ [], sequences) ∷
    -- .. CW1 in binary, h0 first
    (9, digits 24 units.cw1, 1 ∷ 1 ∷ 0 ∷ 0 ∷ 1 ∷ 1 ∷ 1 ∷ 0 ∷ 0 ∷ 0 ∷ 1 ∷ 1 ∷ 0 ∷ 1 ∷ 1 ∷ 0 ∷ 0 ∷ 0 ∷ 1 ∷ 1 ∷ 0 ∷ 1 ∷ 0 ∷ 0 ∷ []) ∷
    -- .. what a reader takes each for: CW5 to CW7 are reserved
    (10, map named_by (sequences ++ reserved), sequences ++ (0 ∷ 0 ∷ 0 ∷ [])) ∷
    -- table 5-4, a length of each row: N start, N offset, header length
    (
      11,
      joined (map spread_of (71992 ∷ 71999 ∷ 71998 ∷ 72000 ∷ 72007 ∷ 72001 ∷ [])),
      120 ∷ 2993 ∷ 24 ∷ 120 ∷ 3119 ∷ 23 ∷ 120 ∷ 3263 ∷ 22 ∷ 42000 ∷ 1247 ∷ 24 ∷ 42001 ∷ 1303 ∷ 23 ∷ 42001 ∷ 1359 ∷ 22 ∷ [],
    ) ∷
    -- 50: a header spacing below zero, a length above the limit
    (12, map unfit_of (143 ∷ 144 ∷ 145 ∷ 286 ∷ 288 ∷ 289 ∷ 295 ∷ 303 ∷ 146176 ∷ 146177 ∷ []), 1 ∷ 0 ∷ 1 ∷ 1 ∷ 0 ∷ 0 ∷ 1 ∷ 0 ∷ 0 ∷ 1 ∷ []) ∷
    -- W11: a classic little-endian pcap file, version 2.4, zone and accuracy 0, snapshot length 65,535, link type 147
    (13, header, 0xD4 ∷ 0xC3 ∷ 0xB2 ∷ 0xA1 ∷ 2 ∷ 0 ∷ 4 ∷ 0 ∷ 0 ∷ 0 ∷ 0 ∷ 0 ∷ 0 ∷ 0 ∷ 0 ∷ 0 ∷ 0xFF ∷ 0xFF ∷ 0 ∷ 0 ∷ 147 ∷ 0 ∷ 0 ∷ 0 ∷ []) ∷
    -- "format byte to last payload byte, seconds being the packet's number from 0"; not escaped, without the check
    (14, records 0 (plain_packet 0x5100 0 (0x41 ∷ []) ∷ plain_packet 0x5100 0 (0x7E ∷ []) ∷ []), recorded 0 0x41 ++ recorded 1 0x7E) ∷
    -- "60 first 24 bytes not these, 61 record cut short or lengths unequal, 62 no packet the sender would accept"
    (
      15,
      map import_number ([] ∷ (0xA1 ∷ header) ∷ header ∷ (header ++ (0 ∷ [])) ∷ (header ++ replicate 16 0)
          ∷ (header ++ (replicate 12 0 ++ (1 ∷ 0 ∷ 0 ∷ 0 ∷ []))) ∷ []),
      60 ∷ 60 ∷ 0 ∷ 61 ∷ 62 ∷ 61 ∷ [],
    ) ∷
    -- 11 where the store of an import is under 8,231 bytes
    (16, entry_limit ∷ [], 8231 ∷ []) ∷
    -- W13: 16 ports, so 40 for "the sheet's seventeenth port"; 64 bits; and our own limit of a line
    (17, port_limit ∷ far ∷ row_longest ∷ [], 16 ∷ 18446744073709551615 ∷ 147 ∷ []) ∷
    -- `PORT DELIVERED REPEATED LATE MISSING MISSING TOTAL`: 20736 7 1 2 4 4 8
    (18, row_line 20736 7 1 2 4 8, ascii "20736 7 1 2 4 4 8\n") ∷
    -- "40 .., then 44"; `X` before them
    (
      19,
      joined (map becomes (ruling false true true ∷ ruling true true true ∷ ruling true true false ∷ ruling true false true ∷ ruling true false false ∷ [])),
      ascii "X" ++ (40 ∷ 40 ∷ 44 ∷ 0 ∷ []),
    ) ∷
    -- "Each number is defined from the delivered packets": port and sequence number of each, in order, and of no other answer
    (20, joined (map (λ m. m.0 ∷ m.1 ∷ []) (marks answers)), 5121 ∷ 88 ∷ 5122 ∷ 7 ∷ []) ∷
    -- W3: "At depth 2, output 1 is zero."
    (21, (interleaver.pushing 2 interleaver.fresh (9 ∷ 8 ∷ 7 ∷ []) (replicate 3 1)).0.output, 9 ∷ 0 ∷ 0 ∷ []) ∷
    -- "The receiving side returns byte t exactly when it has taken in received byte t + N - 1": N is 510
    (22, map returned (509 ∷ 510 ∷ 511 ∷ []), 0 ∷ 1 ∷ 2 ∷ []) ∷
    -- W5: "h = INT(R/2)"; W12: "at most 16 bytes of each opportunistic word"
    (23, half parity_bytes ∷ map half (0 ∷ 1 ∷ 2 ∷ 3 ∷ 31 ∷ 33 ∷ 63 ∷ 64 ∷ []), 16 ∷ 0 ∷ 0 ∷ 1 ∷ 1 ∷ 15 ∷ 16 ∷ 31 ∷ 32 ∷ []) ∷
    -- W6: "turns 223 bytes into 259"; "31 when the message is not 223 bytes, then 23 when the output is under 259"
    (
      24,
      (marking_by 223 259).0 ∷ map (λ (t : ℕ × ℕ). (marking_by t.0 t.1).1) ((223, 259) ∷ (222, 258) ∷ (224, 259) ∷ (223, 258) ∷ []),
      259 ∷ 0 ∷ 31 ∷ 31 ∷ 23 ∷ [],
    ) ∷
    -- W8: "The raw limit rises to 8,272, the receive buffer's least size and the stored limit in 10 with it"
    (25, reading_by 8272 8272 0 8272 ∷ reading_by 8272 8272 0 8271 ∷ reading_by 8272 8271 0 8271 ∷ reading_by 8273 8273 0 8273 ∷ [], 0 ∷ 11 ∷ 10 ∷ 10 ∷ []) ∷
    -- "and the "over" count to 8,273; W2's place may then reach 8,271"
    (26, reading_by 8273 8272 8271 8272 ∷ reading_by 8274 8272 8271 8272 ∷ reading_by 8273 8272 8272 8272 ∷ [], 0 ∷ 10 ∷ 10 ∷ []) ∷
    -- "6 now means neither format; 12 on reading, behind 6"
    (
      27,
      map (format_refusal 2) (0x20 ∷ 0x21 ∷ 0x22 ∷ 0x25 ∷ 0x26 ∷ 0x27 ∷ []) ++ map (format_refusal 1) (0x26 ∷ 0x27 ∷ []),
      6 ∷ 0 ∷ 6 ∷ 6 ∷ 0 ∷ 6 ∷ 12 ∷ 6 ∷ [],
    ) ∷
    -- "24 on writing, behind 22"
    (28, map format_unsent (0x7CFF ∷ 0x7D00 ∷ []), 24 ∷ 22 ∷ []) ∷
    -- W10: a payload of audio, opportunistic part and fixed part in that order, around it the header: 144 bits, all three, CW3
    (
      29,
      (written 144 delimiter (0x41 ∷ []) (0x42 ∷ []) (0x43 ∷ []) (replicate 18 9)).output,
      0x41 ∷ (replicate 7 0 ++ (delimiter ++ (0x42 ∷ 0x43 ∷ 0x8D ∷ 0x8D ∷ 0x33 ∷ []))),
    ) ∷
    -- "50 ..; 51 on writing, a mix of content that has no sequence": nothing, opportunistic data alone, and with fixed data
    (
      30,
      unwritten_by 143 delimiter 0 0 0 0 ∷ unwritten_by 144 delimiter 0 0 0 0 ∷ unwritten_by 144 delimiter 0 16 0 0 ∷ unwritten_by 144 delimiter 0 16 1 0 ∷ [],
      50 ∷ 51 ∷ 51 ∷ 51 ∷ [],
    ) ∷
    -- "53 parts that do not fit", of 15 bytes, the delimiter's five among them; "then 23", of 18
    (
      31,
      unwritten_by 144 delimiter 16 0 0 0 ∷ unwritten_by 144 hiding 9 1 1 0 ∷ unwritten_by 144 delimiter 8 1 1 17 ∷ unwritten_by 144 delimiter 8 1 1 18 ∷ [],
      53 ∷ 53 ∷ 23 ∷ 0 ∷ [],
    ) ∷
    -- "54 on writing, the delimiter would be found earlier than written": in a gap of zeros
    (32, unwritten_by 144 hiding 8 1 0 0 ∷ unwritten_by 144 hiding 9 1 0 18 ∷ unwritten_by 144 delimiter 8 1 0 18 ∷ [], 54 ∷ 0 ∷ 0 ∷ []) ∷
    -- on reading, 50 "too few bytes lent", "52 .. bits that match no sequence or a reserved one"
    (
      33,
      unread_by (replicate 14 0) (0 ∷ 0 ∷ 0 ∷ []) 0 0 0 ∷ unread_by (replicate 15 0) (0 ∷ 0 ∷ 0 ∷ []) 0 0 0
          ∷ unread_by (replicate 15 0) (0x8D ∷ 0x33 ∷ 0x8D ∷ []) 0 0 0 ∷ [],
      50 ∷ 52 ∷ 52 ∷ [],
    ) ∷
    -- 53 of CW0, audio alone: "told lengths that disagree with the sequence", and "parts that do not fit"
    (
      34,
      map (λ (t : ℕ × ℕ). unread_by (replicate 15 0) (0x38 ∷ 0xD8 ∷ 0xD3 ∷ []) t.0 t.1 15) ((0, 0) ∷ (1, 1) ∷ (16, 0) ∷ (15, 0) ∷ []),
      53 ∷ 53 ∷ 53 ∷ 0 ∷ [],
    ) ∷
    -- 54 of CW1: "it is announced and not found ahead of at least one opportunistic byte"; "then 23"
    (
      35,
      unread_by (replicate 15 0) (0xCE ∷ 0x36 ∷ 0x34 ∷ []) 9 0 0 ∷ unread_by (replicate 10 0x41 ++ delimiter) (0xCE ∷ 0x36 ∷ 0x34 ∷ []) 9 0 0
          ∷ map (unread_by (replicate 9 0x41 ++ (delimiter ++ (0x42 ∷ []))) (0xCE ∷ 0x36 ∷ 0x34 ∷ []) 9 0) (9 ∷ 10 ∷ []),
      54 ∷ 54 ∷ 23 ∷ 0 ∷ [],
    ) ∷
    -- W13: "40 for the sheet's seventeenth port", and none for the sixteenth
    (36, becomes_on 15 ++ becomes_on 16, 0 ∷ 40 ∷ []) ∷
    -- "44 if a number would pass 64 bits"
    (
      37,
      wide_of 18446744073709551615 18446744073709551615 18446744073709551615 18446744073709551615 18446744073709551615
          ∷ wide_of 18446744073709551616 0 0 0 0 ∷ wide_of 0 18446744073709551616 0 0 0 ∷ wide_of 0 0 18446744073709551616 0 0
          ∷ wide_of 0 0 0 18446744073709551616 0 ∷ wide_of 0 0 0 0 18446744073709551616 ∷ [],
      0 ∷ 1 ∷ 1 ∷ 1 ∷ 1 ∷ 1 ∷ [],
    ) ∷
    []
