-- What the paper prints: its fixed numbers and letters said a second time, in the form of Numbers, so that a slip is seen even where code and
-- definition slip together. The fresh states stand in proofs/Promises, the rows of refusals in proofs/Demand1, and what a law says for all numbers
-- in proofs/Demand2 (classes) and proofs/Interleaving.
-- printed    the rows
use Rattle.std.specs.Prelude.{List, [], ◌∷◌, ◌++◌, map, length, replicate}
use Rattle.text.specs.Text.{ascii}
use Rattle.base.specs.Calls.{joined}
use Rattle.fcs.specs.Fcs as check
use Rattle.field.specs.Field as field
use Rattle.parity.specs.Calls as parity
use Rattle.interleaver_spec.specs.Places.{width}
use Rattle.interleaver_spec.specs.Running as interleaver
use Rattle.packet_spec.specs.Contents.{plain_packet, key_packet, plain_format, key_format, key_least, key_most, payload_limit, plain_limit, raw_limit, contents}
use Rattle.packet_spec.specs.Escape.{flag, escape}
use Rattle.packet_spec.specs.Frame.{judge}
use Rattle.packet_spec.specs.declared.Judged.TheVariants.{Packet as Delivered, Refused as Denied, Broken}
use Rattle.stream.specs.Call.{place_limit}
use Rattle.channel_spec.specs.Sender.{marker, message_bytes, parity_bytes, word_bytes, block_bytes}
use Rattle.channel_spec.specs.declared.Condition.TheVariants.{Clean, Repaired, Beyond}
use Rattle.channel_spec.specs.declared.Answer.TheVariants.{Said, Block, LockLost}
use Rattle.listing_spec.specs.Apart as listed
use Rattle.bid.specs.Line.{line_limit}
use Rattle.office.specs.Call.{held_limit, hold_limit, out_limit}
use Rattle.recording.specs.Call.{far}
use Rattle.listing_spec.specs.Lines.{longest, line, wrong_line}
use Rattle.listing_spec.specs.Meaning.{total_line, listing}
use Rattle.listing.specs.Call.{last_of}
use Rattle.missed_spec.specs.Line.{noted_line}
use Rattle.ports_spec.specs.Distance.{around, half, ruled, last_behind}
use Rattle.ports_spec.specs.Ports.{place_limit as most_ports, freed, entry, noting, forgetting}
use Rattle.ports_spec.specs.declared.Noted.TheVariants.{First, InOrder, Repeated, Missing, Late, Refused as NotNoted}
use Rattle.demands.specs.Numbers.{Line, in_numbers, heard}
use Rattle.demands.specs.Telling.{answers_of, ends_with, behind_stream, letter_of, unusable, refusal_of}
use Rattle.demands.specs.Telling.{paying, port_of, headed, key_refusal, judged_by, unread_by}
use Rattle.demands.specs.Telling.{place_of, places, refusal_at, unmade_by, unchecked_by, unheard_by, told_of, unforgotten_of, table_of}

-- the number of a row, what the definitions give, what the paper prints
abbrev pub printed : List Line
printed =
    -- flag 0x7E, format bytes 0x21 and 0x26, 2 to 32 key bytes
    (1, flag ∷ plain_format ∷ key_format ∷ key_least ∷ key_most ∷ [], 0x7E ∷ 0x21 ∷ 0x26 ∷ 2 ∷ 32 ∷ []) ∷
    -- a payload of 8,192 bytes as escaped, 8,205 raw bytes of a packet of format 0x21, 8,272 of any frame, a stream of 4,294,967,295 bytes, at most
    (2, payload_limit ∷ plain_limit ∷ raw_limit ∷ listed.most ∷ [], 8192 ∷ 8205 ∷ 8272 ∷ 4294967295 ∷ []) ∷
    -- a word is 255 bytes, R from 0 to 64
    (3, parity.word_bytes ∷ parity.root_limit ∷ [], 255 ∷ 64 ∷ []) ∷
    -- each 223 bytes become a word with R = 32, of 255 bytes; a block is 259
    (4, message_bytes ∷ parity_bytes ∷ word_bytes ∷ block_bytes ∷ [], 223 ∷ 32 ∷ 255 ∷ 259 ∷ []) ∷
    -- the marker 7D 3A E2 42
    (5, marker, 0x7D ∷ 0x3A ∷ 0xE2 ∷ 0x42 ∷ []) ∷
    -- register starts at 0xFFFF, reversed polynomial 0x8408
    (6, check.ones ∷ check.polynomial ∷ [], 0xFFFF ∷ 0x8408 ∷ []) ∷
    -- x^8+x^4+x^3+x^2+1; alpha is 2
    (7, field.polynomial ∷ field.alpha ∷ [], 0x11D ∷ 2 ∷ []) ∷
    -- 0x7E becomes 7D 5E, 0x7D becomes 7D 5D; no other byte is escaped
    (8, escape (0x7E ∷ 0x7D ∷ 0x5E ∷ 0x5D ∷ 0x21 ∷ []), 0x7D ∷ 0x5E ∷ 0x7D ∷ 0x5D ∷ 0x5E ∷ 0x5D ∷ 0x21 ∷ []) ∷
    -- port and sequence each two bytes, low first: port 1234, sequence 0102
    (9, contents (plain_packet 0x1234 0x0102 (0x41 ∷ [])), 0x21 ∷ 0x34 ∷ 0x12 ∷ 0x02 ∷ 0x01 ∷ 0x41 ∷ 0x3F ∷ 0x8A ∷ []) ∷
    -- .. and taken apart
    (10, heard (0x7E ∷ 0x21 ∷ 0x34 ∷ 0x12 ∷ 0x02 ∷ 0x01 ∷ 0x41 ∷ 0x3F ∷ 0x8A ∷ 0x7E ∷ []), 0 ∷ 0x21 ∷ 0 ∷ 0 ∷ 0x1234 ∷ 0x0102 ∷ 0x41 ∷ []) ∷
    -- `P port sequence payload-length class`: P 20736 258 3 M
    (
      11,
      line (Said (Delivered (record { format = 0x26; number = 7; key = 2; port = 0x5100; sequence = 0x0102; length = 3 }))),
      ascii "P 20736 258 3 M\n",
    ) ∷
    -- `R n`: R 4
    (12, line (Said (Denied 4)), ascii "R 4\n") ∷
    -- `B 0` clean
    (13, line (Block Clean), ascii "B 0\n") ∷
    -- `B count` repaired: B 16
    (14, line (Block (Repaired 16)), ascii "B 16\n") ∷
    -- `B X` beyond repair
    (15, line (Block Beyond), ascii "B X\n") ∷
    -- `L` lock lost
    (16, line LockLost, ascii "L\n") ∷
    -- `E` with stream bytes, packets, frame refusals, damaged blocks, lost locks: 50 bytes, 1, 2, 3 and 4 of them
    (17, total_line 50 (answers_of 1 2 3 4), ascii "E 50 1 2 3 4\n") ∷
    -- .. and as the finishing call prints it
    (18, last_of (ends_with 50 1 2 3 4), ascii "E 50 1 2 3 4\n") ∷
    -- `X offset`: X 7
    (19, wrong_line 7, ascii "X 7\n") ∷
    -- empty input gives `X 0`
    (20, listing [], ascii "X 0\n") ∷
    -- the paper's case: P 20736 0 1 M and E 10 1 0 0 0
    (
      21,
      listing (0x50 ∷ 0xF5 ∷ 0x5F ∷ 0x05 ∷ 0x00 ∷ 0x7E ∷ 0x21 ∷ 0x00 ∷ 0x51 ∷ 0x00 ∷ 0xF5 ∷ 0x5F ∷ 0x05 ∷ 0x00 ∷ 0x00 ∷ 0x41 ∷ 0xE4 ∷ 0xEC ∷ 0x7E ∷ []),
      ascii "P 20736 0 1 M\nE 10 1 0 0 0\n",
    ) ∷
    -- S 0000 0400 5101 5200 5208 52FF FF00 FFFF
    (22, map letter_of (0x0000 ∷ 0x0400 ∷ 0x5101 ∷ 0x5200 ∷ 0x5208 ∷ 0x52FF ∷ 0xFF00 ∷ 0xFFFF ∷ []), ascii "SSSSSSSS") ∷
    -- A 0401 50FF, M 5100, D 5201 5207
    (23, map letter_of (0x0401 ∷ 0x50FF ∷ 0x5100 ∷ 0x5201 ∷ 0x5207 ∷ []), ascii "AAMDD") ∷
    -- F 5300 7CFF 7F00 FEFF
    (24, map letter_of (0x5300 ∷ 0x7CFF ∷ 0x7F00 ∷ 0xFEFF ∷ []), ascii "FFFF") ∷
    -- 7D00-7EFF may not be used, and the ports beside them may
    (25, map unusable (0x7CFF ∷ 0x7D00 ∷ 0x7EFF ∷ 0x7F00 ∷ []), 0 ∷ 1 ∷ 1 ∷ 0 ∷ []) ∷
    -- our own limits, as docs/REFUSALS.md and docs/DECISIONS.md print them
    (26, line_limit ∷ held_limit ∷ hold_limit ∷ out_limit ∷ longest ∷ far ∷ [], 8205 ∷ 222 ∷ 8428 ∷ 9583 ∷ 128 ∷ 18446744073709551615 ∷ []) ∷
    -- 8,192 plain payload bytes pass and 8,193 get 21; 4,096 bytes of 0x7E pass and 4,097 get 21
    (27, map (λ l. refusal_of (paying l)) (replicate 8192 0 ∷ replicate 8193 0 ∷ replicate 4096 0x7E ∷ replicate 4097 0x7E ∷ []), 0 ∷ 21 ∷ 0 ∷ 21 ∷ []) ∷
    -- 8,272 raw bytes are judged further and 8,273 get 1
    (28, joined (map in_numbers (judge (replicate 8272 0x7D) ∷ judge (replicate 8273 0x7D) ∷ [])), 2 ∷ 1 ∷ []) ∷
    -- counted from 0 behind the opening flag, the first wrong byte after 7D: 21 at 1, the second 7D at 2; none where the last raw byte is 7D
    (29, places (0x7E ∷ 0x7D ∷ 0x21 ∷ 0x7E ∷ 0x41 ∷ 0x7D ∷ 0x7D ∷ 0x5E ∷ 0x7D ∷ 0x22 ∷ 0x7E ∷ 0x7D ∷ 0x21 ∷ 0x7D ∷ 0x7E ∷ []), 1 ∷ 2 ∷ []) ∷
    -- the last of 8,272 raw bytes is at 8,271; 8,273 get 1
    (30, joined (map place_of (judge (replicate 8270 0 ++ 0x7D ∷ 0x21 ∷ []) ∷ judge (replicate 8271 0 ++ 0x7D ∷ 0x21 ∷ []) ∷ [])), 8271 ∷ []) ∷
    -- 10 where the remembered place is above 8,271
    (31, place_limit ∷ [], 8271 ∷ []) ∷
    -- `R 3 n`: R 3 105
    (32, line (Said (Broken 105)), ascii "R 3 105\n") ∷
    -- "Between format and port stand a key length byte, a key number and 2 to 32 key bytes.", the check over everything from the format byte on
    (
      33,
      contents (key_packet 0x07 (0xAA ∷ 0xBB ∷ []) 0x1234 0x0102 (0x41 ∷ [])),
      0x26 ∷ 0x02 ∷ 0x07 ∷ 0xAA ∷ 0xBB ∷ 0x34 ∷ 0x12 ∷ 0x02 ∷ 0x01 ∷ 0x41 ∷ 0x8E ∷ 0x3F ∷ [],
    ) ∷
    -- .. and taken apart
    (
      34,
      heard (0x7E ∷ 0x26 ∷ 0x02 ∷ 0x07 ∷ 0xAA ∷ 0xBB ∷ 0x34 ∷ 0x12 ∷ 0x02 ∷ 0x01 ∷ 0x41 ∷ 0x8E ∷ 0x3F ∷ 0x7E ∷ []),
      0 ∷ 0x26 ∷ 7 ∷ 2 ∷ 0xAA ∷ 0xBB ∷ 0x1234 ∷ 0x0102 ∷ 0x41 ∷ [],
    ) ∷
    -- 12: a key length outside 2 to 32, fewer than seven bytes behind the key
    (
      35,
      key_refusal 0 7 ∷ key_refusal 1 7 ∷ key_refusal 2 7 ∷ key_refusal 32 7 ∷ key_refusal 33 7 ∷ key_refusal 2 6 ∷ key_refusal 32 6 ∷ [],
      12 ∷ 12 ∷ 0 ∷ 0 ∷ 12 ∷ 12 ∷ 12 ∷ [],
    ) ∷
    -- 24: such a length, a key length or number above zero in format 0x21, another format
    (
      36,
      map refusal_of (
          headed 0x26 0 1 ∷ headed 0x26 0 2 ∷ headed 0x26 255 32 ∷ headed 0x26 0 33 ∷ headed 0x26 0 258 ∷
          headed 0x21 0 0 ∷ headed 0x21 0 2 ∷ headed 0x21 1 0 ∷ headed 0x22 0 2 ∷ []),
      24 ∷ 0 ∷ 0 ∷ 24 ∷ 24 ∷ 0 ∷ 24 ∷ 24 ∷ 24 ∷ [],
    ) ∷
    -- D rows by 255, depth 0 to 64; a matrix holds up to 16,320 bytes
    (37, width ∷ interleaver.depth_limit ∷ length (interleaver.fresh).cells ∷ [], 255 ∷ 64 ∷ 16320 ∷ []) ∷
    -- the closing push: N - 1 bytes, none at depth 0 and 1
    (38, map interleaver.closing_bytes (0 ∷ 1 ∷ 2 ∷ 64 ∷ []), 0 ∷ 0 ∷ 509 ∷ 16319 ∷ []) ∷
    -- 10 for a cell place of N or more; depth 64 passes, 65 gets 32, behind 10
    (
      39,
      map (refusal_at 2) (509 ∷ 510 ∷ []) ++ (map (refusal_at 64) (16319 ∷ 16320 ∷ []) ++ map (refusal_at 65) (16574 ∷ 16575 ∷ [])),
      0 ∷ 10 ∷ 0 ∷ 10 ∷ 32 ∷ 10 ∷ [],
    ) ∷
    -- depth 0 and 1 use no cell
    (40, map (refusal_at 0) (0 ∷ 16320 ∷ []) ++ map (refusal_at 1) (255 ∷ 16320 ∷ []), 0 ∷ 0 ∷ 0 ∷ 0 ∷ []) ∷
    -- "up to 16"; "from -32,768 to 32,767, around 65,536"
    (41, most_ports ∷ around ∷ half ∷ [], 16 ∷ 65536 ∷ 32768 ∷ []) ∷
    -- in order, repeated, missing, late
    (
      42,
      joined (map told_of (ruled 0 1 ∷ ruled 65535 0 ∷ ruled 7 7 ∷ ruled 7 9 ∷ ruled 65535 2 ∷ ruled 0 32767 ∷ ruled 0 32768 ∷ ruled 7 6 ∷ ruled 0 65535 ∷ [])),
      73 ∷ 73 ∷ 82 ∷ 77 ∷ 1 ∷ 77 ∷ 2 ∷ 77 ∷ 32766 ∷ 76 ∷ 76 ∷ 76 ∷ [],
    ) ∷
    -- "negative is late and leaves the last number"
    (
      43,
      last_behind 0 1 ∷ last_behind 7 7 ∷ last_behind 65535 2 ∷ last_behind 0 32767 ∷ last_behind 0 32768 ∷ last_behind 7 6 ∷ [],
      1 ∷ 7 ∷ 2 ∷ 32767 ∷ 0 ∷ 7 ∷ [],
    ) ∷
    -- 43, 40, and a first packet
    (
      44,
      joined (
          told_of (noting (replicate 17 freed) 20 1).0 ∷ told_of (noting (entry 5 1 ∷ entry 5 2 ∷ []) 20 1).0 ∷
          told_of (noting (table_of 16) 20 1).0 ∷ told_of (noting (freed ∷ table_of 15) 20 1).0 ∷ []),
      43 ∷ 43 ∷ 40 ∷ 70 ∷ [],
    ) ∷
    -- 43, 41, and a port forgotten
    (
      45,
      joined (
          unforgotten_of (forgetting (replicate 17 freed) 20).0 ∷ unforgotten_of (forgetting (entry 5 1 ∷ entry 5 2 ∷ []) 20).0 ∷
          unforgotten_of (forgetting (table_of 16) 20).0 ∷ unforgotten_of (forgetting (table_of 16) 3).0 ∷ []),
      43 ∷ 43 ∷ 41 ∷ [],
    ) ∷
    -- `PORT SEQUENCE first`: 20736 411 first
    (46, noted_line 20736 411 First, ascii "20736 411 first\n") ∷
    -- `in order`, `repeated`, `late`
    (
      47,
      joined (map (noted_line 1 2) (InOrder ∷ Repeated ∷ Late ∷ [])),
      ascii "1 2 in order\n1 2 repeated\n1 2 late\n",
    ) ∷
    -- `missing N`, `refused 40`
    (
      48,
      joined (map (noted_line 1 2) (Missing 32766 ∷ NotNoted 40 ∷ [])),
      ascii "1 2 missing 32766\n1 2 refused 40\n",
    ) ∷
    -- 5: check differs, in either byte; behind 4, before 6
    (
      49,
      map judged_by (
          (0x21 ∷ 0x00 ∷ 0x51 ∷ 0x00 ∷ 0x00 ∷ 0x41 ∷ 0xE4 ∷ 0xEC ∷ []) ∷ (0x21 ∷ 0x00 ∷ 0x51 ∷ 0x00 ∷ 0x00 ∷ 0x41 ∷ 0xE5 ∷ 0xEC ∷ [])
          ∷ (0x21 ∷ 0x00 ∷ 0x51 ∷ 0x00 ∷ 0x00 ∷ 0x41 ∷ 0xE4 ∷ 0xED ∷ []) ∷ (0x22 ∷ 0x00 ∷ 0x51 ∷ 0x00 ∷ 0x00 ∷ 0x41 ∷ 0xE4 ∷ 0xEC ∷ [])
          ∷ (0x21 ∷ 0x00 ∷ 0x51 ∷ 0x00 ∷ 0x00 ∷ 0xE4 ∷ 0xEC ∷ []) ∷ []),
      0 ∷ 5 ∷ 5 ∷ 5 ∷ 4 ∷ [],
    ) ∷
    -- 7 on reading and 22 on writing: port 7D00-7EFF
    (
      50,
      map (λ p. unread_by (port_of p)) (0x7CFF ∷ 0x7D00 ∷ 0x7EFF ∷ 0x7F00 ∷ []) ++ map (λ p. refusal_of (port_of p)) (0x7CFF ∷ 0x7D00 ∷ 0x7EFF ∷ 0x7F00 ∷ []),
      0 ∷ 7 ∷ 7 ∷ 0 ∷ 0 ∷ 22 ∷ 22 ∷ 0 ∷ [],
    ) ∷
    -- 8: payload above 8,192 bytes as escaped; behind 7
    (
      51,
      map (λ l. unread_by (paying l)) (replicate 8192 0 ∷ replicate 8193 0 ∷ replicate 4096 0x7E ∷ replicate 4097 0x7E ∷ [])
          ++ unread_by (plain_packet 0x7D00 0 (replicate 8193 0)) ∷ [],
      0 ∷ 8 ∷ 0 ∷ 8 ∷ 7 ∷ [],
    ) ∷
    -- 20: payload empty; before 22, and so is 21
    (52, map refusal_of (paying [] ∷ plain_packet 0x7D00 0 [] ∷ plain_packet 0x7D00 0 (replicate 8193 0) ∷ []), 20 ∷ 20 ∷ 21 ∷ []) ∷
    -- R 64 passes, 30: R above 64; 31: message not 255 - R bytes; then 23
    (
      53,
      unmade_by 64 191 64 ∷ unmade_by 65 190 65 ∷ unmade_by 65 191 0 ∷ unmade_by 64 190 0 ∷ unmade_by 64 192 64 ∷ unmade_by 2 253 1 ∷ unmade_by 0 255 0 ∷ [],
      0 ∷ 30 ∷ 30 ∷ 31 ∷ 31 ∷ 23 ∷ 0 ∷ [],
    ) ∷
    -- .. 31: word not 255
    (
      54,
      unchecked_by 64 254 ∷ unchecked_by 65 254 ∷ unchecked_by 65 253 ∷ unchecked_by 64 253 ∷ unchecked_by 64 255 ∷ unchecked_by 0 254 ∷ [],
      0 ∷ 30 ∷ 30 ∷ 31 ∷ 31 ∷ 0 ∷ [],
    ) ∷
    -- 10: bytes of a word above 255, message bytes handed on above 223, marker bytes above 3
    (
      55,
      unheard_by 255 223 3 8272 255 ∷ unheard_by 256 223 3 8272 255 ∷ unheard_by 255 224 3 8272 255 ∷ unheard_by 255 223 4 8272 255 ∷ [],
      0 ∷ 10 ∷ 10 ∷ 10 ∷ [],
    ) ∷
    -- 11, behind 10: receive buffer under 8,272 bytes, word buffer under 255
    (56, unheard_by 255 223 3 8272 254 ∷ unheard_by 255 223 3 8271 255 ∷ unheard_by 256 223 3 8271 254 ∷ [], 11 ∷ 11 ∷ 10 ∷ []) ∷
    -- 0x4F opportunistic: the bytes of the paper's case, hunted, give E 10 0 0 0 0; any other first byte gives X 0
    (
      57,
      listing (0x4F ∷ 0xF5 ∷ 0x5F ∷ 0x0A ∷ 0x00 ∷ 0x7E ∷ 0x21 ∷ 0x00 ∷ 0x51 ∷ 0x00 ∷ 0x00 ∷ 0x41 ∷ 0xE4 ∷ 0xEC ∷ 0x7E ∷ []) ++ listing (0x51 ∷ []),
      ascii "E 10 0 0 0 0\nX 0\n",
    ) ∷
    -- no F5 where a mark should stand, no 5F behind it, a record cut short behind a frame: X 1, X 2, R 4 and X 8
    (
      58,
      joined (map listing (
          (0x50 ∷ 0xF4 ∷ 0x5F ∷ []) ∷ (0x50 ∷ 0xF5 ∷ 0x5E ∷ []) ∷ (0x50 ∷ 0xF5 ∷ 0x5F ∷ 0x09 ∷ 0x00 ∷ 0x7E ∷ 0x00 ∷ 0x7E ∷ []) ∷ [])),
      ascii "X 1\nX 2\nR 4\nX 8\n",
    ) ∷
    -- the byte with which the stream would pass 4,294,967,295 bytes: at 7, at 8, and none, where the record breaks off at 9
    (
      59,
      joined (map behind_stream (4294967295 ∷ 4294967294 ∷ 4294967293 ∷ [])),
      88 ∷ 32 ∷ 55 ∷ 10 ∷ 0x41 ∷ 88 ∷ 32 ∷ 56 ∷ 10 ∷ 0x41 ∷ 0x42 ∷ 88 ∷ 32 ∷ 57 ∷ 10 ∷ [],
    ) ∷
    []
