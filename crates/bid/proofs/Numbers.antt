-- Inputs of the office, computed.
-- table          inputs, the stream of what is sent, and the complaints
-- highest-line   the number of the last line that has one of its own, and of those behind it
use Prim.Native.Nat.{ℕ}
use mathlib.Core.Path.{◌≡◌, refl}
use mathlib.Core.List.{List, [], ◌∷◌, map}
use Rattle.fcs.specs.Fcs.{fcs, register, entered}
use Rattle.packet_spec.specs.Escape.{escape, escape_byte}
use Rattle.packet_spec.specs.Contents.{contents, with_check}
use Rattle.stream.specs.Sender.{stream}
use Rattle.base.specs.UpTo.{up_to}
use Rattle.bid.specs.Line.{digits, value, number_from, number, judged, verdict}
use Rattle.bid.specs.Input.{lines_from, packets, packets_of, numbered, complaints_from, complaints}

-- an input, the stream of what is sent, the complaints
abbrev rows : List (List ℕ × List ℕ × List (ℕ × ℕ))
rows =
    -- number (d) of the paper: "20736 0 A\n"
    (
      50 ∷ 48 ∷ 55 ∷ 51 ∷ 54 ∷ 32 ∷ 48 ∷ 32 ∷ 65 ∷ 10 ∷ [],
      0x7E ∷ 0x21 ∷ 0x00 ∷ 0x51 ∷ 0x00 ∷ 0x00 ∷ 0x41 ∷ 0xE4 ∷ 0xEC ∷ 0x7E ∷ [],
      [],
    ) ∷
    -- no input: one flag: ""
    (
      [],
      0x7E ∷ [],
      [],
    ) ∷
    -- no line feed at the end: "20736 0 A"
    (
      50 ∷ 48 ∷ 55 ∷ 51 ∷ 54 ∷ 32 ∷ 48 ∷ 32 ∷ 65 ∷ [],
      0x7E ∷ 0x21 ∷ 0x00 ∷ 0x51 ∷ 0x00 ∷ 0x00 ∷ 0x41 ∷ 0xE4 ∷ 0xEC ∷ 0x7E ∷ [],
      [],
    ) ∷
    -- an empty line is no bid, and the next is sent: "\n20736 0 A\n"
    (
      10 ∷ 50 ∷ 48 ∷ 55 ∷ 51 ∷ 54 ∷ 32 ∷ 48 ∷ 32 ∷ 65 ∷ 10 ∷ [],
      0x7E ∷ 0x21 ∷ 0x00 ∷ 0x51 ∷ 0x00 ∷ 0x00 ∷ 0x41 ∷ 0xE4 ∷ 0xEC ∷ 0x7E ∷ [],
      (1, 0) ∷ [],
    ) ∷
    -- two lines, low byte first: "1025 258 ab\n0 65535 c\n"
    (
      49 ∷ 48 ∷ 50 ∷ 53 ∷ 32 ∷ 50 ∷ 53 ∷ 56 ∷ 32 ∷ 97 ∷ 98 ∷ 10 ∷ 48 ∷ 32 ∷ 54 ∷ 53 ∷ 53 ∷ 51 ∷ 53 ∷ 32 ∷ 99 ∷ 10 ∷ [],
      0x7E ∷ 0x21 ∷ 0x01 ∷ 0x04 ∷ 0x02 ∷ 0x01 ∷ 0x61 ∷ 0x62 ∷ 0x2E ∷ 0x06 ∷ 0x7E ∷ 0x21 ∷ 0x00 ∷ 0x00 ∷ 0xFF ∷ 0xFF ∷ 0x63 ∷ 0x6A ∷ 0x1E ∷ 0x7E ∷ [],
      [],
    ) ∷
    -- leading zeros, to five digits: "00001 00002 x\n"
    (
      48 ∷ 48 ∷ 48 ∷ 48 ∷ 49 ∷ 32 ∷ 48 ∷ 48 ∷ 48 ∷ 48 ∷ 50 ∷ 32 ∷ 120 ∷ 10 ∷ [],
      0x7E ∷ 0x21 ∷ 0x01 ∷ 0x00 ∷ 0x02 ∷ 0x00 ∷ 0x78 ∷ 0xF7 ∷ 0x37 ∷ 0x7E ∷ [],
      [],
    ) ∷
    -- six digits are no number: "000001 2 x\n"
    (
      48 ∷ 48 ∷ 48 ∷ 48 ∷ 48 ∷ 49 ∷ 32 ∷ 50 ∷ 32 ∷ 120 ∷ 10 ∷ [],
      0x7E ∷ [],
      (1, 0) ∷ [],
    ) ∷
    -- 65,536 is no number: "65536 2 x\n1 65536 x\n65535 65535 x\n"
    (
      54 ∷ 53 ∷ 53 ∷ 51 ∷ 54 ∷ 32 ∷ 50 ∷ 32 ∷ 120 ∷ 10 ∷ 49 ∷ 32 ∷ 54 ∷ 53 ∷ 53 ∷ 51 ∷ 54 ∷ 32 ∷ 120 ∷ 10 ∷ 54 ∷ 53 ∷ 53 ∷ 51 ∷ 53 ∷ 32 ∷ 54 ∷ 53 ∷ 53 ∷ 51 ∷
          53 ∷ 32 ∷ 120 ∷ 10 ∷ [],
      0x7E ∷ 0x21 ∷ 0xFF ∷ 0xFF ∷ 0xFF ∷ 0xFF ∷ 0x78 ∷ 0xB0 ∷ 0x80 ∷ 0x7E ∷ [],
      (1, 0) ∷ (2, 0) ∷ [],
    ) ∷
    -- no sequence, no port, letters: "5\n 5 x\nA 5 x\n5 A x\n"
    (
      53 ∷ 10 ∷ 32 ∷ 53 ∷ 32 ∷ 120 ∷ 10 ∷ 65 ∷ 32 ∷ 53 ∷ 32 ∷ 120 ∷ 10 ∷ 53 ∷ 32 ∷ 65 ∷ 32 ∷ 120 ∷ 10 ∷ [],
      0x7E ∷ [],
      (1, 0) ∷ (2, 0) ∷ (3, 0) ∷ (4, 0) ∷ [],
    ) ∷
    -- no text: 20: "5 6\n5 6 \n5 6 x\n"
    (
      53 ∷ 32 ∷ 54 ∷ 10 ∷ 53 ∷ 32 ∷ 54 ∷ 32 ∷ 10 ∷ 53 ∷ 32 ∷ 54 ∷ 32 ∷ 120 ∷ 10 ∷ [],
      0x7E ∷ 0x21 ∷ 0x05 ∷ 0x00 ∷ 0x06 ∷ 0x00 ∷ 0x78 ∷ 0x86 ∷ 0x79 ∷ 0x7E ∷ [],
      (1, 20) ∷ (2, 20) ∷ [],
    ) ∷
    -- port 7D00 and 7EFF: 22, and those beside them pass: "31999 1 x\n32000 1 x\n32511 1 x\n32512 1 x\n"
    (
      51 ∷ 49 ∷ 57 ∷ 57 ∷ 57 ∷ 32 ∷ 49 ∷ 32 ∷ 120 ∷ 10 ∷ 51 ∷ 50 ∷ 48 ∷ 48 ∷ 48 ∷ 32 ∷ 49 ∷ 32 ∷ 120 ∷ 10 ∷ 51 ∷ 50 ∷ 53 ∷ 49 ∷ 49 ∷ 32 ∷ 49 ∷ 32 ∷ 120 ∷ 10 ∷
          51 ∷ 50 ∷ 53 ∷ 49 ∷ 50 ∷ 32 ∷ 49 ∷ 32 ∷ 120 ∷ 10 ∷ [],
      0x7E ∷ 0x21 ∷ 0xFF ∷ 0x7C ∷ 0x01 ∷ 0x00 ∷ 0x78 ∷ 0xFC ∷ 0xEB ∷ 0x7E ∷ 0x21 ∷ 0x00 ∷ 0x7F ∷ 0x01 ∷ 0x00 ∷ 0x78 ∷ 0x6B ∷ 0x3B ∷ 0x7E ∷ [],
      (2, 22) ∷ (3, 22) ∷ [],
    ) ∷
    -- 20 stands before 22: "32000 1 \n"
    (
      51 ∷ 50 ∷ 48 ∷ 48 ∷ 48 ∷ 32 ∷ 49 ∷ 32 ∷ 10 ∷ [],
      0x7E ∷ [],
      (1, 20) ∷ [],
    ) ∷
    -- 7E and 7D in the text, and in a number: "126 125 }~\n"
    (
      49 ∷ 50 ∷ 54 ∷ 32 ∷ 49 ∷ 50 ∷ 53 ∷ 32 ∷ 125 ∷ 126 ∷ 10 ∷ [],
      0x7E ∷ 0x21 ∷ 0x7D ∷ 0x5E ∷ 0x00 ∷ 0x7D ∷ 0x5D ∷ 0x00 ∷ 0x7D ∷ 0x5D ∷ 0x7D ∷ 0x5E ∷ 0x0A ∷ 0x87 ∷ 0x7E ∷ [],
      [],
    ) ∷
    -- spaces belong to the text: "5 6  x \n"
    (
      53 ∷ 32 ∷ 54 ∷ 32 ∷ 32 ∷ 120 ∷ 32 ∷ 10 ∷ [],
      0x7E ∷ 0x21 ∷ 0x05 ∷ 0x00 ∷ 0x06 ∷ 0x00 ∷ 0x20 ∷ 0x78 ∷ 0x20 ∷ 0x3A ∷ 0x63 ∷ 0x7E ∷ [],
      [],
    ) ∷
    -- two spaces are no number between them: "5  6 x\n"
    (
      53 ∷ 32 ∷ 32 ∷ 54 ∷ 32 ∷ 120 ∷ 10 ∷ [],
      0x7E ∷ [],
      (1, 0) ∷ [],
    ) ∷
    -- a carriage return belongs to the text, or is no digit: "5 6 x\r\n5 6\r\n"
    (
      53 ∷ 32 ∷ 54 ∷ 32 ∷ 120 ∷ 13 ∷ 10 ∷ 53 ∷ 32 ∷ 54 ∷ 13 ∷ 10 ∷ [],
      0x7E ∷ 0x21 ∷ 0x05 ∷ 0x00 ∷ 0x06 ∷ 0x00 ∷ 0x78 ∷ 0x0D ∷ 0xDA ∷ 0xCA ∷ 0x7E ∷ [],
      (2, 0) ∷ [],
    ) ∷
    -- a refused line between two others: "5 1 a\n5 2 \n5 3 b\n"
    (
      53 ∷ 32 ∷ 49 ∷ 32 ∷ 97 ∷ 10 ∷ 53 ∷ 32 ∷ 50 ∷ 32 ∷ 10 ∷ 53 ∷ 32 ∷ 51 ∷ 32 ∷ 98 ∷ 10 ∷ [],
      0x7E ∷ 0x21 ∷ 0x05 ∷ 0x00 ∷ 0x01 ∷ 0x00 ∷ 0x61 ∷ 0xC3 ∷ 0x78 ∷ 0x7E ∷ 0x21 ∷ 0x05 ∷ 0x00 ∷ 0x03 ∷ 0x00 ∷ 0x62 ∷ 0xE0 ∷ 0xFF ∷ 0x7E ∷ [],
      (2, 20) ∷ [],
    ) ∷
    []

abbrev gives : List (List ℕ × List ℕ × List (ℕ × ℕ))
gives = map (λ r. (r.0, stream (packets_of r.0), complaints r.0)) rows

pub table : gives ≡ rows
unfolding fcs register entered escape escape_byte contents with_check up_to digits value number_from number judged verdict lines_from packets complaints_from
table = refl

-- lines are numbered from 1 to 2^64 - 1, and every line behind that one has its number
pub highest-line : map numbered (0 ∷ 18446744073709551614 ∷ 18446744073709551615 ∷ []) ≡ 1 ∷ 18446744073709551615 ∷ 18446744073709551615 ∷ []
highest-line = refl
