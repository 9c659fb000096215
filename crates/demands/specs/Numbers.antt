-- The numbers that the paper holds the definitions to, (a) to (m), as a single table: beside each letter what the definitions give and what
-- the paper says.
-- table, Line        the rows
-- in_numbers, heard   answers in numbers
-- wrong              the letters of the rows that do not agree
use Rattle.std.specs.Prelude.{ℕ, ◌≡◌, refl, Bool, true, false, ◌&&◌, List, [], ◌∷◌, ◌++◌, map, eqb, length, replicate}
use Rattle.base.specs.Calls.{joined}
use Rattle.base.specs.Choice.{pick}
use Rattle.fcs.specs.Fcs.{fcs, register, entered}
use Rattle.field.specs.Field.{add, double, shift_add, mul, pow}
use Rattle.word_spec.specs.Word.{scale, onto, times_root, generator, divide, remainder}
use Rattle.interleaver_spec.specs.Places.{cell}
use Rattle.packet_spec.specs.Contents.{plain_packet, with_check, contents}
use Rattle.packet_spec.specs.Escape.{escape, escape_byte, plain, wrong_from, right, last, scan}
use Rattle.packet_spec.specs.Frame.{Told, packet, refusal, broken, judge_contents, closed_by, closed, judge, judge_body}
use Rattle.stream.specs.Meaning.{waiting, reads}

-- a letter, what the definitions give, what the paper says
abbrev pub Line : Type 0
Line = ℕ × List ℕ × List ℕ

-- an answer in numbers: the number of a refusal; of a packet 0, format, key number, key length, key, port, sequence, payload
abbrev pub in_numbers : Told → List ℕ
in_numbers (packet p) = 0 ∷ p.format ∷ p.number ∷ length p.key ∷ (p.key ++ p.port ∷ p.sequence ∷ p.payload)
in_numbers (refusal n) = n ∷ []
in_numbers (broken n) = 3 ∷ []

-- the answers of a stream from its start
abbrev pub heard : List ℕ → List ℕ
heard bs = joined (map in_numbers (reads waiting bs).0)

-- n zeros and 01
abbrev last_one : ℕ → List ℕ
last_one n = replicate n 0 ++ 0x01 ∷ []

abbrev pub table : List Line
table =
    (0x61, fcs [] ∷ [], 0x0000 ∷ []) ∷  -- (a) FCS of no bytes 0x0000
    (0x62, fcs (0x00 ∷ []) ∷ [], 0xF078 ∷ []) ∷  -- (b) of 00, 0xF078
    (0x63, fcs (0xFF ∷ []) ∷ [], 0xFF00 ∷ []) ∷  -- (c) of FF, 0xFF00
    (0x64, contents (plain_packet 0x5100 0 (0x41 ∷ [])), 0x21 ∷ 0x00 ∷ 0x51 ∷ 0x00 ∷ 0x00 ∷ 0x41 ∷ 0xE4 ∷ 0xEC ∷ []) ∷  -- (d) port 5100, sequence 0, payload 41
    (0x65, heard (0x7E ∷ 0x7E ∷ []), []) ∷  -- (e) 7E 7E, no answer
    (0x66, heard (0x7E ∷ 0x00 ∷ 0x7E ∷ []), 4 ∷ []) ∷  -- (f) 7E 00 7E, refusal 4
    (0x67, heard (0x7E ∷ 0x21 ∷ 0x7D ∷ 0x7E ∷ []), 2 ∷ []) ∷  -- (g) 7E 21 7D 7E, 2
    (0x68, heard (0x7E ∷ 0x7D ∷ 0x21 ∷ 0x7E ∷ []), 3 ∷ []) ∷  -- (h) 7E 7D 21 7E, 3
    (0x69, mul 0x80 2 ∷ [], 0x1D ∷ []) ∷  -- (i) 0x80 times 2 is 0x1D
    (0x6A, mul 2 0x8E ∷ [], 1 ∷ []) ∷  -- (j) 2 times 0x8E is 1
    (0x6B, remainder 1 (last_one 253), 0x02 ∷ []) ∷  -- (k) R = 1, message of zeros ending in 01: parity 02
    (0x6C, remainder 2 (last_one 252), 0x06 ∷ 0x08 ∷ []) ∷  -- (l) R = 2, likewise: 06 08
    (0x6D, map (cell 2) (0 ∷ 1 ∷ 2 ∷ 254 ∷ 255 ∷ 256 ∷ []), 0 ∷ 308 ∷ 106 ∷ 202 ∷ 255 ∷ 53 ∷ []) ∷  -- (m) depth 2: the cells of outputs 0, 1, 2, 254, 255, 256
    []

-- two lists of numbers agree
abbrev same : List ℕ → List ℕ → Bool
same [] [] = true
same [] (y ∷ ys) = false
same (x ∷ xs) [] = false
same (x ∷ xs) (y ∷ ys) = eqb x y && same xs ys

-- the letters of the rows that do not agree
abbrev pub wrong : List Line → List ℕ
wrong [] = []
wrong (r ∷ rows) = pick (same r.1 r.2) (wrong rows) (r.0 ∷ wrong rows)
