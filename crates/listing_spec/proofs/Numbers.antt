-- The paper's case and its edges, computed: recordings, and what is printed of each.
-- table    recordings
-- letters  each kind of line, and the letter of each class
-- barred   the letter of a port that may not be used
-- unsaid   "more wanted" has no line
-- limit    the byte with which the stream would pass 4,294,967,295 bytes is wrong; the one before is read
use Prim.Native.Nat.{ℕ}
use mathlib.Core.Path.{◌≡◌, refl}
use mathlib.Core.List.{List, [], ◌∷◌, map}
use Rattle.fcs.specs.Fcs.{fcs, register, entered}
use Rattle.packet_spec.specs.Port.{class}
use Rattle.packet_spec.specs.declared.Class.TheVariants.{System, Applications, M, D, Future, Barred}
use Rattle.packet_spec.specs.declared.Judged.TheVariants.{Packet, Refused, Broken}
use Rattle.packet_spec.specs.Escape.{escape, escape_byte, plain, wrong_from, right, last, scan}
use Rattle.packet_spec.specs.Frame.{judge_contents, closed_by, closed, judge, judge_body}
use Rattle.channel_spec.specs.declared.Answer.TheVariants.{More, Said, Block, LockLost}
use Rattle.channel_spec.specs.declared.Condition.TheVariants.{Clean, Repaired, Beyond}
use Rattle.listing_spec.specs.declared.Place.TheVariants.{Inside, Wrong}
use Rattle.listing_spec.specs.Apart.{next_at, in_stream, apart}
use Rattle.listing_spec.specs.Lines.{letter, told, line, lines, count, end_line, wrong_line}
use Rattle.text.specs.Text.{ascii, decimal, decimal_by}
use Rattle.listing_spec.specs.Meaning.{heard, last_line, listed, listing}

-- a recording, and what is printed
abbrev rows : List (List ℕ × List ℕ)
rows =
    -- the paper's case
    (
      0x50 ∷ 0xF5 ∷ 0x5F ∷ 0x05 ∷ 0x00 ∷ 0x7E ∷ 0x21 ∷ 0x00 ∷ 0x51 ∷ 0x00 ∷ 0xF5 ∷ 0x5F ∷ 0x05 ∷ 0x00 ∷ 0x00 ∷ 0x41 ∷ 0xE4 ∷ 0xEC ∷ 0x7E ∷ [],
      ascii "P 20736 0 1 M\nE 10 1 0 0 0\n",
    ) ∷
    -- empty input
    ([], ascii "X 0\n") ∷
    -- an unknown first byte
    (0x51 ∷ [], ascii "X 0\n") ∷
    -- an unknown first byte, and more
    (0x00 ∷ 0xF5 ∷ 0x5F ∷ [], ascii "X 0\n") ∷
    -- no record, plain
    (0x50 ∷ [], ascii "E 0 0 0 0 0\n") ∷
    -- no record, on the channel
    (0x4F ∷ [], ascii "E 0 0 0 0 0\n") ∷
    -- ends in a mark
    (0x50 ∷ 0xF5 ∷ [], ascii "X 2\n") ∷
    -- a wrong mark
    (0x50 ∷ 0xF5 ∷ 0x60 ∷ 0x00 ∷ 0x00 ∷ [], ascii "X 2\n") ∷
    -- ends before a length
    (0x50 ∷ 0xF5 ∷ 0x5F ∷ [], ascii "X 3\n") ∷
    -- ends in a length
    (0x50 ∷ 0xF5 ∷ 0x5F ∷ 0x01 ∷ [], ascii "X 4\n") ∷
    -- a record of length 0
    (0x50 ∷ 0xF5 ∷ 0x5F ∷ 0x00 ∷ 0x00 ∷ [], ascii "E 0 0 0 0 0\n") ∷
    -- a record of length 0, and another
    (0x50 ∷ 0xF5 ∷ 0x5F ∷ 0x00 ∷ 0x00 ∷ 0xF5 ∷ 0x5F ∷ 0x03 ∷ 0x00 ∷ 0x7E ∷ 0x00 ∷ 0x7E ∷ [], ascii "R 4\nE 3 0 1 0 0\n") ∷
    -- a record cut short: its bytes are read
    (0x50 ∷ 0xF5 ∷ 0x5F ∷ 0x05 ∷ 0x00 ∷ 0x7E ∷ 0x00 ∷ 0x7E ∷ [], ascii "R 4\nX 8\n") ∷
    -- a record without its bytes
    (0x50 ∷ 0xF5 ∷ 0x5F ∷ 0x05 ∷ 0x00 ∷ [], ascii "X 5\n") ∷
    -- a wrong byte behind a record
    (0x50 ∷ 0xF5 ∷ 0x5F ∷ 0x03 ∷ 0x00 ∷ 0x7E ∷ 0x00 ∷ 0x7E ∷ 0x99 ∷ 0xF5 ∷ [], ascii "R 4\nX 8\n") ∷
    -- a frame over two records
    (0x50 ∷ 0xF5 ∷ 0x5F ∷ 0x02 ∷ 0x00 ∷ 0x7E ∷ 0x00 ∷ 0xF5 ∷ 0x5F ∷ 0x01 ∷ 0x00 ∷ 0x7E ∷ [], ascii "R 4\nE 3 0 1 0 0\n") ∷
    -- an escape broken over two records, and 7D 7D
    (
      0x50 ∷ 0xF5 ∷ 0x5F ∷ 0x02 ∷ 0x00 ∷ 0x7E ∷ 0x7D ∷ 0xF5 ∷ 0x5F ∷ 0x06 ∷ 0x00 ∷ 0x21 ∷ 0x7E ∷ 0x41 ∷ 0x7D ∷ 0x7D ∷ 0x5E ∷ 0xF5 ∷ 0x5F ∷ 0x01 ∷ 0x00 ∷ 0x7E ∷
          [],
      ascii "R 3 1\nR 3 2\nE 9 0 2 0 0\n",
    ) ∷
    -- stray bytes on the channel
    (0x4F ∷ 0xF5 ∷ 0x5F ∷ 0x03 ∷ 0x00 ∷ 0x7E ∷ 0x00 ∷ 0x7E ∷ [], ascii "E 3 0 0 0 0\n") ∷
    -- a length's high byte
    (0x50 ∷ 0xF5 ∷ 0x5F ∷ 0x00 ∷ 0x01 ∷ 0x00 ∷ [], ascii "X 6\n") ∷
    []

pub table : map (λ (r : List ℕ × List ℕ). listing r.0) rows ≡ map (λ (r : List ℕ × List ℕ). r.1) rows
unfolding listing listed last_line heard wrong_line end_line count lines told decimal decimal_by apart in_stream next_at judge closed closed_by judge_contents
    judge_body scan last wrong_from right plain escape escape_byte class fcs register entered
table = refl

-- P, R, R 3 with its place, B 0, B n, B X, L, E with five different numbers, X; and the five letters
pub letters : ◌≡◌ {A = List (List ℕ)}
    (line (Said (Packet (record { format = 0x26; number = 7; key = 2; port = 20736; sequence = 258; length = 3 }))) ∷ line (Said (Refused 4)) ∷ line
    (Said (Broken 105)) ∷ line (Block Clean) ∷ line (Block (Repaired 16)) ∷ line (Block Beyond) ∷ line LockLost
    ∷ end_line 5 1 2 3 4 ∷ wrong_line 7 ∷ map letter (System ∷ Applications ∷ M ∷ D ∷ Future ∷ []) ∷ [])
    (ascii "P 20736 258 3 M\n" ∷ ascii "R 4\n" ∷ ascii "R 3 105\n" ∷ ascii "B 0\n" ∷ ascii "B 16\n" ∷ ascii "B X\n" ∷ ascii "L\n"
    ∷ ascii "E 5 1 2 3 4\n" ∷ ascii "X 7\n" ∷ ascii "SAMDF" ∷ [])
unfolding told end_line wrong_line decimal decimal_by class
letters = refl

-- F, as of every port whose use is still to be told; no packet has such a port
pub barred : letter Barred ∷ [] ≡ ascii "F"
barred = refl

pub unsaid : line More ≡ []
unsaid = refl

pub limit :
    apart (record { place = Inside 2; offset = 100; count = 4294967294 }) (1 ∷ 2 ∷ 3 ∷ [])
    ≡ (1 ∷ [], record { place = Wrong; offset = 101; count = 4294967295 })
unfolding apart in_stream next_at
limit = refl
