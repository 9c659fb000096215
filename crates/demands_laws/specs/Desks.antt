-- Rows of the office's calls, and that an answer of the office refuses by a number.
-- DeskBeyond         10: a count of the office's state is beyond its limit
-- DeskShort          11: a lent buffer is too short
-- Bids               that a line is a bid: only then a number of the paper is given for it
-- line_rows           20 to 22, of a line
-- OfDesk             10, 11 and 23 are a call's numbers; 20 to 22 are a line's
-- ByDesk, By..       that an answer refuses by a number
use Rattle.std.specs.Prelude.{ℕ, ◌<◌, ◌≡◌, ◌⊎◌, List, [], ◌∷◌, length}
use Rattle.std.proofs.Math.Option.{Option}
use Rattle.packet_spec.specs.Contents.{payload_limit}
use Rattle.packet_spec.specs.Escape.{escape}
use Rattle.bid.specs.Line.{line_limit, no_number, port, sequence, text, Verdict, refused}
use Rattle.office.specs.declared.Office.{Office}
use Rattle.office.specs.Start.{Started}
use Rattle.office.specs.Start.{Refused as StartRefused}
use Rattle.office.specs.Answer.{Refused}
use Rattle.office.specs.Meaning.{Spoken, Said, Desk}
use Rattle.office.specs.Call.{held_limit, hold_limit, spoken, answered}
use Rattle.demands_laws.specs.Table.{Row}
use Rattle.demands_laws.specs.Refusals.{Unusable}

-- 10 of the office: bytes of a line above 8,205, bytes held above 222
abbrev pub DeskBeyond : Office → Type 0
DeskBeyond s = (line_limit < s.stored) ⊎ (held_limit < s.held)

-- 11 of the office: buffer of the line under 8,205 bytes, of the bytes held under 8,428
abbrev pub DeskShort : List ℕ → List ℕ → Type 0
DeskShort line hold = (length line < line_limit) ⊎ (length hold < hold_limit)

-- both numbers of a line are there
abbrev pub Bids : List ℕ → Type 0
Bids l = (port l < no_number) × (sequence l < no_number)

-- of a line
abbrev pub line_rows : List ℕ → List Row
line_rows l =
    (20, Bids l × (length (text l) ≡ 0)) ∷  -- payload empty
    (21, Bids l × (payload_limit < length (escape (text l)))) ∷  -- payload above 8,192 bytes as escaped
    (22, Bids l × Unusable (port l)) ∷  -- port 7D00-7EFF
    []

-- a call's numbers
abbrev pub OfDesk : ℕ → Type 0
OfDesk n = (n ≡ 10) ⊎ (n ≡ 11) ⊎ (n ≡ 23)

-- a call of the office is refused
abbrev pub ByDesk : Option Said × ℕ × Desk → ℕ → Type 0
ByDesk r n = OfDesk n × (answered r.0 ≡ Refused n)

-- the start is
abbrev pub ByStart : Started × List ℕ → ℕ → Type 0
ByStart r n = r.0 ≡ StartRefused n

-- a line is
abbrev pub ByLine : Verdict → ℕ → Type 0
ByLine v n = v ≡ refused n

-- .. and so it is told
abbrev pub BySpoken : Spoken → ℕ → Type 0
BySpoken x n = spoken x ≡ Refused n
