-- The office's input, line by line.
-- lines_from, lines_of       its lines
-- verdicts      what the sender says of each
-- packets_of     the packets of the accepted lines, in order: what is sent is their stream
-- numbered                 the next line's number
-- complaints_from, complaints   the number of each line that is not sent, and why
use Rattle.std.specs.Prelude.{ℕ, ◌+◌, List, [], ◌∷◌, ◌++◌, map, eqb, ltb, length}
use Rattle.base.specs.Choice.{pick}
use Rattle.base.specs.Highest.{highest}
use Rattle.packet_spec.specs.Contents.{Packet}
use Rattle.bid.specs.Line.{feed, Verdict, no_bid, refused, accepted, verdict}

-- the lines of bytes behind a line begun: each ends at a line feed, the last also where the input ends
unfoldable pub lines_from : List ℕ → List ℕ → List (List ℕ)
lines_from l [] = pick (eqb (length l) 0) [] (l ∷ [])
lines_from l (b ∷ bs) = pick (eqb b feed) (l ∷ []) [] ++ lines_from (pick (eqb b feed) [] (l ++ b ∷ [])) bs

-- the lines of an input
abbrev pub lines_of : List ℕ → List (List ℕ)
lines_of bs = lines_from [] bs

-- what the sender says of each
abbrev verdicts : List ℕ → List Verdict
verdicts bs = map verdict (lines_of bs)

-- the packets of the accepted
unfoldable pub packets : List Verdict → List Packet
packets [] = []
packets (no_bid ∷ vs) = packets vs
packets (refused n ∷ vs) = packets vs
packets (accepted p ∷ vs) = p ∷ packets vs

-- the packets to be sent
abbrev pub packets_of : List ℕ → List Packet
packets_of bs = packets (verdicts bs)

-- the highest line number
abbrev last_number : ℕ
last_number = highest

-- the next line's number
abbrev pub numbered : ℕ → ℕ
numbered k = pick (ltb k last_number) (k + 1) last_number

-- of lines behind k others: the number of each that is not sent, and its refusal; 0 where it is no bid
unfoldable pub complaints_from : ℕ → List Verdict → List (ℕ × ℕ)
complaints_from k [] = []
complaints_from k (no_bid ∷ vs) = (numbered k, 0) ∷ complaints_from (numbered k) vs
complaints_from k (refused n ∷ vs) = (numbered k, n) ∷ complaints_from (numbered k) vs
complaints_from k (accepted p ∷ vs) = complaints_from (numbered k) vs

-- the same of the lines of an input
abbrev pub complaints : List ℕ → List (ℕ × ℕ)
complaints bs = complaints_from 0 (verdicts bs)
