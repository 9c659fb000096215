-- The monthly reception sheet (request W13): from the delivered packets of the recordings that count, to the lines.
-- Mark, within           a delivered packet's port and sequence number; the packets of a range of ports, which are all that a sheet of it counts
-- numbers_of              one port's sequence numbers
-- Month, numbers         the recordings that count, each its delivered packets; a port's numbers in them; timely_of: its packets in order, first or after a gap
-- ports_of, lines         the ports in rising order, and a line of each
-- Counting, counting     what becomes of a recording: it counts whole, or the month stays as it was
-- month_of                .. of one after the other
-- added, added_all        a port among others in rising order, and those of packets
-- line                   a port's line
-- any_wide, port_limit     a number that passes 64 bits; at most so many ports
-- ruling, ruling_of, kept, with   by which it counts or not, and what is had then
use Rattle.std.specs.Prelude.{ℕ, ◌+◌, Bool, true, false, ◌||◌, List, [], ◌∷◌, ◌++◌, map, eqb, ltb, length}
use Rattle.base.specs.Choice.{pick}
use Rattle.base.specs.Calls.{joined}
use Rattle.ports_spec.specs.declared.Range.{Range}
use Rattle.ports_spec.specs.Range.{inside}
use Rattle.sheet_spec.specs.declared.Tally.{Tally}
use Rattle.sheet_spec.specs.declared.Row.{Row}
use Rattle.sheet_spec.specs.Tally.{told, nothing, plus, tally, timely_in, wide}

-- a delivered packet: its port and its sequence number
abbrev pub Mark : Type 0
Mark = ℕ × ℕ

-- those of ports inside a range, in order; the others do not count
unfoldable pub within : Range → List Mark → List Mark
within r [] = []
within r (m ∷ ms) = pick (inside r m.0) (m ∷ within r ms) (within r ms)

-- one port's sequence numbers, in order
unfoldable pub numbers_of : ℕ → List Mark → List ℕ
numbers_of port [] = []
numbers_of port (m ∷ ms) = pick (eqb m.0 port) (m.1 ∷ numbers_of port ms) (numbers_of port ms)

-- the recordings that count
abbrev pub Month : Type 0
Month = List (List Mark)

-- a port's numbers: each recording's, by the rule started afresh, together
unfoldable pub numbers : ℕ → Month → Tally
numbers port [] = nothing
numbers port (ms ∷ month) = plus (tally (numbers_of port ms)) (numbers port month)

-- its packets in order, first or after a gap
unfoldable pub timely_of : ℕ → Month → ℕ
timely_of port [] = 0
timely_of port (ms ∷ month) = timely_in (told (numbers_of port ms)) + timely_of port month

-- a port among others in rising order
unfoldable pub added : ℕ → List ℕ → List ℕ
added port [] = port ∷ []
added port (p ∷ ps) = pick (eqb p port) (p ∷ ps) (pick (ltb port p) (port ∷ p ∷ ps) (p ∷ added port ps))

-- those of packets, one after the other
unfoldable pub added_all : List ℕ → List Mark → List ℕ
added_all ps [] = ps
added_all ps (m ∷ ms) = added_all (added m.0 ps) ms

-- the ports that the month delivered packets of
abbrev pub ports_of : Month → List ℕ
ports_of month = added_all [] (joined month)

-- a port's line; no packet of the next recording is noted yet
abbrev pub line : Month → ℕ → Row
line month port = record { port = port; tally = numbers port month; heard = false; last = 0 }

-- "a line for each port, in rising order"
abbrev pub lines : Month → List Row
lines month = map (line month) (ports_of month)

-- a line has a number that passes 64 bits
unfoldable pub any_wide : List Row → Bool
any_wide [] = false
any_wide (r ∷ rs) = wide r.tally || any_wide rs

-- at most so many ports
abbrev pub port_limit : ℕ
port_limit = 16

-- what becomes of a recording
pub data Counting : Type 0 where
  counts : Counting
  wrong : Counting
  refuses : ℕ → Counting

-- by: does it end as a recording, is there a seventeenth port, does a number pass 64 bits
abbrev pub ruling : Bool → Bool → Bool → Counting
ruling false full over = wrong
ruling true true over = refuses 40
ruling true false true = refuses 44
ruling true false false = counts

-- what is had then: the new where it counts, else the old
abbrev pub kept : {A : Type 0} → Counting → A → A → A
kept counts new old = new
kept wrong new old = old
kept (refuses n) new old = old

-- the month with it
abbrev pub with : Month → List Mark → Month
with month ms = month ++ (ms ∷ [])

-- by: does it end as a recording
abbrev pub ruling_of : Bool → Month → List Mark → Counting
ruling_of well month ms = ruling well (ltb port_limit (length (lines (with month ms)))) (any_wide (lines (with month ms)))

-- what becomes of it, and the month then
unfoldable pub counting : Bool → Month → List Mark → Counting × Month
counting well month ms = (ruling_of well month ms, kept (ruling_of well month ms) (with month ms) month)

-- recordings one after the other: whether each ends as one, and its delivered packets
unfoldable pub month_of : Month → List (Bool × List Mark) → Month
month_of month [] = month
month_of month (r ∷ rs) = month_of (counting r.0 month r.1).1 rs
