-- The sheet as it is kept: rows in rising order, each with what the recording that is being counted has said of its port.
-- blank         a port's row before its first packet
-- heard_row      .. behind a packet
-- note_in        the rows behind a packet
-- row_for        the row that a packet of a port finds
-- cleared       the recording forgotten
-- padded        the rows at 16 places
-- Run, steps    while a recording is counted, packet by packet; settled: what becomes of it
-- row, verdict, padded_to   a row; what a packet is to its port; the rows at n places
-- run, step     a run put together; one packet
use Rattle.std.specs.Prelude.{ℕ, zero, suc, Bool, true, false, List, [], ◌∷◌, eqb, ltb, length}
use Rattle.base.specs.Choice.{pick}
use Rattle.ports_spec.specs.Distance.{ruled, last_behind}
use Rattle.ports_spec.specs.declared.Noted.{Noted}
use Rattle.ports_spec.specs.declared.Noted.TheVariants.{First}
use Rattle.sheet_spec.specs.declared.Tally.{Tally}
use Rattle.sheet_spec.specs.declared.Row.{Row}
use Rattle.sheet_spec.specs.Tally.{nothing, plus, one, wide}
use Rattle.sheet_spec.specs.Meaning.{Mark, port_limit, Counting, ruling}

-- a row
abbrev pub row : ℕ → Tally → Bool → ℕ → Row
row port t heard last = record { port = port; tally = t; heard = heard; last = last }

-- before a port's first packet
abbrev pub blank : ℕ → Row
blank port = row port nothing false 0

-- what a packet is to its port: the recording's first is "first"
abbrev pub verdict : Row → ℕ → Noted
verdict r s = pick r.heard (ruled r.last s) First

-- behind a packet
unfoldable pub heard_row : Row → ℕ → Row
heard_row r s = row r.port (plus r.tally (one (verdict r s))) true (pick r.heard (last_behind r.last s) s)

-- the rows behind a packet: its port's, or a new one before the first of a greater port
unfoldable pub note_in : ℕ → ℕ → List Row → List Row
note_in port s [] = heard_row (blank port) s ∷ []
note_in port s (r ∷ rs) =
    pick (eqb r.port port) (heard_row r s ∷ rs) (pick (ltb port r.port) (heard_row (blank port) s ∷ r ∷ rs) (r ∷ note_in port s rs))

-- the row that a packet of a port finds
unfoldable pub row_for : ℕ → List Row → Row
row_for port [] = blank port
row_for port (r ∷ rs) = pick (eqb r.port port) r (pick (ltb port r.port) (blank port) (row_for port rs))

-- before the next recording
abbrev pub cleared : Row → Row
cleared r = row r.port r.tally false 0

-- rows at n places, blank ones behind them
unfoldable pub padded_to : ℕ → List Row → List Row
padded_to zero rs = []
padded_to (suc n) [] = blank 0 ∷ padded_to n []
padded_to (suc n) (r ∷ rs) = r ∷ padded_to n rs

-- .. at 16
abbrev pub padded : List Row → List Row
padded rs = padded_to port_limit rs

-- ---- while a recording is counted
-- the rows; a seventeenth port was met; a number would have passed 64 bits
pub record Run : Type 0 where
  pub rows : List Row
  pub full : Bool
  pub over : Bool

abbrev pub run : List Row → Bool → Bool → Run
run rs full over = record { rows = rs; full = full; over = over }

-- a packet: where it brings a seventeenth port, or a number too great, that is kept and the rows stay
unfoldable pub step : ℕ → ℕ → Run → Run
step port s d =
    pick (ltb port_limit (length (note_in port s d.rows))) (run d.rows true d.over)
    (pick (wide (heard_row (row_for port d.rows) s).tally) (run d.rows d.full true) (run (note_in port s d.rows) d.full d.over))

-- packets one after the other
unfoldable pub steps : Run → List Mark → Run
steps d [] = d
steps d (m ∷ ms) = steps (step m.0 m.1 d) ms

-- the recording's end
abbrev pub settled : Bool → Run → Counting
settled well d = ruling well d.full d.over
