-- The monthly sheet by calls (request W13): a sheet goes in and comes back, a recording's packets one a call.
-- rows_of, sheet_of, fresh_sheet     a sheet's rows, and the sheet of rows
-- beginning, adding, closing      a recording begins, delivers a packet that counts, ends
-- noting                          .. delivers a packet, of which only those of a range of ports count
-- printing                        a row's line
-- notings, recorded               packets one after the other, a whole recording
-- tidied, drafted, noted, row_then, run_of   the last recording forgotten; a draft, the rows and the packet's row in it, what it has of the recording
-- answer_of, closed                the code's answer, and the sheet then
-- beyond, line_of                  10: a count of rows above 16; a row's line
use Rattle.std.specs.Prelude.{ℕ, Bool, true, false, ◌||◌, List, [], ◌∷◌, map, ltb, length, take, get_or}
use Rattle.base.specs.Choice.{pick}
use Rattle.base.specs.Written.{Outcome, refused, write}
use Rattle.sheet_spec.specs.Line.{row_line}
use Rattle.ports_spec.specs.declared.Range.{Range}
use Rattle.ports_spec.specs.Range.{inside}
use Rattle.sheet_spec.specs.declared.Row.{Row}
use Rattle.sheet_spec.specs.Tally.{wide}
use Rattle.sheet_spec.specs.Meaning.{Mark, port_limit, Counting, counts, wrong, refuses, kept}
use Rattle.sheet_spec.specs.Rows.{blank, heard_row, note_in, row_for, cleared, padded, Run, run, settled}
use Rattle.sheet.specs.declared.Sheet.{Sheet}
use Rattle.sheet.specs.declared.Draft.{Draft}
use Rattle.sheet.specs.Counted.{Counted, Counts, Wrong, Refused, Closed}

-- the first so many rows ..
abbrev pub rows_of : Sheet → List Row
rows_of s = take s.ports s.rows

-- .. and the sheet of at most 16 rows
abbrev pub sheet_of : List Row → Sheet
sheet_of rs = record { ports = length rs; rows = padded rs }

-- a sheet of no recording
abbrev pub fresh_sheet : Sheet
fresh_sheet = sheet_of []

-- the last recording forgotten
abbrev pub tidied : Sheet → Sheet
tidied s = sheet_of (map cleared (rows_of s))

-- the next recording begins: the rule starts afresh
abbrev pub beginning : Sheet → Draft
beginning s = record { before = s; after = tidied s; full = false; wide = false }

-- a draft with the sheet as it is now
abbrev pub drafted : Draft → Sheet → Bool → Bool → Draft
drafted d s full wide = record { before = d.before; after = s; full = full; wide = wide }

-- the rows behind a packet
abbrev pub noted : Draft → ℕ → ℕ → List Row
noted d port s = note_in port s (rows_of d.after)

-- the packet's row then
abbrev pub row_then : Draft → ℕ → ℕ → Row
row_then d port s = heard_row (row_for port (rows_of d.after)) s

-- a packet that counts; a state beyond its limit stays (the end tells of it)
unfoldable pub adding : Draft → ℕ → ℕ → Draft
adding d port s =
    pick (ltb port_limit d.after.ports) d
    (pick (ltb port_limit (length (noted d port s))) (drafted d d.after true d.wide)
    (pick (wide (row_then d port s).tally) (drafted d d.after d.full true)
    (drafted d (sheet_of (noted d port s)) d.full d.wide)))

-- a packet, to a sheet of these ports: one of another port changes nothing
unfoldable pub noting : Range → Draft → ℕ → ℕ → Draft
noting r d port s = pick (inside r port) (adding d port s) d

-- what the draft has of the recording
abbrev pub run_of : Draft → Run
run_of d = run (rows_of d.after) d.full d.wide

-- the code's answer
abbrev pub answer_of : Counting → Counted
answer_of counts = Counts
answer_of wrong = Wrong
answer_of (refuses n) = Refused n

-- the answer, and the sheet then
abbrev pub closed : Counted → Sheet → Closed
closed a s = record { counted = a; sheet = s }

-- 10: a count of rows above 16, which no call gives
abbrev pub beyond : Draft → Bool
beyond d = ltb port_limit d.before.ports || ltb port_limit d.after.ports

-- the recording's end: 10; then what becomes of it, and the sheet with it or as it was
unfoldable pub closing : Draft → Bool → Closed
closing d well =
    pick (beyond d) (closed (Refused 10) d.before)
    (closed (answer_of (settled well (run_of d))) (kept (settled well (run_of d)) (tidied d.after) d.before))

-- a row's line
abbrev pub line_of : Row → List ℕ
line_of r = row_line r.port r.tally.delivered r.tally.repeated r.tally.late r.tally.missing r.tally.total

-- that of row i, and nothing behind the last; 10 as above
unfoldable pub printing : Sheet → ℕ → List ℕ → Outcome
printing s i out =
    pick (ltb port_limit s.ports) (refused 10 out)
    (pick (ltb i s.ports) (write (line_of (get_or (rows_of s) i (blank 0))) out) (write [] out))

-- ---- a whole recording
-- packets one after the other
unfoldable pub notings : Range → Draft → List Mark → Draft
notings r d [] = d
notings r d (m ∷ ms) = notings r (noting r d m.0 m.1) ms

-- a recording's packets, from a sheet of these ports on, and its end
abbrev pub recorded : Range → Sheet → Bool → List Mark → Closed
recorded r s well ms = closing (notings r (beginning s) ms) well
