-- Rows of the refusals of request W13, on the monthly sheet.
-- ByClosed, close_rows     a recording's end, by the draft as it is ..
-- month_rows               .. and by the month and the recording's packets
-- print_rows               a row's line
-- in_range                 recordings without the packets of ports outside a range
-- recorded_all             recordings one after the other, by calls
use Rattle.std.specs.Prelude.{ℕ, ◌<◌, ◌≡◌, Bool, true, ◌⊎◌, List, [], ◌∷◌, map, length, get_or}
use Rattle.ports_spec.specs.declared.Range.{Range}
use Rattle.sheet_spec.specs.Meaning.{Mark, Month, within, lines, any_wide, with}
use Rattle.sheet_spec.specs.Rows.{blank}
use Rattle.sheet.specs.declared.Sheet.{Sheet}
use Rattle.sheet.specs.declared.Draft.{Draft}
use Rattle.sheet.specs.Counted.{Refused, Closed}
use Rattle.sheet.specs.Call.{rows_of, line_of, recorded}
use Rattle.demands_laws.specs.Table.{Row}

-- a recording is refused
abbrev pub ByClosed : Closed → ℕ → Type 0
ByClosed x n = x.counted ≡ Refused n

-- its end, of a recording that does not end in `X`
abbrev pub close_rows : Draft → Bool → List Row
close_rows d well =
    (10, (16 < d.before.ports) ⊎ (16 < d.after.ports)) ∷  -- a count of rows above 16
    (40, (well ≡ true) × (d.full ≡ true)) ∷  -- the sheet's seventeenth port
    (44, (well ≡ true) × (d.wide ≡ true)) ∷  -- a number would pass 64 bits
    []

-- the same, from the delivered packets
abbrev pub month_rows : Month → Bool → List Mark → List Row
month_rows month well ms =
    (40, (well ≡ true) × (16 < length (lines (with month ms)))) ∷  -- the sheet would have a seventeenth port
    (44, (well ≡ true) × (any_wide (lines (with month ms)) ≡ true)) ∷  -- a number of it would pass 64 bits
    []

-- row i's line
abbrev pub print_rows : Sheet → ℕ → List ℕ → List Row
print_rows s i out =
    (10, 16 < s.ports) ∷  -- a count of rows above 16
    (23, (i < s.ports) × (length out < length (line_of (get_or (rows_of s) i (blank 0))))) ∷  -- the output is shorter than the line
    []

-- recordings: whether each ends as one, and its packets of a range of ports
abbrev pub in_range : Range → List (Bool × List Mark) → List (Bool × List Mark)
in_range r = map (λ (x : Bool × List Mark). (x.0, within r x.1))

-- recordings one after the other, to a sheet of a range of ports: whether each ends as one, and its packets
abbrev pub recorded_all : Range → Sheet → List (Bool × List Mark) → Sheet
recorded_all r s [] = s
recorded_all r s (x ∷ xs) = recorded_all r (recorded r s x.0 x.1).sheet xs
