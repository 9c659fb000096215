-- Months computed: what a recording's packets are to their port, and the lines.
-- one-recording    W1's rule in one recording: first, in order, repeated, after a gap, late
-- afresh           .. and afresh in the next; two ports, in rising order
-- stays            a recording that ends in `X` changes nothing
-- seventeen        nor one with the sheet's seventeenth port, in the month or in the recording alone
-- too_wide         nor one with a number above 64 bits; forty-first: 40 before 44
-- of_range         a sheet of a range of ports: the first and the last port of it are counted, no other; of-sixteen: nor do others take a place
use Prim.Native.Nat.{ℕ, zero, suc}
use mathlib.Core.Path.{◌≡◌, refl}
use mathlib.Core.Bool.{Bool, true, false}
use mathlib.Core.List.{List, [], ◌∷◌, map}
use Rattle.ports_spec.specs.Range.{range}
use Rattle.sheet_spec.specs.declared.Row.{Row}
use Rattle.sheet_spec.specs.Tally.{told_from, told, tallied, sum}
use Rattle.sheet_spec.specs.Meaning.{Mark, within, numbers_of, numbers, added, added_all, lines, any_wide, Counting, counts, wrong, refuses, counting}
use Rattle.sheet_spec.specs.Meaning.{month_of}
use Rattle.sheet_spec.specs.Rows.{row, heard_row, note_in, row_for, run, step, steps, settled}

-- a line in numbers: port, delivered, repeated, late, missing, total
abbrev in_numbers : Row → List ℕ
in_numbers r = r.port ∷ r.tally.delivered ∷ r.tally.repeated ∷ r.tally.late ∷ r.tally.missing ∷ r.tally.total ∷ []

-- 7 first, 8 in order, 8 repeated, 13 after four missing, 10 and 11 late, 14 in order: of seven packets one repeated, two late, four missing; 4 over 8
pub one-recording : map in_numbers (lines (((5, 7) ∷ (5, 8) ∷ (5, 8) ∷ (5, 13) ∷ (5, 10) ∷ (5, 11) ∷ (5, 14) ∷ []) ∷ [])) ≡ (5 ∷ 7 ∷ 1 ∷ 2 ∷ 4 ∷ 8 ∷ []) ∷ []
unfolding told told_from sum numbers_of numbers added added_all
one-recording = refl

-- the lines of recordings one after the other: whether each ends as one, and its packets
abbrev sheet : List (Bool × List Mark) → List (List ℕ)
sheet rs = map in_numbers (lines (month_of [] rs))

-- the second recording starts afresh: its first packet of port 9 is "first", not after a gap
pub afresh : sheet ((true, (9, 65535) ∷ (9, 0) ∷ []) ∷ (true, (4, 1) ∷ (9, 3) ∷ (9, 5) ∷ []) ∷ []) ≡ (4 ∷ 1 ∷ 0 ∷ 0 ∷ 0 ∷ 1 ∷ []) ∷
    (9 ∷ 4 ∷ 0 ∷ 0 ∷ 1 ∷ 5 ∷ []) ∷ []
unfolding told told_from sum numbers_of numbers added added_all counting month_of any_wide
afresh = refl

-- one that ends in `X` changes nothing, and the next counts
pub stays : sheet ((true, (9, 1) ∷ []) ∷ (false, (9, 2) ∷ (4, 1) ∷ []) ∷ (true, (9, 1) ∷ []) ∷ []) ≡ (9 ∷ 2 ∷ 0 ∷ 0 ∷ 0 ∷ 2 ∷ []) ∷ []
unfolding told told_from sum numbers_of numbers added added_all counting month_of any_wide
stays = refl

-- n ports, a packet each
abbrev ports : ℕ → List Mark
ports zero = []
ports (suc n) = (n, 7) ∷ ports n

-- what becomes of the last of two recordings
abbrev last : List Mark → List Mark → Counting
last a b = (counting true (counting true [] a).1 b).0

pub seventeen : (last [] (ports 16) ≡ counts) × (last [] (ports 17) ≡ refuses 40) × (last (ports 16) ((3, 9) ∷ []) ≡ counts)
    × (last (ports 16) ((20, 9) ∷ []) ≡ refuses 40)
unfolding told told_from sum numbers_of numbers added added_all counting any_wide
seventeen = (refl, refl, refl, refl)

-- rows near 2^64, as they are kept
abbrev near : ℕ → ℕ → ℕ → Row
near delivered missing total = row 5 (tallied delivered 0 0 missing total) false 0

-- what becomes of a recording counted from such a row and others
abbrev ends : Bool → List Row → List Mark → Counting
ends well rs ms = settled well (steps (run rs false false) ms)

-- 44 where a number would pass 18,446,744,073,709,551,615: delivered, or the total alone; at that number it counts
pub too_wide :
    (ends true (near 18446744073709551613 0 0 ∷ []) ((5, 1) ∷ (5, 2) ∷ []) ≡ counts)
    × (ends true (near 18446744073709551614 0 0 ∷ []) ((5, 1) ∷ (5, 2) ∷ []) ≡ refuses 44)
    × (ends true (near 0 0 18446744073709551612 ∷ []) ((5, 1) ∷ (5, 3) ∷ []) ≡ counts)
    × (ends true (near 0 0 18446744073709551613 ∷ []) ((5, 1) ∷ (5, 3) ∷ []) ≡ refuses 44)
    × (ends false (near 0 0 18446744073709551613 ∷ []) ((5, 1) ∷ (5, 3) ∷ []) ≡ wrong)
unfolding heard_row note_in row_for step steps
too_wide = (refl, refl, refl, refl, refl)

-- 40 before 44, also where the number passes first
pub forty-first : ends true (near 18446744073709551615 0 0 ∷ []) ((5, 1) ∷ ports 17) ≡ refuses 40
unfolding heard_row note_in row_for step steps
forty-first = refl

-- of ports 1200, 1201, 1216 and 1217, to a sheet of 1201 to 1216; none to one whose first port is above its last
abbrev around : List Mark
around = (1200, 1) ∷ (1201, 1) ∷ (1217, 5) ∷ (1216, 8) ∷ (1201, 3) ∷ (1217, 9) ∷ []

pub of_range :
    (sheet ((true, within (range 1201 1216) around) ∷ []) ≡ (1201 ∷ 2 ∷ 0 ∷ 0 ∷ 1 ∷ 3 ∷ []) ∷ (1216 ∷ 1 ∷ 0 ∷ 0 ∷ 0 ∷ 1 ∷ []) ∷ [])
    × (sheet ((true, within (range 1216 1201) around) ∷ []) ≡ [])
unfolding within told told_from sum numbers_of numbers added added_all counting month_of any_wide
of_range = (refl, refl)

-- ports 0 to 19, to sheets of sixteen and of seventeen of them
pub of-sixteen : (last [] (within (range 2 17) (ports 20)) ≡ counts) × (last [] (within (range 2 18) (ports 20)) ≡ refuses 40)
unfolding within told told_from sum numbers_of numbers added added_all counting any_wide
of-sixteen = (refl, refl)
