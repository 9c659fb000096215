-- Request W13, "Monthly reception sheet", each sentence over its theorem. A month is the list of the recordings that count, each the list of its
-- delivered packets' ports and sequence numbers; `lines` are the sheet's lines, `counting` is what a recording makes of the month, `recorded` the
-- calls on its packets (proofs/Promises), `sheet_of` the sheet as it is kept. A sheet may be of a range of ports: all is said of every range.
-- rising-order, line-each          the lines
-- line-numbers, afresh, each-packet, delivered, loss, line-is     their numbers
-- sheet-by-calls, sheet-begins, sheet-goes-on, sheet-of-many, sheet-rows, line-printed     by calls, for every cutting of each recording
-- range-brings, range-sheet, range-lines, every-port     a range of ports
-- close-refusals, month-refusals, close-keeps, sheet-stays, month-stays, x-is-wrong, x-rest, counted-whole      what does not count
-- print-refusals, print-keeps-out     a line written
use Prim.Native.Nat.{ℕ, ◌+◌, ◌≤◌, ◌<◌}
use native.Mathlib.Omega.{arith}
use mathlib.Core.Path.{◌≡◌, refl, sym, ap, subst, ◌∙◌}
use mathlib.Core.Bool.{Bool, true, false, ◌||◌, true≢false, false≢true}
use mathlib.Core.Logic.{◌↔◌, ◌≢◌, ◌⊎◌, ⊎_elim}
use mathlib.Core.Logic.◌⊎◌.{inl, inr}
use mathlib.Core.List.{List, [], ◌∷◌, ◌++◌, map}
use lib.Dec.{ltb}
use lib.ListN.{length, get_or}
use borrow.Author.Tests.{ltb-true, lt-ltb, le-ltb}
use Rattle.base.specs.Calls.{joined}
use Rattle.base.specs.Choice.{pick}
use Rattle.base.specs.Written.{write, refused, Keeps}
use Rattle.base.proofs.Calls.{yields-so}
use Rattle.base.proofs.Writing.{write_keeps}
use Rattle.sheet_spec.specs.Line.{row_line, row_longest}
use Rattle.sheet_spec.proofs.Line.{row-short}
use Rattle.listing_spec.specs.Apart.{fresh_spot, apart, well, is_wrong, on_channel}
use Rattle.listing_spec.specs.Meaning.{heard}
use Rattle.listing_spec.proofs.Wrong.{wrong-rest}
use Rattle.recording.specs.Call.{far, EveryCut}
use Rattle.recording.proofs.Demands.{taken-apart}
use Rattle.ports_spec.specs.declared.Range.{Range}
use Rattle.ports_spec.specs.Range.{every_port, inside}
use Rattle.sheet_spec.specs.declared.Row.{Row}
use Rattle.ports_spec.specs.declared.Noted.TheVariants.{First, InOrder, Repeated, Missing, Late}
use Rattle.sheet_spec.specs.Tally.{told, tallied, nothing, plus, one, sum, tally, timely_in}
use Rattle.sheet_spec.specs.Meaning.{Mark, Month, within, numbers_of, numbers, timely_of, added_all, ports_of, line}
use Rattle.sheet_spec.specs.Meaning.{lines, any_wide, port_limit, counts, wrong, ruling, with, counting, month_of}
use Rattle.sheet_spec.specs.Rows.{blank}
use Rattle.sheet_spec.specs.Recording.{marks, brings}
use Rattle.sheet_spec.proofs.Tallies as tallies
use Rattle.sheet_spec.proofs.Rises.{Rising}
use Rattle.sheet_spec.proofs.Ports.{In, Among, ports-rise, ports-are}
use Rattle.sheet_spec.proofs.Within.{Ported, within-every, numbers-range, ports-range}
use Rattle.sheet_spec.proofs.Counted.{Fit, fresh-fit, month-fit, refused-stays, counts_with}
use Rattle.sheet.specs.declared.Sheet.{Sheet}
use Rattle.sheet.specs.declared.Draft.{Draft}
use Rattle.sheet.specs.Counted.{Counted, Counts, Wrong, Refused, Closed}
use Rattle.sheet.specs.Call.{rows_of, sheet_of, fresh_sheet, closed, answer_of, beyond, closing, recorded, line_of, printing}
use Rattle.sheet.proofs.Month.{rows-sheet, recorded-range, recorded-is, closing-keeps, refused-keeps}
use Rattle.demands_laws.specs.Table.{Exact}
use Rattle.demands_laws.specs.Refusals.{ByCall}
use Rattle.demands.specs.Sheet.{ByClosed, close_rows, month_rows, print_rows, in_range, recorded_all}
use Rattle.demands_laws.proofs.Rows.{applies, over, row, passed, refuses as refuses-call, not-less, wrote}

-- "From many recordings, print a line for each port, in rising order:": the ports rise, a line each, and are those that a recording that counts
-- delivered a packet of
abbrev port_of : Row → ℕ
port_of r = r.port

map-ports : (month : Month) (ps : List ℕ) → map port_of (map (line month) ps) ≡ ps
map-ports month [] = refl
map-ports month (p ∷ ps) = ap (λ (qs : List ℕ). p ∷ qs) (map-ports month ps)

pub rising-order : (month : Month) → (map port_of (lines month) ≡ ports_of month) × Rising (ports_of month)
rising-order month = (map-ports month (ports_of month), ports-rise month)

pub line-each : (month : Month) (port : ℕ) → In port (ports_of month) ↔ Among port (joined month)
line-each = ports-are

-- "port, packets delivered, repeated, late, missing by W1's rule starting afresh in each recording,": a line's numbers are those of its port in
-- each recording, together, and in each what W1's rule says of that port's packets from the first on
pub line-numbers : (month : Month) (port : ℕ) → (line month port).tally ≡ numbers port month
line-numbers month port = refl

pub afresh : (month : Month) (ms : List Mark) (port : ℕ)
    → (numbers port [] ≡ nothing) × (numbers port (with month ms) ≡ plus (numbers port month) (sum (told (numbers_of port ms))))
unfolding numbers
afresh month ms port = (refl, tallies.numbers-with month port ms)

-- .. what each packet counts: delivered, repeated, late, missing, and missing plus packets in order, first or after a gap
pub each-packet : (n : ℕ)
    → (one First ≡ tallied 1 0 0 0 1) × (one InOrder ≡ tallied 1 0 0 0 1) × (one (Missing n) ≡ tallied 1 0 0 n (n + 1))
    × (one Repeated ≡ tallied 1 1 0 0 0) × (one Late ≡ tallied 1 0 1 0 0)
each-packet n = (refl, refl, refl, refl, refl)

-- each packet is delivered, and is in order, first or after a gap, or repeated, or late
pub delivered : (ss : List ℕ) → ((tally ss).delivered ≡ length ss) × ((tally ss).delivered ≡ timely_in (told ss) + (tally ss).repeated + (tally ss).late)
delivered ss = (tallies.delivered-each (told ss) ∙ tallies.told-length ss, tallies.delivered-all (told ss) (tallies.all_told ss))

-- "and loss as two whole numbers, missing over missing plus packets in order, first or after a gap."
pub loss : (month : Month) (port : ℕ) → (numbers port month).total ≡ (numbers port month).missing + timely_of port month
loss = tallies.month-loss

-- a line has them in this order, and at most 147 bytes
pub line-is : (r : Row) → (line_of r ≡ row_line r.port r.tally.delivered r.tally.repeated r.tally.late r.tally.missing r.tally.total)
    × (length (line_of r) ≤ row_longest)
line-is r = (refl, row-short r.port r.tally.delivered r.tally.repeated r.tally.late r.tally.missing r.tally.total)

-- "Each number is defined from the delivered packets.": however a recording is cut, whatever the lent buffers held, the calls come to their end, and
-- the packets among their answers, noted one after the other from a month's sheet on, leave what the definition says of the recording's bytes: what
-- becomes of it, and the sheet of the month then (a recording below 2^64 bytes; a month that the sheet can hold, as each is that these calls give)
pub sheet-by-calls : (range : Range) (month : Month) → Fit month → (file : List ℕ) → length file ≤ far
    → EveryCut file λ es m.
    recorded range (sheet_of (lines month)) (well m.spot.place) (marks es)
    ≡ closed (answer_of (counting (brings range file).0 month (brings range file).1).0)
    (sheet_of (lines (counting (brings range file).0 month (brings range file).1).1))
sheet-by-calls range month f file short recv word r w pieces cut =
    yields-so (taken-apart file short recv word r w pieces cut) λ es m x.
    (λ i. recorded range (sheet_of (lines month)) (well (x.1 i).place) (marks (x.0 i)))
    ∙ recorded-is range month (marks (heard (on_channel file) (apart fresh_spot file).0)) (brings range file).0 f

-- .. from the fresh sheet on, which is that of no recording; the sheet of each month behind it can be held
pub sheet-begins : (fresh_sheet ≡ sheet_of (lines [])) × Fit []
unfolding added_all
sheet-begins = (refl, fresh-fit)

pub sheet-goes-on : (rs : List (Bool × List Mark)) → Fit (month_of [] rs)
sheet-goes-on rs = month-fit rs [] fresh-fit

-- .. so of many recordings, one after the other, the calls leave the sheet of the month: of their packets of the range
many-from : (range : Range) (rs : List (Bool × List Mark)) (month : Month) → Fit month
    → recorded_all range (sheet_of (lines month)) rs ≡ sheet_of (lines (month_of month (in_range range rs)))
unfolding month_of
many-from range [] month f = refl
many-from range (r ∷ rs) month f =
    ap (λ (x : Closed). recorded_all range x.sheet rs) (recorded-is range month r.1 r.0 f)
    ∙ many-from range rs (counting r.0 month (within range r.1)).1 (month-fit ((r.0, within range r.1) ∷ []) month f)

pub sheet-of-many : (range : Range) (rs : List (Bool × List Mark)) → recorded_all range fresh_sheet rs ≡ sheet_of (lines (month_of [] (in_range range rs)))
sheet-of-many range rs = ap (λ (s : Sheet). recorded_all range s rs) sheet-begins.0 ∙ many-from range rs [] fresh-fit

-- `--ports A-B`: what a recording brings to a sheet of a range is whether it ends as one, which no range changes, and its packets of ports inside ..
pub range-brings : (range : Range) (file : List ℕ)
    → ((brings range file).0 ≡ well (apart fresh_spot file).1.place)
    × ((brings range file).1 ≡ within range (marks (heard (on_channel file) (apart fresh_spot file).0)))
range-brings range file = (refl, refl)

-- .. so the sheet of the range is the sheet of every port, of the recordings without the other packets, whatever sheet it begins with: these are
-- neither counted, nor do they bring 40 or 44 (a range of ports of 16 bits, as the code's are)
pub range-sheet : (range : Range) → range.last ≤ 65535 → (rs : List (Bool × List Mark)) (s : Sheet)
    → recorded_all range s rs ≡ recorded_all every_port s (in_range range rs)
range-sheet range h [] s = refl
range-sheet range h (r ∷ rs) s =
    range-sheet range h rs (recorded range s r.0 r.1).sheet
    ∙ ap (λ (x : Closed). recorded_all every_port x.sheet (in_range range rs)) (recorded-range range h s r.0 r.1)

-- .. its lines are, of the same recordings, those lines whose port is inside
pub range-lines : (range : Range) (month : Month) (port : ℕ)
    → (In port (ports_of (map (within range) month)) ↔ ((inside range port ≡ true) × In port (ports_of month)))
    × (inside range port ≡ true → numbers port (map (within range) month) ≡ numbers port month)
range-lines range month port = (ports-range range month port, λ h. numbers-range range port h month)

-- .. and without the option every packet counts: each has a port of 16 bits
pub every-port : (ms : List Mark) → Ported ms → within every_port ms ≡ ms
every-port = within-every

-- the rows of the sheet that is kept are the lines ..
pub sheet-rows : (month : Month) → Fit month → rows_of (sheet_of (lines month)) ≡ lines month
sheet-rows month f = rows-sheet (lines month) f.few

-- .. each is printed, and nothing behind the last
pub line-printed : (month : Month) → Fit month → (i : ℕ) (out : List ℕ)
    → (i < length (lines month) → printing (sheet_of (lines month)) i out ≡ write (line_of (get_or (lines month) i (blank 0))) out)
    × (length (lines month) ≤ i → printing (sheet_of (lines month)) i out ≡ write [] out)
unfolding printing
line-printed month f i out = (λ h. way true (lt-ltb i _ h), λ h. way false (le-ltb i _ h))
  where
    way : (b : Bool) → ltb i (length (lines month)) ≡ b
        → printing (sheet_of (lines month)) i out ≡ pick b (write (line_of (get_or (lines month) i (blank 0))) out) (write [] out)
    way b e k =
        pick (le-ltb port_limit _ f.few k) (refused 10 out)
        (pick (e k) (write (line_of (get_or (sheet-rows month f k) i (blank 0))) out) (write [] out))

-- "Refusals: 40 for the sheet's seventeenth port, then 44 if a number would pass 64 bits;": of a recording that does not end in `X`
refuses-closed : (m : ℕ) (s : Sheet) (n : ℕ) → ByClosed (closed (Refused m) s) n ↔ n ≡ m
refuses-closed m s n = (λ e. let k : m ≡ n = cc in sym k, λ e i. Refused (sym e i))

not-refused : (a : Counted) (s : Sheet) → (a ≡ Counts) ⊎ (a ≡ Wrong) → Exact ByClosed (closed a s) []
not-refused a s h =
    passed ByClosed λ n e. ⊎_elim (λ (k : a ≡ Counts). let z : ◌≡◌ {A = ℕ} 0 1 = cc in omega arith)
    (λ (k : a ≡ Wrong). let z : ◌≡◌ {A = ℕ} 0 1 = cc in omega arith) h

-- by the three tests
by-ruling : (w f v : Bool) {F G : Type 0} (s : Sheet) → (f ≡ true → F) → (F → f ≡ true) → (v ≡ true → G) → (G → v ≡ true)
    → Exact ByClosed (closed (answer_of (ruling w f v)) s) ((40, (w ≡ true) × F) ∷ (44, (w ≡ true) × G) ∷ [])
by-ruling false f v s a b c d = over ByClosed (λ x. false≢true x.0) (over ByClosed (λ x. false≢true x.0) (not-refused Wrong s (inr refl)))
by-ruling true true v s a b c d = applies ByClosed _ (refuses-closed 40 s) (refl, a refl)
by-ruling true false true s a b c d = over ByClosed (λ x. false≢true (b x.1)) (applies ByClosed _ (refuses-closed 44 s) (refl, c refl))
by-ruling true false false s a b c d = over ByClosed (λ x. false≢true (b x.1)) (over ByClosed (λ x. false≢true (d x.1)) (not-refused Counts s (inl refl)))

beyond-is : (a b c d : ℕ) → ltb a b || ltb c d ≡ true → (a < b) ⊎ (c < d)
beyond-is a b c d e = go (ltb a b) refl (ltb c d) refl e
  where
    go : (x : Bool) → ltb a b ≡ x → (y : Bool) → ltb c d ≡ y → x || y ≡ true → (a < b) ⊎ (c < d)
    go true h y k e = inl (ltb-true a b h)
    go false h true k e = inr (ltb-true c d k)
    go false h false k e = absurd (false≢true e)

beyond-not : (a b c d : ℕ) → ltb a b || ltb c d ≡ false → (a < b) ⊎ (c < d) → ⊥
beyond-not a b c d e x = go (ltb a b) refl (ltb c d) refl e
  where
    go : (u : Bool) → ltb a b ≡ u → (v : Bool) → ltb c d ≡ v → u || v ≡ false → ⊥
    go true h v k e = true≢false e
    go false h true k e = true≢false e
    go false h false k e = ⊎_elim (λ (l : a < b). not-less a b h l) (λ (l : c < d). not-less c d k l) x

pub close-refusals : (d : Draft) (well : Bool) → Exact ByClosed (closing d well) (close_rows d well)
unfolding closing
close-refusals d well =
    row ByClosed (beyond d) (refuses-closed 10 d.before) (beyond-is 16 d.before.ports 16 d.after.ports)
    (beyond-not 16 d.before.ports 16 d.after.ports)
    (by-ruling well d.full d.wide _ (λ e. e) (λ e. e) (λ e. e) (λ e. e))

pub month-refusals : (range : Range) (month : Month) (ms : List Mark) (well : Bool) → Fit month
    → Exact ByClosed (recorded range (sheet_of (lines month)) well ms) (month_rows month well (within range ms))
unfolding counting
month-refusals range month ms well f =
    subst (λ (x : Closed). Exact ByClosed x (month_rows month well (within range ms))) (sym (recorded-is range month ms well f))
    (by-ruling well (ltb port_limit (length (lines (with month (within range ms))))) (any_wide (lines (with month (within range ms)))) _
    (ltb-true port_limit _) (lt-ltb port_limit _) (λ e. e) (λ e. e))

-- a refused end gives the sheet back as it was before the recording, of any draft
pub close-keeps : (d : Draft) (well : Bool) (n : ℕ) → ByClosed (closing d well) n → closing d well ≡ closed (Refused n) d.before
close-keeps d well n e =
    let k : (closing d well).sheet ≡ d.before = closing-keeps d well (λ c. uncounted (sym c ∙ e)) in
    λ i. closed (e i) (k i)
  where
    uncounted : Counts ≡ Refused n → ⊥
    uncounted f = let z : ◌≡◌ {A = ℕ} 0 1 = cc in omega arith

-- "such a recording, and one that ends in `X`, leaves the sheet as it was.": whatever does not count leaves it, of any sheet; and `X` is told apart
pub sheet-stays : (range : Range) (s : Sheet) (well : Bool) (ms : List Mark)
    → (recorded range s well ms).counted ≢ Counts → (recorded range s well ms).sheet ≡ s
sheet-stays = refused-keeps

pub month-stays : (well : Bool) (month : Month) (ms : List Mark) → (counting well month ms).0 ≢ counts → (counting well month ms).1 ≡ month
month-stays = refused-stays

pub x-is-wrong : (month : Month) (ms : List Mark) → counting false month ms ≡ (wrong, month)
unfolding counting
x-is-wrong month ms = refl

-- .. and what comes behind a wrong byte brings nothing: it need not be read
pub x-rest : (range : Range) (file more : List ℕ) → is_wrong (apart fresh_spot file).1.place ≡ true → brings range (file ++ more) ≡ brings range file
x-rest range file more e =
    let x = wrong-rest file more e in
    λ i. (well (x.0 i).1.place, within range (marks (heard (x.1 i) (x.0 i).0)))

-- .. and what counts is counted whole
pub counted-whole : (well : Bool) (month : Month) (ms : List Mark) → (counting well month ms).0 ≡ counts → (counting well month ms).1 ≡ with month ms
counted-whole = counts_with

-- a row's line
pub print-refusals : (s : Sheet) (i : ℕ) (out : List ℕ) → Exact ByCall (printing s i out) (print_rows s i out)
unfolding printing
print-refusals s i out = row ByCall (ltb port_limit s.ports) (refuses-call 10 out) (ltb-true _ _) (not-less _ _) (go (ltb i s.ports) refl)
  where
    go : (b : Bool) → ltb i s.ports ≡ b
        → Exact ByCall (pick b (write (line_of (get_or (rows_of s) i (blank 0))) out) (write [] out))
        ((23, (i < s.ports) × (length out < length (line_of (get_or (rows_of s) i (blank 0))))) ∷ [])
    go true e = record {
      says = λ n. let w = (wrote (line_of (get_or (rows_of s) i (blank 0))) out _ refl).says n in (
        λ x. ⊎_elim (λ y. inl (y.0, (ltb-true i s.ports e, y.1))) (λ y. absurd y.1) (w.0 x),
        λ x. w.1 (⊎_elim (λ y. inl (y.0, y.1.1)) (λ y. absurd y.1) x),
      );
    }
    go false e =
        over ByCall (λ x. not-less i s.ports e x.0)
        (passed ByCall λ n x. ⊎_elim (λ (y : (n ≡ 23) × (length out < 0)). omega (arith, y.1)) (λ y. y.1) (((wrote [] out 0 refl).says n).0 x))

pub print-keeps-out : (s : Sheet) (i : ℕ) (out : List ℕ) → Keeps out (printing s i out)
unfolding printing
print-keeps-out s i out = go (ltb port_limit s.ports) (ltb i s.ports)
  where
    go : (a b : Bool) → Keeps out (pick a (refused 10 out) (pick b (write (line_of (get_or (rows_of s) i (blank 0))) out) (write [] out)))
    go true b = λ n e. refl
    go false true = write_keeps (line_of (get_or (rows_of s) i (blank 0))) out
    go false false = write_keeps [] out
