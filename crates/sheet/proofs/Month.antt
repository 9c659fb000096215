-- The calls keep the sheet of the month.
-- tidy-sheet       a month's sheet has no recording to forget
-- notings-within   packets noted are those of the range, each counted; recorded-range: so the others may as well not be there
-- recorded-is      a recording's packets, and its end: what the definition says, and the sheet of the month then
-- refused-keeps, closing-keeps    a recording that does not count leaves the sheet as it was, whatever sheet and draft it is
-- rows-sheet, addings   a month's rows; packets that count, one after the other
use Prim.Native.Nat.{ℕ, ◌≤◌}
use native.Mathlib.Omega.{arith}
use mathlib.Core.Path.{◌≡◌, refl, sym, ap, subst, ◌∙◌}
use mathlib.Core.Bool.{Bool, true, false}
use mathlib.Core.Logic.{◌≢◌}
use mathlib.Core.List.{List, [], ◌∷◌, map}
use borrow.Author.Tests.{ltb-false, le-ltb}
use lib.Dec.{ltb}
use lib.ListN.{length}
use Rattle.base.specs.Choice.{pick}
use Rattle.ports_spec.specs.declared.Range.{Range}
use Rattle.ports_spec.specs.Range.{every_port, inside}
use Rattle.sheet_spec.specs.declared.Row.{Row}
use Rattle.sheet_spec.specs.Tally.{wide}
use Rattle.sheet_spec.specs.Meaning.{Mark, Month, within, line, lines, ports_of, port_limit, Counting, counts, wrong, refuses, kept, counting}
use Rattle.sheet_spec.specs.Rows.{heard_row, note_in, row_for, cleared, Run, run, step, steps, settled}
use Rattle.sheet_spec.proofs.Places.{padded-rows}
use Rattle.sheet_spec.proofs.Within.{within-every, within-ported}
use Rattle.sheet_spec.proofs.Counted.{Fit, counted_is}
use Rattle.sheet.specs.declared.Sheet.{Sheet}
use Rattle.sheet.specs.declared.Draft.{Draft}
use Rattle.sheet.specs.Counted.{Counts, Refused, Closed}
use Rattle.sheet.specs.Call.{rows_of, sheet_of, tidied, beginning, drafted, adding, noting, notings, run_of, answer_of, closed, beyond, closing, recorded}

-- ---- a month's sheet
pub rows-sheet : (rs : List Row) → length rs ≤ port_limit → rows_of (sheet_of rs) ≡ rs
rows-sheet rs l = padded-rows port_limit rs l

cleared-line : (month : Month) (ps : List ℕ) → map cleared (map (line month) ps) ≡ map (line month) ps
cleared-line month [] = refl
cleared-line month (p ∷ ps) = ap (λ (rs : List Row). line month p ∷ rs) (cleared-line month ps)

pub tidy-sheet : (month : Month) → length (lines month) ≤ port_limit → tidied (sheet_of (lines month)) ≡ sheet_of (lines month)
tidy-sheet month l = ap (λ (rs : List Row). sheet_of (map cleared rs)) (rows-sheet (lines month) l) ∙ ap sheet_of (cleared-line month (ports_of month))

-- ---- packets of a range
-- packets that count, one after the other
unfoldable pub addings : Draft → List Mark → Draft
addings d [] = d
addings d (m ∷ ms) = addings (adding d m.0 m.1) ms

pub notings-within : (r : Range) (ms : List Mark) (d : Draft) → notings r d ms ≡ addings d (within r ms)
unfolding notings noting addings within
notings-within r [] d = refl
notings-within r (m ∷ ms) d = go (inside r m.0) (notings-within r ms (adding d m.0 m.1)) (notings-within r ms d)
  where
    go : (b : Bool) → notings r (adding d m.0 m.1) ms ≡ addings (adding d m.0 m.1) (within r ms) → notings r d ms ≡ addings d (within r ms)
        → notings r (pick b (adding d m.0 m.1) d) ms ≡ addings d (pick b (m ∷ within r ms) (within r ms))
    go true x y = x
    go false x y = y

-- a range of 16-bit ports, as the code's are: the others may as well not be there, and all ports be counted
pub recorded-range : (r : Range) → r.last ≤ 65535 → (s : Sheet) (well : Bool) (ms : List Mark)
    → recorded r s well ms ≡ recorded every_port s well (within r ms)
recorded-range r h s well ms =
    ap (λ (d : Draft). closing d well)
    (notings-within r ms (beginning s) ∙ ap (addings (beginning s)) (sym (within-every (within r ms) (within-ported r h ms)))
    ∙ sym (notings-within every_port (within r ms) (beginning s)))

-- ---- the calls go as the run does
record Goes (s : Sheet) (d : Draft) (x : Run) : Type 0 where
  before : d.before ≡ s
  same : run_of d ≡ x
  few : d.after.ports ≤ port_limit

module _ (s : Sheet) (d : Draft) (port q : ℕ) where
  -- the call, by its tests
  abbrev by : Bool → Bool → Draft
  by a b =
      pick a (drafted d d.after true d.wide)
      (pick b (drafted d d.after d.full true) (drafted d (sheet_of (note_in port q (rows_of d.after))) d.full d.wide))

  abbrev run_by : Bool → Bool → Run
  run_by a b =
      pick a (run (rows_of d.after) true d.wide)
      (pick b (run (rows_of d.after) d.full true) (run (note_in port q (rows_of d.after)) d.full d.wide))

  goes_by : d.before ≡ s → d.after.ports ≤ port_limit → (a : Bool) → ltb port_limit (length (note_in port q (rows_of d.after))) ≡ a → (b : Bool)
      → Goes s (by a b) (run_by a b)
  goes_by e l true h b = record { before = e; same = refl; few = l }
  goes_by e l false h true = record { before = e; same = refl; few = l }
  goes_by e l false h false =
      let k = ltb-false port_limit (length (note_in port q (rows_of d.after))) h in
      record { before = e; same = ap (λ (rs : List Row). run rs d.full d.wide) (rows-sheet (note_in port q (rows_of d.after)) k); few = k }

  goes_step : (x : Run) → Goes s d x → Goes s (adding d port q) (step port q x)
  unfolding adding step
  goes_step x g =
      let h = goes_by g.before g.few (ltb port_limit (length (note_in port q (rows_of d.after)))) refl
      (wide (heard_row (row_for port (rows_of d.after)) q).tally) in
      subst (λ (y : Run). Goes s (adding d port q) (step port q y)) g.same (rw (le-ltb port_limit d.after.ports g.few) h)

goes-steps : (s : Sheet) (ms : List Mark) (d : Draft) (x : Run) → Goes s d x → Goes s (addings d ms) (steps x ms)
unfolding addings steps
goes-steps s [] d x g = g
goes-steps s (m ∷ ms) d x g = goes-steps s ms (adding d m.0 m.1) (step m.0 m.1 x) (goes_step s d m.0 m.1 x g)

-- ---- the end
kept-ap : (f : List Row → Sheet) (c : Counting) (x y : List Row) → kept c (f x) (f y) ≡ f (kept c x y)
kept-ap f counts x y = refl
kept-ap f wrong x y = refl
kept-ap f (refuses n) x y = refl

closed-by : (s : Sheet) (d : Draft) (x : Run) (well : Bool) → Goes s d x → s.ports ≤ port_limit
    → closing d well ≡ closed (answer_of (settled well x)) (kept (settled well x) (sheet_of (map cleared x.rows)) s)
unfolding closing
closed-by s d x well g l =
    let b : ltb port_limit d.before.ports ≡ false = le-ltb port_limit d.before.ports (omega (arith, l, ap (λ (t : Sheet). t.ports) g.before)) in
    rw (b, le-ltb port_limit d.after.ports g.few)
    (λ i. closed (answer_of (settled well (g.same i))) (kept (settled well (g.same i)) (sheet_of (map cleared (g.same i).rows)) (g.before i)))

added_is : (month : Month) (ms : List Mark) (well : Bool) → Fit month
    → closing (addings (beginning (sheet_of (lines month))) ms) well
    ≡ closed (answer_of (counting well month ms).0) (sheet_of (lines (counting well month ms).1))
added_is month ms well f =
    let s : Sheet = sheet_of (lines month) in
    let t = tidy-sheet month f.few in
    let g : Goes s (beginning s) (run (lines month) false false) = record {
      before = refl;
      same = ap (λ (u : Sheet). run (rows_of u) false false) t ∙ ap (λ (rs : List Row). run rs false false) (rows-sheet (lines month) f.few);
      few = subst (λ (u : Sheet). u.ports ≤ port_limit) (sym t) f.few;
    } in
    let end : Run = steps (run (lines month) false false) ms in
    closed-by s (addings (beginning s) ms) end well (goes-steps s ms (beginning s) (run (lines month) false false) g) f.few
    ∙ ap (closed (answer_of (settled well end))) (kept-ap sheet_of (settled well end) (map cleared end.rows) (lines month))
    ∙ ap (λ (x : Counting × List Row). closed (answer_of x.0) (sheet_of x.1)) (counted_is month ms f well)

pub recorded-is : (r : Range) (month : Month) (ms : List Mark) (well : Bool) → Fit month
    → recorded r (sheet_of (lines month)) well ms
    ≡ closed (answer_of (counting well month (within r ms)).0) (sheet_of (lines (counting well month (within r ms)).1))
recorded-is r month ms well f =
    ap (λ (d : Draft). closing d well) (notings-within r ms (beginning (sheet_of (lines month)))) ∙ added_is month (within r ms) well f

-- ---- whatever sheet it is
adding-before : (d : Draft) (port q : ℕ) → (adding d port q).before ≡ d.before
unfolding adding
adding-before d port q = go (ltb port_limit d.after.ports) (ltb port_limit (length (note_in port q (rows_of d.after))))
    (wide (heard_row (row_for port (rows_of d.after)) q).tally)
  where
    go : (a b c : Bool) → (pick {A = Draft} a d (by d.before d port q b c)).before ≡ d.before
    go true b c = refl
    go false true c = refl
    go false false true = refl
    go false false false = refl

addings-before : (ms : List Mark) (d : Draft) → (addings d ms).before ≡ d.before
unfolding addings
addings-before [] d = refl
addings-before (m ∷ ms) d = addings-before ms (adding d m.0 m.1) ∙ adding-before d m.0 m.1

kept-old : (c : Counting) (x y : Sheet) → answer_of c ≢ Counts → kept c x y ≡ y
kept-old counts x y n = absurd (n refl)
kept-old wrong x y n = refl
kept-old (refuses k) x y n = refl

-- a draft whose recording does not count
pub closing-keeps : (d : Draft) (well : Bool) → (closing d well).counted ≢ Counts → (closing d well).sheet ≡ d.before
unfolding closing
closing-keeps d well = go (beyond d)
  where
    go : (b : Bool) → (pick {A = Closed} b (closed (Refused 10) d.before)
        (closed (answer_of (settled well (run_of d))) (kept (settled well (run_of d)) (tidied d.after) d.before))).counted ≢ Counts
        → (pick {A = Closed} b (closed (Refused 10) d.before)
        (closed (answer_of (settled well (run_of d))) (kept (settled well (run_of d)) (tidied d.after) d.before))).sheet ≡ d.before
    go true n = refl
    go false n = kept-old (settled well (run_of d)) (tidied d.after) d.before n

pub refused-keeps : (r : Range) (s : Sheet) (well : Bool) (ms : List Mark) → (recorded r s well ms).counted ≢ Counts → (recorded r s well ms).sheet ≡ s
refused-keeps r s well ms n =
    closing-keeps (notings r (beginning s) ms) well n
    ∙ ap (λ (d : Draft). d.before) (notings-within r ms (beginning s)) ∙ addings-before (within r ms) (beginning s)
