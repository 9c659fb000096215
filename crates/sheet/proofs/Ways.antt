-- The calls, way by way.
-- fresh-is                    a sheet of no recording
-- alone-is, same-places, cleared-is   rows with blank ones behind them; places one by one; the last recording forgotten
-- with-stead, with-between     a row put in a row's stead, and between; stead-is, between-is of the rows
-- heard-none, heard-some      a row behind a packet
-- note-.., close-.., print-..   the three calls; note-out, note-in: a packet by its port
-- long, own-bound, room_of    how many rows; the row that is found is one of them, or there is room
-- why-not                     a recording that does not count
use Rattle.std.proofs.Common.{ℕ, suc, ◌+◌, ◌-◌, ◌≤◌, ◌<◌, min, ◌≡◌, Bool, true, false, List, [], ◌∷◌, ◌++◌, map}
use Rattle.std.proofs.Common.{Option, Some, None, Result, Ok, Err, not, ◌≢◌, ◌⊎◌}
use Rattle.std.proofs.Common.{length, take, drop, get_or, set, replicate, is_err, refl, sym, ap, subst, inl, inr, ⊎_elim, true≢false, ◌∙◌, arith}
use Rattle.std.proofs.lemmas.List.{length-take, length-take-le, length-drop, length-append, length-set, length-map, set-append_left, take-append-drop}
use Rattle.std.proofs.lemmas.List.{append_assoc, append-nil, take-map, take_min}
use Rattle.std.proofs.Math.ListN.{drop_of_length-le}
use Rattle.std.proofs.Math.Seq.{take-append_seam, drop-append_seam, take-append-add, drop-append-add, set-append_seam}
use Rattle.std.specs.Result.{ForOk}
use borrow.Author.Tests.{lt-ltb, le-ltb}
use borrow.Rule.Slice.PartMut.{put_mid}
use Rattle.base.specs.Choice.{pick}
use Rattle.base.specs.Written.{Outcome, outcome, write, Wrote, Refused as Unwritten}
use Rattle.ports_spec.specs.declared.Range.{Range}
use Rattle.ports_spec.specs.Range.{inside}
use Rattle.ports_spec.specs.declared.Noted.{Noted}
use Rattle.sheet_spec.specs.declared.Tally.{Tally}
use Rattle.sheet_spec.specs.declared.Row.{Row}
use Rattle.sheet_spec.specs.Tally.{plus, one, wide}
use Rattle.sheet_spec.specs.Meaning.{port_limit, Counting, counts, wrong, refuses, kept}
use Rattle.sheet_spec.specs.Rows.{row, blank, verdict, heard_row, note_in, row_for, cleared, padded, padded_to, settled}
use Rattle.sheet_spec.specs.Places.{last_by, place_for, is_old, place_in, put_in, PutsIn}
use Rattle.sheet_spec.proofs.Places.{last-is, note-put as note-put_is, new-row, own-row, length-is, padded-is}
use Rattle.sheet.specs.declared.Sheet.{Sheet}
use Rattle.sheet.specs.declared.Draft.{Draft}
use Rattle.sheet.specs.declared.Uncounted.{Uncounted}
use Rattle.sheet.specs.declared.Uncounted.TheVariants as uncounted
use Rattle.sheet.specs.Counted.{Counted, Counts, Refused, as_counted}
use Rattle.sheet.specs.Call.{rows_of, sheet_of, fresh_sheet, tidied, drafted, adding, noting, beyond, run_of, answer_of, closed, closing, line_of, printing}
use Rattle.sheet.specs.Private.{narrow, narrow_row, counted_of}

-- ---- a sheet's rows
pub fresh-is : {x : Row} → x ≡ blank 0 → record { ports = 0; rows = replicate 16 x } ≡ fresh_sheet
unfolding padded_to
fresh-is e = ap (λ (x : Row). record { ports = 0; rows = replicate 16 x }) e

-- ---- rows at 16 places
pub alone-is : (rows : List Row) (n : ℕ) → length rows ≡ 16 → n ≤ 16 → {fill : List Row} {x : Row} → fill ≡ replicate (length (take (16 - n) (drop n rows))) x
    → x ≡ blank 0 → put_mid n (16 - n) rows fill ≡ padded (take n rows)
alone-is rows n size few {fill} e ex =
    let t : length (take n rows) ≡ n = length-take-le n rows (omega (arith, size)) in
    let gone : drop (16 - n) (drop n rows) ≡ [] = drop_of_length-le (drop n rows) {i = 16 - n} (omega (arith, length-drop n rows, size)) in
    let p : padded (take n rows) ≡ take n rows ++ replicate (16 - length (take n rows)) (blank 0) =
    padded-is 16 (take n rows) (omega (arith, t, few)) in
    let l : length (take (16 - n) (drop n rows)) ≡ 16 - n = length-take-le (16 - n) (drop n rows) (omega (arith, length-drop n rows, size)) in
    rw (p, gone, e, append-nil, l, t, ex) refl

pub same-places : (f : Row → Row) (xs ys : List Row) → length ys ≡ length xs → ((i : ℕ) (d e : Row) → i < length xs → get_or ys i e ≡ f (get_or xs i d))
    → ys ≡ map f xs
same-places f [] [] l h = refl
same-places f [] (y ∷ ys) l h = absurd (omega (arith, l))
same-places f (x ∷ xs) [] l h = absurd (omega (arith, l))
same-places f (x ∷ xs) (y ∷ ys) l h =
    λ i. h 0 (blank 0) (blank 0) (omega arith) i ∷ same-places f xs ys (omega (arith, l)) (λ j d e k. h (suc j) d e (omega (arith, k))) i

pub cleared-is : (s : Sheet) {n : ℕ} {z : List Row} → length s.rows ≡ 16 → n ≡ min s.ports 16 → z ≡ padded (take n (map cleared s.rows))
    → record { ports = n; rows = z } ≡ tidied s
cleared-is s {n} {z} size en ez =
    let t : take n (map cleared s.rows) ≡ map cleared (rows_of s) =
    take-map cleared n s.rows ∙ ap (λ (k : ℕ). map cleared (take k s.rows)) (en ∙ ap (min s.ports) (sym size))
    ∙ ap (map cleared) (take_min s.ports s.rows) in
    let l : n ≡ length (map cleared (rows_of s)) =
    en ∙ sym (length-map (rows_of s) cleared ∙ length-take s.ports s.rows ∙ ap (min s.ports) size) in
    λ i. record { ports = l i; rows = (ez ∙ ap padded t) i }

-- ---- a row put
pub stead-is : (rs : List Row) (n at : ℕ) (x : Row) → length rs ≡ n → at < n → n ≤ 16
    → record { ports = n; rows = set (padded rs) at x } ≡ sheet_of (set rs at x)
stead-is rs n at x size l few =
    let k : length (set rs at x) ≡ length rs = length-set rs at x in
    let p : padded rs ≡ rs ++ replicate (16 - length rs) (blank 0) = padded-is 16 rs (omega (arith, size, few)) in
    let q : padded (set rs at x) ≡ set rs at x ++ replicate (16 - length (set rs at x)) (blank 0) =
    padded-is 16 (set rs at x) (omega (arith, k, size, few)) in
    let e : set (padded rs) at x ≡ padded (set rs at x) =
    ap (λ (xs : List Row). set xs at x) p ∙ set-append_left rs (replicate (16 - length rs) (blank 0)) at x (omega (arith, size, l))
    ∙ ap (λ (m : ℕ). set rs at x ++ replicate (16 - m) (blank 0)) (sym k) ∙ sym q in
    λ i. record { ports = (sym size ∙ sym k) i; rows = e i }

-- a part with its last row brought to its front
abbrev turned : List Row → List Row
turned xs = drop (length xs - 1) xs ++ take (length xs - 1) xs

-- behind the rows a, those of ys go up by a place, and x takes the place that is free
shifted : (a ys tail : List Row) (b x : Row) (z : List Row) → z ≡ turned (take (length ys + 1) (drop (length a) (a ++ (ys ++ b ∷ tail))))
    → set (put_mid (length a) (length ys + 1) (a ++ (ys ++ b ∷ tail)) z) (length a) x ≡ a ++ x ∷ (ys ++ tail)
shifted a ys tail b x z e =
    let all : List Row = a ++ (ys ++ b ∷ tail) in
    let part : take (length ys + 1) (drop (length a) all) ≡ ys ++ b ∷ [] =
    ap (take (length ys + 1)) (drop-append_seam a (ys ++ b ∷ tail)) ∙ take-append-add ys (b ∷ tail) 1 in
    let l : length (ys ++ b ∷ []) - 1 ≡ length ys = omega (arith, length-append ys (b ∷ [])) in
    let f : z ≡ b ∷ ys =
    e ∙ ap turned part
    ∙ rw (l, drop-append_seam ys (b ∷ []), take-append_seam ys (b ∷ [])) refl in
    let rest : drop (length ys + 1) (drop (length a) all) ≡ tail =
    ap (drop (length ys + 1)) (drop-append_seam a (ys ++ b ∷ tail)) ∙ drop-append-add ys (b ∷ tail) 1 in
    (λ i. set (take-append_seam a (ys ++ b ∷ tail) i ++ (f i ++ rest i)) (length a) x) ∙ set-append_seam a b (ys ++ tail) x

pub between-is : (rs : List Row) (n at : ℕ) (x : Row) → length rs ≡ n → at ≤ n → n < 16 → (z : List Row)
    → z ≡ turned (take (n + 1 - at) (drop at (padded rs)))
    → record { ports = n + 1; rows = set (put_mid at (n + 1 - at) (padded rs) z) at x } ≡ sheet_of (take at rs ++ x ∷ drop at rs)
between-is rs n at x size l few z e =
    let a : List Row = take at rs in
    let ys : List Row = drop at rs in
    let tail : List Row = replicate (15 - n) (blank 0) in
    let la : at ≡ length a = sym (length-take-le at rs (omega (arith, size, l))) in
    let ly : n + 1 - at ≡ length ys + 1 = omega (arith, length-drop at rs, size, l) in
    let m : 16 - length rs ≡ suc (15 - n) = omega (arith, size, few) in
    let p : padded rs ≡ a ++ (ys ++ blank 0 ∷ tail) =
    padded-is 16 rs (omega (arith, size, few)) ∙ ap (λ (k : ℕ). rs ++ replicate k (blank 0)) m
    ∙ ap (λ (xs : List Row). xs ++ blank 0 ∷ tail) (sym (take-append-drop at rs)) ∙ append_assoc a ys (blank 0 ∷ tail) in
    let k : length (a ++ x ∷ ys) ≡ n + 1 = omega (arith, length-append a (x ∷ ys), length-append a ys, ap length (take-append-drop at rs), size) in
    let o : 16 - length (a ++ x ∷ ys) ≡ 15 - n = omega (arith, k, few) in
    let q : padded (a ++ x ∷ ys) ≡ a ++ x ∷ (ys ++ tail) =
    padded-is 16 (a ++ x ∷ ys) (omega (arith, k, few)) ∙ ap (λ (i : ℕ). (a ++ x ∷ ys) ++ replicate i (blank 0)) o ∙ append_assoc a (x ∷ ys) tail in
    let r : set (put_mid at (n + 1 - at) (padded rs) z) at x ≡ padded (a ++ x ∷ ys) =
    (λ i. set (put_mid (la i) (ly i) (p i) z) (la i) x)
    ∙ shifted a ys tail (blank 0) x z (e ∙ λ i. turned (take (ly i) (drop (la i) (p i)))) ∙ sym q in
    λ i. record { ports = sym k i; rows = r i }

-- .. in the sheet, where the row was found
module _ (s : Sheet) (size : length s.rows ≡ 16) (few : s.ports ≤ 16) where
  pub long : length (rows_of s) ≡ s.ports
  long = length-take-le s.ports s.rows (omega (arith, size, few))

  module _ {f : Result ℕ ℕ} (fits : PutsIn f (rows_of s)) {z : List Row} (ez : z ≡ padded (rows_of s)) (x : Row) where
    pub with-stead : {at : ℕ} → f ≡ Ok at → record { ports = s.ports; rows = set z at x } ≡ sheet_of (put_in f x (rows_of s))
    with-stead {at} e =
        let l : at < length (rows_of s) = subst (λ (g : Result ℕ ℕ). PutsIn g (rows_of s)) e fits in
        (λ i. record { ports = s.ports; rows = set (ez i) at x }) ∙ stead-is (rows_of s) s.ports at x long (omega (arith, l, long)) few
        ∙ λ i. sheet_of (put_in (sym e i) x (rows_of s))

    pub with-between : {at : ℕ} → f ≡ Err at → {y : List Row} → y ≡ turned (take (s.ports + 1 - at) (drop at z))
        → record { ports = s.ports + 1; rows = set (put_mid at (s.ports + 1 - at) z y) at x } ≡ sheet_of (put_in f x (rows_of s))
    with-between {at} e {y} ey =
        let l : (at ≤ length (rows_of s)) × (length (rows_of s) < port_limit) = subst (λ (g : Result ℕ ℕ). PutsIn g (rows_of s)) e fits in
        (λ i. record { ports = s.ports + 1; rows = set (put_mid at (s.ports + 1 - at) (ez i) y) at x })
        ∙ between-is (rows_of s) s.ports at x long (omega (arith, l.0, long)) (omega (arith, l.1, long)) y
        (ey ∙ λ i. turned (take (s.ports + 1 - at) (drop at (ez i))))
        ∙ λ i. sheet_of (put_in (sym e i) x (rows_of s))

-- ---- a row behind a packet
module _ (r : Row) (s : ℕ) {n : Noted} {m : Tally} {o : Option Tally} (en : n ≡ verdict r s) (em : m ≡ one n) (eo : o ≡ narrow (plus r.tally m)) where
  same : o ≡ narrow (heard_row r s).tally
  unfolding heard_row
  same = eo ∙ ap (λ (t : Tally). narrow (plus r.tally t)) (em ∙ ap one en)

  pub heard-none : o ≡ None → None ≡ narrow_row (heard_row r s)
  heard-none h = go (wide (heard_row r s).tally) (sym same ∙ h)
    where
      go : (b : Bool) → pick b None (Some (heard_row r s).tally) ≡ None → None ≡ pick b None (Some (heard_row r s))
      go true e = refl
      go false e = absurd (cc)

  pub heard-some : {t : Tally} {l : ℕ} → o ≡ Some t → l ≡ last_by n r.last s → Some (row r.port t true l) ≡ narrow_row (heard_row r s)
  unfolding heard_row
  heard-some {t} {l} h el = go (wide (heard_row r s).tally) (sym same ∙ h)
    where
      go : (b : Bool) → pick b None (Some (heard_row r s).tally) ≡ Some t → Some (row r.port t true l) ≡ pick b None (Some (heard_row r s))
      go true e = absurd (cc)
      go false e =
          let k : t ≡ (heard_row r s).tally = cc in
          λ i. Some (row r.port (k i) true ((el ∙ ap (λ (n : Noted). last_by n r.last s) en ∙ last-is r s) i))

wide-none : (r : Row) → narrow_row r ≡ None → wide r.tally ≡ true
wide-none r e = go (wide r.tally) e
  where
    go : (b : Bool) → pick b None (Some r) ≡ None → b ≡ true
    go true e = refl
    go false e = absurd (cc)

narrow-some : (r : Row) {x : Row} → narrow_row r ≡ Some x → (wide r.tally ≡ false) × (r ≡ x)
narrow-some r {x} e = go (wide r.tally) e
  where
    go : (b : Bool) → pick b None (Some r) ≡ Some x → (b ≡ false) × (r ≡ x)
    go true e = absurd (cc)
    go false e = (refl, cc)

-- ---- a packet
-- where no row is found, there is room
pub room_of : (f : Result ℕ ℕ) (n : ℕ) {b : Bool} → b ≡ is_err f → ((b ≡ true) × (n ≢ 16)) ⊎ (b ≡ false) → (is_err f ≡ false) ⊎ (n ≢ 16)
room_of f n e (inl h) = inr h.1
room_of f n e (inr h) = inl (sym e ∙ h)

pub own-bound : (port : ℕ) (rs : List Row) (f : Result ℕ ℕ) → f ≡ place_in port rs → ForOk f (λ at. at < length rs)
own-bound port rs f e at k = (own-row port rs (sym k ∙ e)).0

module _ (d : Draft) (port s : ℕ) where
  abbrev rs : List Row
  rs = rows_of d.after

  pub note-beyond : port_limit < d.after.ports → d ≡ adding d port s
  unfolding adding
  note-beyond h = rw (lt-ltb port_limit d.after.ports h) refl

  module _ (few : d.after.ports ≤ port_limit) (size : length rs ≡ d.after.ports) {f : Result ℕ ℕ} (ef : f ≡ place_in port rs) where
    -- a new row, or none
    new-is : is_err f ≡ not (is_old port rs)
    new-is = ap is_err ef ∙ go (is_old port rs)
      where
        go : (b : Bool) → is_err {T = ℕ} {E = ℕ} (pick b (Ok (place_for port rs)) (Err (place_for port rs))) ≡ not b
        go true = refl
        go false = refl

    pub note-full : is_err f ≡ true → d.after.ports ≡ 16 → drafted d d.after true d.wide ≡ adding d port s
    unfolding adding
    note-full h k = go (is_old port rs) (sym new-is ∙ h) (length-is port s rs)
      where
        go : (b : Bool) → not b ≡ true → length (note_in port s rs) ≡ pick b (length rs) (length rs + 1) → drafted d d.after true d.wide ≡ adding d port s
        go true e l = absurd (cc)
        go false e l = rw (le-ltb port_limit d.after.ports few, lt-ltb port_limit (length (note_in port s rs)) (omega (arith, l, size, k))) refl

    -- there is room, or the port has its row
    module _ (room : (is_err f ≡ false) ⊎ (d.after.ports ≢ 16)) where
      fits_by : (b : Bool) → is_err f ≡ not b → length (note_in port s rs) ≡ pick b (length rs) (length rs + 1) → length (note_in port s rs) ≤ port_limit
      fits_by true e l = omega (arith, l, size, few)
      fits_by false e l = ⊎_elim (λ (h : is_err f ≡ false). absurd (true≢false (sym e ∙ h))) (λ (h : d.after.ports ≢ 16). omega (arith, l, size, few, h)) room

      fits : length (note_in port s rs) ≤ port_limit
      fits = fits_by (is_old port rs) new-is (length-is port s rs)

      pub note-puts : PutsIn f rs
      note-puts = go f ef room
        where
          go : (g : Result ℕ ℕ) → g ≡ place_in port rs → (is_err g ≡ false) ⊎ (d.after.ports ≢ 16) → PutsIn g rs
          go (Ok at) e h = (own-row port rs e).0
          go (Err at) e h = (
            (new-row port rs e).0,
            ⊎_elim (λ (k : true ≡ false). absurd (true≢false k)) (λ (k : d.after.ports ≢ 16). omega (arith, size, few, k)) h,
          )

      module _ {r : Row} (er : r ≡ row_for port rs) {o : Option Row} (eo : o ≡ narrow_row (heard_row r s)) where
        pub note-wide : o ≡ None → drafted d d.after d.full true ≡ adding d port s
        unfolding adding
        note-wide h =
            let w : wide (heard_row (row_for port rs) s).tally ≡ true =
            wide-none (heard_row (row_for port rs) s) (sym (eo ∙ ap (λ (x : Row). narrow_row (heard_row x s)) er) ∙ h) in
            rw (le-ltb port_limit d.after.ports few, le-ltb port_limit (length (note_in port s rs)) fits, w) refl

        pub note-put : {x : Row} → o ≡ Some x → {t : Sheet} → t ≡ sheet_of (put_in f x rs) → drafted d t d.full d.wide ≡ adding d port s
        unfolding adding
        note-put {x} h {t} et =
            let (w, k) = narrow-some (heard_row (row_for port rs) s) (sym (eo ∙ ap (λ (x : Row). narrow_row (heard_row x s)) er) ∙ h) in
            let e : t ≡ sheet_of (note_in port s rs) =
            et ∙ (λ i. sheet_of (put_in (ef i) (sym k i) rs)) ∙ ap sheet_of (sym (note-put_is port s rs)) in
            rw (le-ltb port_limit d.after.ports few, le-ltb port_limit (length (note_in port s rs)) fits, w) (ap (λ (u : Sheet). drafted d u d.full d.wide) e)

-- .. and of any port
module _ (r : Range) (d : Draft) (port s : ℕ) where
  pub note-out : false ≡ inside r port → d ≡ noting r d port s
  unfolding noting
  note-out h = ap (λ (b : Bool). pick b (adding d port s) d) h

  pub note-in : true ≡ inside r port → {x : Draft} → x ≡ adding d port s → x ≡ noting r d port s
  unfolding noting
  note-in h f = f ∙ ap (λ (b : Bool). pick b (adding d port s) d) h

-- ---- the recording's end
pub why-not : (e : Uncounted) → as_counted (Err e) ≡ Counts → ⊥
why-not uncounted.Wrong h = cc
why-not (uncounted.Refused r) h = cc

module _ (d : Draft) (well : Bool) where
  pub close-counts : Counts ≡ counted_of d well → {s : Sheet} → s ≡ tidied d.after → closed Counts s ≡ closing d well
  unfolding closing
  close-counts h {s} e = go (beyond d) (settled well (run_of d)) h
    where
      go : (b : Bool) (c : Counting) → Counts ≡ pick b (Refused 10) (answer_of c)
          → closed Counts s ≡ pick b (closed (Refused 10) d.before) (closed (answer_of c) (kept c (tidied d.after) d.before))
      go true c h = absurd (cc)
      go false counts h = ap (closed Counts) e
      go false wrong h = absurd (cc)
      go false (refuses n) h = absurd (cc)

  pub close-keeps : {a : Counted} → a ≡ counted_of d well → (a ≡ Counts → ⊥) → closed a d.before ≡ closing d well
  unfolding closing
  close-keeps {a} h n = go (beyond d) (settled well (run_of d)) h
    where
      go : (b : Bool) (c : Counting) → a ≡ pick b (Refused 10) (answer_of c)
          → closed a d.before ≡ pick b (closed (Refused 10) d.before) (closed (answer_of c) (kept c (tidied d.after) d.before))
      go true c h = ap (λ (x : Counted). closed x d.before) h
      go false counts h = absurd (n h)
      go false wrong h = ap (λ (x : Counted). closed x d.before) h
      go false (refuses k) h = ap (λ (x : Counted). closed x d.before) h

-- ---- a row's line
module _ (s : Sheet) (i : ℕ) (out : List ℕ) where
  pub print-beyond : port_limit < s.ports → outcome (Unwritten 10) out ≡ printing s i out
  unfolding printing
  print-beyond h = rw (lt-ltb port_limit s.ports h) refl

  module _ (few : s.ports ≤ port_limit) where
    pub print-line : i < s.ports → {r : Row} → r ≡ get_or (rows_of s) i (blank 0) → {o : Outcome} → o ≡ write (line_of r) out → o ≡ printing s i out
    unfolding printing
    print-line h e f = f ∙ rw (le-ltb port_limit s.ports few, lt-ltb i s.ports h) (ap (λ (x : Row). write (line_of x) out) e)

    pub print-past : s.ports ≤ i → outcome (Wrote 0) out ≡ printing s i out
    unfolding printing
    print-past h = rw (le-ltb port_limit s.ports few, le-ltb i s.ports h, le-ltb (length out) 0 (omega arith)) refl
