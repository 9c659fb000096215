-- A port's numbers.
-- plus_assoc, plus_none      numbers together
-- after                      a port's row behind some of a recording's packets, and heard-after: behind one more
-- numbers-with               its numbers in a month with one recording more
-- loss, month-loss           the loss's second number is the missing and the packets in order, first or after a gap
-- delivered-all              each packet is delivered, and is one of these, repeated or late
-- none-plus, none_after, last_from   nothing before numbers; no packet; the last number behind some packets
-- OneEach, all_told, delivered-each, told-length   each packet is one, as many as there are sequence numbers
use Prim.Native.Nat.{ℕ, suc, ◌+◌, ◌-◌}
use native.Mathlib.Omega.{arith}
use mathlib.Core.Path.{◌≡◌, refl, sym, ap, ◌∙◌}
use mathlib.Core.Bool.{Bool, true, false}
use mathlib.Core.List.{List, [], ◌∷◌, ◌++◌}
use lib.Dec.{eqb, ltb}
use lib.ListN.{length}
use Rattle.base.specs.Choice.{pick}
use Rattle.ports_spec.specs.Distance.{half, gap, ruled, last_behind}
use Rattle.ports_spec.specs.declared.Noted.{Noted}
use Rattle.ports_spec.specs.declared.Noted.TheVariants.{First, InOrder, Repeated, Missing, Late}
use Rattle.sheet_spec.specs.declared.Tally.{Tally}
use Rattle.sheet_spec.specs.declared.Row.{Row}
use Rattle.sheet_spec.specs.Tally.{told_from, told, tallied, nothing, plus, timely, repeated, late, one, sum, tally, timely_in}
use Rattle.sheet_spec.specs.Meaning.{Mark, Month, numbers_of, numbers, timely_of, with}
use Rattle.sheet_spec.specs.Rows.{row, heard_row}

-- ---- numbers together
pub plus_assoc : (a b c : Tally) → plus (plus a b) c ≡ plus a (plus b c)
plus_assoc a b c =
    let d : a.delivered + b.delivered + c.delivered ≡ a.delivered + (b.delivered + c.delivered) = omega arith in
    let r : a.repeated + b.repeated + c.repeated ≡ a.repeated + (b.repeated + c.repeated) = omega arith in
    let l : a.late + b.late + c.late ≡ a.late + (b.late + c.late) = omega arith in
    let m : a.missing + b.missing + c.missing ≡ a.missing + (b.missing + c.missing) = omega arith in
    let t : a.total + b.total + c.total ≡ a.total + (b.total + c.total) = omega arith in
    λ i. tallied (d i) (r i) (l i) (m i) (t i)

pub plus_none : (a : Tally) → plus a nothing ≡ a
plus_none a =
    let d : a.delivered + 0 ≡ a.delivered = omega arith in
    let r : a.repeated + 0 ≡ a.repeated = omega arith in
    let l : a.late + 0 ≡ a.late = omega arith in
    let m : a.missing + 0 ≡ a.missing = omega arith in
    let t : a.total + 0 ≡ a.total = omega arith in
    λ i. tallied (d i) (r i) (l i) (m i) (t i)

pub none-plus : (a : Tally) → plus nothing a ≡ a
none-plus a =
    let d : 0 + a.delivered ≡ a.delivered = omega arith in
    let r : 0 + a.repeated ≡ a.repeated = omega arith in
    let l : 0 + a.late ≡ a.late = omega arith in
    let m : 0 + a.missing ≡ a.missing = omega arith in
    let t : 0 + a.total ≡ a.total = omega arith in
    λ i. tallied (d i) (r i) (l i) (m i) (t i)

sum-append : (ns ms : List Noted) → sum (ns ++ ms) ≡ plus (sum ns) (sum ms)
unfolding sum
sum-append [] ms = sym (none-plus (sum ms))
sum-append (n ∷ ns) ms = ap (plus (one n)) (sum-append ns ms) ∙ sym (plus_assoc (one n) (sum ns) (sum ms))

sum_one : (n : Noted) → sum (n ∷ []) ≡ one n
unfolding sum
sum_one n = plus_none (one n)

-- ---- one packet more
-- the last number behind some of a port's packets
unfoldable pub last_from : ℕ → List ℕ → ℕ
last_from l [] = l
last_from l (s ∷ ss) = last_from (last_behind l s) ss

from-snoc : (ss : List ℕ) (l s : ℕ) → told_from l (ss ++ (s ∷ [])) ≡ told_from l ss ++ (ruled (last_from l ss) s ∷ [])
unfolding told_from last_from
from-snoc [] l s = refl
from-snoc (t ∷ ss) l s = ap (λ (ns : List Noted). ruled l t ∷ ns) (from-snoc ss (last_behind l t) s)

last_snoc : (ss : List ℕ) (l s : ℕ) → last_from l (ss ++ (s ∷ [])) ≡ last_behind (last_from l ss) s
unfolding last_from
last_snoc [] l s = refl
last_snoc (t ∷ ss) l s = last_snoc ss (last_behind l t) s

-- a packet was heard
abbrev some : List ℕ → Bool
some [] = false
some (s ∷ ss) = true

abbrev lastly : List ℕ → ℕ
lastly [] = 0
lastly (s ∷ ss) = last_from s ss

-- a port's row behind these packets of a recording; t: its numbers in those before
abbrev pub after : ℕ → Tally → List ℕ → Row
after port t ss = row port (plus t (tally ss)) (some ss) (lastly ss)

pub heard-after : (port : ℕ) (t : Tally) (ss : List ℕ) (s : ℕ) → heard_row (after port t ss) s ≡ after port t (ss ++ (s ∷ []))
unfolding heard_row told sum told_from last_from
heard-after port t [] s =
    ap (λ (x : Tally). row port x true s) (ap (λ (x : Tally). plus x (one First)) (plus_none t) ∙ ap (plus t) (sym (plus_none (one First))))
heard-after port t (r ∷ ss) s =
    let n : Noted = ruled (last_from r ss) s in
    let e : plus (sum (told (r ∷ ss))) (one n) ≡ sum (told ((r ∷ ss) ++ (s ∷ []))) =
    ap (plus (sum (told (r ∷ ss)))) (sym (sum_one n)) ∙ sym (sum-append (told (r ∷ ss)) (n ∷ []))
    ∙ ap (λ (ns : List Noted). sum (First ∷ ns)) (sym (from-snoc ss r s)) in
    (λ i. row port ((plus_assoc t (sum (told (r ∷ ss))) (one n) ∙ ap (plus t) e) i) true (sym (last_snoc ss r s) i))

pub none_after : (port : ℕ) (t : Tally) → after port t [] ≡ row port t false 0
unfolding told sum
none_after port t = ap (λ (x : Tally). row port x false 0) (plus_none t)

-- a month with one recording more
pub numbers-with : (month : Month) (port : ℕ) (ms : List Mark) → numbers port (with month ms) ≡ plus (numbers port month) (tally (numbers_of port ms))
unfolding numbers
numbers-with [] port ms = plus_none (tally (numbers_of port ms)) ∙ sym (none-plus (tally (numbers_of port ms)))
numbers-with (ns ∷ month) port ms =
    ap (plus (tally (numbers_of port ns))) (numbers-with month port ms)
    ∙ sym (plus_assoc (tally (numbers_of port ns)) (numbers port month) (tally (numbers_of port ms)))

-- ---- the loss
-- missing, over missing plus these
pub loss : (ns : List Noted) → (sum ns).total ≡ (sum ns).missing + timely_in ns
unfolding sum timely_in
loss [] = refl
loss (n ∷ ns) = omega (arith, loss ns)

pub month-loss : (month : Month) (port : ℕ) → (numbers port month).total ≡ (numbers port month).missing + timely_of port month
unfolding numbers timely_of
month-loss [] port = refl
month-loss (ms ∷ month) port = omega (arith, loss (told (numbers_of port ms)), month-loss month port)

-- each packet is one
unfoldable pub OneEach : List Noted → Type 0
OneEach [] = Unit {0}
OneEach (n ∷ ns) = (1 ≡ timely n + repeated n + late n) × OneEach ns

rule-one : (last s : ℕ) → 1 ≡ timely (ruled last s) + repeated (ruled last s) + late (ruled last s)
rule-one last s = go (eqb (gap last s) 0) (eqb (gap last s) 1) (ltb (gap last s) half)
  where
    go : (a b c : Bool) → 1 ≡ timely (pick a Repeated (pick b InOrder (pick c (Missing (gap last s - 1)) Late)))
        + repeated (pick a Repeated (pick b InOrder (pick c (Missing (gap last s - 1)) Late)))
        + late (pick a Repeated (pick b InOrder (pick c (Missing (gap last s - 1)) Late)))
    go true b c = refl
    go false true c = refl
    go false false true = refl
    go false false false = refl

from_told : (last : ℕ) (ss : List ℕ) → OneEach (told_from last ss)
unfolding OneEach told_from
from_told last [] = tt
from_told last (s ∷ ss) = (rule-one last s, from_told (last_behind last s) ss)

pub all_told : (ss : List ℕ) → OneEach (told ss)
unfolding OneEach told
all_told [] = tt
all_told (s ∷ ss) = (refl, from_told s ss)

pub delivered-all : (ns : List Noted) → OneEach ns → (sum ns).delivered ≡ timely_in ns + (sum ns).repeated + (sum ns).late
unfolding sum timely_in OneEach
delivered-all [] h = refl
delivered-all (n ∷ ns) h = omega (arith, delivered-all ns h.1, h.0)

-- .. as many as there are sequence numbers
pub delivered-each : (ns : List Noted) → (sum ns).delivered ≡ length ns
unfolding sum
delivered-each [] = refl
delivered-each (n ∷ ns) = omega (arith, delivered-each ns)

from-length : (last : ℕ) (ss : List ℕ) → length (told_from last ss) ≡ length ss
unfolding told_from
from-length last [] = refl
from-length last (s ∷ ss) = ap suc (from-length (last_behind last s) ss)

pub told-length : (ss : List ℕ) → length (told ss) ≡ length ss
unfolding told
told-length [] = refl
told-length (s ∷ ss) = ap suc (from-length s ss)
