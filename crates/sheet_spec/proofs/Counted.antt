-- What becomes of a recording, counted packet by packet, is what the definition says.
-- Fit, fresh-fit, counting-fit     a month within 16 ports and 64 bits: the empty one, and each behind a recording
-- counted_is                       the packets of a recording, noted one after the other, and its end
-- refused-stays                    a recording that does not count leaves the month as it was
-- counts_with                      and one that counts is in it whole
-- month-fit                        .. of recordings one after the other
use Prim.Native.Nat.{suc, ◌≤◌}
use native.Mathlib.Omega.{arith}
use mathlib.Core.Path.{◌≡◌, refl, sym, ap, subst, ◌∙◌}
use mathlib.Core.Bool.{Bool, true, false, ◌||◌, true≢false, false≢true}
use mathlib.Core.Logic.{◌≢◌}
use mathlib.Core.List.{List, [], ◌∷◌, map}
use borrow.Author.Tests.{ltb-false}
use lib.Dec.{ltb}
use lib.ListN.{length}
use Rattle.sheet_spec.specs.declared.Row.{Row}
use Rattle.sheet_spec.specs.Tally.{wide}
use Rattle.sheet_spec.specs.Meaning.{Mark, Month, added_all, lines, any_wide, port_limit, Counting, counts, wrong, refuses, ruling, kept, with}
use Rattle.sheet_spec.specs.Meaning.{ruling_of, counting, month_of}
use Rattle.sheet_spec.specs.Rows.{cleared, Run, run, steps, settled}
use Rattle.sheet_spec.proofs.Running.{noted_all, running, run_is, run-starts, run_ends}
use Rattle.sheet_spec.proofs.Kept.{Same, steps-same, start-same}

-- a month that the sheet can hold
pub record Fit (month : Month) : Type 0 where
  pub few : length (lines month) ≤ port_limit
  pub small : any_wide (lines month) ≡ false

pub fresh-fit : Fit []
unfolding added_all any_wide
fresh-fit = record { few = omega arith; small = refl }

pub counting-fit : (well : Bool) (month : Month) (ms : List Mark) → Fit month → Fit (counting well month ms).1
unfolding counting
counting-fit well month ms f = go well (ltb port_limit (length (lines (with month ms)))) refl (any_wide (lines (with month ms))) refl
  where
    go : (w a : Bool) → ltb port_limit (length (lines (with month ms))) ≡ a → (b : Bool) → any_wide (lines (with month ms)) ≡ b
        → Fit (kept (ruling w a b) (with month ms) month)
    go false a e b g = f
    go true true e true g = f
    go true true e false g = f
    go true false e true g = f
    go true false e false g = record { few = ltb-false port_limit (length (lines (with month ms))) e; small = g }

pub month-fit : (rs : List (Bool × List Mark)) (month : Month) → Fit month → Fit (month_of month rs)
unfolding month_of
month-fit [] month f = f
month-fit (r ∷ rs) month f = month-fit rs (counting r.0 month r.1).1 (counting-fit r.0 month r.1 f)

-- ---- counted packet by packet
length-clear : (rs : List Row) → length (map cleared rs) ≡ length rs
length-clear [] = refl
length-clear (r ∷ rs) = ap suc (length-clear rs)

wide-clear : (rs : List Row) → any_wide (map cleared rs) ≡ any_wide rs
unfolding any_wide
wide-clear [] = refl
wide-clear (r ∷ rs) = ap (λ (b : Bool). wide r.tally || b) (wide-clear rs)

module _ (month : Month) (ms : List Mark) (f : Fit month) where
  abbrev end : Run
  end = steps (run (lines month) false false) ms

  at-end : Same end (running month ms)
  at-end =
      subst (Same end) (ap (λ (rs : List Row). noted_all rs ms) (sym (run-starts month)) ∙ run_is month ms [])
      (steps-same ms (run (lines month) false false) (lines month) (start-same (lines month) f.few f.small))

  fulls : end.full ≡ ltb port_limit (length (lines (with month ms)))
  fulls = at-end.fulls ∙ ap (ltb port_limit) (sym (length-clear (running month ms)) ∙ ap length (run_ends month ms))

  overs : end.full ≡ false → end.over ≡ any_wide (lines (with month ms))
  overs e = at-end.overs e ∙ sym (wide-clear (running month ms)) ∙ ap any_wide (run_ends month ms)

  rows : end.full ≡ false → end.over ≡ false → map cleared end.rows ≡ lines (with month ms)
  rows e g = ap (map cleared) (at-end.same e g) ∙ run_ends month ms

  -- what becomes of it, and the rows then
  pub counted_is : (well : Bool)
      → ◌≡◌ {A = Counting × List Row} (settled well end, kept (settled well end) (map cleared end.rows) (lines month))
      ((counting well month ms).0, lines (counting well month ms).1)
  unfolding counting
  counted_is well = go well end.full refl (ltb port_limit (length (lines (with month ms)))) fulls end.over refl (any_wide (lines (with month ms))) overs
    where
      go : (w a : Bool) → end.full ≡ a → (a' : Bool) → end.full ≡ a' → (b : Bool) → end.over ≡ b → (b' : Bool) → (end.full ≡ false → end.over ≡ b')
          → ◌≡◌ {A = Counting × List Row} (ruling w a b, kept (ruling w a b) (map cleared end.rows) (lines month))
          (ruling w a' b', lines (kept (ruling w a' b') (with month ms) month))
      go false a e a' h b g b' k = refl
      go true true e true h b g b' k = refl
      go true true e false h b g b' k = absurd (true≢false (sym e ∙ h))
      go true false e true h b g b' k = absurd (false≢true (sym e ∙ h))
      go true false e false h true g true k = refl
      go true false e false h true g false k = absurd (true≢false (sym g ∙ k e))
      go true false e false h false g true k = absurd (false≢true (sym g ∙ k e))
      go true false e false h false g false k = λ i. (counts, rows e g i)

-- ---- one that does not count
kept-old : {A : Type 0} (c : Counting) (new old : A) → c ≢ counts → kept c new old ≡ old
kept-old counts new old n = absurd (n refl)
kept-old wrong new old n = refl
kept-old (refuses k) new old n = refl

pub refused-stays : (well : Bool) (month : Month) (ms : List Mark) → (counting well month ms).0 ≢ counts → (counting well month ms).1 ≡ month
unfolding counting
refused-stays well month ms n = kept-old (ruling_of well month ms) (with month ms) month n

pub counts_with : (well : Bool) (month : Month) (ms : List Mark) → (counting well month ms).0 ≡ counts → (counting well month ms).1 ≡ with month ms
unfolding counting
counts_with well month ms e = ap (λ (c : Counting). kept c (with month ms) month) e
