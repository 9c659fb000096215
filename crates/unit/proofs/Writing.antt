-- The ways through a call that writes a unit. What the code has found so far is a record over the one before it, of the call's length, delimiter, parts and
-- output.
-- Fit              the length is a unit's
-- Mixed            cw is the sequence of the parts
-- Roomy            the payload has n bytes, and the parts fit into it
-- Seen             the delimiter is not found earlier than it is written
-- fit-of, mixed-of, roomy, is_seen, short                                how each is made; the length is low
-- refuse-length, refuse-mix, refuse-room, refuse-hidden, refuse-output   each refusal
-- wrote                                                                  the unit is written
use mathlib.Core.Path.{◌≡◌, sym, ap, ap₂, ◌∙◌}
use mathlib.Core.Bool.{Bool, true, false}
use mathlib.Core.List.{List, ◌++◌}
use Prim.Native.Nat.{ℕ, ◌+◌, ◌-◌, ◌≤◌, ◌<◌}
use native.Mathlib.Omega.{arith}
use lib.Dec.{eqb, ltb}
use lib.ListN.{length, drop}
use borrow.Author.Tests.{eq-eqb, ne_eqb, ltb-false, le-ltb}
use Rattle.base.specs.Choice.{pick}
use Rattle.base.specs.Written.{outcome, refused, write}
use Rattle.base.specs.Written.{Wrote}
use Rattle.base.proofs.Writing.{write-short}
use Rattle.unit_spec.specs.Tables.{sequence, payload, lent, unfit}
use Rattle.unit_spec.specs.Unit.{filled, laid_out, unit, hidden, written}
use Rattle.unit_spec.proofs.Rows.{accepted}
use Rattle.unit.specs.Private.{bits_of}
use Rattle.unit.specs.declared.table.Header.{Header}
use Rattle.unit.proofs.Hearing.{some-bits}
use Rattle.unit.proofs.Filling.{length_marked}
use Rattle.unit_spec.proofs.Carrying.{length-unit}
use Rattle.unit_spec.proofs.Ways.{mixed, whole, written_is}

pub record Fit (l : ℕ) (d audio opp fixed out : List ℕ) : Type 0 where
  pub fit : unfit l ≡ false
  pub five : length d ≡ 5

pub record Mixed (l : ℕ) (d audio opp fixed out : List ℕ) (cw : ℕ) : Type 0 where
  pub on : Fit l d audio opp fixed out
  pub mix : cw ≡ sequence (length audio) (length fixed) (length opp)
  pub some : cw ≡ 0 → ⊥

pub record Roomy (l : ℕ) (d audio opp fixed out : List ℕ) (cw n : ℕ) : Type 0 where
  pub on : Mixed l d audio opp fixed out cw
  pub all : n ≡ payload l
  pub room : filled d audio opp fixed ≤ payload l

pub record Seen (l : ℕ) (d audio opp fixed out : List ℕ) (cw n : ℕ) : Type 0 where
  pub on : Roomy l d audio opp fixed out cw n
  pub seen : hidden d (payload l - filled d audio opp fixed) opp ≡ false

pub refuse-length : (l : ℕ) (d audio opp fixed out : List ℕ) {u : Bool} → u ≡ unfit l → u ≡ true → refused 50 out ≡ written l d audio opp fixed out
unfolding written
refuse-length l d audio opp fixed out eu e = simp (sym eu ∙ e)

module _ {l : ℕ} {d audio opp fixed out : List ℕ} where
  pub fit-of : {u : Bool} → u ≡ unfit l → u ≡ false → length d ≡ 5 → Fit l d audio opp fixed out
  fit-of e n five = record { fit = sym e ∙ n; five = five }

  pub mixed-of : Fit l d audio opp fixed out → (h : Header) → bits_of h ≡ sequence (length audio) (length fixed) (length opp)
      → Mixed l d audio opp fixed out (bits_of h)
  mixed-of k h e = record { on = k; mix = e; some = some-bits h }

  pub refuse-mix : Fit l d audio opp fixed out → {cw : ℕ} → cw ≡ sequence (length audio) (length fixed) (length opp) → cw ≡ 0
      → refused 51 out ≡ written l d audio opp fixed out
  unfolding written
  refuse-mix k ec e = simp (k.fit, eq-eqb (sequence (length audio) (length fixed) (length opp)) 0 (sym ec ∙ e))

  module _ {cw : ℕ} (k : Mixed l d audio opp fixed out cw) where
    mixes : mixed l d audio opp fixed ≡ 0 → ⊥
    mixes e = k.some (k.mix ∙ e)

    module _ {n : ℕ} {v : Bool} (en : n ≡ payload l) (ev : v ≡ ltb n (length audio + pick (eqb (length opp) 0) 0 (5 + length opp) + length fixed)) where
      same : v ≡ ltb (payload l) (filled d audio opp fixed)
      same = ev ∙ ap₂ (λ (x y : ℕ). ltb x (length audio + y + length fixed)) en (sym (length_marked d opp k.on.five))

      pub refuse-room : v ≡ true → refused 53 out ≡ written l d audio opp fixed out
      unfolding written
      refuse-room e = simp (k.on.fit, ne_eqb (mixed l d audio opp fixed) 0 mixes, sym same ∙ e)

      pub roomy : v ≡ false → Roomy l d audio opp fixed out cw n
      roomy w = record { on = k; all = en; room = ltb-false _ _ (sym same ∙ w) }

  module _ {cw n : ℕ} (k : Roomy l d audio opp fixed out cw n) where
    module _ {h : Bool} (eh : h ≡ hidden d (n - filled d audio opp fixed) opp) where
      there : h ≡ hidden d (payload l - filled d audio opp fixed) opp
      there = eh ∙ ap (λ (x : ℕ). hidden d (x - filled d audio opp fixed) opp) k.all

      pub refuse-hidden : h ≡ true → refused 54 out ≡ written l d audio opp fixed out
      unfolding written
      refuse-hidden e =
          simp (k.on.on.fit, ne_eqb (mixed l d audio opp fixed) 0 (mixes k.on), le-ltb (payload l) (filled d audio opp fixed) k.room, sym there ∙ e)

      pub is_seen : h ≡ false → Seen l d audio opp fixed out cw n
      is_seen s = record { on = k; seen = sym there ∙ s }

  module _ {cw n : ℕ} (k : Seen l d audio opp fixed out cw n) where
    fit : unfit l ≡ false
    fit = k.on.on.on.fit

    pub short : l ≤ 146176
    short = (accepted l fit).0

    is : written l d audio opp fixed out ≡ write (whole l d audio opp fixed) out
    is = written_is l d audio opp fixed out (record { fit = fit; mixes = mixes k.on.on; room = k.on.room; seen = k.seen })

    length_whole : length (whole l d audio opp fixed) ≡ lent l
    length_whole = length-unit l (mixed l d audio opp fixed) (laid_out (payload l) d audio opp fixed)

    module _ {m : ℕ} (em : m ≡ lent l) where
      pub refuse-output : length out < m → refused 23 out ≡ written l d audio opp fixed out
      refuse-output r = sym (is ∙ write-short (whole l d audio opp fixed) out (omega (arith, length_whole)))

      pub wrote : m ≤ length out → {after : List ℕ} → after ≡ unit l cw (laid_out (payload l) d audio opp fixed) ++ drop m out
          → outcome (Wrote m) after ≡ written l d audio opp fixed out
      wrote r {after} e =
          ap (outcome (Wrote m))
          (e ∙ ap₂ (λ (x y : ℕ). unit l x (laid_out (payload l) d audio opp fixed) ++ drop y out) k.on.on.mix (em ∙ sym length_whole))
          ∙ ap (λ (x : ℕ). outcome (Wrote x) (whole l d audio opp fixed ++ drop (length (whole l d audio opp fixed)) out)) (em ∙ sym length_whole)
          ∙ sym (is ∙ simp (le-ltb (length out) (length (whole l d audio opp fixed)) (omega (arith, length_whole))))
