-- The ways through the two definitions, by the tests that lead there.
-- mixed, whole                    the sequence, and the unit
-- Writes, written_is, writes      where a unit is written; what is then written; and that it is so where the answer is Wrote
-- no_name, wrong-told, wrong-fit, not_found, read_plain, read_found   what a payload is read as
-- bad-length, bad-unit, read_is   .. and a unit
use mathlib.Core.Path.{◌≡◌, refl}
use mathlib.Core.Bool.{Bool, true, false}
use mathlib.Core.List.{List, ◌++◌}
use Prim.Native.Nat.{ℕ, ◌+◌, ◌-◌, ◌≤◌, ◌<◌}
use native.Mathlib.Omega.{arith}
use lib.Dec.{eqb, ltb}
use lib.ListN.{length, take, drop}
use borrow.Author.Tests.{eq-eqb, ne_eqb, lt-ltb, le-ltb, ltb-false, eqb-false}
use Rattle.base.specs.Choice.{pick}
use Rattle.base.specs.Written.{Outcome, refused, write}
use Rattle.base.specs.Written.{Wrote}
use Rattle.unit_spec.specs.Tables.{sequence, heads, payload, lent, unfit, announced}
use Rattle.unit_spec.specs.Unit.{opened, filled, laid_out, unit, hidden, written}
use Rattle.unit_spec.specs.Reading.{header_of, payload_of, named, middle, read_parts, read_unit}

-- ---- writing
-- a test that a written call has passed
passed : (t : Bool) (n m : ℕ) (out : List ℕ) (o : Outcome) → (pick t (refused n out) o).answer ≡ Wrote m → (t ≡ false) × (o.answer ≡ Wrote m)
passed false n m out o e = (refl, e)
passed true n m out o e = let z : ◌≡◌ {A = ℕ} 0 1 = cc in absurd (omega arith)

module _ (l : ℕ) (d audio opp fixed : List ℕ) where
  -- the sequence
  abbrev pub mixed : ℕ
  mixed = sequence (length audio) (length fixed) (length opp)

  -- the unit
  abbrev pub whole : List ℕ
  whole = unit l mixed (laid_out (payload l) d audio opp fixed)

  -- a unit is written
  pub record Writes : Type 0 where
    pub fit : unfit l ≡ false
    pub mixes : mixed ≡ 0 → ⊥
    pub room : filled d audio opp fixed ≤ payload l
    pub seen : hidden d (payload l - filled d audio opp fixed) opp ≡ false

  module _ (out : List ℕ) where
    pub written_is : Writes → written l d audio opp fixed out ≡ write whole out
    unfolding written
    written_is w = simp (w.fit, ne_eqb mixed 0 w.mixes, le-ltb (payload l) (filled d audio opp fixed) w.room, w.seen)

    -- where the answer is Wrote, a unit is written
    pub writes : (m : ℕ) → (written l d audio opp fixed out).answer ≡ Wrote m → Writes
    unfolding written
    writes m e =
        let p = passed (unfit l) 50 m out _ e in
        let q = passed (eqb mixed 0) 51 m out _ p.1 in
        let r = passed (ltb (payload l) (filled d audio opp fixed)) 53 m out _ q.1 in
        let s = passed (hidden d (payload l - filled d audio opp fixed) opp) 54 m out _ r.1 in
        record { fit = p.0; mixes = eqb-false _ _ q.0; room = ltb-false _ _ r.0; seen = s.0 }

-- ---- reading
module _ (n cw : ℕ) (d : List ℕ) (a f : ℕ) (p out : List ℕ) where
  pub no_name : cw ≡ 0 → read_parts n cw d a f p out ≡ refused 52 out
  unfolding read_parts
  no_name e = simp (eq-eqb cw 0 e)

  module _ (k : cw ≡ 0 → ⊥) where
    pub wrong-told : (sequence a f (announced cw) ≡ cw → ⊥) → read_parts n cw d a f p out ≡ refused 53 out
    unfolding read_parts
    wrong-told e = simp (ne_eqb cw 0 k, ne_eqb (sequence a f (announced cw)) cw e)

    module _ (t : sequence a f (announced cw) ≡ cw) where
      pub wrong-fit : n < a + f → read_parts n cw d a f p out ≡ refused 53 out
      unfolding read_parts
      wrong-fit h = simp (ne_eqb cw 0 k, eq-eqb (sequence a f (announced cw)) cw t, lt-ltb n (a + f) h)

      module _ (h : a + f ≤ n) where
        pub read_plain : announced cw ≡ 0 → read_parts n cw d a f p out ≡ write (take a p ++ drop (n - f) p) out
        unfolding read_parts
        read_plain e = simp (ne_eqb cw 0 k, eq-eqb (sequence a f (announced cw)) cw t, le-ltb n (a + f) h, eq-eqb (announced cw) 0 e)

        module _ (e : announced cw ≡ 0 → ⊥) where
          pub not_found : length (opened d (middle a f p)) ≡ 0 → read_parts n cw d a f p out ≡ refused 54 out
          unfolding read_parts
          not_found z =
              simp (
                ne_eqb cw 0 k,
                eq-eqb (sequence a f (announced cw)) cw t,
                le-ltb n (a + f) h,
                ne_eqb (announced cw) 0 e,
                eq-eqb
                    (length (opened d (middle a f p))) 0 z,
              )

          pub read_found : (length (opened d (middle a f p)) ≡ 0 → ⊥) → read_parts n cw d a f p out ≡ write (take a p ++ opened d (middle a f p) ++ drop (n - f)
              p) out
          unfolding read_parts
          read_found z =
              simp (
                ne_eqb cw 0 k,
                eq-eqb (sequence a f (announced cw)) cw t,
                le-ltb n (a + f) h,
                ne_eqb (announced cw) 0 e,
                ne_eqb
                    (length (opened d (middle a f p))) 0 z,
              )

module _ (l : ℕ) (d : List ℕ) (a f : ℕ) (u out : List ℕ) where
  pub bad-length : unfit l ≡ true → read_unit l d a f u out ≡ refused 50 out
  unfolding read_unit
  bad-length e = simp e

  module _ (e : unfit l ≡ false) where
    pub bad-unit : length u < lent l → read_unit l d a f u out ≡ refused 50 out
    unfolding read_unit
    bad-unit h = simp (e, lt-ltb (length u) (lent l) h)

    pub read_is : lent l ≤ length u → read_unit l d a f u out ≡ read_parts (payload l) (named (heads l) (header_of l u)) d a f (payload_of l u) out
    unfolding read_unit
    read_is h = simp (e, le-ltb (length u) (lent l) h)
