-- The tables of the two calls on Layer 2 units, and what a call gives that refuses nothing.
-- unit-write-exact, unit-read-exact   each number exactly when its row applies and none above it
-- accepts                             a call that no row refuses writes
-- unit-written, unit-read             what is written, and what is read, where the answer is Wrote
use Prim.Native.Nat.{ℕ, ◌+◌, ◌-◌, ◌≤◌, ◌<◌}
use native.Mathlib.Omega.{arith}
use mathlib.Core.Path.{◌≡◌, refl, sym, ap, ◌∙◌}
use mathlib.Core.Bool.{Bool, true, false}
use mathlib.Core.Logic.{◌⊎◌, ⊎_elim}
use mathlib.Core.Logic.◌⊎◌.{inl, inr}
use mathlib.Core.List.{List, [], ◌∷◌, ◌++◌, append-nil}
use lib.Dec.{eqb, ltb}
use lib.ListN.{length, take, drop}
use borrow.Author.Tests.{eqb-true, ltb-true, ltb-false}
use Rattle.base.specs.Choice.{pick}
use Rattle.base.specs.Written.{Outcome, refused, write}
use Rattle.base.specs.Written.{Written}
use Rattle.base.specs.Written.{Wrote, Refused}
use Rattle.base.proofs.Tests.{by-test}
use Rattle.unit_spec.specs.Tables.{sequence, announced, heads, payload, lent, unfit}
use Rattle.unit_spec.specs.Unit.{opened, filled, laid_out, unit, hidden, written}
use Rattle.unit_spec.specs.Reading.{header_of, payload_of, named, middle, read_parts, read_unit}
use Rattle.unit_spec.specs.Refusing.{Disagree, Unmarked, carried}
use Rattle.unit_spec.proofs.Carrying.{length-unit}
use Rattle.unit.proofs.Finding.{length-payload}
use Rattle.unit_spec.proofs.Refusing.{unfit-is, fit-not, mix-none, mix-some, early-is, early-not, unnamed-is, named-not, differ, alike, unmarked-is, marked-not}
use Rattle.unit_spec.proofs.Refusing.{length-parts, length-plain}
use Rattle.unit_spec.proofs.Ways.{writes, written_is}
use Rattle.demands_laws.specs.Table.{Row, First, Exact}
use Rattle.demands_laws.specs.Refusals.{ByCall}
use Rattle.demands_laws.specs.Units.{write_rows, part_rows, read_rows}
use Rattle.demands_laws.proofs.Rows.{applies, over, row, not-less, refuses, wrote}

pub unit-write-exact : (l : ℕ) (d audio opp fixed out : List ℕ) → Exact ByCall (written l d audio opp fixed out) (write_rows l d audio opp fixed (length out))
unfolding written
unit-write-exact l d audio opp fixed out =
    let cw = sequence (length audio) (length fixed) (length opp) in
    let gap = payload l - filled d audio opp fixed in
    row ByCall (unfit l) (refuses 50 out) (unfit-is l) (fit-not l)
    (row ByCall (eqb cw 0) (refuses 51 out) (mix-none _ _ _) (mix-some _ _ _)
    (row ByCall (ltb (payload l) (filled d audio opp fixed)) (refuses 53 out) (ltb-true _ _) (not-less _ _)
    (row ByCall (hidden d gap opp) (refuses 54 out) (early-is d gap opp) (early-not d gap opp)
    (wrote (unit l cw (laid_out (payload l) d audio opp fixed)) out (lent l) (length-unit l cw (laid_out (payload l) d audio opp fixed))))))

-- of a header h of n bits, a payload p, and told lengths
module _ (l n h : ℕ) (d : List ℕ) (a f : ℕ) (p out : List ℕ) (whole : length p ≡ payload l) where
  abbrev cw : ℕ
  cw = named n h

  abbrev xs : List ℕ
  xs = middle a f p

  third : a + f ≤ payload l → (q : Bool) → eqb (announced cw) 0 ≡ q
      → Exact ByCall
      (pick q (write (take a p ++ drop (payload l - f) p) out)
      (pick (eqb (length (opened d xs)) 0) (refused 54 out) (write (take a p ++ opened d xs ++ drop (payload l - f) p) out)))
      ((54, Unmarked cw d xs) ∷ (23, length out < a + length (pick q [] (opened d xs)) + f) ∷ [])
  third k true e =
      over ByCall (λ c. let z : ◌≡◌ {A = ℕ} 1 0 = sym c.0 ∙ eqb-true _ _ e in omega arith)
      (wrote (take a p ++ drop (payload l - f) p) out (a + 0 + f) (length-plain (payload l) a f p whole k))
  third k false e =
      row ByCall (eqb (length (opened d xs)) 0) (refuses 54 out) (unmarked-is cw d xs e) (marked-not cw d xs)
      (wrote (take a p ++ opened d xs ++ drop (payload l - f) p) out (a + length (opened d xs) + f) (length-parts (payload l) a f p whole k (opened d xs)))

  second : eqb cw 0 ≡ false → (s : Bool) → eqb (sequence a f (announced cw)) cw ≡ s
      → Exact ByCall
      (pick s
      (pick (ltb (payload l) (a + f)) (refused 53 out)
      (pick (eqb (announced cw) 0) (write (take a p ++ drop (payload l - f) p) out)
      (pick (eqb (length (opened d xs)) 0) (refused 54 out) (write (take a p ++ opened d xs ++ drop (payload l - f) p) out))))
      (refused 53 out))
      ((53, Disagree cw a f ⊎ (payload l < a + f)) ∷ (54, Unmarked cw d xs) ∷ (23, length out < a + length (carried cw d xs) + f) ∷ [])
  second k false e = applies ByCall _ (refuses 53 out) (inl (differ a f n h k e))
  second k true e =
      by-test (ltb (payload l) (a + f))
      (λ t. rw t (applies ByCall _ (refuses 53 out) (inr (ltb-true _ _ t))))
      (λ t. rw t (over ByCall (⊎_elim (alike a f n h k e) (not-less _ _ t)) (third (ltb-false _ _ t) (eqb (announced cw) 0) refl)))

part-exact : (l : ℕ) (d : List ℕ) (a f : ℕ) (u out : List ℕ)
    → Exact ByCall (read_parts (payload l) (named (heads l) (header_of l u)) d a f (payload_of l u) out)
    (part_rows l d a f u (length out) (named (heads l) (header_of l u)) (middle a f (payload_of l u)))
unfolding read_parts
part-exact l d a f u out =
    by-test (eqb (named (heads l) (header_of l u)) 0)
    (λ t. rw t (applies ByCall _ (refuses 52 out) (unnamed-is (heads l) (header_of l u) t)))
    (λ t. rw t (over ByCall (named-not (heads l) (header_of l u) t)
    (second l (heads l) (header_of l u) d a f (payload_of l u) out (length-payload l u) t
    (eqb (sequence a f (announced (named (heads l) (header_of l u)))) (named (heads l) (header_of l u))) refl)))

pub unit-read-exact : (l : ℕ) (d : List ℕ) (a f : ℕ) (u out : List ℕ) → Exact ByCall (read_unit l d a f u out) (read_rows l d a f u (length out))
unfolding read_unit
unit-read-exact l d a f u out =
    by-test (unfit l)
    (λ t. rw t (applies ByCall _ (refuses 50 out) (inl (unfit-is l t))))
    (λ t. rw t
    (row ByCall (ltb (length u) (lent l)) (refuses 50 out) (λ s. inr (ltb-true _ _ s)) (λ s. ⊎_elim (fit-not l t) (not-less _ _ s))
    (part-exact l d a f u out)))

pub accepts : (o : Outcome) {rows : List Row} → Exact ByCall o rows → ((n : ℕ) → First rows n → ⊥) → (m : ℕ) × (o.answer ≡ Wrote m)
accepts o x free = go o.answer refl
  where
    go : (w : Written) → o.answer ≡ w → (m : ℕ) × (o.answer ≡ Wrote m)
    go (Wrote m) e = (m, e)
    go (Refused n) e = absurd (free n ((x.says n).0 e))

pub unit-written : (l : ℕ) (d audio opp fixed out : List ℕ) (m : ℕ) → (written l d audio opp fixed out).answer ≡ Wrote m
    → written l d audio opp fixed out ≡ write (unit l (sequence (length audio) (length fixed) (length opp)) (laid_out (payload l) d audio opp fixed)) out
unit-written l d audio opp fixed out m e = written_is l d audio opp fixed out (writes l d audio opp fixed out m e)

-- what a call gives is what it gives behind a test that does not refuse
past : (t : Bool) (n m : ℕ) (out : List ℕ) {x y : Outcome} → (x.answer ≡ Wrote m → x ≡ y) → (pick t (refused n out) x).answer ≡ Wrote m
    → pick t (refused n out) x ≡ y
past true n m out h e = let z : ◌≡◌ {A = ℕ} 0 1 = cc in absurd (omega arith)
past false n m out h e = h e

past-not : (t : Bool) (n m : ℕ) (out : List ℕ) {x y : Outcome} → (x.answer ≡ Wrote m → x ≡ y) → (pick t x (refused n out)).answer ≡ Wrote m
    → pick t x (refused n out) ≡ y
past-not true n m out h e = h e
past-not false n m out h e = let z : ◌≡◌ {A = ℕ} 0 1 = cc in absurd (omega arith)

pub unit-read : (l : ℕ) (d : List ℕ) (a f : ℕ) (u out : List ℕ) (m : ℕ) → (read_unit l d a f u out).answer ≡ Wrote m
    → read_unit l d a f u out
    ≡ write
    (take a (payload_of l u) ++ carried (named (heads l) (header_of l u)) d (middle a f (payload_of l u)) ++ drop (payload l - f) (payload_of l u)) out
unfolding read_unit read_parts
unit-read l d a f u out m =
    past (unfit l) 50 m out
    (past (ltb (length u) (lent l)) 50 m out
    (past (eqb cw' 0) 52 m out
    (past-not (eqb (sequence a f (announced cw')) cw') 53 m out
    (past (ltb (payload l) (a + f)) 53 m out (last (eqb (announced cw') 0))))))
  where
    cw' : ℕ
    cw' = named (heads l) (header_of l u)

    p : List ℕ
    p = payload_of l u

    o : List ℕ
    o = opened d (middle a f (payload_of l u))

    last : (q : Bool)
        → (pick q (write (take a p ++ drop (payload l - f) p) out)
        (pick (eqb (length o) 0) (refused 54 out) (write (take a p ++ o ++ drop (payload l - f) p) out))).answer ≡ Wrote m
        → pick q (write (take a p ++ drop (payload l - f) p) out)
        (pick (eqb (length o) 0) (refused 54 out) (write (take a p ++ o ++ drop (payload l - f) p) out))
        ≡ write (take a p ++ pick q [] o ++ drop (payload l - f) p) out
    last true e = ap (λ (x : List ℕ). write (x ++ drop (payload l - f) p) out) (sym (append-nil (take a p)))
    last false e = past (eqb (length o) 0) 54 m out (λ k. refl) e
