-- How a definition by tests is seen to refuse by its table, row after row.
-- applies, over   the first row applies, or it does not
-- row, row-not    a test chooses the refusal, or the rest
-- passed          what is no refusal
-- not-less, not_same, refuses, refuses-word, found   tests and answers as facts
-- repair-as-check, place-beyond, place-within   repair refuses as a check does; 10 of a place of the interleaver
-- wrote           a call that writes: 23 is its only row
-- not-both        two tests in one
-- calling-exact, calling-same, calling-is   a call of the interleaver: its rows; refused, it leaves output and state; not refused, what it writes
-- first-each      what a table gives is one of its numbers
use Prim.Native.Nat.{ℕ, ◌*◌, ◌<◌, ◌≤◌}
use native.Mathlib.Omega.{arith}
use mathlib.Core.Path.{◌≡◌, refl, sym, ◌∙◌, ap, subst}
use mathlib.Core.Bool.{Bool, true, false, ◌&&◌}
use mathlib.Core.Logic.{◌⊎◌, ◌↔◌, ⊎_elim}
use mathlib.Core.Logic.◌⊎◌.{inl, inr}
use mathlib.Core.List.{List, [], ◌∷◌}
use lib.Dec.{ltb, leb}
use lib.ListN.{length}
use borrow.Author.Tests.{ltb-true, ltb-false, leb-true}
use Rattle.base.specs.Bytes.{Each}
use Rattle.base.specs.Choice.{pick}
use Rattle.base.specs.Written.{Outcome, outcome, refused, write}
use Rattle.base.specs.Written.{Wrote, Refused}
use Rattle.base.proofs.Tests.{by_le, by-test, and_parts}
use Rattle.parity.specs.Checked.{Clean, Damaged, Refused as WordRefused}
use Rattle.parity.specs.Calls.{checked}
use Rattle.repair.specs.Mended.{Mended}
use Rattle.repair.specs.Mended as repair
use Rattle.repair.specs.Promise.{Promised}
use Rattle.interleaver_spec.specs.Running.{beyond, calling}
use Rattle.interleaver_spec.proofs.Calling.{below, state-refused, depth-refused, output-refused, wrote as fits}
use Rattle.demands_laws.specs.Table.{Row, First, Exact}
use Rattle.demands_laws.specs.Refusals.{PlaceBeyond, ByCall, ByState, ByCheck, ByRepair}

module _ {A : Type 0} (By : A → ℕ → Type 0) where
  pub applies : {m : ℕ} {C : Type 0} {x : A} (rows : List Row) → ((n : ℕ) → By x n ↔ n ≡ m) → C → Exact By x ((m, C) ∷ rows)
  applies rows is c = record { says = λ n. (λ e. inl ((is n).0 e, c), ⊎_elim (λ f. (is n).1 f.0) (λ f. absurd (f.0 c))) }

  pub over : {m : ℕ} {C : Type 0} {x : A} {rows : List Row} → (C → ⊥) → Exact By x rows → Exact By x ((m, C) ∷ rows)
  over h rest = record { says = λ n. (λ e. inr (h, (rest.says n).0 e), ⊎_elim (λ f. absurd (h f.1)) (λ f. (rest.says n).1 f.1)) }

  pub row : (t : Bool) {m : ℕ} {C : Type 0} {x y : A} {rows : List Row}
      → ((n : ℕ) → By x n ↔ n ≡ m) → (t ≡ true → C) → (t ≡ false → C → ⊥) → Exact By y rows → Exact By (pick t x y) ((m, C) ∷ rows)
  row true {rows = rows} is holds fails rest = applies rows is (holds refl)
  row false is holds fails rest = over (fails refl) rest

  pub row-not : (t : Bool) {m : ℕ} {C : Type 0} {x y : A} {rows : List Row}
      → ((n : ℕ) → By x n ↔ n ≡ m) → (t ≡ false → C) → (t ≡ true → C → ⊥) → Exact By y rows → Exact By (pick t y x) ((m, C) ∷ rows)
  row-not false {rows = rows} is holds fails rest = applies rows is (holds refl)
  row-not true is holds fails rest = over (fails refl) rest

  pub passed : {x : A} → ((n : ℕ) → By x n → ⊥) → Exact By x []
  passed none = record { says = λ n. (none n, λ f. absurd f) }

pub not-both : (a b : Bool) → a && b ≡ false → (a ≡ false) ⊎ (b ≡ false)
not-both true b e = inr e
not-both false b e = inl refl

pub not-less : (a b : ℕ) → ltb a b ≡ false → a < b → ⊥
not-less a b e h = let k : b ≤ a = ltb-false a b e in omega arith

pub not_same : {a b : ℕ} → a ≡ b → (a ≡ b → ⊥) → ⊥
not_same e n = n e

-- ---- calls that write
pub refuses : (m : ℕ) (out : List ℕ) (n : ℕ) → ByCall (refused m out) n ↔ n ≡ m
refuses m out n = (λ e. let k : m ≡ n = cc in sym k, λ e i. Refused (sym e i))

pub wrote : (bs out : List ℕ) (k : ℕ) → length bs ≡ k → Exact ByCall (write bs out) ((23, length out < k) ∷ [])
wrote bs out k e =
    subst (λ (m : ℕ). Exact ByCall (write bs out) ((23, length out < m) ∷ [])) e
    (row ByCall (ltb (length out) (length bs)) (refuses 23 out) (ltb-true _ _) (not-less _ _)
    (passed ByCall λ n e. let z : ◌≡◌ {A = ℕ} 0 1 = cc in omega arith))

-- ---- the check of a word
pub refuses-word : (m n : ℕ) → ByCheck (WordRefused m) n ↔ n ≡ m
refuses-word m n = (λ e. let k : m ≡ n = cc in sym k, λ e i. WordRefused (sym e i))

pub found : (t : Bool) → Exact ByCheck (pick t Clean Damaged) []
found true = passed ByCheck λ n e. let z : ◌≡◌ {A = ℕ} 0 1 = cc in omega arith
found false = passed ByCheck λ n e. let z : ◌≡◌ {A = ℕ} 0 1 = cc in omega arith

-- the repair of a word refuses as the check does
pub repair-as-check : (r : ℕ) (w : List ℕ) (a : Mended) (o : List ℕ) → Promised r w a o → (n : ℕ) → ByRepair a n ↔ ByCheck (checked r w) n
repair-as-check r w repair.Clean o p n = (λ e. let z : ◌≡◌ {A = ℕ} 0 1 = cc in absurd (omega arith), λ e. absurd (apart (sym p.0 ∙ e)))
  where
    apart : Clean ≡ WordRefused n → ⊥
    apart e = let z : ◌≡◌ {A = ℕ} 0 1 = cc in omega arith
repair-as-check r w (repair.Repaired k) o p n = (λ e. let z : ◌≡◌ {A = ℕ} 0 1 = cc in absurd (omega arith), λ e. absurd (apart (sym p.0 ∙ e)))
  where
    apart : Damaged ≡ WordRefused n → ⊥
    apart e = let z : ◌≡◌ {A = ℕ} 0 1 = cc in omega arith
repair-as-check r w repair.Beyond o p n = (λ e. let z : ◌≡◌ {A = ℕ} 0 1 = cc in absurd (omega arith), λ e. absurd (apart (sym p.0 ∙ e)))
  where
    apart : Damaged ≡ WordRefused n → ⊥
    apart e = let z : ◌≡◌ {A = ℕ} 0 1 = cc in omega arith
repair-as-check r w (repair.Refused m) o p n =
    (λ e. p.0 ∙ ap WordRefused (let k : m ≡ n = cc in k), λ e. ap repair.Refused (same (sym p.0 ∙ e)))
  where
    same : WordRefused m ≡ WordRefused n → m ≡ n
    same e = cc

-- ---- the interleaver: any call of it
pub place-beyond : (d p : ℕ) → beyond d p ≡ true → PlaceBeyond d p
place-beyond d p e = let h = and_parts (leb 2 d) (leb (255 * d) p) e in (leb-true _ _ h.0, leb-true _ _ h.1)

pub place-within : (d p : ℕ) → beyond d p ≡ false → PlaceBeyond d p → ⊥
place-within d p e h = let k : p < 255 * d = below d p h.0 e in omega (arith, h.1)

module _ {S : Type 0} (d p : ℕ) (s : S) (r : List ℕ × S) (out : List ℕ) where
  pub calling-exact : (n : ℕ) → length r.0 ≡ n → Exact ByState (calling d p s r out) ((10, PlaceBeyond d p) ∷ (32, 64 < d) ∷ (23, length out < n) ∷ [])
  calling-exact n e =
      row ByState (beyond d p) (refuses 10 out) (place-beyond d p) (place-within d p)
      (row ByState (ltb 64 d) (refuses 32 out) (ltb-true _ _) (not-less _ _) (record { says = (wrote r.0 out n e).says }))

  pub calling-same : (n : ℕ) → ByState (calling d p s r out) n → calling d p s r out ≡ (refused n out, s)
  calling-same n q =
      by-test (beyond d p) (λ b. by 10 (state-refused d p s r out b))
      (λ b.
      by_le d 64
      (λ l. by_le (length r.0) (length out) (λ k. absurd (not_written (fits d p s r out b l k))) (λ k. by 23 (output-refused d p s r out b l k)))
      (λ l. by 32 (depth-refused d p s r out b l)))
    where
      by : (m : ℕ) → ◌≡◌ {A = Outcome × S} (refused m out, s) (calling d p s r out) → calling d p s r out ≡ (refused n out, s)
      by m e =
          let a : Refused m ≡ Refused n = ap (λ (x : Outcome × S). x.0.answer) e ∙ q in
          let z : m ≡ n = cc in
          sym e ∙ ap (λ (x : ℕ). (refused x out, s)) z

      not_written : {o : List ℕ} {m : ℕ} {t : S} → ◌≡◌ {A = Outcome × S} (outcome (Wrote m) o, t) (calling d p s r out) → ⊥
      not_written {o} {m} {t} e =
          let a : Wrote m ≡ Refused n = ap (λ (x : Outcome × S). x.0.answer) e ∙ q in
          let z : ◌≡◌ {A = ℕ} 0 1 = cc in
          omega arith

  pub calling-is : (n : ℕ) → (calling d p s r out).0.answer ≡ Wrote n → (calling d p s r out).0 ≡ write r.0 out
  calling-is n = go (beyond d p) (ltb 64 d)
    where
      never : (m : ℕ) → Refused m ≡ Wrote n → ⊥
      never m e = let z : ◌≡◌ {A = ℕ} 0 1 = cc in omega arith

      go : (b l : Bool) →
          let x : Outcome × S =
          pick b (refused 10 out, s) (pick l (refused 32 out, s) (write r.0 out, pick (ltb (length out) (length r.0)) s r.1)) in
          x.0.answer ≡ Wrote n → x.0 ≡ write r.0 out
      go true l e = absurd (never 10 e)
      go false true e = absurd (never 32 e)
      go false false e = refl

-- ---- a table's numbers
pub first-each : (P : ℕ → Type 0) (rows : List Row) → Each (λ (r : Row). P r.0) rows → (n : ℕ) → First rows n → P n
first-each P [] h n f = absurd f
first-each P (r ∷ rows) h n (inl e) = subst P (sym e.0) h.0
first-each P (r ∷ rows) h n (inr f) = first-each P rows h.1 n f.1
