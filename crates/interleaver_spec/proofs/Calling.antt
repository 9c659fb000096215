-- What the ways through a call leave, on either side, by the tests that led there.
-- passes, deeper             bytes at depth 0 and 1, and deeper
-- row-beyond, below          a place of N or more, by its row; a place that passes 10
-- step_is                    the step of a place. step-inside: .. which stays among the cells
-- state-refused, depth-refused, output-refused, wrote   10, 32, 23, and what is written
-- short, flat, deep          the same where n bytes are the result: 23; depth 0 and 1; deeper
-- closes                     the closing push, of zeros enough for any
use mathlib.Core.Path.{◌≡◌, refl, sym, ap, subst, ◌∙◌}
use mathlib.Core.Bool.{Bool, true, false, ◌&&◌}
use mathlib.Core.List.{List, [], ◌∷◌}
use mathlib.Core.Option.{Option, some}
use Prim.Native.Nat.{ℕ, zero, suc, ◌+◌, ◌*◌, ◌/◌, ◌≤◌, ◌<◌}
use native.Mathlib.Nat.{mod-lt}
use native.Mathlib.Omega.{arith}
use lib.Dec.{ltb, leb}
use lib.ListN.{length, take, replicate}
use borrow.Author.Tests.{lt-ltb, le-ltb, le-leb, lt-leb, leb-false}
use Rattle.base.specs.Calls.{tell, run}
use Rattle.base.specs.Choice.{pick}
use Rattle.base.specs.Written.{Outcome, outcome, refused, write, copied}
use Rattle.base.specs.Written.{Wrote}
use Rattle.base.proofs.Tests.{by_le, by-test}
use Rattle.base.proofs.Writing.{write-fits, write-short}
use Rattle.interleaver_spec.specs.Places.{width, cell}
use Rattle.interleaver_spec.specs.Running.{depth_limit, size, next, passing, push, beyond, calling, pushing, closing_bytes, zeros, closing}
use Rattle.interleaver_spec.specs.Running.{step, step_at}
use Rattle.interleaver_spec.specs.declared.Matrix.{Matrix}
use Rattle.interleaver_spec.specs.declared.Step.{Step}
use Rattle.interleaver_spec.proofs.Places.{row_below}

module _ {S : Type 0} (d : ℕ) (e : S → ℕ → Option ℕ × S) where
  pub passes : d < 2 → (s : S) (bs : List ℕ) → run (passing d e) s bs ≡ (bs, s)
  passes h s [] = refl
  passes h s (b ∷ bs) =
      ap (λ (t : Bool). let q = pick t (some b, s) (e s b) in tell q.0 (run (passing d e) q.1 bs)) (lt-ltb d _ (omega arith))
      ∙ ap (λ (x : List ℕ × S). (b ∷ x.0, x.1)) (passes h s bs)

  pub deeper : 2 ≤ d → (s : S) (bs : List ℕ) → run (passing d e) s bs ≡ run e s bs
  deeper h s bs = ap (λ (t : Bool). run (λ s b. pick t (some b, s) (e s b)) s bs) (le-ltb d 2 h)

pub row-beyond : (d p : ℕ) → leb d (p / width) ≡ leb (size d) p
row-beyond d p =
    by_le (size d) p (λ l. le-leb d (p / width) (omega arith) ∙ sym (le-leb (size d) p l)) (λ l. lt-leb d (p / width) (omega arith) ∙ sym (lt-leb (size d) p l))

pub below : (d p : ℕ) → 2 ≤ d → beyond d p ≡ false → p < size d
below d p h e = leb-false _ _ (sym (ap (λ (t : Bool). t && leb (size d) p) (le-leb 2 d h)) ∙ e)

-- ---- the step of a place
module _ (d p : ℕ) where
  module _ (h : 2 ≤ d) (i : d ≤ depth_limit) where
    pub step_is : beyond d p ≡ false → step (cell d p) (next d p) ≡ step_at d p
    step_is e = rw (le-ltb d 2 h, le-ltb depth_limit d i, e) refl

    pub step-inside : beyond d p ≡ false → {t : Step} → t ≡ step_at d p
        → (t.cell ≡ cell d p) × (t.cell < depth_limit * width) × (t.next ≡ next d p) × (t.next < size d)
    step-inside e {t} q =
        let z : t ≡ step (cell d p) (next d p) = q ∙ sym (step_is e) in
        let k : t.cell ≡ cell d p = ap (λ (x : Step). x.cell) z in
        let n : t.next ≡ next d p = ap (λ (x : Step). x.next) z in
        (k, omega (arith, k, row_below d p (omega arith)), n, subst (λ (x : ℕ). x < size d) (sym n) (mod-lt (p + 1) (omega arith)))

module _ {S : Type 0} (d p : ℕ) (s : S) (r : List ℕ × S) (out : List ℕ) where
  pub state-refused : beyond d p ≡ true → ◌≡◌ {A = Outcome × S} (refused 10 out, s) (calling d p s r out)
  state-refused e = rw e refl

  module _ (e : beyond d p ≡ false) where
    pub depth-refused : depth_limit < d → ◌≡◌ {A = Outcome × S} (refused 32 out, s) (calling d p s r out)
    depth-refused h = rw (e, lt-ltb depth_limit d h) refl

    module _ (h : d ≤ depth_limit) where
      way : (write r.0 out, pick (ltb (length out) (length r.0)) s r.1) ≡ calling d p s r out
      way = rw (e, le-ltb depth_limit d h) refl

      pub output-refused : length out < length r.0 → ◌≡◌ {A = Outcome × S} (refused 23 out, s) (calling d p s r out)
      output-refused l = (λ i. (sym (write-short r.0 out l) i, pick (sym (lt-ltb (length out) (length r.0) l) i) s r.1)) ∙ way

      pub wrote : length r.0 ≤ length out → ◌≡◌ {A = Outcome × S} (outcome (Wrote (length r.0)) (copied r.0 out), r.1) (calling d p s r out)
      wrote l = (λ i. (sym (write-fits r.0 out l) i, pick (sym (le-ltb (length out) (length r.0) l) i) s r.1)) ∙ way

module _ {S : Type 0} (d p : ℕ) (e : S → ℕ → Option ℕ × S) (s : S) (bs out : List ℕ) (b : beyond d p ≡ false) (l : d ≤ depth_limit)
    (n : ℕ) (size : length (run (passing d e) s bs).0 ≡ n) where
  pub short : length out < n → ◌≡◌ {A = Outcome × S} (refused 23 out, s) (calling d p s (run (passing d e) s bs) out)
  short h = output-refused d p s (run (passing d e) s bs) out b l (omega arith)

  fits : {o : List ℕ} {t : S} (r : List ℕ × S) → n ≤ length out → run (passing d e) s bs ≡ r → ◌≡◌ {A = List ℕ × S} (o, t) (copied r.0 out, r.1)
      → ◌≡◌ {A = Outcome × S} (outcome (Wrote n) o, t) (calling d p s (run (passing d e) s bs) out)
  fits {o} {t} r h q f =
      (λ i. (outcome (Wrote (sym size i)) (f i).0, (f i).1))
      ∙ (λ i. (outcome (Wrote (length (run (passing d e) s bs).0)) (copied (sym q i).0 out), (sym q i).1))
      ∙ wrote d p s (run (passing d e) s bs) out b l (omega arith)

  pub flat : {o : List ℕ} → n ≤ length out → d < 2 → o ≡ copied bs out
      → ◌≡◌ {A = Outcome × S} (outcome (Wrote n) o, s) (calling d p s (run (passing d e) s bs) out)
  flat h k f = fits (bs, s) h (passes d e k s bs) (λ i. (f i, s))

  pub deep : {o : List ℕ} {t : S} → n ≤ length out → 2 ≤ d → ◌≡◌ {A = List ℕ × S} (o, t) (copied (run e s bs).0 out, (run e s bs).1)
      → ◌≡◌ {A = Outcome × S} (outcome (Wrote n) o, t) (calling d p s (run (passing d e) s bs) out)
  deep h k f = fits (run e s bs) h (deeper d e k s bs) f

pub closes : (d : ℕ) (m : Matrix) (out : List ℕ) (n : ℕ) → n ≤ depth_limit * width → (d ≤ depth_limit → n ≡ closing_bytes d)
    → pushing d m (take {A = ℕ} n (replicate (depth_limit * width) 0)) out ≡ closing d m out
closes d m out n h e = by_le d depth_limit shallow deep
  where
    some-zeros : (n k : ℕ) → n ≤ k → take {A = ℕ} n (replicate k 0) ≡ replicate n 0
    some-zeros zero k h = refl
    some-zeros (suc n) zero h = absurd (omega arith)
    some-zeros (suc n) (suc k) h = ap (λ (l : List ℕ). 0 ∷ l) (some-zeros n k (omega arith))

    shallow : d ≤ depth_limit → pushing d m (take {A = ℕ} n (replicate (depth_limit * width) 0)) out ≡ closing d m out
    shallow l = ap (λ (x : List ℕ). pushing d m x out) (some-zeros n (depth_limit * width) h ∙ ap (λ (x : ℕ). replicate x 0) (e l))

    deep : depth_limit < d → pushing d m (take {A = ℕ} n (replicate (depth_limit * width) 0)) out ≡ closing d m out
    deep l =
        let p : ℕ = m.place in
        let r : List ℕ × Matrix = run (push d) m (take {A = ℕ} n (replicate (depth_limit * width) 0)) in
        let z : List ℕ × Matrix = run (push d) m (zeros d) in
        by-test (beyond d p) (λ t. sym (state-refused d p m r out t) ∙ state-refused d p m z out t)
        (λ t. sym (depth-refused d p m r out t l) ∙ depth-refused d p m z out t l)
