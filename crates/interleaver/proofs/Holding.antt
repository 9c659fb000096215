-- The receiving side's code: n of the received bytes give none back.
-- held-deep             n, at depth 2 or more
-- pulled-length         how many come back, at any depth
-- kept-all, kept-some   what the code leaves of bytes that are all stored, and of others
use mathlib.Core.Path.{◌≡◌, sym, ap, ◌∙◌}
use mathlib.Core.Bool.{Bool, true, false}
use mathlib.Core.List.{List, []}
use Prim.Native.Nat.{ℕ, ◌+◌, ◌-◌, ◌≤◌, ◌<◌, min}
use native.Mathlib.Omega.{arith}
use lib.ListN.{length, take, drop, length-drop}
use lib.Seq.{take_all}
use borrow.Author.Tests.{lt-ltb, le-ltb}
use Rattle.base.specs.Calls.{run}
use Rattle.base.specs.Choice.{pick}
use Rattle.base.specs.Written.{copied}
use Rattle.base.proofs.Tests.{by_le}
use Rattle.base.proofs.Writing.{copied-fits}
use Rattle.interleaver_spec.specs.Running.{size, back, taken, gave, pull, beyond}
use Rattle.interleaver_spec.specs.declared.Matrix.{Matrix}
use Rattle.interleaver_spec.specs.declared.Back.{Back}
use Rattle.interleaver_spec.proofs.Calling.{passes, deeper, below}
use Rattle.interleaver_spec.proofs.Pulling.{taken-length, all_held, some-given, given-length}
use Rattle.interleaver.specs.Private.{left, held, given}
use Rattle.interleaver.proofs.Loops.{left_out}

held-deep : (d n : ℕ) → 2 ≤ d → (a : Bool) (p : ℕ) → held d a p n ≡ pick a 0 (min (size d - 1 - p) n)
held-deep d n h a p = ap (λ (t : Bool). pick t 0 (pick a 0 (min (size d - 1 - p) n))) (le-ltb d 2 h)

pub pulled-length : (d : ℕ) (k : Back) (bs : List ℕ) (n : ℕ) → beyond d k.matrix.place ≡ false → n ≡ held d k.again k.matrix.place (length bs)
    → length (run (pull d) k bs).0 ≡ length bs - n
pulled-length d k bs n b e =
    by_le 2 d
    (λ h.
    ap (λ (x : List ℕ × Back). length x.0) (deeper d (gave d) h k bs)
    ∙ given-length d bs n k.again k.matrix (below d k.matrix.place h b) (e ∙ held-deep d (length bs) h k.again k.matrix.place))
    (λ h.
    let z : n ≡ 0 = e ∙ ap (λ (t : Bool). pick t 0 (pick k.again 0 (min (size d - 1 - k.matrix.place) (length bs)))) (lt-ltb d 2 h) in
    ap (λ (x : List ℕ × Back). length x.0) (passes d (gave d) h k bs) ∙ (let y : length bs ≡ length bs - n = omega arith in y))

-- at depth 2 or more
module _ (d : ℕ) (deep : 2 ≤ d) (k : Back) (bs out : List ℕ) (n : ℕ) (h : k.matrix.place < size d) (e : n ≡ held d k.again k.matrix.place (length bs))
  where
    held-is : n ≡ pick k.again 0 (min (size d - 1 - k.matrix.place) (length bs))
    held-is = e ∙ held-deep d (length bs) deep k.again k.matrix.place

    pub kept-all : {f : Matrix} → length bs ≤ n → f ≡ (run (taken d) k.matrix (take n bs)).1 → (out, back k.again f) ≡ given d k bs out
    kept-all {f} l g =
        let e : f ≡ (run (taken d) k.matrix bs).1 = g ∙ ap (λ (x : List ℕ). (run (taken d) k.matrix x).1) (take_all n bs l) in
        (λ i. (sym (copied-fits [] out (omega arith)) i, back k.again (e i)))
        ∙ ap (λ (x : List ℕ × Back). (copied x.0 out, x.1)) (sym (all_held d bs n k.again k.matrix h held-is l))

    -- the others at the depth that the first n leave, which is the same
    pub kept-some : {f g : Matrix} {c : ℕ} {o : List ℕ} → n < length bs → length bs ≤ length out + n → c ≡ d → f ≡ (run (taken d) k.matrix (take n bs)).1
        → (o, g) ≡ left (taken c) (take (length bs - n) (drop n bs)) 0 f out → (o, back true g) ≡ given d k bs out
    kept-some {f} {g} {c} {o} l room same p q =
        let m : Matrix = (run (taken d) k.matrix (take n bs)).1 in
        let y : length (run (taken d) m (drop n bs)).0 ≡ length (drop n bs) = taken-length d m (drop n bs) in
        let z : length (drop n bs) ≡ length bs - n = length-drop n bs in
        let s : ◌≡◌ {A = List ℕ × Matrix} (o, g) (copied (run (taken d) m (drop n bs)).0 out, (run (taken d) m (drop n bs)).1) =
        q ∙ (λ i. left (taken (same i)) (take_all (length bs - n) (drop n bs) (omega arith) i) 0 (p i) out)
        ∙ left_out (taken d) (drop n bs) m out (omega arith) in
        ap (λ (x : List ℕ × Matrix). (x.0, back true x.1)) s
        ∙ ap (λ (x : List ℕ × Back). (copied x.0 out, x.1)) (sym (some-given d bs n k.again k.matrix h held-is l))
