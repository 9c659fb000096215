-- The receiving side, many bytes at once: the first n are only stored, and each other one gives one back.
-- taken-length          as many are stored
-- all_held, some-given  what comes back, and the state
-- given-length          how many come back
-- rest                  the state behind the first n, and what the others give
use mathlib.Core.Path.{◌≡◌, refl, sym, ap, ◌∙◌}
use mathlib.Core.Bool.{Bool, true, false}
use mathlib.Core.List.{List, [], ◌∷◌}
use mathlib.Core.Option.{none}
use Prim.Native.Nat.{ℕ, suc, ◌+◌, ◌-◌, ◌%◌, ◌≤◌, ◌<◌, min}
use native.Mathlib.Nat.{mod-eq_of_lt}
use native.Mathlib.Omega.{arith}
use lib.ListN.{length, get_or, take, drop, length-drop, take-append-drop}
use lib.Seq.{drop-cons, length-take-le}
use borrow.Author.Tests.{eq-eqb, ne_eqb}
use Rattle.base.specs.Calls.{tell, and_then, run}
use Rattle.base.specs.Choice.{pick}
use Rattle.base.proofs.Calls.{run-append}
use Rattle.base.proofs.Tests.{by_le}
use Rattle.interleaver_spec.specs.Places.{cell}
use Rattle.interleaver_spec.specs.Running.{size, next, back, taken, gave}
use Rattle.interleaver_spec.specs.declared.Matrix.{Matrix}
use Rattle.interleaver_spec.specs.declared.Back.{Back}
use Rattle.interleaver_spec.proofs.Turns.{each-length, each-place}

module _ (d : ℕ) where
  pub taken-length : (m : Matrix) (bs : List ℕ) → length (run (taken d) m bs).0 ≡ length bs
  taken-length = each-length (size d) (cell d) (λ m w. get_or w.cells w.place 0)

  taken-place : (m : Matrix) (bs : List ℕ) → m.place < size d → (run (taken d) m bs).1.place ≡ (m.place + length bs) % size d
  taken-place = each-place (size d) (cell d) (λ m w. get_or w.cells w.place 0)

  -- with this byte the first pass is over (t) or not
  by : Bool → Matrix → ℕ → List ℕ → List ℕ × Back
  by t m b bs = tell (pick t (taken d m b).0 none) (run (gave d) (back t (taken d m b).1) bs)

  -- before the first pass's last place
  quiet : (bs : List ℕ) (m : Matrix) → m.place + length bs < size d → run (gave d) (back false m) bs ≡ ([], back false (run (taken d) m bs).1)
  unfolding by
  quiet [] m h = refl
  quiet (b ∷ bs) m h =
      let n : next d m.place ≡ m.place + 1 = mod-eq_of_lt (omega arith) in
      ap (λ (t : Bool). by t m b bs) (ne_eqb (m.place + 1) (size d) (λ z. omega arith)) ∙ quiet bs (taken d m b).1 (omega arith)

  -- behind it
  loud : (bs : List ℕ) (m : Matrix) → run (gave d) (back true m) bs ≡ ((run (taken d) m bs).0, back true (run (taken d) m bs).1)
  loud [] m = refl
  loud (b ∷ bs) m = ap (λ (x : List ℕ × Back). tell (taken d m b).0 x) (loud bs (taken d m b).1)

  -- at it
  last : (b : ℕ) (bs : List ℕ) (m : Matrix) → m.place + 1 ≡ size d
      → run (gave d) (back false m) (b ∷ bs) ≡ ((run (taken d) m (b ∷ bs)).0, back true (run (taken d) m (b ∷ bs)).1)
  unfolding by
  last b bs m h =
      ap (λ (t : Bool). by t m b bs) (eq-eqb (m.place + 1) (size d) h) ∙ ap (λ (x : List ℕ × Back). tell (taken d m b).0 x) (loud bs (taken d m b).1)

  module _ (bs : List ℕ) where
    -- the state behind the first n, and what the others give
    abbrev pub rest : ℕ → Matrix → List ℕ × Matrix
    rest n m = run (taken d) (run (taken d) m (take n bs)).1 (drop n bs)

    pub all_held : (n : ℕ) (a : Bool) (m : Matrix) → m.place < size d → n ≡ pick a 0 (min (size d - 1 - m.place) (length bs)) → length bs ≤ n
        → run (gave d) (back a m) bs ≡ ([], back a (run (taken d) m bs).1)
    all_held n true m h e l = ap (λ (x : List ℕ). run (gave d) (back true m) x) z ∙ ap (λ (x : List ℕ). ([], back true (run (taken d) m x).1)) (sym z)
      where
        empty : (x : List ℕ) → length x ≤ 0 → x ≡ []
        empty [] h = refl
        empty (b ∷ x) h = absurd (omega arith)

        z : bs ≡ []
        z = empty bs (omega arith)
    all_held n false m h e l = quiet bs m (omega arith)

    pub some-given : (n : ℕ) (a : Bool) (m : Matrix) → m.place < size d → n ≡ pick a 0 (min (size d - 1 - m.place) (length bs)) → n < length bs
        → run (gave d) (back a m) bs ≡ ((rest n m).0, back true (rest n m).1)
    some-given n true m h e l = loud bs m ∙ ap (λ (x : ℕ). ((rest x m).0, back true (rest x m).1)) (sym e)
    some-given n false m h e l =
        let k : n ≡ size d - 1 - m.place = omega arith in
        let lt : length (take n bs) ≡ n = length-take-le n bs (omega arith) in
        let c : drop n bs ≡ get_or bs n 0 ∷ drop (suc n) bs = drop-cons bs n 0 l in
        let f : Matrix = (run (taken d) m (take n bs)).1 in
        let p : f.place ≡ m.place + n =
        taken-place m (take n bs) h ∙ ap (λ (x : ℕ). (m.place + x) % size d) lt
        ∙ mod-eq_of_lt (omega arith) in
        ap (run (gave d) (back false m)) (sym (take-append-drop n bs)) ∙ run-append (gave d) (back false m) (take n bs) (drop n bs)
        ∙ ap (λ (x : List ℕ × Back). and_then x (λ t. run (gave d) t (drop n bs))) (quiet (take n bs) m (omega arith))
        ∙ ap (λ (x : List ℕ). run (gave d) (back false f) x) c ∙ last (get_or bs n 0) (drop (suc n) bs) f (omega arith)
        ∙ ap (λ (x : List ℕ). ((run (taken d) f x).0, back true (run (taken d) f x).1)) (sym c)

    pub given-length : (n : ℕ) (a : Bool) (m : Matrix) → m.place < size d → n ≡ pick a 0 (min (size d - 1 - m.place) (length bs))
        → length (run (gave d) (back a m) bs).0 ≡ length bs - n
    given-length n a m h e =
        by_le (length bs) n (λ l. ap (λ (x : List ℕ × Back). length x.0) (all_held n a m h e l) ∙ (let z : 0 ≡ length bs - n = omega arith in z))
        (λ l.
        ap (λ (x : List ℕ × Back). length x.0) (some-given n a m h e l)
        ∙ taken-length (run (taken d) m (take n bs)).1 (drop n bs) ∙ length-drop n bs)
