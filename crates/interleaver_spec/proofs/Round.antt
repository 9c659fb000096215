-- There and back, with a delay of N - 1 bytes, at every depth.
-- output-is, output-zero, output-told   what output t is: the last byte that went to its cell, or zero
-- returned-is, returned-told, returned-length   what comes back of whatever is received: byte t, where it stood, and how many
-- sent_is, sent-first                   .. of one pass of any cells, and of the first; gave-is, gave-length: of the receiving side
-- delayed                               all but the last N - 1 bytes pushed have come back
-- there_and_back                        with N - 1 bytes behind them, all have
use mathlib.Core.Path.{◌≡◌, refl, sym, ap, ◌∙◌}
use mathlib.Core.Bool.{Bool, false}
use mathlib.Core.Logic.{◌⊎◌, inl, inr}
use mathlib.Core.List.{List, [], ◌∷◌, ◌++◌, append-nil}
use Prim.Native.Nat.{ℕ, suc, ◌+◌, ◌-◌, ◌*◌, ◌%◌, ◌≤◌, ◌<◌, min}
use native.Mathlib.Nat.{mod-eq_of_lt, add-mod_right}
use native.Mathlib.Omega.{arith}
use lib.ListN.{length, get_or, take, drop, length-append, length-drop, length-replicate, get_or-replicate}
use lib.Seq.{get_or-take, length-take-le, take-add, take_at, ext_get_or}
use borrow.Author.Tests.{lt-ltb, le-ltb}
use Rattle.base.specs.Calls.{run}
use Rattle.base.specs.Choice.{pick}
use Rattle.base.proofs.Tests.{by_le}
use Rattle.interleaver_spec.specs.Places.{width, cell}
use Rattle.interleaver_spec.specs.Running.{depth_limit, size, matrix, fresh, sent, push, back, fresh_back, taken, gave, pull, closing_bytes}
use Rattle.interleaver_spec.specs.declared.Matrix.{Matrix}
use Rattle.interleaver_spec.specs.declared.Back.{Back}
use Rattle.interleaver_spec.proofs.Places.{cell_below, cell-one, cell-mod, last_written, read_at}
use Rattle.interleaver_spec.proofs.Turns.{each_append, each-place, each_read, untouched, kept}
use Rattle.interleaver_spec.proofs.Calling.{passes, deeper}
use Rattle.interleaver_spec.proofs.Pushing.{sent-length}
use Rattle.interleaver_spec.proofs.Pulling.{some-given, given-length}

-- at depth 2 or more, from place 0, whatever the cells hold
module _ (d : ℕ) (deep : 2 ≤ d) (cs : List ℕ) (room : size d ≤ length cs) where
  -- what is read behind a write: by the equations, and at the place that is next
  abbrev at : Matrix → Matrix → ℕ
  at m w = get_or w.cells (cell d m.place) 0

  abbrev behind : Matrix → Matrix → ℕ
  behind m w = get_or w.cells w.place 0

  one : (p q : ℕ) → p < size d → q < size d → cell d p ≡ cell d q → p ≡ q
  one p q h k e = cell-one d p q (omega arith) (omega arith) e

  cell_in : (q : ℕ) → cell d q < size d
  cell_in q = omega (arith, cell_below d q (omega arith))

  -- output t is read from cell d t
  read : (bs : List ℕ) (t : ℕ) → t < length bs
      → get_or (run (sent d) (matrix 0 cs) bs).0 t 0 ≡ get_or (run (sent d) (matrix 0 cs) (take (suc t) bs)).1.cells (cell d t) 0
  read bs t h =
      each_read (size d) (λ p. p) at (matrix 0 cs) bs t h
      ∙ ap (λ (p : ℕ). get_or (run (sent d) (matrix 0 cs) (take (suc t) bs)).1.cells (cell d p) 0)
      (each-place (size d) (λ p. p) at (matrix 0 cs) (take t bs) (omega arith)
      ∙ ap (λ (x : ℕ). x % size d) (let l = length-take-le t bs (omega arith) in omega arith))
      ∙ ap (λ (c : ℕ). get_or (run (sent d) (matrix 0 cs) (take (suc t) bs)).1.cells c 0) (sym (cell-mod d t))

  pub sent_is : (bs : List ℕ) (u t : ℕ) → u ≤ t → t < u + size d → u % size d ≡ cell d t → t < length bs
      → get_or (run (sent d) (matrix 0 cs) bs).0 t 0 ≡ get_or bs u 0
  sent_is bs u t l k e h =
      read bs t h ∙ ap (λ (c : ℕ). get_or (run (sent d) (matrix 0 cs) (take (suc t) bs)).1.cells c 0) (sym e)
      ∙ kept (size d) (λ p. p) at (λ p q x y e. e) bs (matrix 0 cs) u t refl (omega arith) (λ q x. omega arith) l k h

  pub sent-first : (bs : List ℕ) (t : ℕ) → t < cell d t → t < length bs → get_or (run (sent d) (matrix 0 cs) bs).0 t 0 ≡ get_or cs (cell d t) 0
  sent-first bs t l h =
      let b : cell d t < size d = cell_in t in
      read bs t h
      ∙ untouched (size d) (λ p. p) at (λ p q x y e. e) (take (suc t) bs) (matrix 0 cs) (cell d t) (cell d t) (omega arith) b
      (mod-eq_of_lt (let z : 0 + cell d t < size d = omega arith in z) ∙ (let z : 0 + cell d t ≡ cell d t = omega arith in z)) b
      (let z = length-take-le (suc t) bs h in omega arith)

  -- the first N - 1 received bytes give none back
  none_yet : (rs : List ℕ) (n : ℕ) → n < length rs → n ≡ size d - 1 → n ≡ pick false 0 (min (size d - 1 - 0) (length rs))
  none_yet rs n h e = omega arith

  pub gave-is : (rs : List ℕ) (t v : ℕ) → t + size d ≤ length rs → t ≤ v → v < t + size d → cell d v ≡ t % size d
      → get_or (run (gave d) (back false (matrix 0 cs)) rs).0 t 0 ≡ get_or rs v 0
  gave-is rs t v h l k e =
      let m : Matrix = matrix 0 cs in
      let n : ℕ = size d - 1 in
      let z : take n rs ++ take (suc t) (drop n rs) ≡ take (suc (n + t)) rs =
      sym (take-add n (suc t) rs) ∙ ap (λ (x : ℕ). take x rs) (let y : n + suc t ≡ suc (n + t) = omega arith in y) in
      let all : (run (taken d) (run (taken d) m (take n rs)).1 (take (suc t) (drop n rs))).1 ≡ (run (taken d) m (take (suc (n + t)) rs)).1 =
      sym (each_append (size d) (cell d) behind m (take n rs) (take (suc t) (drop n rs))) ∙ ap (λ (x : List ℕ). (run (taken d) m x).1) z in
      let place : (run (taken d) m (take (suc (n + t)) rs)).1.place ≡ cell d (v % size d) =
      each-place (size d) (cell d) behind m (take (suc (n + t)) rs) (omega arith)
      ∙ ap (λ (x : ℕ). x % size d) (let y = length-take-le (suc (n + t)) rs (omega arith) in
      let w : 0 + length (take (suc (n + t)) rs) ≡ t + size d = omega arith in w)
      ∙ add-mod_right t (size d) ∙ sym e ∙ cell-mod d v in
      ap (λ (x : List ℕ × Back). get_or x.0 t 0) (some-given d rs n false m (omega arith) (none_yet rs n (omega arith) refl) (omega arith))
      ∙ each_read (size d) (cell d) behind (run (taken d) m (take n rs)).1 (drop n rs) t (let y = length-drop n rs in omega arith)
      ∙ ap (λ (w : Matrix). get_or w.cells w.place 0) all
      ∙ ap (λ (p : ℕ). get_or (run (taken d) m (take (suc (n + t)) rs)).1.cells p 0) place
      ∙ kept (size d) (cell d) behind one rs m v (n + t) refl (omega arith) (λ q x. let y = cell_in q in omega arith) (omega arith) (omega arith) (omega arith)

  pub gave-length : (rs : List ℕ) → length (run (gave d) (back false (matrix 0 cs)) rs).0 ≡ length rs - (size d - 1)
  gave-length rs =
      given-length d rs (min (size d - 1 - 0) (length rs)) false (matrix 0 cs) (omega arith) refl
      ∙ (let z : length rs - min (size d - 1 - 0) (length rs) ≡ length rs - (size d - 1) = omega arith in z)

-- ---- fresh on both sides
module _ (d : ℕ) (deep : 2 ≤ d) (most : d ≤ depth_limit) where
  room : size d ≤ length fresh.cells
  room = omega (arith, length-replicate {A = ℕ} (depth_limit * width) 0)

  out : (bs : List ℕ) → run (push d) fresh bs ≡ run (sent d) fresh bs
  out = deeper d (sent d) deep fresh

  in-again : (rs : List ℕ) → run (pull d) fresh_back rs ≡ run (gave d) fresh_back rs
  in-again = deeper d (gave d) deep fresh_back

  pub output-is : (bs : List ℕ) (u t : ℕ) → u ≤ t → t < u + size d → u % size d ≡ cell d t → t < length bs
      → get_or (run (push d) fresh bs).0 t 0 ≡ get_or bs u 0
  output-is bs u t l k e h = ap (λ (x : List ℕ × Matrix). get_or x.0 t 0) (out bs) ∙ sent_is d deep fresh.cells room bs u t l k e h

  pub output-zero : (bs : List ℕ) (t : ℕ) → t < cell d t → t < length bs → get_or (run (push d) fresh bs).0 t 0 ≡ 0
  output-zero bs t l h =
      ap (λ (x : List ℕ × Matrix). get_or x.0 t 0) (out bs) ∙ sent-first d deep fresh.cells room bs t l h
      ∙ get_or-replicate (depth_limit * width) (cell d t) 0 0 (let z = cell_below d t (omega arith) in omega arith)

  pub output-told : (bs : List ℕ) (t : ℕ) → t < length bs
      → ((t < cell d t) × (get_or (run (push d) fresh bs).0 t 0 ≡ 0))
      ⊎ ((u : ℕ) × (u ≤ t) × (t < u + size d) × (u % size d ≡ cell d t) × (get_or (run (push d) fresh bs).0 t 0 ≡ get_or bs u 0))
  output-told bs t h =
      by_le (cell d t) t
      (λ l. let w = last_written d t (omega arith) l in inr (w.0, w.1, w.2, w.3, output-is bs w.0 t w.1 w.2 w.3 h))
      (λ l. inl (l, output-zero bs t l h))

  pub returned-is : (rs : List ℕ) (t v : ℕ) → t + size d ≤ length rs → t ≤ v → v < t + size d → cell d v ≡ t % size d
      → get_or (run (pull d) fresh_back rs).0 t 0 ≡ get_or rs v 0
  returned-is rs t v h l k e = ap (λ (x : List ℕ × Back). get_or x.0 t 0) (in-again rs) ∙ gave-is d deep fresh.cells room rs t v h l k e

  pub returned-told : (rs : List ℕ) (t : ℕ) → t + size d ≤ length rs
      → (v : ℕ) × (t ≤ v) × (v < t + size d) × (cell d v ≡ t % size d) × (get_or (run (pull d) fresh_back rs).0 t 0 ≡ get_or rs v 0)
  returned-told rs t h = let w = read_at d t (omega arith) in (w.0, w.1, w.2, w.3, returned-is rs t w.0 h w.1 w.2 w.3)

  pub returned-length : (rs : List ℕ) → length (run (pull d) fresh_back rs).0 ≡ length rs - (size d - 1)
  returned-length rs = ap (λ (x : List ℕ × Back). length x.0) (in-again rs) ∙ gave-length d deep fresh.cells room rs

  length-out : (bs : List ℕ) → length (run (push d) fresh bs).0 ≡ length bs
  length-out bs = ap (λ (x : List ℕ × Matrix). length x.0) (out bs) ∙ sent-length d fresh bs

  pub delayed : (bs : List ℕ) → (run (pull d) fresh_back (run (push d) fresh bs).0).0 ≡ take (length bs - (size d - 1)) bs
  delayed bs =
      let xs : List ℕ = (run (push d) fresh bs).0 in
      let n : ℕ = length bs - (size d - 1) in
      let lx : length xs ≡ length bs = length-out bs in
      let ly : length (run (pull d) fresh_back xs).0 ≡ n = returned-length xs ∙ ap (λ (x : ℕ). x - (size d - 1)) lx in
      ext_get_or 0 (run (pull d) fresh_back xs).0 (take n bs) (ly ∙ sym (length-take-le n bs (omega arith)))
      (λ t h.
      let w = read_at d t (omega arith) in
      returned-is xs t w.0 (omega arith) w.1 w.2 w.3
      ∙ output-is bs t w.0 w.1 w.2 (sym w.3) (let z = w.2 in omega arith) ∙ sym (get_or-take n bs t 0 (omega arith)))

pub there_and_back : (d : ℕ) → d ≤ depth_limit → (bs cs : List ℕ) → length cs ≡ closing_bytes d → (run (pull d) fresh_back (run (push d) fresh (bs ++ cs)).0).0
    ≡ bs
there_and_back d most bs cs e = by_le 2 d closed flat
  where
    closed : 2 ≤ d → (run (pull d) fresh_back (run (push d) fresh (bs ++ cs)).0).0 ≡ bs
    closed h =
        let n : length cs ≡ size d - 1 = e ∙ ap (λ (t : Bool). pick t 0 (size d - 1)) (le-ltb d 2 h) in
        delayed d h most (bs ++ cs) ∙ take_at bs cs (length (bs ++ cs) - (size d - 1)) (let z = length-append bs cs in omega arith)

    flat : d < 2 → (run (pull d) fresh_back (run (push d) fresh (bs ++ cs)).0).0 ≡ bs
    flat h =
        let n : length cs ≡ 0 = e ∙ ap (λ (t : Bool). pick t 0 (size d - 1)) (lt-ltb d 2 h) in
        ap (λ (x : List ℕ × Matrix). (run (pull d) fresh_back x.0).0) (passes d (sent d) h fresh (bs ++ cs))
        ∙ ap (λ (x : List ℕ × Back). x.0) (passes d (gave d) h fresh_back (bs ++ cs)) ∙ ap (λ (x : List ℕ). bs ++ x) (none cs n) ∙ append-nil bs
      where
        none : (x : List ℕ) → length x ≡ 0 → x ≡ []
        none [] e = refl
        none (b ∷ x) e = absurd (omega arith)
