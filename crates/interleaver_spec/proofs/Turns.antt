-- Cells written in turn, the byte of place p in cell f p, of n cells in all: a byte stays until its turn comes round again. The sender has its
-- places themselves for f, the receiving side the equations; r is what is read with each write, of the states before and behind it.
-- each             one byte: stored, and one read
-- each_append      .. and bytes in two parts: the state
-- each-length      as many are read
-- each-place       the place behind bytes: as many on, mod n
-- each_read        what is read with byte t
-- untouched, kept  a cell whose turn does not come stays as it was; a byte with fewer than n behind it is in its cell
use mathlib.Core.Path.{◌≡◌, refl, sym, ap, ◌∙◌, subst}
use mathlib.Core.List.{List, [], ◌∷◌, ◌++◌}
use mathlib.Core.Option.{Option, some}
use Prim.Native.Nat.{ℕ, zero, suc, ◌+◌, ◌-◌, ◌%◌, ◌≤◌, ◌<◌}
use native.Mathlib.Nat.{mod-lt, mod-eq_of_lt, mod-add-mod, add-mod_right, mod-eq-sub-mod}
use native.Mathlib.Omega.{arith}
use lib.ListN.{length, get_or, set, take, drop, length-set, length-drop}
use lib.Seq.{get_or-set_same, get_or-set_other, split_at, get_or-take, length-take-le}
use Rattle.base.specs.Calls.{run}
use Rattle.base.proofs.Tests.{by_le}
use Rattle.interleaver_spec.specs.Running.{matrix}
use Rattle.interleaver_spec.specs.declared.Matrix.{Matrix}

-- k places on, mod n, and then one; and one, and then k
on_one : (n p k : ℕ) → ((p + 1) % n + k) % n ≡ (p + suc k) % n
on_one n p k = mod-add-mod (p + 1) n k ∙ ap (λ (x : ℕ). x % n) (let z : p + 1 + k ≡ p + suc k = omega arith in z)

-- fewer than n places on is another place
apart : (n p k : ℕ) → p < n → 0 < k → k < n → (p + k) % n ≡ p → ⊥
apart n p k h l m e =
    by_le n (p + k)
    (λ o. let z : (p + k) % n ≡ p + k - n = mod-eq-sub-mod o ∙ mod-eq_of_lt (let y : p + k - n < n = omega arith in y) in omega arith)
    (λ o. let z : (p + k) % n ≡ p + k = mod-eq_of_lt o in omega arith)

module _ (n : ℕ) (f : ℕ → ℕ) (r : Matrix → Matrix → ℕ) where
  abbrev store : Matrix → ℕ → Matrix
  store m b = matrix ((m.place + 1) % n) (set m.cells (f m.place) b)

  abbrev pub each : Matrix → ℕ → Option ℕ × Matrix
  each m b = (some (r m (store m b)), store m b)

  pub each_append : (m : Matrix) (xs ys : List ℕ) → (run each m (xs ++ ys)).1 ≡ (run each (run each m xs).1 ys).1
  each_append m [] ys = refl
  each_append m (x ∷ xs) ys = each_append (store m x) xs ys

  pub each-length : (m : Matrix) (bs : List ℕ) → length (run each m bs).0 ≡ length bs
  each-length m [] = refl
  each-length m (b ∷ bs) = ap suc (each-length (store m b) bs)

  pub each-place : (m : Matrix) (bs : List ℕ) → m.place < n → (run each m bs).1.place ≡ (m.place + length bs) % n
  each-place m [] h = sym (ap (λ (x : ℕ). x % n) (let z : m.place + 0 ≡ m.place = omega arith in z) ∙ mod-eq_of_lt h)
  each-place m (b ∷ bs) h = each-place (store m b) bs (mod-lt (m.place + 1) (omega arith)) ∙ on_one n m.place (length bs)

  pub each_read : (m : Matrix) (bs : List ℕ) (t : ℕ) → t < length bs
      → get_or (run each m bs).0 t 0 ≡ r (run each m (take t bs)).1 (run each m (take (suc t) bs)).1
  each_read m [] t h = absurd (omega arith)
  each_read m (b ∷ bs) zero h = refl
  each_read m (b ∷ bs) (suc t) h = each_read (store m b) bs t (omega arith)

  -- f gives each place a cell of its own
  module _ (one : (p q : ℕ) → p < n → q < n → f p ≡ f q → p ≡ q) where
    pub untouched : (ys : List ℕ) (m : Matrix) (q k : ℕ) → m.place < n → q < n → (m.place + k) % n ≡ q → k < n → length ys ≤ k
        → get_or (run each m ys).1.cells (f q) 0 ≡ get_or m.cells (f q) 0
    untouched [] m q k h l e w s = refl
    untouched (y ∷ ys) m q zero h l e w s = absurd (omega arith)
    untouched (y ∷ ys) m q (suc k) h l e w s =
        untouched ys (store m y) q k (mod-lt (m.place + 1) (omega arith)) l (on_one n m.place k ∙ e) (omega arith) (omega arith)
        ∙ get_or-set_other m.cells (f m.place) (f q) y 0 (λ z. apart n m.place (suc k) h (omega arith) w (e ∙ one q m.place l h z))

    stays : (xs : List ℕ) (b : ℕ) (ys : List ℕ) (m : Matrix) → m.place < n → ((q : ℕ) → q < n → f q < length m.cells) → length ys < n
        → get_or (run each m (xs ++ b ∷ ys)).1.cells (f ((m.place + length xs) % n)) 0 ≡ b
    stays [] b ys m h c l =
        let p : (m.place + 0) % n ≡ m.place = ap (λ (x : ℕ). x % n) (let z : m.place + 0 ≡ m.place = omega arith in z) ∙ mod-eq_of_lt h in
        let e : ((m.place + 1) % n + (n - 1)) % n ≡ m.place =
        on_one n m.place (n - 1) ∙ ap (λ (x : ℕ). (m.place + x) % n) (let z : suc (n - 1) ≡ n = omega arith in z) ∙ add-mod_right m.place n
        ∙ mod-eq_of_lt h in
        ap (λ (q : ℕ). get_or (run each (store m b) ys).1.cells (f q) 0) p
        ∙ untouched ys (store m b) m.place (n - 1) (mod-lt (m.place + 1) (omega arith)) h e (omega arith) (omega arith)
        ∙ get_or-set_same m.cells (f m.place) b 0 (c m.place h)
    stays (x ∷ xs) b ys m h c l =
        ap (λ (q : ℕ). get_or (run each (store m x) (xs ++ b ∷ ys)).1.cells (f q) 0) (sym (on_one n m.place (length xs)))
        ∙ stays xs b ys (store m x) (mod-lt (m.place + 1) (omega arith))
        (λ q k. subst (λ (z : ℕ). f q < z) (sym (length-set m.cells (f m.place) x)) (c q k)) l

    -- byte u of bs, with those up to byte t behind it
    pub kept : (bs : List ℕ) (m : Matrix) (u t : ℕ) → m.place ≡ 0 → 0 < n → ((q : ℕ) → q < n → f q < length m.cells) → u ≤ t → t < u + n → t < length bs
        → get_or (run each m (take (suc t) bs)).1.cells (f (u % n)) 0 ≡ get_or bs u 0
    kept bs m u t z w c l k h =
        let ts : List ℕ = take (suc t) bs in
        let a : length ts ≡ suc t = length-take-le (suc t) bs h in
        let xs : List ℕ = take u ts in
        let ys : List ℕ = drop (suc u) ts in
        let b : ℕ = get_or ts u 0 in
        let lx : length xs ≡ u = length-take-le u ts (omega arith) in
        let ly : length ys ≡ length ts - suc u = length-drop (suc u) ts in
        ap (λ (l : List ℕ). get_or (run each m l).1.cells (f (u % n)) 0) (split_at ts u 0 (omega arith))
        ∙ ap (λ (x : ℕ). get_or (run each m (xs ++ b ∷ ys)).1.cells (f (x % n)) 0) (let y : u ≡ m.place + length xs = omega arith in y)
        ∙ stays xs b ys m (omega arith) c (omega arith) ∙ get_or-take (suc t) bs u 0 (omega arith)
