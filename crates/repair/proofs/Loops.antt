-- A turn and the end of each loop, on the lists that it works on; and what the calls of a function leave together.
-- differ, pairs-differ                                    the places in which words differ
-- sums-are                                                the sums
-- summed, summed-dot                                      a sum of products
-- equations-next, equations-done                          the equations
-- pivot-some, pivot-none, normal-is                       the pivot
-- reduced-is, reduced-zero                                the first unknown taken out of a row
-- extended-some                                           a solution and the unknown before it
-- solve-zero, solve-free, solve-some, solve-none, solve-short   a least solution
-- locator-is                                              the locator
-- places-start, places-whole, places-next, places-done, value_there   the values at all places
-- back_done, add_start, add-next, point-start, point-next              the bytes added, from the last place on
-- Summed, error-none, error-start, error-next, error-done  the byte to be added at a place
-- amend-none, amend-some                                  the word that comes of it
-- mend-far, mend-clean, mend-damaged, mend-refused        .. taken or not
-- repair-damaged                                          repair's promise, from this
use mathlib.Core.Path.{◌≡◌, refl, sym, ap, ap₂, ◌∙◌, subst}
use mathlib.Core.List.{List, [], ◌∷◌, ◌++◌, append_assoc, append-nil, map, reverse, reverse-cons}
use Prim.Native.Nat.{ℕ, zero, suc, ◌+◌, ◌-◌, ◌*◌, ◌≤◌, ◌<◌}
use native.Mathlib.Nat.{suc_inj, pos_of_ne-zero}
use native.Mathlib.Nat.{add-zero as plus-zero, zero-add as nat-zero-add}
use native.Mathlib.Numerals.{add-one, one-add}
use native.Mathlib.Omega.{arith}
use lib.Dec.{eqb}
use borrow.Author.Tests.{eq-eqb, ne_eqb, lt-ltb, le-ltb}
use borrow.Rule.Slice.PartMut.{put_mid, same_len_mid}
use lib.ListN.{length, take, drop, get_or, set, replicate, length-drop, length-replicate, get_or-append}
use lib.Seq.{drop-cons, take-suc, take_all, take-take, drop-length, take-length, set_at, get_or-take, length-take-le, take-suc-set}
use mathlib.Core.Bool.{Bool, true, false, not, cond}
use Rattle.std.specs.Prelude.{Some, None, find}
use Rattle.std.specs.List.{filter, fold, zip}
use Rattle.std.proofs.lemmas.Slice.{take-put_mid}
use Rattle.base.specs.Choice.{pick}
use Rattle.base.specs.Bytes.{Bytes}
use Rattle.base.specs.Written.{Outcome, outcome, copied}
use Rattle.base.specs.Written.{Written}
use Rattle.base.proofs.Tests.{by-eq}
use Rattle.base.proofs.Lists.{drop-same}
use Rattle.base.proofs.Writing.{copied-fits, write-fits}
use Rattle.field.specs.Field.{alpha, add, mul, pow, inverse}
use Rattle.field.proofs.Sum.{add-zero, zero-add, add_assoc, add_comm}
use Rattle.field.proofs.Product.{mul-zero, zero-mul, mul_comm}
use Rattle.field.proofs.Powers.{pow-suc, pow-zero}
use Rattle.word_spec.specs.Word.{horner, eval, values_from, scale, onto}
use Rattle.parity.specs.Calls.{at_powers, at_roots, checked, root_limit}
use Rattle.parity.specs.Checked.{Checked}
use Rattle.parity.specs.Checked as check
use Rattle.word_spec.proofs.Values.{horner-append}
use Rattle.word_spec.proofs.Roots.{length-values, values-at}
use Rattle.repair.specs.Mended.{Mended}
use Rattle.repair.specs.Mended.{Repaired, Beyond}
use Rattle.repair.specs.Promise.{distance, half, Promised}
use Rattle.repair.specs.Way.{low, tails, dot, sums, windows, begins, head, shift, pivot, normal}
use Rattle.repair.specs.Way.{reduced, extended, solve, error_at, errors, locator, amended, settled, mended}
use Rattle.repair.proofs.Meeting.{mended-promised}

-- ---- distance
-- the test of a pair
abbrev pub differ : ℕ × ℕ → Bool
differ p = not (eqb p.0 p.1)

pub pairs-differ : (a b : List ℕ) → length (filter differ (zip a b)) ≡ distance a b
unfolding distance
pairs-differ [] b = refl
pairs-differ (x ∷ a) [] = refl
pairs-differ (x ∷ a) (y ∷ b) = by (eqb x y) (pairs-differ a b)
  where
    by : (t : Bool) → length (filter differ (zip a b)) ≡ distance a b
        → length (cond (not t) ((x, y) ∷ filter differ (zip a b)) (filter differ (zip a b))) ≡ pick t 0 1 + distance a b
    by true e = e ∙ sym (nat-zero-add _)
    by false e = rw e (sym (one-add _))

-- ---- sums: of a word with at most 64 roots they are its values there, written over zeros
pub sums-are : (r : ℕ) (w : List ℕ) {a : Written} {s : List ℕ} → r ≤ root_limit → outcome a s ≡ at_roots r w (replicate root_limit 0) → s ≡ sums r w
unfolding sums
sums-are r w h e =
    ap (λ (o : Outcome). o.output) e ∙ wrote
    ∙ copied-fits (values_from w 1 r) (replicate root_limit 0) room
    ∙ ap (λ (t : List ℕ). values_from w 1 r ++ t) (ap (λ (n : ℕ). drop n (replicate root_limit 0)) (length-values w 1 r) ∙ drop-same 0 r root_limit)
  where
    room : length (values_from w 1 r) ≤ length (replicate {A = ℕ} root_limit 0)
    room = omega (arith, length-values w 1 r, length-replicate {A = ℕ} root_limit 0)

    wrote : (at_roots r w (replicate root_limit 0)).output ≡ copied (values_from w 1 r) (replicate root_limit 0)
    wrote = rw (le-ltb root_limit r h) (ap (λ (o : Outcome). o.output) (write-fits (values_from w 1 r) (replicate root_limit 0) room))

-- ---- dot: the sum so far, and a product
abbrev pub summed : ℕ → ℕ × ℕ → ℕ
summed a p = add a (mul p.0 p.1)

pub summed-dot : (a : ℕ) (u row : List ℕ) → fold summed a (zip u row) ≡ add a (dot u row)
unfolding dot
summed-dot a [] row = sym (add-zero a)
summed-dot a (x ∷ u) [] = sym (add-zero a)
summed-dot a (x ∷ u) (y ∷ row) = summed-dot (add a (mul x y)) u row ∙ add_assoc a (mul x y) (dot u row)

-- ---- rows, each in turn
module _ (rows : List (List ℕ)) (i : ℕ) (row : List ℕ) (h : i < length rows) where
  row_put : (rest : List (List ℕ)) → take (i + 1) (set rows i row) ++ rest ≡ take i rows ++ row ∷ rest
  row_put rest = rw (add-one, take-suc-set rows i row h) (append_assoc (take i rows) (row ∷ []) rest)

module _ (n i : ℕ) (s : List ℕ) (rows : List (List ℕ)) {t : List (List ℕ)} (inv : take i rows ++ windows i (n - i) s ≡ t) where
  pub equations-next : {row : List ℕ} → i < n → n ≤ length rows → row ≡ take (i + 33 - i) (drop i s)
      → take (i + 1) (set rows i row) ++ windows (i + 1) (n - (i + 1)) s ≡ t
  unfolding windows
  equations-next {row} h e er =
      row_put rows i row (omega arith) (windows (i + 1) (n - (i + 1)) s)
      ∙ ap₂ (λ (x : List ℕ) (j : ℕ). take i rows ++ x ∷ windows j (n - (i + 1)) s) (er ∙ ap (λ (m : ℕ). take m (drop i s)) same) (add-one i)
      ∙ ap (λ (m : ℕ). take i rows ++ windows i m s) (sym more) ∙ inv
    where
      more : n - i ≡ suc (n - (i + 1))
      more = omega arith

      same : i + 33 - i ≡ 33
      same = omega arith

  pub equations-done : i ≡ n → take n rows ≡ t
  unfolding windows
  equations-done h =
      let z : n - i ≡ 0 = omega arith in
      ap (λ (m : ℕ). take m rows) (sym h) ∙ sym (append-nil (take i rows)) ∙ rw z at inv

-- ---- the pivot is the row that is found
pub pivot-some : (rows : List (List ℕ)) {row : List ℕ} → Some row ≡ find begins rows → (pivot rows ≡ row) × (head row ≡ 0 → ⊥)
unfolding pivot
pivot-some [] e = absurd (let z : ◌≡◌ {A = ℕ} 0 1 = cc in omega arith)
pivot-some (r ∷ rows) {row} e =
    by-eq (head r) 0 (λ z. rw (eq-eqb (head r) 0 z) (pivot-some rows (rw (eq-eqb (head r) 0 z) at e)))
    (λ n. let same : r ≡ row = let f = rw (ne_eqb (head r) 0 n) at e in cc in rw (ne_eqb (head r) 0 n) (same, λ z. n (ap head same ∙ z)))

pub pivot-none : (rows : List (List ℕ)) → None ≡ find begins rows → head (pivot rows) ≡ 0
unfolding pivot
pivot-none [] e = refl
pivot-none (r ∷ rows) e =
    by-eq (head r) 0 (λ z. rw (eq-eqb (head r) 0 z) (pivot-none rows (rw (eq-eqb (head r) 0 z) at e)))
    (λ n. absurd (let f = rw (ne_eqb (head r) 0 n) at e in let z : ◌≡◌ {A = ℕ} 0 1 = cc in omega arith))

-- ---- one row
scale-zeros : (k : ℕ) (xs : List ℕ) (n : ℕ) → length xs ≡ n → onto (scale k xs) (replicate (suc n) 0) ≡ scale k (xs ++ 0 ∷ [])
unfolding scale onto
scale-zeros k [] n l = rw (sym l) (ap (λ (t : ℕ). t ∷ []) (sym (mul-zero k)))
scale-zeros k (x ∷ xs) zero l = absurd (omega arith)
scale-zeros k (x ∷ xs) (suc n) l = ap₂ ◌∷◌ (add-zero (mul k x)) (scale-zeros k xs n (suc_inj l))

nothing-added : (p w : List ℕ) → onto (scale 0 p) w ≡ w
unfolding scale onto
nothing-added [] w = refl
nothing-added (x ∷ p) [] = refl
nothing-added (x ∷ p) (y ∷ w) = ap₂ ◌∷◌ (ap (λ (t : ℕ). add t y) (zero-mul x) ∙ zero-add y) (nothing-added p w)

module _ (row : List ℕ) (l : length row ≡ 33) where
  tail : take 32 (drop 1 row) ≡ drop 1 row
  tail = take_all 32 (drop 1 row) (omega (arith, length-drop 1 row))

  pub normal-is : {k : ℕ} {o : List ℕ} → k ≡ inverse (get_or row 0 0) → o ≡ onto (scale k (take 32 (drop 1 row))) (replicate 33 0) → o ≡ normal row
  unfolding normal
  normal-is {k} ek eo =
      eo ∙ ap (λ (t : List ℕ). onto (scale k t) (replicate 33 0)) tail ∙ scale-zeros k (drop 1 row) 32 (omega (arith, length-drop 1 row))
      ∙ ap (λ (t : ℕ). scale t (shift row)) ek

  pub reduced-is : (p : List ℕ) {s o : List ℕ} → s ≡ take 32 (drop 1 row) → o ≡ onto (scale (get_or row 0 0) p) (s ++ 0 ∷ []) → o ≡ reduced p row
  unfolding reduced
  reduced-is p es eo = eo ∙ ap (λ (t : List ℕ). onto (scale (get_or row 0 0) p) (t ++ 0 ∷ [])) (es ∙ tail)

  pub reduced-zero : (p : List ℕ) {s : List ℕ} → s ≡ take 32 (drop 1 row) → get_or row 0 0 ≡ 0 → s ++ 0 ∷ [] ≡ reduced p row
  reduced-zero p {s} es z =
      reduced-is p es (sym (ap (λ (k : ℕ). onto (scale k p) (s ++ 0 ∷ [])) z ∙ nothing-added p (s ++ 0 ∷ [])))

extended-is : (p u : List ℕ) → 0 < length u → extended p u ≡ dot u p ∷ u
unfolding extended
extended-is p [] n = absurd (omega arith)
extended-is p (x ∷ u) n = refl

-- the first k numbers of v, and the unknown before them
pub extended-some : (p v : List ℕ) (k : ℕ) → length v ≡ 33 → 0 < k → k ≤ 32 → {u o : List ℕ} {x : ℕ} → u ≡ take k v → x ≡ dot u p → o ≡ take 32 v
    → take (k + 1) (x ∷ (o ++ [])) ≡ extended p u
extended-some p v k l n h {u} {o} {x} eu ex eo =
    ap (λ (j : ℕ). take j (x ∷ (o ++ []))) (add-one k)
    ∙ ap₂ (λ (y : ℕ) (t : List ℕ). y ∷ take k t) ex (append-nil o ∙ eo)
    ∙ ap (λ (t : List ℕ). dot u p ∷ t) (take-take k 32 v h ∙ sym eu)
    ∙ sym (extended-is p u (omega (arith, ap length eu, length-take-le k v (omega arith))))

-- ---- solve, locator
pub locator-is : (r : ℕ) (s : List ℕ) {rows : List (List ℕ)} {v : List ℕ} → rows ≡ windows 0 (r - half r) s → v ≡ solve (half r + 1) rows → v ≡ locator r s
unfolding locator
locator-is r s er ev = ev ∙ ap (solve (half r + 1)) er

module _ (n : ℕ) (rows : List (List ℕ)) where
  pub solve-zero : n ≡ 0 → [] ≡ solve n rows
  unfolding solve
  solve-zero e = rw e

  module _ (z : n ≡ 0 → ⊥) where
    opened-solve : solve n rows
        ≡ pick (eqb (head (pivot rows)) 0) (1 ∷ []) (extended (normal (pivot rows)) (solve (n - 1) (map (reduced (normal (pivot rows))) rows)))
    unfolding solve
    opened-solve = let more : n ≡ suc (n - 1) = let h : 0 < n = pos_of_ne-zero z in omega arith in ap (λ (m : ℕ). solve m rows) more

    pub solve-free : None ≡ find begins rows → 1 ∷ [] ≡ solve n rows
    solve-free e = sym (rw (eq-eqb (head (pivot rows)) 0 (pivot-none rows e)) at opened-solve)

    module _ {row p : List ℕ} {reds : List (List ℕ)} (er : Some row ≡ find begins rows) (ep : p ≡ normal row) (ered : reds ≡ map (reduced p) rows) where
      pub solve-some : {u : List ℕ} → u ≡ solve (n - 1) reds → extended p u ≡ solve n rows
      solve-some eu =
          let f = pivot-some rows er in
          rw (eu, ered, ep, sym f.0)
          (sym (rw (ne_eqb (head (pivot rows)) 0 (λ y. f.1 (ap head (sym f.0) ∙ y))) at opened-solve))

      pub solve-none : [] ≡ solve (n - 1) reds → [] ≡ solve n rows
      unfolding extended
      solve-none eu = solve-some eu

extended-short : (p u : List ℕ) → length (extended p u) ≤ suc (length u)
unfolding extended
extended-short p [] = omega arith
extended-short p (x ∷ u) = omega arith

pub solve-short : (n : ℕ) (rows : List (List ℕ)) → length (solve n rows) ≤ n
unfolding solve
solve-short zero rows = omega arith
solve-short (suc n) rows =
    by (eqb (head (pivot rows)) 0) (normal (pivot rows)) (solve n (map (reduced (normal (pivot rows))) rows))
    (solve-short n (map (reduced (normal (pivot rows))) rows))
  where
    by : (t : Bool) (p u : List ℕ) → length u ≤ n → length (pick t (1 ∷ []) (extended p u)) ≤ suc n
    by true p u h = omega arith
    by false p u h = omega (arith, extended-short p u)

-- ---- a list from its end to its front
front : (v : List ℕ) (i : ℕ) → 0 < i → i ≤ length v → drop (i - 1) v ≡ get_or v (i - 1) 0 ∷ drop i v
front v i h k = let same : suc (i - 1) ≡ i = omega arith in drop-cons v (i - 1) 0 (omega arith) ∙ ap (λ (n : ℕ). get_or v (i - 1) 0 ∷ drop n v) same

-- ---- at_places: 64 values more
values-joined : (u : List ℕ) (j n m : ℕ) → values_from u j n ++ values_from u (j + n) m ≡ values_from u j (n + m)
unfolding values_from
values-joined u j zero m = ap₂ (λ (a b : ℕ). values_from u a b) (plus-zero j) (sym (nat-zero-add m))
values-joined u j (suc n) m =
    let later : j + suc n ≡ suc j + n = omega arith in
    let more : suc n + m ≡ suc (n + m) = omega arith in
    rw (later, more) (ap (λ (t : List ℕ). eval u (pow alpha j) ∷ t) (values-joined u (suc j) n m))

pub places-start : (u : List ℕ) → [] ≡ values_from u 0 0
unfolding values_from
places-start u = refl

module _ (u z : List ℕ) (k : ℕ) (l : length z ≡ 256) (inv : take (k * 64) z ≡ values_from u 0 (k * 64)) where
  pub places-next : k < 4 → {y : List ℕ} → y ≡ at_powers (k * 64) u
      → take ((k + 1) * 64) (put_mid (k * 64) (k * 64 + 64 - k * 64) z y) ≡ values_from u 0 ((k + 1) * 64)
  places-next h {y} e =
      let more : (k + 1) * 64 ≡ k * 64 + length y = omega (arith, ap length e, length-values u (k * 64) 64) in
      let next : k * 64 + 64 ≡ (k + 1) * 64 = omega arith in
      take-put_mid (k * 64) (k * 64 + 64 - k * 64) z y ((k + 1) * 64) more (omega arith) ∙ ap₂ ◌++◌ inv e
      ∙ ap (λ (n : ℕ). values_from u 0 (k * 64) ++ values_from u n 64) (sym (nat-zero-add (k * 64)))
      ∙ values-joined u 0 (k * 64) 64 ∙ ap (values_from u 0) next

  pub places-whole : k < 4 → (y : List ℕ) → length y ≡ 64 → length (put_mid (k * 64) (k * 64 + 64 - k * 64) z y) ≡ 256
  places-whole h y e =
      let n : k * 64 + 64 - k * 64 ≡ 64 = omega arith in
      let long : length y ≡ length (take (k * 64 + 64 - k * 64) (drop (k * 64) z)) =
      e ∙ sym (ap (λ (m : ℕ). length (take m (drop (k * 64) z))) n ∙ length-take-le 64 (drop (k * 64) z) (omega (arith, length-drop (k * 64) z))) in
      same_len_mid (k * 64) (k * 64 + 64 - k * 64) z y long ∙ l

  pub places-done : k ≡ 4 → z ≡ values_from u 0 256
  places-done h = let all : k * 64 ≡ 256 = omega arith in sym (take_all 256 z (omega arith)) ∙ rw all at inv

-- the highest coefficient first or last, the value is the same
low-turned : (v : List ℕ) (x : ℕ) → eval (reverse v) x ≡ low v x
unfolding eval horner low
low-turned [] x = refl
low-turned (c ∷ v) x =
    ap (λ (t : List ℕ). horner x 0 t) (reverse-cons c v) ∙ horner-append x 0 (reverse v) (c ∷ [])
    ∙ add_comm (mul (horner x 0 (reverse v)) x) c ∙ ap (add c) (mul_comm (horner x 0 (reverse v)) x ∙ ap (mul x) (low-turned v x))

pub value_there : (v : List ℕ) (k : ℕ) {x : ℕ} {z : List ℕ} → k < 256 → z ≡ values_from (reverse v) 0 256 → x ≡ pow alpha k → get_or z k 0 ≡ low v x
value_there v k h ez ex =
    ap (λ (t : List ℕ). get_or t k 0) ez ∙ values-at (reverse v) 0 256 k h ∙ ap (λ (n : ℕ). eval (reverse v) (pow alpha n)) (nat-zero-add k)
    ∙ low-turned v (pow alpha k) ∙ ap (low v) (sym ex)

-- ---- a list changed in place from its end: f is what is left of a tail
module _ (f : List ℕ → List ℕ) (v : List ℕ) where
  module _ (i : ℕ) (h : 0 < i) (k : i ≤ length v) (w : List ℕ) (inv : w ≡ take i v ++ f (drop i v)) where
    back_read : get_or w (i - 1) 0 ≡ get_or v (i - 1) 0
    back_read =
        ap (λ (t : List ℕ). get_or t (i - 1) 0) inv
        ∙ get_or-append (take i v) (f (drop i v)) 0 (i - 1) (omega (arith, length-take-le i v k))
        ∙ get_or-take i v (i - 1) 0 (omega arith)

    back-next : (b : ℕ) → b ∷ f (drop i v) ≡ f (drop (i - 1) v) → set w (i - 1) b ≡ take (i - 1) v ++ f (drop (i - 1) v)
    back-next b e =
        ap (λ (t : List ℕ). set t (i - 1) b)
        (inv ∙ ap (λ (t : List ℕ). t ++ f (drop i v)) (ap (λ (n : ℕ). take n v) same ∙ take-suc v (i - 1) 0 (omega arith))
        ∙ append_assoc (take (i - 1) v) (get_or v (i - 1) 0 ∷ []) (f (drop i v)))
        ∙ set_at (take (i - 1) v) (get_or v (i - 1) 0) (f (drop i v)) b (i - 1) (length-take-le (i - 1) v (omega arith))
        ∙ ap (λ (t : List ℕ). take (i - 1) v ++ t) e
      where
        same : i ≡ suc (i - 1)
        same = omega arith

  back_start : f [] ≡ [] → v ≡ take (length v) v ++ f (drop (length v) v)
  back_start e = sym (ap₂ (λ (s t : List ℕ). s ++ t) (take-length v) (ap f (drop-length v) ∙ e) ∙ append-nil v)

  pub back_done : (i : ℕ) (w : List ℕ) → i ≤ 0 → w ≡ take i v ++ f (drop i v) → w ≡ f v
  back_done zero w h inv = inv
  back_done (suc i) w h inv = absurd (omega arith)

-- ---- add: the point of a place is alpha to the number of places behind it
module _ (v s w₀ : List ℕ) where
  pub add_start : w₀ ≡ take (length w₀) w₀ ++ onto (errors v s (length (drop (length w₀) w₀))) (drop (length w₀) w₀)
  unfolding errors onto
  add_start = back_start (λ t. onto (errors v s (length t)) t) w₀ refl

  pub add-next : (k i : ℕ) (w : List ℕ) → 0 < i → w ≡ take i w₀ ++ onto (errors v s (length (drop i w₀))) (drop i w₀) → {x e b : ℕ} → k + i ≡ length w₀
      → x ≡ pow alpha k → e ≡ error_at v s x
      → b ≡ add e (get_or w (i - 1) 0) → set w (i - 1) b ≡ take (i - 1) w₀ ++ onto (errors v s (length (drop (i - 1) w₀))) (drop (i - 1) w₀)
  unfolding errors onto
  add-next k i w h inv {x} {e} {b} at ex ee eb =
      back-next (λ t. onto (errors v s (length t)) t) w₀ i h within w inv b
      (ap (λ (t : ℕ). t ∷ onto (errors v s (length (drop i w₀))) (drop i w₀))
      (eb ∙ ap₂ add (ee ∙ ap (error_at v s) (ex ∙ ap (pow alpha) behind)) (back_read (λ t. onto (errors v s (length t)) t) w₀ i h within w inv))
      ∙ ap (λ (t : List ℕ). onto (errors v s (length t)) t) (sym (front w₀ i h within)))
    where
      within : i ≤ length w₀
      within = omega arith

      behind : k ≡ length (drop i w₀)
      behind = omega (arith, length-drop i w₀)

pub point-start : (n : ℕ) → 1 ≡ pow alpha (n - n)
point-start n = let none : n - n ≡ 0 = omega arith in sym (ap (pow alpha) none ∙ pow-zero alpha)

pub point-next : (k m : ℕ) → m ≡ k + 1 → {x y : ℕ} → x ≡ pow alpha k → y ≡ mul x alpha → y ≡ pow alpha m
point-next k m em {x} ex ey = ey ∙ mul_comm x alpha ∙ ap (mul alpha) ex ∙ sym (ap (pow alpha) (em ∙ add-one k) ∙ pow-suc alpha k)

-- ---- error_at: the three sums of the coefficients behind place i
abbrev pub Summed : List ℕ → List ℕ → ℕ → ℕ → ℕ → ℕ → ℕ → Type 0
Summed v s x i a b sum = (a ≡ low (drop i v) x) × (b ≡ low (tails (drop i v) x) x) × (sum ≡ dot (tails (drop i v) x) (drop (i - 1) s))

quotient : (v : List ℕ) (x : ℕ) → 0 < length v → drop 1 (tails v x) ≡ tails (drop 1 v) x
unfolding tails
quotient [] x p = absurd (omega arith)
quotient (c ∷ v) x p = refl

module _ (v s : List ℕ) (x : ℕ) where
  pub error-none : {l : ℕ} → l ≡ low v x → (l ≡ 0 → ⊥) → 0 ≡ error_at v s x
  unfolding error_at
  error-none e n = rw (ne_eqb (low v x) 0 (λ z. n (e ∙ z)))

  pub error-start : Summed v s x (length v) 0 0 0
  unfolding low tails dot
  error-start = rw (drop-length v) (refl, refl, refl)

  pub error-next : (i : ℕ) {a b sum : ℕ} → 1 < i → i ≤ length v → length v ≤ length s → Summed v s x i a b sum → {t a' t' b' u sum' : ℕ} → t ≡ mul x a
      → a' ≡ add (get_or v (i - 1) 0) t
      → t' ≡ mul x b → b' ≡ add a' t' → u ≡ mul a' (get_or s (i - 1 - 1) 0) → sum' ≡ add u sum → Summed v s x (i - 1) a' b' sum'
  unfolding low tails dot
  error-next i h k l inv {t} {a'} {t'} {b'} {u} {sum'} et ea et' eb eu es = rw (front v i (omega arith) k, front s (i - 1) (omega arith) (omega arith))
      (value, slope, product)
    where
      value : a' ≡ add (get_or v (i - 1) 0) (mul x (low (drop i v) x))
      value = ea ∙ ap (add (get_or v (i - 1) 0)) (et ∙ ap (mul x) inv.0)

      slope : b' ≡ add (add (get_or v (i - 1) 0) (mul x (low (drop i v) x))) (mul x (low (tails (drop i v) x) x))
      slope = eb ∙ ap₂ add value (et' ∙ ap (mul x) inv.1)

      product : sum' ≡ add (mul (add (get_or v (i - 1) 0) (mul x (low (drop i v) x))) (get_or s (i - 1 - 1) 0)) (dot (tails (drop i v) x) (drop (i - 1) s))
      product = es ∙ ap₂ add (eu ∙ ap (λ (y : ℕ). mul y (get_or s (i - 1 - 1) 0)) value) inv.2

  pub error-done : (i : ℕ) {l a b sum : ℕ} → 0 < i → i ≤ 1 → 0 < length v → l ≡ low v x → l ≡ 0 → Summed v s x i a b sum → {slope inv e : ℕ} → slope ≡ mul x b
      → inv ≡ inverse slope
      → e ≡ mul sum inv → e ≡ error_at v s x
  unfolding error_at
  error-done i h g pos el z inv ep ei ee =
      let one : i ≡ 1 = omega arith in
      rw (eq-eqb (low v x) 0 (sym el ∙ z), quotient v x pos)
      (ee ∙ ap₂ mul (rw one at inv.2) (ei ∙ ap inverse (ep ∙ ap (mul x) (rw one at inv.1))))

-- ---- amend
errors-none : (s w : List ℕ) (n : ℕ) → onto (errors [] s n) w ≡ w
unfolding errors onto error_at low tails dot
errors-none s [] zero = refl
errors-none s [] (suc n) = refl
errors-none s (x ∷ w) zero = refl
errors-none s (x ∷ w) (suc n) = ap₂ ◌∷◌ (ap (λ (t : ℕ). add t x) (zero-mul _) ∙ zero-add x) (errors-none s w n)

module _ (r : ℕ) (w : List ℕ) {s v : List ℕ} (es : s ≡ sums r w) (ev : v ≡ locator r s) where
  pub amend-none : v ≡ [] → w ≡ amended r w
  unfolding amended
  amend-none z = sym (rw (sym es, sym ev, z) (errors-none s w (length w)))

  pub amend-some : {o : List ℕ} → o ≡ onto (errors v s (length w)) w → o ≡ amended r w
  unfolding amended
  amend-some e = rw (sym es, sym ev) e

-- ---- mend
module _ (r : ℕ) (w left : List ℕ) (el : left ≡ amended r w) where
  pub mend-far : {n : ℕ} → n ≡ distance w left → half r < n → (Beyond, w) ≡ mended r w
  unfolding mended
  mend-far en h = rw (sym el, lt-ltb (half r) (distance w left) (rw en at h))

  module _ {n : ℕ} (en : n ≡ distance w left) (h : n ≤ half r) {c : Checked} (ec : c ≡ checked r left) where
    near : settled c w left ≡ mended r w
    unfolding mended
    near = rw (sym el, le-ltb (half r) (distance w left) (rw en at h), ec)

    pub mend-clean : {o : List ℕ} → c ≡ check.Clean → o ≡ left → (Repaired n, o) ≡ mended r w
    mend-clean {o} e eo = ap₂ (λ (k : ℕ) (t : List ℕ). (Repaired k, t)) en eo ∙ rw e at near

    pub mend-damaged : c ≡ check.Damaged → (Beyond, w) ≡ mended r w
    mend-damaged e = rw e at near

    pub mend-refused : (m : ℕ) → c ≡ check.Refused m → (Beyond, w) ≡ mended r w
    mend-refused m e = rw e at near

-- ---- repair
pub repair-damaged : (r : ℕ) (w : List ℕ) → Bytes w → {c : Checked} → c ≡ checked r w → c ≡ check.Damaged → (a : Mended) (o : List ℕ) → (a, o) ≡ mended r w
    → Promised r w a o
repair-damaged r w b ec e a o em = subst (λ (m : Mended × List ℕ). Promised r w m.0 m.1) (sym em) (mended-promised r w b (sym ec ∙ e))
