-- Elimination finds a least solution exactly where there is a solution but zero.
-- None, Least      no solution of at most n numbers but zero; a solution (kills) that is not zero (nonzero), and none is shorter
-- Row              a row: 33 bytes
-- Answers, solved  what `solve` gives
use mathlib.Core.Path.{◌≡◌, refl, sym, ap, ap₂, ◌∙◌}
use mathlib.Core.Bool.{Bool, true, false}
use mathlib.Core.List.{List, [], ◌∷◌, ◌++◌, map}
use Prim.Native.Nat.{ℕ, zero, suc, ◌≤◌, ◌<◌}
use native.Mathlib.Nat.{pos_of_ne-zero}
use native.Mathlib.Omega.{arith}
use lib.Dec.{eqb}
use borrow.Author.Tests.{eqb-true, eqb-false}
use lib.ListN.{length, replicate, length-append, length-replicate}
use Rattle.base.specs.Choice.{pick}
use Rattle.base.specs.Bytes.{IsByte, Each, Bytes}
use Rattle.base.proofs.Bytes.{each_append, each-replicate}
use Rattle.field.specs.Field.{add, mul, inverse}
use Rattle.field.proofs.Sum.{add-self, zero-add, add-eq, add-byte}
use Rattle.field.proofs.Product.{ring, mul-zero, mul-lt, one-mul}
use Rattle.field.proofs.Powers.{mul-inverse}
use Rattle.word_spec.specs.Word.{scale, onto}
use Rattle.word_spec.proofs.Sums.{length-scale, length-onto, bytes-scale, bytes-onto}
use Rattle.repair.specs.Way.{dot, head, shift, pivot, normal, reduced, extended, solve}
use Rattle.repair.proofs.Weigh.{add_step}
use Rattle.repair.proofs.Locate.{Kills, AllZero}

abbrev pub None : ℕ → List (List ℕ) → Type 0
None n rows = (u : List ℕ) → length u ≤ n → Bytes u → Kills rows u → AllZero u

pub record Least (rows : List (List ℕ)) (v : List ℕ) : Type 0 where
  pub bytes : Bytes v
  pub kills : Kills rows v
  pub nonzero : AllZero v → ⊥
  pub least : (u : List ℕ) → length u < length v → Bytes u → Kills rows u → AllZero u

abbrev pub Row : List ℕ → Type 0
Row row = (length row ≡ 33) × Bytes row

-- what is found: [] stands for none
abbrev pub Answers : ℕ → List (List ℕ) → List ℕ → Type 0
Answers n rows [] = None n rows
Answers n rows (x ∷ v) = (length (x ∷ v) ≤ n) × Least rows (x ∷ v)

-- ---- products of rows
dot-lt : (u row : List ℕ) → dot u row < 256
unfolding dot
dot-lt [] row = omega arith
dot-lt (x ∷ u) [] = omega arith
dot-lt (x ∷ u) (y ∷ ys) = add-byte _ _ (mul-lt x y) (dot-lt u ys)

dot-nil : (u : List ℕ) → dot u [] ≡ 0
unfolding dot
dot-nil [] = refl
dot-nil (x ∷ u) = refl

dot-zero : (u row : List ℕ) → AllZero u → dot u row ≡ 0
unfolding dot
dot-zero [] row z = refl
dot-zero (x ∷ u) [] z = refl
dot-zero (x ∷ u) (y ∷ ys) z = ap₂ (λ (p q : ℕ). add (mul p y) q) z.0 (dot-zero u ys z.1) ∙ simp ring

dot-zeros : (n : ℕ) (u : List ℕ) → dot u (replicate n 0) ≡ 0
unfolding dot
dot-zeros n [] = refl
dot-zeros zero (x ∷ u) = refl
dot-zeros (suc n) (x ∷ u) = ap₂ add (mul-zero x) (dot-zeros n u) ∙ add-self 0

dot-end : (u xs : List ℕ) → dot u (xs ++ 0 ∷ []) ≡ dot u xs
unfolding dot
dot-end [] xs = refl
dot-end (x ∷ u) [] = ap₂ add (mul-zero x) (dot-nil u) ∙ add-self 0
dot-end (x ∷ u) (y ∷ ys) = ap (add (mul x y)) (dot-end u ys)

dot-shift : (x : ℕ) (u row : List ℕ) → dot (x ∷ u) row ≡ add (mul x (head row)) (dot u (shift row))
unfolding dot
dot-shift x u [] = sym (ap₂ add (mul-zero x) (dot-end u [] ∙ dot-nil u) ∙ add-self 0)
dot-shift x u (y ∷ ys) = ap (add (mul x y)) (sym (dot-end u ys))

scale-step : (k x y d : ℕ) → add (mul x (mul k y)) (mul k d) ≡ mul k (add (mul x y) d)
scale-step k x y d = simp ring

dot-scale : (k : ℕ) (u xs : List ℕ) → dot u (scale k xs) ≡ mul k (dot u xs)
unfolding dot scale
dot-scale k [] xs = sym (mul-zero k)
dot-scale k (x ∷ u) [] = sym (mul-zero k)
dot-scale k (x ∷ u) (y ∷ ys) = ap (add (mul x (mul k y))) (dot-scale k u ys) ∙ scale-step k x y (dot u ys)

dot-onto : (u xs ys : List ℕ) → length xs ≤ length ys → dot u (onto xs ys) ≡ add (dot u xs) (dot u ys)
unfolding dot onto
dot-onto [] xs ys h = sym (add-self 0)
dot-onto (x ∷ u) [] ys h = sym (zero-add _)
dot-onto (x ∷ u) (y ∷ ys) [] h = absurd (omega arith)
dot-onto (x ∷ u) (y ∷ ys) (z ∷ zs) h = ap (add (mul x (add y z))) (dot-onto u ys zs (omega arith)) ∙ add_step x y z (dot u ys) (dot u zs)

-- ---- a reduced row: with x for the first unknown, the row is its first coefficient times (x + pivot), and the reduced row
reduce-step : (x h d s : ℕ) → add (mul x h) s ≡ add (mul h (add x d)) (add (mul h d) s)
reduce-step x h d s = simp ring

reduces : (p row : List ℕ) → length p ≤ length (shift row) → (x : ℕ) (u : List ℕ)
    → dot (x ∷ u) row ≡ add (mul (head row) (add x (dot u p))) (dot u (reduced p row))
unfolding reduced
reduces p row l x u =
    dot-shift x u row ∙ reduce-step x (head row) (dot u p) (dot u (shift row))
    ∙ ap (add (mul (head row) (add x (dot u p))))
    (sym (dot-onto u (scale (head row) p) (shift row) (omega (arith, length-scale (head row) p))
    ∙ ap (λ (t : ℕ). add t (dot u (shift row))) (dot-scale (head row) u p)))

length_shift : (row : List ℕ) → length row ≡ 33 → length (shift row) ≡ 33
length_shift [] l = absurd (omega arith)
length_shift (x ∷ xs) l = length-append xs (0 ∷ []) ∙ omega arith

row-shift : (row : List ℕ) → Row row → Row (shift row)
row-shift [] h = absurd (omega arith)
row-shift (x ∷ xs) h = (length_shift (x ∷ xs) h.0, each_append IsByte xs (0 ∷ []) h.1.1 (omega arith, tt))

row-normal : (row : List ℕ) → Row row → Row (normal row)
unfolding normal
row-normal row h = (length-scale _ (shift row) ∙ length_shift row h.0, bytes-scale _ (shift row))

row-reduced : (p row : List ℕ) → Row row → Row (reduced p row)
unfolding reduced
row-reduced p row h = (length-onto _ (shift row) ∙ length_shift row h.0, bytes-onto _ (shift row) (bytes-scale _ p) (row-shift row h).1)

rows-reduced : (p : List ℕ) (rows : List (List ℕ)) → Each Row rows → Each Row (map (reduced p) rows)
rows-reduced p [] h = tt
rows-reduced p (row ∷ rows) h = (row-reduced p row h.0, rows-reduced p rows h.1)

-- ---- one column, with the pivot p
with-x : (h x d r : ℕ) → x ≡ d → add (mul h (add x d)) r ≡ r
with-x h x d r e = rw (e, add-self, mul-zero, zero-add)

module _ (p : List ℕ) (l : length p ≡ 33) where
  kills-row : (row : List ℕ) → Row row → (x : ℕ) (u : List ℕ) → x ≡ dot u p → dot (x ∷ u) row ≡ dot u (reduced p row)
  kills-row row h x u e = reduces p row (omega (arith, length_shift row h.0)) x u ∙ with-x (head row) x (dot u p) (dot u (reduced p row)) e

  kills-more : (rows : List (List ℕ)) → Each Row rows → (x : ℕ) (u : List ℕ) → x ≡ dot u p → Kills (map (reduced p) rows) u → Kills rows (x ∷ u)
  kills-more [] h x u e k = tt
  kills-more (row ∷ rows) h x u e k = (kills-row row h.0 x u e ∙ k.0, kills-more rows h.1 x u e k.1)

  kills-less : (rows : List (List ℕ)) → Each Row rows → (x : ℕ) (u : List ℕ) → x ≡ dot u p → Kills rows (x ∷ u) → Kills (map (reduced p) rows) u
  kills-less [] h x u e k = tt
  kills-less (row ∷ rows) h x u e k = (sym (kills-row row h.0 x u e) ∙ k.0, kills-less rows h.1 x u e k.1)

  -- the pivot fixes the first unknown of every solution
  module _ (rows : List (List ℕ)) (h : Each Row rows) (fixes : (x : ℕ) (u : List ℕ) → x < 256 → Kills rows (x ∷ u) → x ≡ dot u p) where
    smaller : (x : ℕ) (u : List ℕ) → Bytes (x ∷ u) → Kills rows (x ∷ u) → (Kills (map (reduced p) rows) u → AllZero u) → AllZero (x ∷ u)
    smaller x u b k f =
        let e : x ≡ dot u p = fixes x u b.0 k in
        let z : AllZero u = f (kills-less rows h x u e k) in
        (e ∙ dot-zero u p z, z)

    none-step : (n : ℕ) → None n (map (reduced p) rows) → None (suc n) rows
    none-step n f [] i b k = tt
    none-step n f (x ∷ u) i b k = smaller x u b k (f u (omega arith) b.1)

    least_step : (v : List ℕ) → Least (map (reduced p) rows) v → Least rows (dot v p ∷ v)
    least_step v s =
        record { bytes = (dot-lt v p, s.bytes); kills = kills-more rows h (dot v p) v refl s.kills; nonzero = λ z. s.nonzero z.1; least = smallest }
      where
        smallest : (u : List ℕ) → length u < length (dot v p ∷ v) → Bytes u → Kills rows u → AllZero u
        smallest [] i b k = tt
        smallest (x ∷ u) i b k = smaller x u b k (s.least u (omega arith) b.1)

    behind-step : (n : ℕ) (v : List ℕ) → Answers n (map (reduced p) rows) v → Answers (suc n) rows (extended p v)
    unfolding extended
    behind-step n [] a = none-step n a
    behind-step n (x ∷ v) a = (omega (arith, a.0), least_step (x ∷ v) a.1)

-- ---- no pivot: the first unknown is free
first-row : (row : List ℕ) → head row ≡ 0 → dot (1 ∷ []) row ≡ 0
unfolding dot
first-row [] h = refl
first-row (y ∷ ys) h = rw (h, mul-zero) (add-self 0)

free-kills : (rows : List (List ℕ)) → Each (λ row. head row ≡ 0) rows → Kills rows (1 ∷ [])
free-kills [] h = tt
free-kills (row ∷ rows) h = (first-row row h.0, free-kills rows h.1)

least-free : (rows : List (List ℕ)) → Each (λ row. head row ≡ 0) rows → Least rows (1 ∷ [])
least-free rows h = record { bytes = (omega arith, tt); kills = free-kills rows h; nonzero = one-not; least = none }
  where
    one-not : AllZero (1 ∷ []) → ⊥
    one-not z = let y : ◌≡◌ {A = ℕ} 1 0 = z.0 in omega arith

    none : (u : List ℕ) → length u < 1 → Bytes u → Kills rows u → AllZero u
    none [] l b k = tt
    none (x ∷ u) l b k = absurd (omega arith)

none-zero : (rows : List (List ℕ)) → None 0 rows
none-zero rows [] l b k = tt
none-zero rows (x ∷ u) l b k = absurd (omega arith)

-- ---- the pivot is a row whose first coefficient is zero only where all are, and a solution solves it
abbrev Pivot : List (List ℕ) → List ℕ → Type 0
Pivot rows p = Row p × (head p ≡ 0 → Each (λ row. head row ≡ 0) rows) × ((u : List ℕ) → Kills rows u → dot u p ≡ 0)

pivot-by : (t : Bool) (row : List ℕ) (rows : List (List ℕ)) (p : List ℕ) → eqb (head row) 0 ≡ t → Row row → Pivot rows p → Pivot (row ∷ rows) (pick t p row)
pivot-by true row rows p q h a = (a.0, λ z. (eqb-true _ _ q, a.1 z), λ u k. a.2 u k.1)
pivot-by false row rows p q h a = (h, λ z. absurd (eqb-false _ _ q z), λ u k. k.0)

pivot-is : (rows : List (List ℕ)) → Each Row rows → Pivot rows (pivot rows)
unfolding pivot
pivot-is [] h = ((length-replicate {A = ℕ} 33 0, each-replicate IsByte 33 0 (omega arith)), λ z. tt, λ u k. dot-zeros 33 u)
pivot-is (row ∷ rows) h = pivot-by (eqb (head row) 0) row rows (pivot rows) refl h.0 (pivot-is rows h.1)

fix-step : (i h x s : ℕ) → mul h i ≡ 1 → x < 256 → add (mul x h) s ≡ 0 → x ≡ mul i s
fix-step i h x s q l e = sym (one-mul x l) ∙ ap (λ (t : ℕ). mul t x) (sym q) ∙ turn h i x ∙ ap (mul i) (add-eq (mul x h) s e)
  where
    turn : (h i x : ℕ) → mul (mul h i) x ≡ mul i (mul x h)
    turn h i x = simp ring

head_byte : (row : List ℕ) → Bytes row → head row < 256
head_byte [] b = omega arith
head_byte (x ∷ xs) b = b.0

pivot-fixes : (row : List ℕ) → Row row → (head row ≡ 0 → ⊥) → (x : ℕ) (u : List ℕ) → x < 256 → dot (x ∷ u) row ≡ 0 → x ≡ dot u (normal row)
unfolding normal
pivot-fixes row h n x u l e =
    fix-step (inverse (head row)) (head row) x (dot u (shift row)) (mul-inverse (head row) (pos_of_ne-zero n) (head_byte row h.1)) l
    (sym (dot-shift x u row) ∙ e)
    ∙ sym (dot-scale (inverse (head row)) u (shift row))

-- ---- the recursion
solved-by : (t : Bool) (n : ℕ) (rows : List (List ℕ)) (v : List ℕ) → Each Row rows → eqb (head (pivot rows)) 0 ≡ t
    → Answers n (map (reduced (normal (pivot rows))) rows) v → Answers (suc n) rows (pick t (1 ∷ []) (extended (normal (pivot rows)) v))
solved-by true n rows v h q a = (omega arith, least-free rows ((pivot-is rows h).1 (eqb-true _ _ q)))
solved-by false n rows v h q a =
    let p = pivot-is rows h in
    behind-step (normal (pivot rows)) (row-normal (pivot rows) p.0).0 rows h
    (λ x u l k. pivot-fixes (pivot rows) p.0 (eqb-false _ _ q) x u l (p.2 (x ∷ u) k)) n v a

pub solved : (n : ℕ) (rows : List (List ℕ)) → Each Row rows → Answers n rows (solve n rows)
unfolding solve
solved zero rows h = none-zero rows
solved (suc n) rows h =
    solved-by (eqb (head (pivot rows)) 0) n rows (solve n (map (reduced (normal (pivot rows))) rows)) h refl
    (solved n (map (reduced (normal (pivot rows))) rows) (rows-reduced (normal (pivot rows)) rows h))
