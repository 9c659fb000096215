-- Of a damaged word: where a clean word is near, it is what comes of the locator.
-- is-near            a clean word that is near is what comes of the locator
-- settled-promised   what is answered of what comes of the locator, where it is near, and left, is as promised
use mathlib.Core.Path.{◌≡◌, refl, sym, ap, ap₂, ◌∙◌}
use mathlib.Core.Bool.{Bool, true, false}
use mathlib.Core.List.{List, [], ◌∷◌, ◌++◌}
use Prim.Native.Nat.{ℕ, zero, suc, ◌+◌, ◌-◌, ◌≤◌, ◌<◌}
use native.Mathlib.Nat.{pos_of_ne-zero}
use native.Mathlib.Omega.{arith}
use lib.Dec.{eqb}
use lib.ListN.{length, drop, replicate, length-append, length-replicate, length-drop}
use lib.Seq.{length-take-le}
use Rattle.base.specs.Choice.{pick}
use Rattle.base.specs.Bytes.{IsByte, Each, Bytes}
use Rattle.base.proofs.Bytes.{each_append, each_take, each-drop, each-replicate}
use Rattle.field.specs.Field.{alpha, add, mul, pow, inverse}
use Rattle.field.proofs.Sum.{add-zero}
use Rattle.field.proofs.Product.{mul-lt}
use Rattle.word_spec.specs.Word.{eval, values_from, onto, clean}
use Rattle.parity.specs.Calls.{checked, root_limit, word_bytes}
use Rattle.parity.specs.Checked.{Checked}
use Rattle.parity.specs.Checked as check
use Rattle.word_spec.proofs.Sums.{length-onto, bytes-onto, onto-comm, onto-twice}
use Rattle.word_spec.proofs.Values.{eval_add}
use Rattle.word_spec.proofs.Roots.{length-values, bytes-values}
use Rattle.word_spec.proofs.Clean.{clean-roots}
use Rattle.repair.specs.Promise.{distance, half, Near, Promised}
use Rattle.repair.specs.Way.{low, tails, dot, sums, windows, error_at, errors, locator, amended, settled}
use Rattle.repair.proofs.Few.{weight}
use Rattle.repair.proofs.Apart.{distance-zero, distance-weight, checked-clean, checked-damaged}
use Rattle.repair.proofs.Eliminate.{Row, Answers, solved}
use Rattle.repair.proofs.Exists.{not_none}
use Rattle.repair.proofs.Values.{found-errors}

-- ---- the equations are rows of 33 bytes
bytes-sums : (r : ℕ) (w : List ℕ) → Bytes w → Bytes (sums r w)
unfolding sums
bytes-sums r w b = each_append IsByte (values_from w 1 r) (replicate (root_limit - r) 0) (bytes-values w b 1 r)
    (each-replicate IsByte (root_limit - r) 0 (omega arith))

length-sums : (r : ℕ) (w : List ℕ) → r ≤ root_limit → length (sums r w) ≡ root_limit
unfolding sums
length-sums r w h = length-append (values_from w 1 r) _ ∙ omega (arith, length-values w 1 r, length-replicate {A = ℕ} (root_limit - r) 0)

rows-windows : (s : List ℕ) → length s ≡ root_limit → Bytes s → (m i : ℕ) → i + m ≤ 32 → Each Row (windows i m s)
unfolding windows
rows-windows s l b zero i h = tt
rows-windows s l b (suc m) i h = (
  (length-take-le 33 (drop i s) (omega (arith, length-drop i s)), each_take IsByte 33 (drop i s) (each-drop IsByte i s b)),
  rows-windows s l b m (suc i) (omega arith),
)

-- ---- what is added is bytes
error-by : (t : Bool) (x y : ℕ) → pick t (mul x y) 0 < 256
error-by true x y = mul-lt x y
error-by false x y = omega arith

error-lt : (v s : List ℕ) (x : ℕ) → error_at v s x < 256
unfolding error_at
error-lt v s x = error-by (eqb (low v x) 0) (dot (drop 1 (tails v x)) s) (inverse (mul x (low (drop 1 (tails v x)) x)))

bytes-errors : (v s : List ℕ) (n : ℕ) → Bytes (errors v s n)
unfolding errors
bytes-errors v s zero = tt
bytes-errors v s (suc n) = (error-lt v s (pow alpha n), bytes-errors v s n)

-- ---- the sums of a word are those of what was altered in it
same-values : (w e : List ℕ) (n j : ℕ) → ((k : ℕ) → j ≤ k → k < j + n → eval w (pow alpha k) ≡ eval e (pow alpha k)) → values_from w j n ≡ values_from e j n
unfolding values_from
same-values w e zero j h = refl
same-values w e (suc n) j h = ap₂ ◌∷◌ (h j (omega arith) (omega arith)) (same-values w e n (suc j) (λ k p q. h k (omega arith) (omega arith)))

module _ (r : ℕ) (w : List ℕ) (b : Bytes w) (l : length w ≡ word_bytes) (v : List ℕ) (near : Near r w v) where
  fine : (r ≤ root_limit) × (length v ≡ word_bytes) × (clean r v ≡ true)
  fine = checked-clean r v near.0.1

  e : List ℕ
  e = onto w v

  same_length : length w ≡ length v
  same_length = l ∙ sym fine.1

  bytes-e : Bytes e
  unfolding e
  bytes-e = bytes-onto w v b near.0.0

  length-e : length e ≡ word_bytes
  unfolding e
  length-e = length-onto w v ∙ fine.1

  light : weight e ≤ half r
  unfolding e
  light = omega (arith, distance-weight w v same_length, near.1)

  same-sums : sums r w ≡ sums r e
  unfolding sums e
  same-sums =
      ap (λ (s : List ℕ). s ++ replicate (root_limit - r) 0)
      (same-values w (onto w v) r 1
      (λ k p q. sym (eval_add (pow alpha k) w v same_length ∙ ap (add (eval w (pow alpha k))) (clean-roots r v fine.2 k p (omega arith)) ∙ add-zero _)))

  onto-back : onto e w ≡ v
  unfolding e
  onto-back = onto-comm (onto w v) w (length-onto w v ∙ sym same_length) ∙ onto-twice w v

  rows : Each Row (windows 0 (r - half r) (sums r e))
  rows = rows-windows (sums r e) (length-sums r e fine.0) (bytes-sums r e bytes-e) (r - half r) 0 (omega (arith, fine.0))

  found : (u : List ℕ) → Answers (half r + 1) (windows 0 (r - half r) (sums r e)) u → e ≡ errors u (sums r e) word_bytes
  found [] a =
      absurd (not_none e bytes-e (omega (arith, length-e)) r (r - half r) (half r + 1) (omega arith) (omega (arith, fine.0)) (omega (arith, light)) a)
  found (x ∷ u) a =
      found-errors e bytes-e (omega (arith, length-e)) r (r - half r) (half r + 1) (omega arith) (omega (arith, fine.0)) (omega (arith, light)) (x ∷ u) a.0
      a.1
      ∙ ap (errors (x ∷ u) (sums r e)) length-e

  near-amended : amended r w ≡ v
  unfolding amended locator
  near-amended =
      ap₂ (λ (s : List ℕ) (n : ℕ). onto (errors (locator r s) s n) w) same-sums l
      ∙ ap (λ (t : List ℕ). onto t w) (sym (found (locator r (sums r e)) (solved (half r + 1) (windows 0 (r - half r) (sums r e)) rows)))
      ∙ onto-back

-- ---- a damaged word
module _ (r : ℕ) (w : List ℕ) (b : Bytes w) (harmed : checked r w ≡ check.Damaged) where
  l : length w ≡ word_bytes
  l = (checked-damaged r w harmed).1

  abbrev out : List ℕ
  out = amended r w

  bytes-out : Bytes out
  unfolding amended
  bytes-out = bytes-onto _ w (bytes-errors (locator r (sums r w)) (sums r w) (length w)) b

  length-out : length out ≡ length w
  unfolding amended
  length-out = length-onto _ w

  pub is-near : (v : List ℕ) → Near r w v → out ≡ v
  is-near v near = near-amended r w b l v near

  not-clean : checked r out ≡ check.Clean → 0 < distance w out
  not-clean c =
      pos_of_ne-zero λ z.
      let same : w ≡ out = distance-zero w out (sym length-out) z in
      let z : check.Damaged ≡ check.Clean = sym harmed ∙ ap (checked r) same ∙ c in
      let no : ◌≡◌ {A = ℕ} 0 1 = cc in
      omega arith

  pub settled-promised : (c : Checked) → checked r out ≡ c → distance w out ≤ half r → Promised r w (settled c w out).0 (settled c w out).1
  settled-promised check.Clean q k = (harmed, not-clean q, k, refl, ((bytes-out, q), k), λ v near. sym (is-near v near))
  settled-promised check.Damaged q k = (harmed, λ v near. none v near, refl)
    where
      none : (v : List ℕ) → Near r w v → ⊥
      none v near = let z : check.Damaged ≡ check.Clean = sym q ∙ ap (checked r) (is-near v near) ∙ near.0.1 in let no : ◌≡◌ {A = ℕ} 0 1 = cc in omega arith
  settled-promised (check.Refused n) q k = (harmed, λ v near. none v near, refl)
    where
      none : (v : List ℕ) → Near r w v → ⊥
      none v near = let z : check.Refused n ≡ check.Clean = sym q ∙ ap (checked r) (is-near v near) ∙ near.0.1 in let no : ◌≡◌ {A = ℕ} 0 1 = cc in omega arith
