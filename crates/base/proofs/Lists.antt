-- What a loop over a list has left from a place on.
-- next, over             the member at the place, and what is left behind it; nothing, at the end
-- part-next, part-over   the same of the first n members
-- part-set               a store before the place leaves what is left
-- drop-take              of the first m members, those from a place on
-- drop-same              of members that are all the same
-- map_same               .. and what a function makes of them
use mathlib.Core.Path.{◌≡◌, refl, sym, ap}
use mathlib.Core.List.{List, [], ◌∷◌, map}
use Prim.Native.Nat.{ℕ, zero, suc, ◌+◌, ◌-◌, ◌<◌, ◌≤◌}
use native.Mathlib.Nat.{sub-zero, zero-sub, suc-sub-suc}
use native.Mathlib.Numerals.{add-one}
use native.Mathlib.Omega.{arith}
use lib.ListN.{length, take, drop, get_or, set, replicate, drop_of_length-le, length-take}
use lib.Seq.{drop-cons, slice-cons, take-set-lt, drop-set-lt, take-nil}

pub next : (l : List ℕ) (i : ℕ) → i < length l → drop i l ≡ get_or l i 0 ∷ drop (i + 1) l
next l i h = rw (add-one, drop-cons l i 0)

pub over : (l : List ℕ) (i : ℕ) → length l ≤ i → drop i l ≡ []
over l i h = drop_of_length-le l h

pub part-next : (l : List ℕ) (i n : ℕ) → i < n → n ≤ length l → drop i (take n l) ≡ get_or l i 0 ∷ drop (i + 1) (take n l)
part-next l i n h k = rw add-one (slice-cons i n l 0 h k)

pub part-over : (l : List ℕ) (i n : ℕ) → n ≤ i → drop i (take n l) ≡ []
part-over l i n h = drop_of_length-le (take n l) {i = i} (simp length-take (omega arith))

pub part-set : (l : List ℕ) (i n j b : ℕ) → j < i → j < n → drop i (take n (set l j b)) ≡ drop i (take n l)
part-set l i n j b h k = rw (take-set-lt n l j b k) (drop-set-lt i (take n l) j b h)

pub drop-take : (n m : ℕ) (l : List ℕ) → drop n (take m l) ≡ take (m - n) (drop n l)
drop-take zero m l = simp sub-zero
drop-take (suc n) zero l = let e : 0 - suc n ≡ 0 = omega arith in ap (λ (k : ℕ). take k (drop (suc n) l)) (sym e)
drop-take (suc n) (suc m) [] = sym (take-nil (suc m - suc n))
drop-take (suc n) (suc m) (b ∷ l) = simp suc-sub-suc (drop-take n m l)

pub drop-same : {A : Type 0} (x : A) (n k : ℕ) → drop n (replicate k x) ≡ replicate (k - n) x
drop-same x zero k = simp sub-zero
drop-same x (suc n) zero = simp zero-sub
drop-same x (suc n) (suc k) = simp suc-sub-suc (drop-same x n k)

pub map_same : {A B : Type 0} (f : A → B) (n : ℕ) (x : A) → map f (replicate n x) ≡ replicate n (f x)
map_same f zero x = refl
map_same f (suc n) x = ap (λ l. f x ∷ l) (map_same f n x)
