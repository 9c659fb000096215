-- Loops that change a list in place, member by member from the front, said once for any such change. The invariant says what
-- is left to do: the members passed, and the change of the rest, are the change of the whole.
-- put    member i has become v, and f changes what is behind it
-- next   a turn of the loop, for a change F of one list by another, and done, its end
use mathlib.Core.Path.{◌≡◌, sym, ap, ◌∙◌}
use mathlib.Core.List.{List, [], ◌∷◌, ◌++◌, append_assoc}
use Prim.Native.Nat.{ℕ, suc, ◌+◌, ◌≤◌, ◌<◌}
use native.Mathlib.Nat.{le_refl}
use native.Mathlib.Numerals.{add-one}
use lib.ListN.{length, take, drop, get_or, set, drop_of_length-le, take-append-drop}
use lib.Seq.{drop-cons, take-suc-set, drop-set-lt}

pub put : (w : List ℕ) (i v : ℕ) (f : List ℕ → List ℕ) → i < length w
    → take (i + 1) (set w i v) ++ f (drop (i + 1) (set w i v)) ≡ take i w ++ v ∷ f (drop (suc i) w)
put w i v f h =
    rw (add-one, take-suc-set w i v h, drop-set-lt (suc i) w i v (le_refl (suc i))) (append_assoc (take i w) (v ∷ []) (f (drop (suc i) w)))

module _ (F : List ℕ → List ℕ → List ℕ) (op : ℕ → ℕ → ℕ)
    (none : (w : List ℕ) → F [] w ≡ w) (one : (x y : ℕ) (g w : List ℕ) → F (x ∷ g) (y ∷ w) ≡ op x y ∷ F g w) where
  pub next : (i : ℕ) (g w : List ℕ) (v : ℕ) {t : List ℕ} → i < length g → i < length w → v ≡ op (get_or g i 0) (get_or w i 0)
      → take i w ++ F (drop i g) (drop i w) ≡ t → take (i + 1) (set w i v) ++ F (drop (i + 1) g) (drop (i + 1) (set w i v)) ≡ t
  next i g w v hg hw e p = put w i v (F (drop (i + 1) g)) hw ∙ ap (λ (x : List ℕ). take i w ++ x) here ∙ p
    where
      here : v ∷ F (drop (i + 1) g) (drop (suc i) w) ≡ F (drop i g) (drop i w)
      here = rw (drop-cons g i 0 hg, drop-cons w i 0 hw, one, e, add-one)

  pub done : (i : ℕ) (g w : List ℕ) {t : List ℕ} → length g ≤ i → take i w ++ F (drop i g) (drop i w) ≡ t → w ≡ t
  done i g w h p = sym (rw (drop_of_length-le g h, none) (take-append-drop i w)) ∙ p
