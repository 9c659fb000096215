-- The delimiter sought, and payload bytes stored.
-- length-payload                                   how many payload bytes there are
-- begins-same                                      the comparison of as many bytes
-- window-of, window-next, window-begins            the five bytes from a place on
-- find-here, find-next, find-over                  a turn of the search: found, not found, and its end
-- opened-short, opened-is                          what stands behind the first delimiter is the end of what was searched
-- put-more, put-all                                a turn of the loop that stores payload bytes in a part, and the whole behind it
use mathlib.Core.Path.{◌≡◌, refl, sym, ap, ap₂, ◌∙◌}
use mathlib.Core.Bool.{Bool, true, false, ◌&&◌}
use mathlib.Core.List.{List, [], ◌∷◌, ◌++◌, append-nil}
use Prim.Native.Nat.{ℕ, zero, suc, ◌+◌, ◌-◌, ◌≤◌, ◌<◌}
use native.Mathlib.Nat.{sub-zero, zero-add}
use native.Mathlib.Numerals.{add-one}
use native.Mathlib.Omega.{arith}
use lib.Dec.{eqb}
use lib.Pointwise.{pointwise}
use lib.ListN.{length, take, drop, get_or, set, length-drop, drop_of_length-le}
use lib.Seq.{drop-cons, drop-drop, length-take-le, take_all, drop-length, get_or-drop, paste, paste-suc}
use borrow.Rule.Slice.PartMut.{put_mid}
use Rattle.std.proofs.lemmas.Slice.{put_mid-paste}
use Rattle.base.specs.Choice.{pick}
use Rattle.base.proofs.Lists.{drop-take}
use Rattle.base.proofs.Tests.{by-test, by_le}
use Rattle.unit_spec.specs.Bits.{bits}
use Rattle.unit_spec.specs.Tables.{heads, start, step, payload}
use Rattle.unit_spec.specs.Unit.{begins, opened}
use Rattle.unit_spec.specs.Reading.{unwoven, payload_of}
use Rattle.unit_spec.proofs.Bits.{length-pack}

pub length-payload : (l : ℕ) (u : List ℕ) → length (payload_of l u) ≡ payload l
unfolding payload_of
length-payload l u = length-pack (payload l) (unwoven (start l) (step l - 1) (heads l) (bits u))

-- ---- the comparison of five bytes
pub begins-same : (d w : List ℕ) → length d ≡ length w → pointwise eqb d w ≡ begins d w
unfolding begins
begins-same [] [] h = refl
begins-same [] (y ∷ w) h = absurd (omega arith)
begins-same (x ∷ d) [] h = absurd (omega arith)
begins-same (x ∷ d) (y ∷ w) h = ap (λ (t : Bool). eqb x y && t) (begins-same d w (omega arith))

begins-take : (d xs : List ℕ) (m : ℕ) → length d ≤ m → begins d (take m xs) ≡ begins d xs
unfolding begins
begins-take [] xs m h = refl
begins-take (x ∷ d) xs zero h = absurd (omega arith)
begins-take (x ∷ d) [] (suc m) h = refl
begins-take (x ∷ d) (y ∷ xs) (suc m) h = ap (λ (t : Bool). eqb x y && t) (begins-take d xs m (omega arith))

-- ---- the five bytes from place j on
five-at : (q : List ℕ) → 5 ≤ length q → get_or q 0 0 ∷ get_or q 1 0 ∷ get_or q 2 0 ∷ get_or q 3 0 ∷ get_or q 4 0 ∷ [] ≡ take 5 q
five-at (x ∷ y ∷ z ∷ u ∷ v ∷ q) h = refl
five-at [] h = absurd (omega arith)
five-at (_ ∷ []) h = absurd (omega arith)
five-at (_ ∷ _ ∷ []) h = absurd (omega arith)
five-at (_ ∷ _ ∷ _ ∷ []) h = absurd (omega arith)
five-at (_ ∷ _ ∷ _ ∷ _ ∷ []) h = absurd (omega arith)

module _ (p : List ℕ) (j : ℕ) where
  pub window-of : {a b c d e : ℕ} → j + 5 ≤ length p → a ≡ get_or p j 0 → b ≡ get_or p (j + 1) 0 → c ≡ get_or p (j + 2) 0 → d ≡ get_or p (j + 3) 0
      → e ≡ get_or p (j + 4) 0 → a ∷ b ∷ c ∷ d ∷ e ∷ [] ≡ take 5 (drop j p)
  window-of h pa pb pc pd pe =
      let z : j ≡ j + 0 = omega arith in
      rw (pa ∙ ap (λ (n : ℕ). get_or p n 0) z ∙ at 0, pb ∙ at 1, pc ∙ at 2, pd ∙ at 3, pe ∙ at 4) (five-at (drop j p) (omega (arith, length-drop j p)))
    where
      at : (i : ℕ) → get_or p (j + i) 0 ≡ get_or (drop j p) i 0
      at i = sym (get_or-drop j p i 0)

  module _ {w : List ℕ} (e : w ≡ take 5 (drop j p)) where
    pub window-next : {b : ℕ} → j + 5 < length p → b ≡ get_or p (j + 5) 0 → drop 1 w ++ b ∷ [] ≡ take 5 (drop (j + 1) p)
    window-next h eb =
        ap₂ (λ (x : List ℕ) (y : ℕ). drop 1 x ++ y ∷ []) e (eb ∙ sym (get_or-drop j p 5 0))
        ∙ next (drop j p) (omega (arith, length-drop j p)) ∙ ap (take 5) (drop-drop 1 j p)
      where
        next : (q : List ℕ) → 5 < length q → drop 1 (take 5 q) ++ get_or q 5 0 ∷ [] ≡ take 5 (drop 1 q)
        next (x ∷ y ∷ z ∷ u ∷ v ∷ t ∷ q) k = refl
        next [] k = absurd (omega arith)
        next (_ ∷ []) k = absurd (omega arith)
        next (_ ∷ _ ∷ []) k = absurd (omega arith)
        next (_ ∷ _ ∷ _ ∷ []) k = absurd (omega arith)
        next (_ ∷ _ ∷ _ ∷ _ ∷ []) k = absurd (omega arith)
        next (_ ∷ _ ∷ _ ∷ _ ∷ _ ∷ []) k = absurd (omega arith)

    pub window-begins : (d : List ℕ) → length d ≡ 5 → {t : Bool} → t ≡ begins d w → t ≡ begins d (drop j p)
    window-begins d five i = i ∙ ap (begins d) e ∙ begins-take d (drop j p) 5 (omega arith)

-- ---- the search
opened-few : (d xs : List ℕ) → length xs ≤ length d → length (opened d xs) ≡ 0
unfolding opened
opened-few d [] h = refl
opened-few d (x ∷ xs) h =
    by-test (begins d (x ∷ xs))
    (λ t. rw t (ap length (drop_of_length-le (x ∷ xs) h)))
    (λ t. rw t (opened-few d xs (omega arith)))

module _ (d p : List ℕ) (e j : ℕ) (five : length d ≡ 5) (he : e ≤ length p) where
  part : List ℕ
  part = take e p

  length_part : length part ≡ e
  unfolding part
  length_part = length-take-le e p he

  pub find-over : e ≤ j + 5 → {r : ℕ} → length (opened d (drop j (take e p))) ≡ r → 0 ≡ r
  unfolding part
  find-over h i = sym (opened-few d (drop j part) (omega (arith, length-drop j part, length_part))) ∙ i

  module _ (h : j + 5 < e) where
    begins-part : begins d (drop j part) ≡ begins d (drop j p)
    unfolding part
    begins-part = ap (begins d) (drop-take j e p) ∙ begins-take d (drop j p) (e - j) (omega arith)

    open-part : opened d (drop j part) ≡ pick (begins d (drop j p)) (drop (length d) (drop j part)) (opened d (drop (j + 1) part))
    unfolding opened
    open-part =
        let f : suc j ≡ j + 1 = omega arith in
        let c = drop-cons part j 0 (omega (arith, length_part)) in
        ap (opened d) c ∙ ap₂ (λ (x : List ℕ) (y : ℕ). pick (begins d x) (drop (length d) x) (opened d (drop y part))) (sym c) f
        ∙ ap (λ (t : Bool). pick t (drop (length d) (drop j part)) (opened d (drop (j + 1) part))) begins-part

    pub find-here : {b : Bool} → b ≡ begins d (drop j p) → b ≡ true → {r : ℕ} → length (opened d (drop j (take e p))) ≡ r → e - (j + 5) ≡ r
    unfolding part
    find-here eb t i =
        sym (ap length (open-part ∙ ap (λ (x : Bool). pick x (drop (length d) (drop j part)) (opened d (drop (j + 1) part))) (sym eb ∙ t))
        ∙ length-drop (length d) (drop j part) ∙ omega (arith, length-drop j part, length_part)) ∙ i

    pub find-next : {b : Bool} → b ≡ begins d (drop j p) → b ≡ false → {r : ℕ} → length (opened d (drop j (take e p))) ≡ r
        → length (opened d (drop (j + 1) (take e p))) ≡ r
    unfolding part
    find-next eb t i =
        sym (ap length (open-part ∙ ap (λ (x : Bool). pick x (drop (length d) (drop j part)) (opened d (drop (j + 1) part))) (sym eb ∙ t))) ∙ i

-- what is found is the end of what was searched
found : (n : ℕ) (ys : List ℕ) → drop n ys ≡ drop (length ys - length (drop n ys)) ys
found n ys =
    by_le (length ys) n
    (λ h.
    let e = drop_of_length-le ys h in
    e ∙ sym (drop-length ys) ∙ ap (λ (k : ℕ). drop k ys) (sym (sub-zero (length ys)) ∙ ap (λ (x : List ℕ). length ys - length x) (sym e)))
    (λ h. let f : n ≡ length ys - length (drop n ys) = omega (arith, length-drop n ys) in ap (λ (k : ℕ). drop k ys) f)

pub opened-short : (d xs : List ℕ) → length (opened d xs) ≤ length xs
unfolding opened
opened-short d [] = omega arith
opened-short d (x ∷ xs) =
    by-test (begins d (x ∷ xs)) (λ t. rw t (omega (arith, length-drop (length d) (x ∷ xs)))) (λ t. rw t (omega (arith, opened-short d xs)))

pub opened-is : (d xs : List ℕ) → opened d xs ≡ drop (length xs - length (opened d xs)) xs
unfolding opened
opened-is d [] = refl
opened-is d (x ∷ xs) = by-test (begins d (x ∷ xs)) (λ t. rw t (found (length d) (x ∷ xs))) (λ t. rw t (onward (opened-is d xs) (opened-short d xs)))
  where
    onward : opened d xs ≡ drop (length xs - length (opened d xs)) xs → length (opened d xs) ≤ length xs
        → opened d xs ≡ drop (suc (length xs) - length (opened d xs)) (x ∷ xs)
    onward e h =
        let f : suc (length xs) - length (opened d xs) ≡ suc (length xs - length (opened d xs)) = omega arith in e ∙ sym (ap (λ (n : ℕ). drop n (x ∷ xs)) f)

-- ---- payload bytes stored
pub put-more : (before after p : List ℕ) (from i b : ℕ) → after ≡ take i (drop from p) ++ drop i before → b ≡ get_or p (from + i) 0 → i < length before
    → from + i < length p
    → set after i b ≡ take (i + 1) (drop from p) ++ drop (i + 1) before
put-more before after p from i b e w h k =
    let q = drop from p in
    ap₂ (λ (x : List ℕ) (y : ℕ). set x y b) (e ∙ ap (λ (n : ℕ). take i q ++ drop n before) (sym (zero-add i))) (sym (zero-add i))
    ∙ ap (set (paste before 0 q i) (0 + i)) (w ∙ sym (get_or-drop from p i 0))
    ∙ paste-suc before 0 q i 0 (omega arith) (omega (arith, length-drop from p))
    ∙ ap (paste before 0 q) (sym (add-one i)) ∙ ap (λ (n : ℕ). take (i + 1) q ++ drop n before) (zero-add (i + 1))

module _ (before after q : List ℕ) (at n i : ℕ) where
  pub put-all : after ≡ take i q ++ drop i (take (at + n - at) (drop at before)) → length (take (at + n - at) (drop at before)) ≤ i
      → i ≤ length (take (at + n - at) (drop at before)) → at + n ≤ length before → n ≤ length q
      → put_mid at (at + n - at) before after ≡ paste before at q n
  put-all e h k room long =
      let m : at + n - at ≡ n = omega arith in
      let whole = length-take-le (at + n - at) (drop at before) (omega (arith, length-drop at before)) in
      let f : i ≡ n = omega (arith, whole) in
      let all : after ≡ take n q =
      e ∙ ap (λ (x : List ℕ). take i q ++ x) (drop_of_length-le (take (at + n - at) (drop at before)) h) ∙ append-nil (take i q)
      ∙ ap (λ (x : ℕ). take x q) f in
      let some = length-take-le n q long in
      put_mid-paste at (at + n - at) before after (take n q) n all (sym m) (sym some)
      ∙ ap (λ (x : List ℕ). take at before ++ x ++ drop (at + n) before) (take_all n (take n q) (omega (arith, some)))
