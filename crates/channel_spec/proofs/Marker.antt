-- Laws of the marker, and of a receiver that hunts for it.
-- bytes_of, the_marker    the last four as bytes, and the marker as the last four
-- is-marker, no-match   when these are the marker
-- four_are              four bytes are some last four
-- past-zeros            a marker behind a fresh receiver's four zeros stands in what it hears
-- first-marker          where the marker first appears does not hang on what follows it
-- found                 any receiver that hunts passes over stray bytes before the first marker
use Prim.Native.Nat.{ℕ, suc, ◌+◌, ◌-◌, ◌≤◌, ◌<◌}
use native.Mathlib.Omega.{arith}
use mathlib.Core.Path.{◌≡◌, refl, sym, ◌∙◌, ap}
use mathlib.Core.Bool.{Bool, true, false}
use mathlib.Core.List.{List, [], ◌∷◌, ◌++◌, append_assoc, head-eq_of_cons-eq, tail-eq_of_cons-eq}
use lib.ListN.{length, take, length-append}
use lib.Seq.{take_at, take-append-add}
use lib.Dec.{leb}
use borrow.Author.Tests.{eqb-true, leb-true, leb-false}
use Rattle.base.proofs.Tests.{and_parts}
use Rattle.channel_spec.specs.declared.Hunting.{Hunting}
use Rattle.channel_spec.specs.Sender.{marker}
use Rattle.channel_spec.specs.Meaning.{shift, is_marker, zeros, FirstMarker}

-- the last four as bytes, and the marker as the last four
abbrev pub bytes_of : Hunting → List ℕ
bytes_of f = f.a ∷ f.b ∷ f.c ∷ f.d ∷ []

abbrev pub the_marker : Hunting
the_marker = record { a = 0x7D; b = 0x3A; c = 0xE2; d = 0x42 }

pub is-marker : (f : Hunting) → is_marker f ≡ true → bytes_of f ≡ marker
is-marker f e =
    let p = and_parts _ _ e in
    let q = and_parts _ _ p.1 in
    let r = and_parts _ _ q.1 in
    λ i. eqb-true f.a 0x7D r.1 i ∷ eqb-true f.b 0x3A r.0 i ∷ eqb-true f.c 0xE2 q.0 i ∷ eqb-true f.d 0x42 p.0 i ∷ []

pub no-match : (t : Bool) (f : Hunting) → is_marker f ≡ t → (bytes_of f ≡ marker → ⊥) → t ≡ false
no-match true f e h = absurd (h (is-marker f e))
no-match false f e h = refl

pub four_are : (bs : List ℕ) → length bs ≡ 4 → (f : Hunting) × (bytes_of f ≡ bs)
four_are [] h = absurd (omega arith)
four_are (a ∷ []) h = absurd (omega arith)
four_are (a ∷ b ∷ []) h = absurd (omega arith)
four_are (a ∷ b ∷ c ∷ []) h = absurd (omega arith)
four_are (a ∷ b ∷ c ∷ d ∷ []) h = (record { a = a; b = b; c = c; d = d }, refl)
four_are (a ∷ b ∷ c ∷ d ∷ e ∷ bs) h = absurd (omega arith)

-- no byte of a fresh receiver begins a marker
not_first : {x : ℕ} → x < 0x7D → x ≡ 0x7D → ⊥
not_first h e = omega arith

pub past-zeros : (bs xs ys : List ℕ) → bytes_of zeros ++ bs ≡ xs ++ (marker ++ ys)
    → (zs : List ℕ) × (length xs ≡ 4 + length zs) × (bs ≡ zs ++ (marker ++ ys))
past-zeros bs [] ys e = absurd (not_first (omega arith) (head-eq_of_cons-eq e))
past-zeros bs (x ∷ []) ys e = absurd (not_first (omega arith) (head-eq_of_cons-eq (tail-eq_of_cons-eq e)))
past-zeros bs (x ∷ y ∷ []) ys e = absurd (not_first (omega arith) (head-eq_of_cons-eq (tail-eq_of_cons-eq (tail-eq_of_cons-eq e))))
past-zeros bs (x ∷ y ∷ z ∷ []) ys e =
    absurd (not_first (omega arith) (head-eq_of_cons-eq (tail-eq_of_cons-eq (tail-eq_of_cons-eq (tail-eq_of_cons-eq e)))))
past-zeros bs (x ∷ y ∷ z ∷ t ∷ xs) ys e = (xs, omega arith, tail-eq_of_cons-eq (tail-eq_of_cons-eq (tail-eq_of_cons-eq (tail-eq_of_cons-eq e))))

pub first-marker : (stray cs ds : List ℕ) → FirstMarker stray (marker ++ cs) → FirstMarker stray (marker ++ ds)
first-marker stray cs ds h xs ys e = go (leb (length stray) (length xs)) refl
  where
    go : (t : Bool) → leb (length stray) (length xs) ≡ t → length stray ≤ length xs
    go true q = leb-true _ _ q
    go false q =
        let l : length xs < length stray = leb-false _ _ q in
        let n : ℕ = length stray + 4 in
        let left : take n (stray ++ (marker ++ ds)) ≡ stray ++ marker =
        ap (take n) (sym (append_assoc stray marker ds)) ∙ take_at (stray ++ marker) ds n (length-append stray marker) in
        let d : ℕ = length stray - length xs in
        let right : take n (xs ++ (marker ++ ys)) ≡ xs ++ (marker ++ take d ys) =
        ap (λ m. take m (xs ++ (marker ++ ys))) (let z : length stray + 4 ≡ length xs + suc (suc (suc (suc d))) = omega arith in z)
        ∙ take-append-add xs (marker ++ ys) (suc (suc (suc (suc d)))) in
        h xs (take d ys ++ cs)
        (sym (append_assoc stray marker cs) ∙ ap (λ x. x ++ cs) (sym left ∙ ap (take n) e ∙ right) ∙ append_assoc xs (marker ++ take d ys) cs)

-- `hunts f bs` is what a receiver makes of bytes where it hunts, with the last four, `begun bs` where it has found the marker
module _ {X : Type 0} (hunts : Hunting → List ℕ → X) (begun : List ℕ → X)
    (goes_on : (f : Hunting) (b : ℕ) (bs : List ℕ) → is_marker (shift f b) ≡ false → hunts f (b ∷ bs) ≡ hunts (shift f b) bs)
    (begins : (f : Hunting) (bs : List ℕ) → hunts f (marker ++ bs) ≡ begun bs) where
  hunted : (stray cs : List ℕ) (f : Hunting)
      → ((xs ys : List ℕ) → bytes_of f ++ (stray ++ (marker ++ cs)) ≡ xs ++ (marker ++ ys) → 4 + length stray ≤ length xs)
      → hunts f (stray ++ (marker ++ cs)) ≡ begun cs
  hunted [] cs f h = begins f cs
  hunted (s ∷ stray) cs f h =
      goes_on f s (stray ++ (marker ++ cs))
      (no-match (is_marker (shift f s)) (shift f s) refl
      (λ q. let l = h (f.a ∷ []) (stray ++ (marker ++ cs)) (ap (λ x. f.a ∷ (x ++ (stray ++ (marker ++ cs)))) q) in omega arith))
      ∙ hunted stray cs (shift f s) (λ xs ys q. let l = h (f.a ∷ xs) ys (ap (λ x. f.a ∷ x) q) in omega arith)

  pub found : (stray cs : List ℕ) → FirstMarker stray (marker ++ cs) → hunts zeros (stray ++ (marker ++ cs)) ≡ begun cs
  found stray cs h = hunted stray cs zeros λ xs ys e.
      let r = past-zeros (stray ++ (marker ++ cs)) xs ys e in
      let l = h r.0 ys r.2 in
      omega (arith, l, r.1)
