-- Laws of `up_to`.
-- up-to-stop, up-to-go, up-to-none      by the first byte: c, another, none
-- up-to-here, up-to-more, up-to-over    the same from place i on: what a loop over bytes needs
-- count-more, count-done                a turn of the loop that counts, and its end
-- up-to-short, up-to-is                 they are no more than there are; they are the first ones
-- up-to-take, up-to-long                of the first n bytes, where c is among them, and where it is not
-- up-to-place                           how many they are is the place of the first c, as the library counts it
use Prim.Native.Nat.{ℕ, zero, suc, ◌+◌, ◌≤◌, ◌<◌}
use native.Mathlib.Omega.{arith}
use mathlib.Core.Path.{◌≡◌, ◌∙◌, refl, ap}
use mathlib.Core.List.{List, [], ◌∷◌}
use lib.ListN.{length, take, drop, get_or}
use borrow.Author.Tests.{eq-eqb, ne_eqb, lt-ltb, le-ltb}
use Rattle.std.specs.List.{position_or_len, position}
use Rattle.std.specs.Option.{unwrap_or}
use Rattle.std.specs.Prelude.{eqb, Option}
use Rattle.base.specs.UpTo.{up_to}
use Rattle.base.proofs.Lists.{next, over}
use Rattle.base.proofs.Tests.{by-eq, by_le}

module _ (c : ℕ) {bs cs : List ℕ} {b : ℕ} (e : bs ≡ b ∷ cs) where
  pub up-to-stop : b ≡ c → up_to c bs ≡ []
  unfolding up_to
  up-to-stop h = rw e (simp (eq-eqb _ _ h))

  pub up-to-go : (b ≡ c → ⊥) → up_to c bs ≡ b ∷ up_to c cs
  unfolding up_to
  up-to-go n = rw e (simp (ne_eqb _ _ n))

pub up-to-none : (c : ℕ) {bs : List ℕ} → bs ≡ [] → up_to c bs ≡ []
unfolding up_to
up-to-none c e = rw e

module _ (c : ℕ) (l : List ℕ) (i : ℕ) where
  pub up-to-here : i < length l → get_or l i 0 ≡ c → up_to c (drop i l) ≡ []
  up-to-here h e = up-to-stop c (next l i h) e

  pub up-to-more : i < length l → (get_or l i 0 ≡ c → ⊥) → up_to c (drop i l) ≡ get_or l i 0 ∷ up_to c (drop (i + 1) l)
  up-to-more h n = up-to-go c (next l i h) n

  pub up-to-over : length l ≤ i → up_to c (drop i l) ≡ []
  up-to-over h = up-to-none c (over l i h)

module _ (c : ℕ) (l : List ℕ) (i : ℕ) {t : ℕ} (inv : i + length (up_to c (drop i l)) ≡ t) where
  pub count-more : i < length l → (get_or l i 0 ≡ c → ⊥) → i + 1 + length (up_to c (drop (i + 1) l)) ≡ t
  count-more h n = omega (arith, ap length (up-to-more c l i h n))

  pub count-done : up_to c (drop i l) ≡ [] → i ≡ t
  count-done e = omega (arith, ap length e)

pub up-to-short : (c : ℕ) (l : List ℕ) → length (up_to c l) ≤ length l
unfolding up_to
up-to-short c [] = omega arith
up-to-short c (b ∷ l) = by-eq b c (λ e. simp (eq-eqb b c e) (omega arith)) (λ m. simp (ne_eqb b c m) (omega (arith, up-to-short c l)))

-- they are the first bytes
pub up-to-is : (c : ℕ) (l : List ℕ) → up_to c l ≡ take (length (up_to c l)) l
unfolding up_to
up-to-is c [] = refl
up-to-is c (b ∷ l) = by-eq b c (λ e. simp (eq-eqb b c e)) (λ m. simp (ne_eqb b c m) (ap (λ (x : List ℕ). b ∷ x) (up-to-is c l)))

-- of the first n bytes the same, where c is found among them ..
pub up-to-take : (c n : ℕ) (l : List ℕ) → length (up_to c l) < n → up_to c (take n l) ≡ up_to c l
unfolding up_to
up-to-take c zero l h = absurd (omega arith)
up-to-take c (suc n) [] h = refl
up-to-take c (suc n) (b ∷ l) h =
    by-eq b c (λ e. simp (eq-eqb b c e))
    (λ m. let k = simp (ne_eqb b c m) at h in simp (ne_eqb b c m) (ap (λ (x : List ℕ). b ∷ x) (up-to-take c n l (omega (arith, k)))))

-- .. and all n where it is not
pub up-to-long : (c n : ℕ) (l : List ℕ) → n ≤ length (up_to c l) → length (up_to c (take n l)) ≡ n
unfolding up_to
up-to-long c zero l h = refl
up-to-long c (suc n) [] h = absurd (omega arith)
up-to-long c (suc n) (b ∷ l) h =
    by-eq b c (λ e. let k = simp (eq-eqb b c e) at h in absurd (omega (arith, k)))
    (λ m. let k = simp (ne_eqb b c m) at h in simp (ne_eqb b c m) (ap suc (up-to-long c n l (omega (arith, k)))))

-- the library's count of the bytes before the first that is c
place : (c : ℕ) (l : List ℕ) → position_or_len (λ b. eqb b c) l ≡ length (up_to c l)
unfolding up_to
place c [] = refl
place c (b ∷ l) =
    let n = position_or_len (λ b. eqb b c) l in
    by-eq b c (λ e. simp (eq-eqb b c e)) (λ m. simp (ne_eqb b c m) ((let z : 1 + n ≡ suc n = omega arith in z) ∙ ap suc (place c l)))

pub up-to-place : (c : ℕ) (l : List ℕ) {r : Option ℕ} → r ≡ position (λ b. eqb b c) l → unwrap_or r (length l) ≡ length (up_to c l)
up-to-place c l e =
    by_le (length l) (position_or_len (λ b. eqb b c) l)
    (λ h. rw (e, le-ltb _ (length l) h) omega (arith, place c l, up-to-short c l, h))
    (λ h. rw (e, lt-ltb (position_or_len (λ b. eqb b c) l) (length l) h) (place c l))
