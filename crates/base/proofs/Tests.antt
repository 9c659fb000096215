-- by-eq, by_le     two cases: two numbers are equal or not; one is at most the other, or above it
-- by-test          .. and a test holds or not
-- and_l, and_r     the two halves of two tests, as `T` has them
-- and_parts        .. and as equations
-- and-false        two tests of which the second fails
-- one-and          .. of which the first holds
-- and-true         .. of which both hold
-- or_left, or_right   either of two tests that both fail
-- all, all-at      a test at each number below n, computed once, holds at each of them: how a whole table's rule is proved
use mathlib.Core.Path.{◌≡◌, refl, sym, ap, ◌∙◌, subst}
use mathlib.Core.Bool.{Bool, true, false, ◌&&◌, ◌||◌, false≢true, true≢false}
use mathlib.Core.Logic.{⊎_elim}
use Prim.Native.Nat.{ℕ, zero, suc, ◌≤◌, ◌<◌}
use native.Mathlib.Nat.{not-suc-le-zero, le_of_suc-le-suc, eq-or-lt_of_le}
use lib.Dec.{T, eqb, leb}
use borrow.Author.Tests.{eqb-true, eqb-false, leb-true, leb-false}

pub by-eq : {P : Type 0} (a b : ℕ) → (a ≡ b → P) → ((a ≡ b → ⊥) → P) → P
by-eq {P} a b f g = go (eqb a b) refl
  where
    go : (t : Bool) → eqb a b ≡ t → P
    go true e = f (eqb-true a b e)
    go false e = g (eqb-false a b e)

pub by_le : {P : Type 0} (a b : ℕ) → (a ≤ b → P) → (b < a → P) → P
by_le {P} a b f g = go (leb a b) refl
  where
    go : (t : Bool) → leb a b ≡ t → P
    go true e = f (leb-true a b e)
    go false e = g (leb-false a b e)

pub by-test : {P : Type 0} (t : Bool) → (t ≡ true → P) → (t ≡ false → P) → P
by-test true f g = f refl
by-test false f g = g refl

pub and_l : (a b : Bool) → T (a && b) → T a
and_l true b t = tt
and_l false b t = t

pub and_r : (a b : Bool) → T (a && b) → T b
and_r true b t = t
and_r false b t = absurd t

pub and-true : {a b : Bool} → a ≡ true → b ≡ true → a && b ≡ true
and-true p q = rw (p, q) refl

pub or_left : (a b : Bool) → a || b ≡ false → a ≡ false
or_left true b e = absurd (true≢false e)
or_left false b e = refl

pub or_right : (a b : Bool) → a || b ≡ false → b ≡ false
or_right true b e = absurd (true≢false e)
or_right false b e = e

pub and-false : (t : Bool) → t && false ≡ false
and-false true = refl
and-false false = refl

pub and_parts : (a b : Bool) → a && b ≡ true → (a ≡ true) × (b ≡ true)
and_parts true b e = (refl, e)
and_parts false b e = absurd (false≢true e)

abbrev pub all : ℕ → (ℕ → Bool) → Bool
all zero p = true
all (suc n) p = p n && all n p

pub all-at : (n : ℕ) (p : ℕ → Bool) → T (all n p) → (i : ℕ) → i < n → T (p i)
all-at zero p t i h = absurd (not-suc-le-zero h)
all-at (suc n) p t i h =
    ⊎_elim (λ (e : i ≡ n). subst (λ (k : ℕ). T (p k)) (sym e) (and_l (p n) (all n p) t))
    (λ (l : i < n). all-at n p (and_r (p n) (all n p) t) i l) (eq-or-lt_of_le (le_of_suc-le-suc h))

pub one-and : {a x y : Bool} → a ≡ true → x ≡ y → x ≡ a && y
one-and {a} {x} {y} p q = q ∙ ap (λ (t : Bool). t && y) (sym p)
