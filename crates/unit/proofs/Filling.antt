-- The tests of a unit's contents, as the code makes them.
-- length_marked             what opportunistic data take with their delimiter
-- zeros-all                 whether a delimiter is zeros
-- hidden-none, hidden-not, hidden-zeros   refusal 54
use mathlib.Core.Path.{◌≡◌, refl, sym, ap, ◌∙◌}
use mathlib.Core.Bool.{Bool, true, false}
use mathlib.Core.List.{List, [], ◌∷◌, ◌++◌}
use Prim.Native.Nat.{ℕ, ◌+◌, ◌-◌, ◌≤◌}
use native.Mathlib.Omega.{arith}
use lib.Dec.{eqb}
use lib.Pointwise.{pointwise}
use lib.ListN.{length, length-append}
use borrow.Author.Tests.{eq-eqb, ne_eqb}
use Rattle.base.specs.Choice.{pick}
use Rattle.unit_spec.specs.Unit.{marked, filled, hidden, zeros}
use Rattle.unit_spec.proofs.Hiding.{hidden-is}
use Rattle.unit.proofs.Contents.{length_some}

pub length_marked : (d o : List ℕ) → length d ≡ 5 → length (marked d o) ≡ pick (eqb (length o) 0) 0 (5 + length o)
length_marked d o e = go (eqb (length o) 0)
  where
    go : (t : Bool) → length (pick t [] (d ++ o)) ≡ pick t 0 (5 + length o)
    go true = refl
    go false = length-append d o ∙ ap (λ (m : ℕ). m + length o) e

-- .. in one test
pub zeros-all : (d : List ℕ) → length d ≡ 5 → pointwise eqb d (0 ∷ 0 ∷ 0 ∷ 0 ∷ 0 ∷ []) ≡ zeros d
unfolding zeros
zeros-all (a ∷ b ∷ c ∷ d ∷ e ∷ []) l = refl
zeros-all [] l = absurd (omega arith)
zeros-all (_ ∷ []) l = absurd (omega arith)
zeros-all (_ ∷ _ ∷ []) l = absurd (omega arith)
zeros-all (_ ∷ _ ∷ _ ∷ []) l = absurd (omega arith)
zeros-all (_ ∷ _ ∷ _ ∷ _ ∷ []) l = absurd (omega arith)
zeros-all (_ ∷ _ ∷ _ ∷ _ ∷ _ ∷ _ ∷ _) l = absurd (omega arith)

pub hidden-none : (d o : List ℕ) (gap : ℕ) → length o ≡ 0 → false ≡ hidden d gap o
unfolding hidden
hidden-none d o gap e = simp (eq-eqb (length o) 0 e)

module _ (n : ℕ) (d audio opp fixed : List ℕ) (five : length d ≡ 5) (fill : filled d audio opp fixed ≤ n) (s : length opp ≡ 0 → ⊥) where
  size : length (marked d opp) ≡ 5 + length opp
  size = length_some d opp s ∙ ap (λ (m : ℕ). m + length opp) five

  short : hidden d (n - filled d audio opp fixed) opp ≡ pick (eqb (n - filled d audio opp fixed) 0) false (zeros d)
  short =
      hidden-is d opp (n - filled d audio opp fixed) five ∙ ap (λ (t : Bool). pick t false (pick (eqb (n - filled d audio opp fixed) 0) false (zeros d)))
      (ne_eqb (length opp) 0 s)

  pub hidden-not : n - length audio - length fixed - 5 ≡ length opp → false ≡ hidden d (n - filled d audio opp fixed) opp
  hidden-not e = sym (short ∙ ap (λ (t : Bool). pick t false (zeros d)) (eq-eqb (n - filled d audio opp fixed) 0 (omega (arith, size))))

  pub hidden-zeros : (n - length audio - length fixed - 5 ≡ length opp → ⊥) → zeros d ≡ hidden d (n - filled d audio opp fixed) opp
  hidden-zeros e = sym (short ∙ ap (λ (t : Bool). pick t false (zeros d)) (ne_eqb (n - filled d audio opp fixed) 0 (λ z. e (omega (arith, size)))))
