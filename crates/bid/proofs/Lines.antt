-- Laws of an input's lines.
-- lines-feed, lines_other   by the next byte: a line feed, another
-- lines_none, lines-one     the end, no line begun, and one begun
use Prim.Native.Nat.{ℕ}
use mathlib.Core.Path.{◌≡◌, ap}
use mathlib.Core.Bool.{Bool}
use mathlib.Core.List.{List, [], ◌∷◌, ◌++◌}
use lib.ListN.{length}
use borrow.Author.Tests.{eq-eqb, ne_eqb}
use Rattle.base.specs.Choice.{pick}
use Rattle.bid.specs.Line.{feed}
use Rattle.bid.specs.Input.{lines_from}

pub lines-feed : (l : List ℕ) (b : ℕ) (bs : List ℕ) → b ≡ feed → lines_from l (b ∷ bs) ≡ l ∷ lines_from [] bs
unfolding lines_from
lines-feed l b bs e = ap (λ (t : Bool). pick t (l ∷ []) [] ++ lines_from (pick t [] (l ++ b ∷ [])) bs) (eq-eqb b feed e)

pub lines_other : (l : List ℕ) (b : ℕ) (bs : List ℕ) → (b ≡ feed → ⊥) → lines_from l (b ∷ bs) ≡ lines_from (l ++ b ∷ []) bs
unfolding lines_from
lines_other l b bs n = ap (λ (t : Bool). pick t (l ∷ []) [] ++ lines_from (pick t [] (l ++ b ∷ [])) bs) (ne_eqb b feed n)

pub lines_none : (l : List ℕ) → length l ≡ 0 → lines_from l [] ≡ []
unfolding lines_from
lines_none l e = ap (λ (t : Bool). pick t [] (l ∷ [])) (eq-eqb _ _ e)

pub lines-one : (l : List ℕ) → (length l ≡ 0 → ⊥) → lines_from l [] ≡ l ∷ []
unfolding lines_from
lines-one l n = ap (λ (t : Bool). pick t [] (l ∷ [])) (ne_eqb _ _ n)
