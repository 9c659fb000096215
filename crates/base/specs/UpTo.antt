-- up_to   the bytes before the first of a kind: what every reader of runs of bytes counts
use Rattle.std.specs.Prelude.{ℕ, List, [], ◌∷◌, eqb}
use Rattle.base.specs.Choice.{pick}

-- the bytes before the first c, all where there is none
unfoldable pub up_to : ℕ → List ℕ → List ℕ
up_to c [] = []
up_to c (b ∷ bs) = pick (eqb b c) [] (b ∷ up_to c bs)
