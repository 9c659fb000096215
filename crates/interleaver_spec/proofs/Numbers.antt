-- Number (m) of paper 01, and the numbers of request W3.
-- numbers         (m): at depth 2, the cells that outputs 0, 1, 2, 254, 255 and 256 are read from
-- first-outputs   "At depth 2, output 1 is zero"
use mathlib.Core.Path.{◌≡◌, refl}
use mathlib.Core.List.{List, [], ◌∷◌, map}
use Prim.Native.Nat.{ℕ}
use Rattle.base.specs.Calls.{run}
use Rattle.interleaver_spec.specs.Places.{cell}
use Rattle.interleaver_spec.specs.Running.{fresh, push}

pub numbers : ◌≡◌ {A = List ℕ} (map (cell 2) (0 ∷ 1 ∷ 2 ∷ 254 ∷ 255 ∷ 256 ∷ [])) (0 ∷ 308 ∷ 106 ∷ 202 ∷ 255 ∷ 53 ∷ [])
numbers = refl

pub first-outputs : (x y : ℕ) → (run (push 2) fresh (x ∷ y ∷ [])).0 ≡ x ∷ 0 ∷ []
first-outputs x y = refl
