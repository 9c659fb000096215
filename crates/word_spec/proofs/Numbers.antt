-- numbers   (k) and (l) of paper 01: the parity of a message of zeros that ends in 01, for R = 1 and R = 2
use mathlib.Core.Path.{◌≡◌, refl}
use mathlib.Core.List.{List, [], ◌∷◌, ◌++◌}
use Prim.Native.Nat.{ℕ}
use lib.ListN.{replicate}
use Rattle.field.specs.Field.{add, double, shift_add, mul, pow}
use Rattle.word_spec.specs.Word.{scale, onto, times_root, generator, divide, remainder}

pub numbers : ◌≡◌ {A = List (List ℕ)} (remainder 1 (replicate 253 0 ++ 1 ∷ []) ∷ remainder 2 (replicate 252 0 ++ 1 ∷ []) ∷ [])
    ((0x02 ∷ []) ∷ (0x06 ∷ 0x08 ∷ []) ∷ [])
unfolding remainder divide generator times_root onto scale pow mul shift_add double add
numbers = refl
