-- numbers   (a), (b) and (c) of paper 01: the check of no bytes, of 00 and of FF
use mathlib.Core.Path.{◌≡◌, refl}
use mathlib.Core.List.{List, [], ◌∷◌}
use Prim.Native.Nat.{ℕ}
use Rattle.fcs.specs.Fcs.{entered, register, fcs}

pub numbers : ◌≡◌ {A = List ℕ} (fcs [] ∷ fcs (0x00 ∷ []) ∷ fcs (0xFF ∷ []) ∷ []) (0x0000 ∷ 0xF078 ∷ 0xFF00 ∷ [])
unfolding fcs register entered
numbers = refl
