-- Each            a fact of each member of a list
-- IsByte, Bytes   a byte, and the lists of bytes
use Rattle.std.specs.Prelude.{List, [], ◌∷◌, ℕ, ◌<◌}

-- P of each member
abbrev pub Each {ℓ} : {A : Type ℓ} → (A → Type 0) → List A → Type 0
Each P [] = Unit {0}
Each P (x ∷ xs) = P x × Each P xs

-- a byte: a number below 256
abbrev pub IsByte : ℕ → Type 0
IsByte b = b < 256

-- each member is a byte
abbrev pub Bytes : List ℕ → Type 0
Bytes bs = Each IsByte bs
