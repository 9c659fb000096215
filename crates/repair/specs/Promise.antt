-- Repair of a word with R parity bytes, promised by what is found and not by the way to it.
-- distance    the number of places in which two words differ
-- half        h, the most places that are repaired
-- CleanWord   a word that the check finds clean
-- Near        a clean word within h places
-- Promised    what a call answers, and the word that it leaves
use Rattle.std.specs.Prelude.{◌≡◌, List, [], ◌∷◌, ℕ, ◌+◌, ◌/◌, ◌≤◌, ◌<◌, eqb}
use Rattle.base.specs.Choice.{pick}
use Rattle.base.specs.Bytes.{Bytes}
use Rattle.parity.specs.Calls.{checked}
use Rattle.parity.specs.Checked as check
use Rattle.repair.specs.Mended.{Mended}
use Rattle.repair.specs.Mended.{Clean, Repaired, Beyond, Refused}

-- the number of places in which two words differ
unfoldable pub distance : List ℕ → List ℕ → ℕ
distance [] w = 0
distance (x ∷ v) [] = 0
distance (x ∷ v) (y ∷ w) = pick (eqb x y) 0 1 + distance v w

-- h, which is INT(R/2)
abbrev pub half : ℕ → ℕ
half r = r / 2

-- bytes that the check finds to be a clean word
abbrev pub CleanWord : ℕ → List ℕ → Type 0
CleanWord r v = Bytes v × (checked r v ≡ check.Clean)

-- v is a clean word within h places of w
abbrev pub Near : ℕ → List ℕ → List ℕ → Type 0
Near r w v = CleanWord r v × (distance w v ≤ half r)

-- of the word w as it came, the answer, and the word as it is left. Refusals are those of the check: 30 and 31
abbrev pub Promised : ℕ → List ℕ → Mended → List ℕ → Type 0
Promised r w Clean left = (checked r w ≡ check.Clean) × (left ≡ w)
Promised r w (Repaired n) left =
    (checked r w ≡ check.Damaged) × (0 < n) × (n ≤ half r) × (distance w left ≡ n) × Near r w left × ((v : List ℕ) → Near r w v → v ≡ left)
Promised r w Beyond left = (checked r w ≡ check.Damaged) × ((v : List ℕ) → Near r w v → ⊥) × (left ≡ w)
Promised r w (Refused n) left = (checked r w ≡ check.Refused n) × (left ≡ w)
