-- A table of refusals, as the paper writes them: number after number, each with what it is given for.
-- Row     a number, and its condition
-- First   number n is given: its row applies, and no row above it does
-- Exact   an answer refuses by exactly the number that a table gives
use Rattle.std.specs.Prelude.{ℕ, ◌≡◌, ◌⊎◌, ◌↔◌, List, [], ◌∷◌}

-- a number, and its condition
abbrev pub Row : Type 1
Row = ℕ × Type 0

-- n is the number of the first row that applies
abbrev pub First : List Row → ℕ → Type 0
First [] n = ⊥
First (row ∷ rows) n = ((n ≡ row.0) × row.1) ⊎ ((row.1 → ⊥) × First rows n)

-- a refuses by number n (`By a n`) exactly when the table gives n
pub record Exact {A : Type 0} (By : A → ℕ → Type 0) (a : A) (rows : List Row) : Type 0 where
  pub says : (n : ℕ) → By a n ↔ First rows n
