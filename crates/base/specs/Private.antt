-- What private functions alone are promised by, here and above.
-- Laid   bytes stored in a buffer from a place on: what every function that stores byte after byte promises (ends, holds)
use Rattle.std.specs.Prelude.{◌≡◌, List, ℕ, ◌+◌, length}
use Rattle.std.proofs.lemmas.List.Edits.{sets}

-- `after` is `before` with the bytes bs stored from `at` on, and `end` is the place behind them
pub record Laid (before : List ℕ) (at : ℕ) (bs after : List ℕ) (end : ℕ) : Type 0 where
  pub ends : end ≡ at + length bs
  pub holds : after ≡ sets before at bs
