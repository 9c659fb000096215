-- Goes   pieces handed in one after the other, by calls that write and have a state, none of them refused
use Rattle.std.specs.Prelude.{◌≡◌, List, [], ◌∷◌, ◌++◌, ℕ, take}
use Rattle.base.specs.Written.{Outcome, outcome}
use Rattle.base.specs.Written.{Wrote}

-- from state s, with the pieces, what is written in all and the state behind it; each call is lent an output of its own
pub data Goes {S : Type 0} (call : S → List ℕ → List ℕ → Outcome × S) : S → List (List ℕ) → List ℕ → S → Type 0 where
  done : {s : S} → Goes call s [] [] s
  piece : {s t u : S} {p : List ℕ} {ps : List (List ℕ)} {xs : List ℕ} (n : ℕ) (out after : List ℕ)
      → call s p out ≡ (outcome (Wrote n) after, t) → Goes call t ps xs u → Goes call s (p ∷ ps) (take n after ++ xs) u
