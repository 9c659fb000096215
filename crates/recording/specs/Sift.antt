-- A reader of some of a reader's answers: of any reader in the sense of base/specs/Calls, what is looked for among its answers, the others passed over.
-- sifted, sift_all, keep   what is looked for in an answer, if there is one, and among answers, in order
-- sift_hand, sift_eat   the moves of the reader that gives these alone: its state is the reader's own, and it owes what that owes
use Rattle.std.specs.Prelude.{ℕ, List, [], ◌∷◌}
use Rattle.std.proofs.Math.Option.{Option, some, none}

-- before the rest, where it is one
abbrev pub keep : {B : Type 0} → Option B → List B → List B
keep none ys = ys
keep (some y) ys = y ∷ ys

module _ {A B : Type 0} (look : A → Option B) where
  -- what is looked for in an answer, if there is one
  abbrev pub sifted : Option A → Option B
  sifted none = none
  sifted (some a) = look a

  -- .. and among answers, in order
  abbrev pub sift_all : List A → List B
  sift_all [] = []
  sift_all (x ∷ xs) = keep (look x) (sift_all xs)

  -- an owed move
  abbrev pub sift_hand : {S : Type 0} → (S → Option A × S) → S → Option B × S
  sift_hand hand s = (sifted (hand s).0, (hand s).1)

  -- a byte
  abbrev pub sift_eat : {S : Type 0} → (S → ℕ → Option A × S) → S → ℕ → Option B × S
  sift_eat eat s b = (sifted (eat s b).0, (eat s b).1)
