-- What is left to divide leaves what the whole leaves.
use Rattle.std.proofs.Common.{◌≡◌, ◌-◌, ◌∷◌, drop}
use Rattle.word_spec.specs.Word.{divide}
use Rattle.parity.proofs.reduce.Given as goal

abbrev pub invariant-loop-i : goal.invariant-loop-i
invariant-loop-i l = divide (l.n - l.i) (1 ∷ l.g) (drop l.i l.p) ≡ divide l.n (1 ∷ l.g) l.initial.p
