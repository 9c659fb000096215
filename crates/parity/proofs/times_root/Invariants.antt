-- The coefficients passed, and the change of the rest, are the change of the whole.
use Rattle.std.proofs.Common.{◌≡◌, ◌∷◌, ◌++◌, take, drop}
use Rattle.field.specs.Field.{mul}
use Rattle.word_spec.specs.Word.{scale, onto}
use Rattle.parity.proofs.times_root.Given as goal

abbrev pub invariant-loop-x : goal.invariant-loop-x
invariant-loop-x l =
    take l.x-index l.g ++ onto (mul l.a l.last ∷ scale l.a (drop l.x-index l.g)) (drop l.x-index l.g) ≡ onto (0 ∷ scale l.a l.initial.g) l.initial.g
