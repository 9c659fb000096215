-- The bytes passed, and the rest with what is left to take away, are the whole.
use Rattle.std.proofs.Common.{◌≡◌, ◌++◌, take, drop}
use Rattle.word_spec.specs.Word.{scale, onto}
use Rattle.parity.proofs.subtract.Given as goal

abbrev pub invariant-loop-i : goal.invariant-loop-i
invariant-loop-i l = take l.i l.p ++ onto (scale l.c (drop l.i l.g)) (drop l.i l.p) ≡ onto (scale l.c l.g) l.initial.p
