-- The values passed, and the step of the rest, are the step of all.
use Rattle.std.proofs.Common.{◌≡◌, ◌++◌, length, take, drop}
use Rattle.word_spec.specs.Private.{stepped}
use Rattle.parity.specs.Calls.{root_limit}
use Rattle.parity.proofs.step.Given as goal

abbrev pub invariant-loop-lane : goal.invariant-loop-lane
invariant-loop-lane l = record {
  long : length l.next ≡ root_limit;
  left : take l.lane l.next ++ stepped l.c (drop l.lane l.p) (drop l.lane l.next) ≡ stepped l.c l.p l.initial.next;
}
