-- v is the values of the bytes passed.
use Rattle.std.proofs.Common.{◌≡◌, ◌+◌, take}
use Rattle.word_spec.specs.Word.{values_from}
use Rattle.parity.specs.Calls.{root_limit}
use Rattle.parity.proofs.at_powers.Given as goal

abbrev pub invariant-loop-c : goal.invariant-loop-c
invariant-loop-c l = l.v ≡ values_from (take (l.passed + l.c-index) l.word) l.j root_limit
