-- g is the generator for the roots so far, with zeros behind.
use Rattle.std.proofs.Common.{◌≡◌, ◌-◌, ◌++◌, replicate}
use Rattle.word_spec.specs.Word.{generator}
use Rattle.parity.specs.Calls.{root_limit}
use Rattle.parity.proofs.generate.Given as goal

abbrev pub invariant-loop-j : goal.invariant-loop-j
invariant-loop-j l = l.g ≡ generator l.j ++ replicate (root_limit - l.j) 0
