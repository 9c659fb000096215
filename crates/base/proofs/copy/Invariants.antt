-- The bytes passed, and what is left to copy, are the whole.
use Rattle.std.proofs.Common.{◌≡◌, ◌++◌, take, drop}
use Rattle.base.specs.Written.{copied}
use Rattle.base.proofs.copy.Given as goal

abbrev pub invariant-loop-i : goal.invariant-loop-i
invariant-loop-i l = take l.i l.dst ++ copied (drop l.i l.src) (drop l.i l.dst) ≡ copied l.src l.initial.dst
