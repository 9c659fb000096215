-- The eights that are left give what all give.
use Rattle.std.proofs.Common.{◌≡◌, drop}
use Rattle.std.specs.List.{concat}
use Rattle.fcs.specs.Fcs.{register}
use Rattle.fcs.proofs.singly.Given as goal

abbrev pub invariant-loop-bytes : goal.invariant-loop-bytes
invariant-loop-bytes l = register l.after (concat (drop l.bytes-index l.eights)) ≡ register l.bits (concat l.eights)
