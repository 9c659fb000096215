-- The four that wait and the eights that are left give what all give.
use Rattle.std.proofs.Common.{◌≡◌, drop}
use Rattle.std.specs.List.{concat}
use Rattle.fcs.specs.Fcs.{register}
use Rattle.fcs.proofs.Folding.{Fit, waiting}
use Rattle.fcs.proofs.folded.Given as goal

abbrev pub invariant-loop-bytes : goal.invariant-loop-bytes
invariant-loop-bytes l = record {
  fit : Fit l.a l.b l.c l.d;
  left : register (waiting l.a l.b l.c l.d) (concat (drop l.bytes-index l.bytes-items)) ≡ register l.bits (concat l.eights);
}
