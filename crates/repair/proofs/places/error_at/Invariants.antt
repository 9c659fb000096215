-- The three sums are those of the coefficients passed.
use Rattle.std.proofs.Common.{◌<◌}
use Rattle.repair.proofs.Loops.{Summed}
use Rattle.repair.proofs.places.error_at.Given as goal

abbrev pub invariant-loop-i : goal.invariant-loop-i
invariant-loop-i l = record {
  more : 0 < l.i;
  sums : Summed l.v l.s l.x l.i l.a l.b l.sum;
}
