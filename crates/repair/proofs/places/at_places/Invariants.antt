-- The blocks passed have the values at their points.
use Rattle.std.proofs.Common.{◌≡◌, ◌*◌, length, take}
use Rattle.word_spec.specs.Word.{values_from}
use Rattle.repair.proofs.places.at_places.Given as goal

abbrev pub invariant-loop-k : goal.invariant-loop-k
invariant-loop-k l = record {
  whole : length l.z ≡ 256;
  passed : take (l.k * 64) l.z ≡ values_from (take l.n l.u) 0 (l.k * 64);
}
