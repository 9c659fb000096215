-- The points passed, and those from x on, are all points.
use Rattle.std.proofs.Common.{◌≡◌, ◌-◌, ◌++◌, length, take}
use Rattle.word_spec.specs.Private.{points}
use Rattle.parity.specs.Calls.{root_limit}
use Rattle.parity.proofs.points.Given as goal

abbrev pub invariant-loop-point : goal.invariant-loop-point
invariant-loop-point l = record {
  long : length l.point-items ≡ root_limit;
  left : take l.point-index l.point-items ++ points l.x (root_limit - l.point-index) ≡ points l.first root_limit;
}
