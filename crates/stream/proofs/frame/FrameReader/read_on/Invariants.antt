use Rattle.std.proofs.Common.{◌≡◌, ◌≤◌, ◌-◌, true, length, drop}
use Rattle.base.specs.Calls.{after}
use Rattle.stream.specs.Call.{held, read_on, sound}
use Rattle.stream.proofs.frame.FrameReader.read_on.Given as goal

-- the call on the piece is the one on the bytes left, after those taken
abbrev pub invariant-loop-at : goal.invariant-loop-at
invariant-loop-at l = record {
  within : l.at ≤ length l.piece;
  sound : sound l.frame ≡ true;
  left : read_on (held l.initial.frame l.initial.recv) l.piece ≡ after l.at (read_on (held l.frame l.recv) (drop l.at l.piece));
}

abbrev pub decreases-loop-at : goal.decreases-loop-at
decreases-loop-at l = length l.piece - l.at
