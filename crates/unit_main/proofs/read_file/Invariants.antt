-- No more bytes are read than there is room for, and the room grows less.
use Rattle.std.proofs.Common.{length, ◌-◌, ◌≤◌}
use Rattle.unit_main.proofs.read_file.Given as goal

abbrev pub invariant-loop-n : goal.invariant-loop-n
invariant-loop-n g l = l.n ≤ length l.initial.space

abbrev pub decreases-loop-n : goal.decreases-loop-n
decreases-loop-n g l = length l.initial.space - l.n
