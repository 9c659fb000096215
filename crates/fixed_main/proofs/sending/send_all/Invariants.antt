-- No more is held than a group takes, and that has room.
use Rattle.std.proofs.Common.{◌≤◌}
use Rattle.fixed_main.proofs.sending.send_all.Given as goal

abbrev pub invariant-loop-reads : goal.invariant-loop-reads
invariant-loop-reads g l = l.have ≤ l.want
