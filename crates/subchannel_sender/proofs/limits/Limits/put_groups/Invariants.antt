-- The groups that are left, stored from here on, make all.
use Rattle.subchannel_sender.proofs.Storing.{GroupsLeft}
use Rattle.subchannel_sender.proofs.limits.Limits.put_groups.Given as goal

abbrev pub invariant-loop-i : goal.invariant-loop-i
invariant-loop-i l = GroupsLeft l.self.parity l.self.depth l.self.roots l.groups l.stream l.initial.out l.rest l.matrix l.out l.i
