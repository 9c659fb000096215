-- The words that are left, stored from here on, make the four.
use Rattle.subchannel_sender.proofs.Storing.{WordsLeft}
use Rattle.subchannel_sender.proofs.limits.Limits.group_of.Given as goal

abbrev pub invariant-loop-i : goal.invariant-loop-i
invariant-loop-i l = WordsLeft l.self.parity l.stream l.rest l.group l.i
