-- What is left of the piece, from this state on, is the rest of the call.
use Rattle.std.proofs.Common.{◌-◌, length}
use Rattle.subchannel.specs.Call.{sub}
use Rattle.subchannel.specs.Private.{Going}
use Rattle.subchannel.proofs.sub.Sub.hear_bytes.Given as goal

abbrev pub invariant-loop-taken : goal.invariant-loop-taken
invariant-loop-taken l = Going l.fn.self l.initial.word l.piece l.taken (sub l.lane l.back) l.word

abbrev pub decreases-loop-taken : goal.decreases-loop-taken
decreases-loop-taken l = length l.piece - l.taken
