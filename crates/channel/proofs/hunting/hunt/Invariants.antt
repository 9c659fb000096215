-- What is found behind the bytes passed is what is found.
use Rattle.std.proofs.Common.{◌≡◌, drop}
use Rattle.channel.specs.Private.{hunted}
use Rattle.channel.proofs.Ways.{latest}
use Rattle.channel.proofs.hunting.hunt.Given as goal

abbrev pub invariant-loop-i : goal.invariant-loop-i
invariant-loop-i l = latest l.i (hunted l.hunting (drop l.i l.piece)) ≡ hunted l.fn.last l.piece
