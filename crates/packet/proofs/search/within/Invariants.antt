use Rattle.std.proofs.Common.{◌-◌, take, drop}
use Rattle.packet.proofs.Seeking.{Seen}
use Rattle.packet.proofs.search.within.Given as goal

-- the bits are those of the bytes from the i-th on
abbrev pub invariant-loop-i : goal.invariant-loop-i
invariant-loop-i l = Seen l.c (16 - l.i) l.bits (drop l.i (take 16 (drop l.at l.bytes)))
