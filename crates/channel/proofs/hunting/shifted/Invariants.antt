-- What is shifted, and what is left, is the whole.
use Rattle.std.proofs.Common.{◌≡◌, drop}
use Rattle.channel.specs.Private.{shifts}
use Rattle.channel.proofs.hunting.shifted.Given as goal

abbrev pub invariant-loop-byte : goal.invariant-loop-byte
invariant-loop-byte l = shifts l.next (drop l.byte-index l.bytes) ≡ shifts l.fn.last l.bytes
