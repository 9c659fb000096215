use Rattle.std.proofs.Common.{◌≡◌, ltb, length}
use Rattle.base.specs.UpTo.{up_to}
use Rattle.packet.proofs.search.among.Given as goal

-- whether c is among the bytes looked at
abbrev pub invariant-loop-b : goal.invariant-loop-b
invariant-loop-b l = l.found ≡ ltb (length (up_to l.c l.bytes)) l.b-index
