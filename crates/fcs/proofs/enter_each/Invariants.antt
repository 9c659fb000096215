-- The bytes that are left give what all give.
use Rattle.std.proofs.Common.{◌≡◌, drop}
use Rattle.fcs.specs.Fcs.{register}
use Rattle.fcs.proofs.enter_each.Given as goal

abbrev pub invariant-loop-byte : goal.invariant-loop-byte
invariant-loop-byte l = register l.after (drop l.byte-index l.bytes) ≡ register l.bits l.bytes
