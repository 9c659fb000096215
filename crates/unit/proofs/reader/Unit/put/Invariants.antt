-- The bytes passed are stored in the part, and its rest is as it was.
use Rattle.std.proofs.Common.{◌≡◌, ◌++◌, take, drop}
use Rattle.unit_spec.specs.Reading.{payload_of}
use Rattle.unit.proofs.reader.Unit.put.Given as goal

abbrev pub invariant-loop-i : goal.invariant-loop-i
invariant-loop-i l = l.byte-items ≡ take l.i (drop l.from (payload_of l.self.size l.self.bytes.now)) ++ drop l.i l.initial.byte-items
