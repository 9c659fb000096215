-- What is left to search decides, and the five bytes before it are at hand.
use Rattle.std.proofs.Common.{◌≡◌, ◌-◌, length, take, drop}
use Rattle.unit_spec.specs.Unit.{opened}
use Rattle.unit_spec.specs.Reading.{payload_of}
use Rattle.unit.proofs.reader.Unit.find.Given as goal

abbrev pub invariant-loop-behind : goal.invariant-loop-behind
invariant-loop-behind l = record {
  five : length l.five ≡ 5;
  at_hand : l.five ≡ take 5 (drop (l.behind - 5) (payload_of l.self.size l.self.bytes.now));
  left : length (opened l.delimiter (drop (l.behind - 5) (take l.end (payload_of l.self.size l.self.bytes.now))))
      ≡ length (opened l.delimiter (drop l.from (take l.end (payload_of l.self.size l.self.bytes.now))));
}
