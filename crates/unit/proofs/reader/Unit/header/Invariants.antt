-- What is heard, with what is left, is the header.
use Rattle.std.proofs.Common.{◌≡◌, ◌+◌, ◌*◌}
use Rattle.unit_spec.specs.Tables.{heads, step}
use Rattle.unit.proofs.Hearing.{SoFar}
use Rattle.unit.proofs.reader.Unit.header.Given as goal

abbrev pub invariant-loop-k : goal.invariant-loop-k
invariant-loop-k l = record {
  many : l.k-end ≡ heads l.self.size;
  apart : l.step ≡ step l.self.size;
  heard : SoFar l.self.size l.self.bytes.now l.k-end (l.start + l.k * l.step) l.v l.k;
}
