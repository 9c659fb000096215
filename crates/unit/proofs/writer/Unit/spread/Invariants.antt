-- The bytes passed are those of the unit, and the rest is as it was.
use Rattle.std.proofs.Common.{◌≡◌, ◌++◌, length, drop}
use Rattle.unit_spec.specs.Bits.{pack}
use Rattle.unit.specs.Private.{bits_of, bits_in}
use Rattle.unit.proofs.writer.Unit.spread.Given as goal

abbrev pub invariant-loop-j : goal.invariant-loop-j
invariant-loop-j l = record {
  long : length l.out ≡ length l.initial.out;
  made : l.out
      ≡ pack l.j (bits_in l.self.size (bits_of l.self.header) l.self.contents.delimiter l.self.contents.audio.now l.self.contents.opportunistic.now
      l.self.contents.fixed.now)
      ++ drop l.j l.initial.out;
}
