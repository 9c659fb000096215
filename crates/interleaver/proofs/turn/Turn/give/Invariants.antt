-- What is left to give, behind what is written.
use Rattle.std.proofs.Common.{◌≡◌, length}
use Rattle.interleaver_spec.specs.Running.{matrix, taken}
use Rattle.interleaver.specs.Private.{left}
use Rattle.interleaver.proofs.turn.Turn.give.Given as goal

abbrev pub invariant-loop-i : goal.invariant-loop-i
invariant-loop-i l = record {
  cells_in : length l.cells ≡ 16320;
  depth_stays : l.turn.depth ≡ l.fn.self.depth;
  rest : left (taken l.fn.self.depth) l.bytes l.i (matrix l.turn.place l.cells) l.out
      ≡ left (taken l.fn.self.depth) l.bytes 0 (matrix l.fn.self.place l.initial.cells) l.initial.out;
}
