-- What is left to store; nothing is written.
use Rattle.std.proofs.Common.{◌≡◌, length, []}
use Rattle.interleaver_spec.specs.Running.{matrix, taken}
use Rattle.interleaver.specs.Private.{left}
use Rattle.interleaver.proofs.turn.Turn.keep.Given as goal

abbrev pub invariant-loop-byte : goal.invariant-loop-byte
invariant-loop-byte l = record {
  cells_in : length l.cells ≡ 16320;
  depth_stays : l.turn.depth ≡ l.fn.self.depth;
  rest : left (taken l.fn.self.depth) l.bytes l.byte-index (matrix l.turn.place l.cells) []
      ≡ left (taken l.fn.self.depth) l.bytes 0 (matrix l.fn.self.place l.initial.cells) [];
}
