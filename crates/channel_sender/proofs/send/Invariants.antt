-- The blocks so far stand at the start of the output.
use Rattle.std.proofs.Common.{◌≡◌, ◌*◌, ◌++◌, length, drop}
use Rattle.channel_spec.specs.Sender.{block_bytes}
use Rattle.channel_sender.proofs.Sending.{first_blocks}
use Rattle.channel_sender.proofs.send.Given as goal

abbrev pub invariant-loop-i : goal.invariant-loop-i
invariant-loop-i l = record {
  room : length l.out ≡ length l.fn.out;
  so_far : l.out ≡ first_blocks l.stream l.i ++ drop (block_bytes * l.i) l.fn.out;
}
