-- The eights so far stand behind the head.
use Rattle.std.proofs.Common.{◌≡◌, ◌+◌, ◌-◌, ◌*◌, ◌++◌, length, take, replicate}
use Rattle.std.specs.List.{concat}
use Rattle.word_spec.specs.Residue.{lane_roots}
use Rattle.lanes.specs.Private.{laid}
use Rattle.lanes.proofs.begun.Given as goal

abbrev pub invariant-loop-bytes : goal.invariant-loop-bytes
invariant-loop-bytes l =
    laid l.l ≡ replicate (lane_roots - (length l.head + l.bytes-index * 8)) 0 ++ l.head ++ concat (take l.bytes-index l.first)
