-- What is left of the eights still to come, behind what the lanes hold, is what is left of all.
use Rattle.std.proofs.Common.{◌≡◌, drop, replicate}
use Rattle.std.specs.List.{concat}
use Rattle.word_spec.specs.Residue.{lane_roots}
use Rattle.word_spec.specs.Private.{fed_all}
use Rattle.lanes.specs.Private.{laid}
use Rattle.lanes.proofs.divided.Given as goal

abbrev pub invariant-loop-bytes : goal.invariant-loop-bytes
invariant-loop-bytes g l =
    fed_all g.D.Divisor.behind (laid l.l) (concat (drop l.bytes-index l.rest)) ≡ fed_all g.D.Divisor.behind (replicate lane_roots 0) l.bytes
