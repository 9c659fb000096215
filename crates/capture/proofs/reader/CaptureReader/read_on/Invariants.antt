use Rattle.capture.specs.Call.{held}
use Rattle.capture.proofs.Hearing.{Going}
use Rattle.capture.proofs.reader.CaptureReader.read_on.Given as goal

-- the call on the piece is the one on the bytes left, after those taken
abbrev pub invariant-loop-i : goal.invariant-loop-i
invariant-loop-i l = Going (held l.initial.capture l.initial.store) l.piece l.i (held l.capture l.store)
