-- So many bytes are out.
use Rattle.board.proofs.Putting.{Putting}
use Rattle.board.proofs.owed.Owed.put.Given as goal

abbrev pub invariant-loop-w : goal.invariant-loop-w
invariant-loop-w l = Putting l.fn.self l.recv l.initial.out l.out l.owed l.w
