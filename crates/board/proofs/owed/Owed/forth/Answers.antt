use Rattle.std.proofs.Common.{arith}
use Rattle.board.proofs.Returns.{forth-on, forth-next}
use Rattle.board.proofs.owed.Owed.forth.Goals as goal

pub returns-then-out-self : goal.returns-then-out-self
returns-then-out-self c = forth-on c.args.self.now c.args.recv.now (omega arith) c.if-out-self.true

pub returns-else-out-self : goal.returns-else-out-self
returns-else-out-self c = forth-next c.args.self.now c.args.recv.now c.if-out-self.false (omega arith) c.next_piece.ensures
