use Rattle.board.proofs.Returns.{heard-bare, heard-taped}
use Rattle.board.proofs.readout.Readout.hear.Goals as goal

pub returns-then-self : goal.returns-then-self
returns-then-self c =
    heard-bare c.args.self c.args.recv.now c.args.word.now c.args.piece.now c.requires.0 c.requires.1 c.if-self.true c.hear_bare.ensures

pub returns-else-self : goal.returns-else-self
returns-else-self c =
    heard-taped c.args.self c.args.recv.now c.args.word.now c.args.piece.now c.requires.0 c.requires.1 c.if-self.false c.next.ensures
