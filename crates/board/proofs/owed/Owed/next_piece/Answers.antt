use Rattle.std.proofs.Common.{arith}
use borrow.Author.Tests.{not-true, not-false}
use Rattle.board.proofs.Returns.{next-none, next-byte, next-feed}
use Rattle.board.proofs.owed.Owed.next_piece.Goals as goal

pub returns-then-not-self : goal.returns-then-not-self
returns-then-not-self c = next-none c.args.self c.args.recv.now (not-true _ c.if-not-self.true) c.nothing.ensures

pub returns-then-self-payload : goal.returns-then-self-payload
returns-then-self-payload c =
    next-byte c.args.self c.args.recv.now (not-false _ c.if-not-self.false)
    c.payload-payload.ensures c.if-self-payload.true c.shown_byte.ensures (omega arith)

pub returns-else-self-payload : goal.returns-else-self-payload
returns-else-self-payload c =
    next-feed c.args.self c.args.recv.now (not-false _ c.if-not-self.false)
    c.payload-payload.ensures c.if-self-payload.false c.alone.ensures c.line_feed.ensures
