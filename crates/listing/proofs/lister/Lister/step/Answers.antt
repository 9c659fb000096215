-- A line for each way out.
use Rattle.std.proofs.Common.{sym, ◌∙◌, arith}
use Rattle.listing.proofs.Printing.{step_room, step-more, step_line}
use Rattle.listing.proofs.lister.Lister.step.Goals as goal

pub returns-then-out-lt-ROOM : goal.returns-then-out-lt-ROOM
returns-then-out-lt-ROOM c =
    step_room c.args.self.tape c.args.self.totals c.args.recv.now c.args.word.now c.args.piece.now c.args.out.now
    (omega arith) (omega arith) c.requires.0 c.requires.1 c.requires.2 c.if-out-lt-ROOM.true

pub returns-then-is_more : goal.returns-then-is_more
returns-then-is_more c =
    step-more c.args.self.tape c.args.self.totals c.args.recv.now c.args.word.now c.args.piece.now c.args.out.now
    (omega arith) (omega arith) c.requires.0 c.requires.1 c.requires.2 c.next-heard.result _ _ c.next-heard.ensures c.if-out-lt-ROOM.false
    (sym c.is_more.ensures ∙ c.if-is_more.true)

pub returns : goal.returns
returns c =
    step_line c.args.self.tape c.args.self.totals c.args.recv.now c.args.word.now c.args.piece.now c.args.out.now
    (omega arith) (omega arith) c.requires.0 c.requires.1 c.requires.2 c.next-heard.result _ _ c.next-heard.ensures c.if-out-lt-ROOM.false
    (sym c.is_more.ensures ∙ c.if-is_more.false) _ _ _ c.put.ensures c.count.ensures
