-- Where not all that is owed has room; where it has, by what is heard.
use Rattle.std.proofs.Common.{sym, ◌∙◌, ap}
use Rattle.board.specs.Private.{answered_by}
use Rattle.board.proofs.Taking.{take_part, take_more, take-answer}
use Rattle.board.proofs.readout.Readout.take_on.Goals as goal

pub returns-then-owes : goal.returns-then-owes
returns-then-owes c =
    take_part c.args.self c.args.recv.now c.args.word.now c.args.piece.now c.args.out.now c.requires.0 c.requires.2
    c.put-put.ensures (sym c.owes.ensures ∙ c.if-owes.true) c.owing.ensures

pub returns-then-is_more : goal.returns-then-is_more
returns-then-is_more c =
    take_more c.args.self c.args.recv.now c.args.word.now c.args.piece.now c.args.out.now c.requires.0 c.requires.2
    c.put-put.ensures (sym c.owes.ensures ∙ c.if-owes.false) c.hear-heard.ensures
    (c.answer-next.ensures ∙ ap (λ r. answered_by r c.hear-heard.result.answer) c.on.ensures) (sym c.is_more.ensures ∙ c.if-is_more.true)

pub returns : goal.returns
returns c =
    take-answer c.args.self c.args.recv.now c.args.word.now c.args.piece.now c.args.out.now c.requires.0 c.requires.2
    c.put-put.ensures (sym c.owes.ensures ∙ c.if-owes.false) c.hear-heard.ensures
    (c.answer-next.ensures ∙ ap (λ r. answered_by r c.hear-heard.result.answer) c.on.ensures) (sym c.is_more.ensures ∙ c.if-is_more.false)
