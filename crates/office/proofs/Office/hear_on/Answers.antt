-- A line feed is found, or none.
use Rattle.std.proofs.Common.{arith, ◌∙◌}
use Rattle.office.proofs.Taking.{heard-more, heard-line, sound-stored, numbered-as}
use Rattle.office.proofs.Office.hear_on.Goals as goal

pub returns-then-n-piece : goal.returns-then-n-piece
returns-then-n-piece c =
    let a = c.args in
    heard-more a.self a.line.now a.hold.now a.piece.now (sound-stored a.self c.requires.0)
    c.up_to-n.ensures.0 c.keep-stored.ensures.0 c.keep-stored.ensures.1 c.if-n-piece.true a.out.now

pub returns : goal.returns
returns c =
    let a = c.args in
    heard-line a.self a.line.now a.hold.now a.piece.now (sound-stored a.self c.requires.0)
    c.up_to-n.ensures.0 c.keep-stored.ensures.0 c.keep-stored.ensures.1 c.if-n-piece.false a.out.now c.end_line-ended.result c.end_line-ended.ensures
    (c.saturating_add.ensures ∙ numbered-as a.self.lines (omega arith))
