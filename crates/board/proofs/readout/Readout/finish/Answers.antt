use Rattle.std.proofs.Common.{sym, ◌∙◌}
use mathlib.Core.Bool.{true≢false}
use Rattle.board.proofs.Returns.{finish-bare, finish-well, finish-wrong}
use Rattle.board.proofs.readout.Readout.finish.Goals as goal
use Rattle.board.proofs.readout.Readout.finish.Goals.{then-self, else-self}

pub returns-then-may_end : goal.returns-then-may_end
returns-then-may_end c =
    elim c.if-self.branch [
      | then-self w ↦ finish-bare c.args.self w.if-self.true c.none.ensures
      | else-self w ↦ finish-well c.args.self w.if-self.false (sym w.may_end.ensures ∙ sym w.value-is ∙ c.if-may_end.true) c.none.ensures
    ]

pub returns-else-may_end : goal.returns-else-may_end
returns-else-may_end c =
    elim c.if-self.branch [
      | then-self w ↦ absurd (true≢false (sym w.if-self.true ∙ sym w.value-is ∙ c.if-may_end.false))
      | else-self w ↦ finish-wrong c.args.self w.if-self.false (sym w.may_end.ensures ∙ sym w.value-is ∙ c.if-may_end.false) c.wrong_at.ensures
    ]
