use Rattle.std.proofs.Common.{sym, ◌∙◌}
use borrow.Author.Tests.{eqb-true, eqb-false}
use Rattle.bid.proofs.Decimal.{number-none, number-long, number_is}
use Rattle.bid.proofs.number.Goals as goal
use Rattle.bid.proofs.number.Goals.{then-is_empty-via-then-is_empty, then-is_empty-via-else-is_empty+then-word-gt-DIGITS}

pub returns-then-is_empty : goal.returns-then-is_empty
returns-then-is_empty c =
    elim c.then-is_empty.branch [
      | then-is_empty-via-then-is_empty w ↦ sym (number-none c.args.word.now (eqb-true _ _ (sym c.is_empty.ensures ∙ w.if-is_empty.true)))
      | then-is_empty-via-else-is_empty+then-word-gt-DIGITS w ↦ sym (number-long c.args.word.now w.if-word-gt-DIGITS.true)
    ]

pub returns : goal.returns
returns c =
    c.digits.ensures
    ∙ sym (number_is c.args.word.now (eqb-false _ _ (sym c.is_empty.ensures ∙ c.if-is_empty.false)) c.if-word-gt-DIGITS.false)
