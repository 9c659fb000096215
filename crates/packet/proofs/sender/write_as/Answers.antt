use Rattle.std.proofs.Common.{sym, ◌∙◌, arith}
use borrow.Author.Tests.{eqb-true, eqb-false}
use Rattle.packet.proofs.Sending.{write-empty, write-long, write-barred, write-head, write-frame}
use Rattle.packet.proofs.sender.write_as.Goals as goal

pub returns-then-is_empty : goal.returns-then-is_empty
returns-then-is_empty c = sym (write-empty _ c.args.out.now (eqb-true _ _ (sym c.is_empty.ensures ∙ c.if-is_empty.true)))

pub returns-then-escaped_len-gt-PAYLOAD : goal.returns-then-escaped_len-gt-PAYLOAD
returns-then-escaped_len-gt-PAYLOAD c =
    sym (write-long _ c.args.out.now (eqb-false _ _ (sym c.is_empty.ensures ∙ c.if-is_empty.false)) (omega arith))

pub returns-then-barred : goal.returns-then-barred
returns-then-barred c =
    sym (write-barred _ c.args.out.now (eqb-false _ _ (sym c.is_empty.ensures ∙ c.if-is_empty.false)) (omega arith)
    (sym c.barred.ensures ∙ c.if-barred.true))

pub returns-then-not-head_fits : goal.returns-then-not-head_fits
returns-then-not-head_fits c =
    sym (write-head _ c.args.out.now (eqb-false _ _ (sym c.is_empty.ensures ∙ c.if-is_empty.false)) (omega arith)
    (sym c.barred.ensures ∙ c.if-barred.false) (sym c.head_fits.ensures ∙ c.if-not-head_fits.true))

pub returns : goal.returns
returns c =
    c.put.ensures
    ∙ sym (write-frame _ c.args.out.now (eqb-false _ _ (sym c.is_empty.ensures ∙ c.if-is_empty.false)) (omega arith)
    (sym c.barred.ensures ∙ c.if-barred.false) (sym c.head_fits.ensures ∙ c.if-not-head_fits.false))
