use Rattle.std.proofs.Common.{◌∙◌, arith}
use Rattle.bid.proofs.Reading.{read_short, read-no-port, read-no-sequence, read-bid}
use Rattle.bid.proofs.read.Goals as goal

pub returns-then-a-line : goal.returns-then-a-line
returns-then-a-line c = read_short c.args.line.now c.up_to-a.ensures.0 c.if-a-line.true

pub returns-in_err-port : goal.returns-in_err-port
returns-in_err-port c = c.from_residual.ensures ∙ read-no-port c.args.line.now c.up_to-a.ensures.0 c.in_err-port.ensures (omega arith)

pub returns-in_err-sequence : goal.returns-in_err-sequence
returns-in_err-sequence c =
    c.from_residual-in_err-sequence.ensures
    ∙ read-no-sequence c.args.line.now c.up_to-a.ensures.0 c.in_ok-port.ensures c.up_to.ensures.0 c.in_err-sequence.ensures (omega arith)

pub returns : goal.returns
returns c =
    read-bid c.args.line.now c.up_to-a.ensures.0 c.in_ok-port.ensures c.up_to.ensures.0 c.in_ok-sequence.ensures (omega arith) (omega arith)
    c.min.ensures
