use Rattle.std.proofs.Common.{arith}
use Rattle.capture.proofs.Asking.{told-short, told-plain, told-other, told-cut, told-keyed}
use Rattle.capture.proofs.entry.told.Goals as goal

pub returns-then-n-lt6 : goal.returns-then-n-lt6
returns-then-n-lt6 c = told-short c.args.bytes.now c.if-n-lt6.true

pub returns-in-33 : goal.returns-in-33
returns-in-33 c = told-plain c.args.bytes.now c.if-n-lt6.false c.in-33.is c.ask.ensures

pub returns-then-n-end : goal.returns-then-n-end
returns-then-n-end c = told-cut c.args.bytes.now c.if-n-lt6.false c.in-38.is c.from-end.ensures c.if-n-end.true

pub returns-else-n-end : goal.returns-else-n-end
returns-else-n-end c =
    told-keyed c.args.bytes.now c.if-n-lt6.false c.in-38.is c.from-end.ensures c.if-n-end.false c.ask-in-38.ensures

pub returns-in_default : goal.returns-in_default
returns-in_default c =
    told-other c.args.bytes.now c.if-n-lt6.false (λ z. absurd (omega (arith, z))) (λ z. absurd (omega (arith, z)))
