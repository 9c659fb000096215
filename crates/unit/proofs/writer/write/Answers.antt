-- `unit::writer::write` meets its contract: each way by what was found on it (Writing).
use Rattle.std.proofs.Common.{◌++◌, ap, drop, arith}
use Rattle.unit.specs.Private.{code}
use Rattle.unit.proofs.Writing.{fit-of, mixed-of, roomy, is_seen, short, refuse-length, refuse-mix, refuse-room, refuse-hidden, refuse-output, wrote}
use Rattle.unit.proofs.writer.write.Goals as goal

pub returns-then-unfit : goal.returns-then-unfit
returns-then-unfit c = refuse-length _ _ _ _ _ _ c.unfit.ensures c.if-unfit.true

pub returns-in_default : goal.returns-in_default
returns-in_default c = refuse-mix (fit-of c.unfit.ensures c.if-unfit.false (omega arith)) c.sequence.ensures (ap code c.in_default.is)

pub returns-then-overfull : goal.returns-then-overfull
returns-then-overfull c =
    let k = mixed-of (fit-of c.unfit.ensures c.if-unfit.false (omega arith)) c.in-Some.header c.in-Some.ensures in
    refuse-room k c.payload-length.ensures c.overfull.ensures c.if-overfull.true

pub returns-then-is_hidden : goal.returns-then-is_hidden
returns-then-is_hidden c =
    let k = mixed-of (fit-of c.unfit.ensures c.if-unfit.false (omega arith)) c.in-Some.header c.in-Some.ensures in
    refuse-hidden (roomy k c.payload-length.ensures c.overfull.ensures c.if-overfull.false) c.is_hidden.ensures c.if-is_hidden.true

pub returns-then-out-m : goal.returns-then-out-m
returns-then-out-m c =
    let k = mixed-of (fit-of c.unfit.ensures c.if-unfit.false (omega arith)) c.in-Some.header c.in-Some.ensures in
    let s = is_seen (roomy k c.payload-length.ensures c.overfull.ensures c.if-overfull.false) c.is_hidden.ensures c.if-is_hidden.false in
    refuse-output s c.lent-m.ensures.0 c.if-out-m.true

pub returns : goal.returns
returns c =
    let k = mixed-of (fit-of c.unfit.ensures c.if-unfit.false (omega arith)) c.in-Some.header c.in-Some.ensures in
    let s = is_seen (roomy k c.payload-length.ensures c.overfull.ensures c.if-overfull.false) c.is_hidden.ensures c.if-is_hidden.false in
    wrote s c.lent-m.ensures.0 c.if-out-m.false (ap (λ l. l ++ drop c.lent-m.result c.args.out.now) c.spread.ensures)

pub lent-m-requires : goal.lent-m-requires
lent-m-requires c =
    let k = mixed-of {out = c.args.out.now} (fit-of c.unfit.ensures c.if-unfit.false (omega arith)) c.in-Some.header c.in-Some.ensures in
    short (is_seen (roomy k c.payload-length.ensures c.overfull.ensures c.if-overfull.false) c.is_hidden.ensures c.if-is_hidden.false)
