use Rattle.std.proofs.Common.{◌∙◌}
use Rattle.packet_spec.proofs.Judging.{both, judging-over, judging-short, judging-is}
use Rattle.packet.proofs.frame.judge.Goals as goal

pub returns-then-raw-gt-OVER : goal.returns-then-raw-gt-OVER
returns-then-raw-gt-OVER c = both (judging-over c.args.recv.now c.args.raw c.if-raw-gt-OVER.true)

pub returns-then-recv-lt-RAW : goal.returns-then-recv-lt-RAW
returns-then-recv-lt-RAW c = both (judging-short c.args.recv.now c.args.raw c.if-raw-gt-OVER.false c.if-recv-lt-RAW.true)

pub returns : goal.returns
returns c =
    let j = both (judging-is c.args.recv.now c.args.raw c.if-raw-gt-OVER.false c.if-recv-lt-RAW.false) in
    (c.close.ensures.0 ∙ j.0, c.close.ensures.1 ∙ j.1)
