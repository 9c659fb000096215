use Rattle.std.proofs.Common.{ap, sym, ◌∙◌}
use Rattle.packet_spec.specs.Frame.{judged}
use Rattle.packet_spec.proofs.Judging.{judge-short, judge-check, judge-body}
use Rattle.packet.proofs.frame.judge_contents.Goals as goal

pub returns-then-n-lt8 : goal.returns-then-n-lt8
returns-then-n-lt8 c = ap judged (sym (judge-short _ c.if-n-lt8.true))

pub returns-then-fcs-pair_at : goal.returns-then-fcs-pair_at
returns-then-fcs-pair_at c =
    ap judged (sym (judge-check _ c.if-n-lt8.false (λ e. c.if-fcs-pair_at.true (c.fcs.ensures ∙ e ∙ sym c.pair_at.ensures))))

pub returns : goal.returns
returns c =
    c.judge_body.ensures ∙ ap judged (sym (judge-body _ c.if-n-lt8.false (sym c.fcs.ensures ∙ c.if-fcs-pair_at.false ∙ c.pair_at.ensures)))
