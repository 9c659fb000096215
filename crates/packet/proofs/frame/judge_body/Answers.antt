use Rattle.std.proofs.Common.{ap, sym, ◌∙◌, arith}
use Rattle.packet_spec.specs.Frame.{judged}
use Rattle.packet_spec.proofs.Judging.{body-format, body-key, as_plain, as-keyed}
use Rattle.packet.proofs.frame.judge_body.Goals as goal

pub returns-in-33 : goal.returns-in-33
returns-in-33 c = as_plain c.args.body.now c.in-33.is c.judge_packet.ensures

pub returns-in-38 : goal.returns-in-38
returns-in-38 c =
    as-keyed c.args.body.now c.from-end.ensures c.in-38.is (sym c.key_fits.ensures ∙ c.if-key_fits.true) c.judge_packet-in-38.ensures

pub returns-in-38-2 : goal.returns-in-38-2
returns-in-38-2 c = ap judged (sym (body-key c.args.body.now c.in-38.is (sym c.key_fits.ensures ∙ c.if-key_fits.false)))

pub returns-in_default : goal.returns-in_default
returns-in_default c =
    ap judged (sym (body-format c.args.body.now (λ z. absurd (omega (arith, z))) (λ z. absurd (omega (arith, z)))))
