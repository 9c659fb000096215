use Rattle.std.proofs.Common.{◌∙◌, arith}
use Rattle.base.proofs.Lists.{over}
use Rattle.packet_spec.specs.Escape.{wrong_from}
use Rattle.packet_spec.proofs.Escaping.{right-in, right-low, right-high}
use Rattle.packet.proofs.Runs.{found-is, scan-ends, scan-hands, told-right, told-wrong}
use Rattle.packet.proofs.escape.+scan_escaped_scan_plain.Goals as goal

pub scan_escaped-returns-then-at-raw : goal.scan_escaped-returns-then-at-raw
scan_escaped-returns-then-at-raw t c = unfold wrong_from in rw (over c.args.raw.now c.args.at (omega arith))

pub scan_escaped-returns-in-94 : goal.scan_escaped-returns-in-94
scan_escaped-returns-in-94 t c =
    c.scan_plain.ensures
    ∙ told-right c.args.raw.now c.args.at (omega arith) (right-in _ (omega arith) (omega arith)) (λ z. absurd (omega (arith, z)))

pub scan_escaped-returns-in_default : goal.scan_escaped-returns-in_default
scan_escaped-returns-in_default t c = told-wrong c.args.raw.now c.args.at (omega arith) (right-low _ (omega arith))

pub scan_escaped-returns-in_default-2 : goal.scan_escaped-returns-in_default-2
scan_escaped-returns-in_default-2 t c = told-wrong c.args.raw.now c.args.at (omega arith) (right-high _ (omega arith))

pub scan_plain-returns-then-i-raw : goal.scan_plain-returns-then-i-raw
scan_plain-returns-then-i-raw t c =
    scan-ends c.args.raw.now c.args.at (found-is c.args.raw.now c.args.at c.up_to.ensures.0) c.if-i-raw.true

pub scan_plain-returns : goal.scan_plain-returns
scan_plain-returns t c =
    let e = found-is c.args.raw.now c.args.at c.up_to.ensures.0 in
    c.scan_escaped.ensures ∙ scan-hands c.args.raw.now c.args.at e (omega arith)
