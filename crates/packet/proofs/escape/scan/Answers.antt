use Rattle.std.proofs.Common.{refl, ap, sym, ◌∙◌, arith}
use borrow.Author.Tests.{ne_eqb}
use Rattle.packet_spec.specs.Escape.{scan, scanned_by}
use Rattle.packet.proofs.Runs.{last-is}
use Rattle.packet.proofs.escape.scan.Goals as goal

pub returns-then-eq : goal.returns-then-eq
unfolding scan
returns-then-eq c = simp (sym (last-is c.args.raw.now _ _ c.last.ensures.value refl) ∙ sym c.eq.ensures ∙ c.if-eq.true)

pub returns-in-0 : goal.returns-in-0
unfolding scan
returns-in-0 c =
    simp (sym (last-is c.args.raw.now _ _ c.last.ensures.value refl) ∙ sym c.eq.ensures ∙ c.if-eq.false)
    (ap scanned_by (sym c.in-0.is ∙ c.scan_plain.ensures))

pub returns-in_default : goal.returns-in_default
unfolding scan
returns-in_default c =
    simp (sym (last-is c.args.raw.now _ _ c.last.ensures.value refl) ∙ sym c.eq.ensures ∙ c.if-eq.false)
    (simp (ne_eqb c.scan_plain.result 0 (λ z. absurd (omega (arith, z)))) at (ap scanned_by c.scan_plain.ensures))
