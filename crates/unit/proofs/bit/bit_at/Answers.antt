-- `unit::bit::bit_at` meets its contract: what the check leaves open.
use Rattle.std.proofs.Common.{rules, ◌≡◌, ap, ◌∙◌, ℕ, ◌/◌, ◌%◌, get_or}
use Rattle.unit_spec.specs.Bits.{digits}
use Rattle.unit.proofs.Contents.{bits-any}
use Rattle.unit.proofs.bit.bit_at.Goals as goal

pub returns : goal.returns
returns c =
    let e : c.unwrap_or.result ≡ get_or c.args.bytes.now (c.args.t / 8) 0 = search rules in
    (c.byte_bit.ensures.0 ∙ ap (λ (b : ℕ). get_or (digits 8 b) (c.args.t % 8) 0) e ∙ bits-any _ _, c.byte_bit.ensures.1)
