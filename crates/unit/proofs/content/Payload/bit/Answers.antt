-- `unit::content::Payload::bit` meets its contract: what the check leaves open.
use Rattle.std.proofs.Common.{ℕ, ◌%◌, ap, ◌∙◌, get_or}
use Rattle.unit_spec.specs.Bits.{digits}
use Rattle.unit.proofs.Contents.{bits-any}
use Rattle.unit.proofs.content.Payload.bit.Goals as goal

pub returns : goal.returns
returns c = (
  c.byte_bit.ensures.0 ∙ ap (λ (b : ℕ). get_or (digits 8 b) (c.args.t % 8) 0) c.byte.ensures ∙ bits-any _ _,
  c.byte_bit.ensures.1,
)
