use Rattle.std.proofs.Common.{◌≡◌, refl, ap, ◌∙◌, Bool, true, false, cond, ℕ, List, length, arith, slice_index_or}
use mir.Val.{bool_byte}
use Rattle.base.proofs.Lists.{over}
use Rattle.packet_spec.specs.Escape.{escape}
use Rattle.packet_spec.proofs.Escaping.{width-most, escape-next}
use Rattle.packet.specs.Private.{escapes}
use Rattle.packet.proofs.Counting.{width-is}
use Rattle.packet.proofs.escape.escaped_len.Goals as goal

bit : (b : Bool) → bool_byte b ≡ cond b 1 0
bit true = refl
bit false = refl

pub loop-b-preserved : goal.loop-b-preserved
loop-b-preserved c =
    let i = c.loop-b.b-index in
    let b = slice_index_or c.args.bytes.now i 0 in
    let one : c.from.result ≡ cond (escapes b) 1 0 = c.from.ensures ∙ ap bool_byte c.is_escaped.ensures ∙ bit (escapes b) in
    record {
      small = omega (arith, one, width-is b, width-most b, c.loop-b.invariant.small);
      whole = omega (arith, one, width-is b, escape-next c.args.bytes.now i c.loop-b-test.true, c.loop-b.invariant.whole);
    }

pub returns : goal.returns
returns c =
    let e = over c.args.bytes.now c.loop-b.b-index c.loop-b-test.false in
    unfold escape in omega (arith, c.loop-b.invariant.whole, ap (λ (x : List ℕ). length (escape x)) e)
