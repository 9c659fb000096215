-- `unit::writer::Unit::bit` meets its contract: what the check leaves open, by where the bit stands (Placing).
use Rattle.std.proofs.Common.{ℕ, ◌+◌, ◌*◌, ◌-◌, ◌/◌, ◌∙◌, ap, get_or, arith}
use native.Mathlib.Nat.{le_refl}
use Rattle.unit_spec.specs.Bits.{digits}
use Rattle.unit_spec.proofs.Rows.{accepted, few}
use Rattle.unit.specs.Private.{bits_of}
use Rattle.unit.proofs.Placing.{held-of, onward-of, bit-before, bit-behind, bit-heading, bit-between}
use Rattle.unit.proofs.writer.Unit.bit.Goals as goal

pub returns-then-i-first : goal.returns-then-i-first
returns-then-i-first c = let u = c.args.self.now in
    (c.bit.ensures.0 ∙ bit-before (held-of u.fit u.contents.room u.all c.start-first.ensures) c.if-i-first.true, c.bit.ensures.1)

pub nonzero_div-h : goal.nonzero_div-h
nonzero_div-h c = let u = c.args.self.now in omega (arith, (accepted u.size u.fit).1)

pub returns-then-heads-h : goal.returns-then-heads-h
returns-then-heads-h c = let u = c.args.self.now in
    let k = onward-of (held-of u.fit u.contents.room u.all c.start-first.ensures) c.if-i-first.false c.step-step.ensures c.heads-heads.ensures in
    (c.bit-then-heads-h.ensures.0 ∙ bit-behind k c.if-heads-h.true, c.bit-then-heads-h.ensures.1)

pub nonzero_rem-i : goal.nonzero_rem-i
nonzero_rem-i c = let u = c.args.self.now in omega (arith, (accepted u.size u.fit).1)

pub bit-requires-then-i-first-eq0 : goal.bit-requires-then-i-first-eq0
bit-requires-then-i-first-eq0 c = (omega (arith, (few c.args.self.now.size).1), le_refl 24)

pub returns-then-i-first-eq0 : goal.returns-then-i-first-eq0
returns-then-i-first-eq0 c = let u = c.args.self.now in
    let k = onward-of (held-of {cw = bits_of u.header} u.fit u.contents.room u.all c.start-first.ensures) c.if-i-first.false c.step-step.ensures
    c.heads-heads.ensures in
    let b = c.bit-then-i-first-eq0.ensures in (
      b.0 ∙ ap (λ (n : ℕ). get_or (digits 24 n) ((c.args.j * 8 + c.args.k - c.start-first.result) / c.step-step.result) 0) c.bits.ensures
          ∙ bit-heading k c.if-heads-h.false c.if-i-first-eq0.true,
      b.1,
    )

pub returns : goal.returns
returns c = let u = c.args.self.now in
    let k = onward-of (held-of u.fit u.contents.room u.all c.start-first.ensures) c.if-i-first.false c.step-step.ensures c.heads-heads.ensures in
    (c.bit-2.ensures.0 ∙ bit-between k c.if-heads-h.false c.if-i-first-eq0.false, c.bit-2.ensures.1)
