-- `unit::reader::Unit::payload_bit` meets its contract: what the check leaves open, by where the bit stands (Hearing).
use Rattle.std.proofs.Common.{◌∙◌, arith}
use Rattle.unit.proofs.Hearing.{lent-of, onward-of, payload-before, heads-few, step-some, payload-once, payload-gap}
use Rattle.unit.proofs.reader.Unit.payload_bit.Goals as goal

pub returns-then-t-first : goal.returns-then-t-first
returns-then-t-first c = let u = c.args.self.now in
    (c.bit_at.ensures.0 ∙ payload-before (lent-of u.fit u.whole c.start-first.ensures) c.if-t-first.true, c.bit_at.ensures.1)

pub overflow_sub-gap : goal.overflow_sub-gap
overflow_sub-gap c = let u = c.args.self.now in
    step-some (onward-of (lent-of u.fit u.whole c.start-first.ensures) c.if-t-first.false c.heads-heads.ensures c.step-gap.ensures)

pub overflow_add-t-then-gap-eq0 : goal.overflow_add-t-then-gap-eq0
overflow_add-t-then-gap-eq0 c = let u = c.args.self.now in
    omega (arith, heads-few (onward-of (lent-of u.fit u.whole c.start-first.ensures) c.if-t-first.false c.heads-heads.ensures c.step-gap.ensures))

pub returns-then-gap-eq0 : goal.returns-then-gap-eq0
returns-then-gap-eq0 c = let u = c.args.self.now in
    let k = onward-of (lent-of u.fit u.whole c.start-first.ensures) c.if-t-first.false c.heads-heads.ensures c.step-gap.ensures in
    (c.bit_at-then-gap-eq0.ensures.0 ∙ payload-once k c.if-gap-eq0.true, c.bit_at-then-gap-eq0.ensures.1)

pub returns : goal.returns
returns c = let u = c.args.self.now in
    let k = onward-of (lent-of u.fit u.whole c.start-first.ensures) c.if-t-first.false c.heads-heads.ensures c.step-gap.ensures in
    (c.bit_at-2.ensures.0 ∙ payload-gap k c.if-gap-eq0.false c.min-passed.ensures, c.bit_at-2.ensures.1)
