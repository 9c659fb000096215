-- `unit::reader::Unit::header` meets its contract: what the check leaves open.
use Rattle.std.proofs.Common.{arith}
use Rattle.unit.proofs.Hearing.{hear-none, low, at_low, hear-more, hear-done}
use Rattle.unit.proofs.reader.Unit.header.Goals as goal

pub loop-k-init : goal.loop-k-init
loop-k-init c = let u = c.args.self.now in record {
  many = c.heads-k-end.ensures;
  apart = c.step-step.ensures;
  heard = hear-none u.size u.bytes.now u.fit c.heads-k-end.ensures (omega (arith, c.start-start.ensures));
}

pub overflow_mul-k : goal.overflow_mul-k
overflow_mul-k c = let u = c.args.self.now in let k = c.loop-k.invariant in
    omega (arith, at_low u.size u.bytes.now u.fit k.many k.heard c.loop-k-test.true)

pub overflow_add-start : goal.overflow_add-start
overflow_add-start c = let u = c.args.self.now in let k = c.loop-k.invariant in
    omega (arith, at_low u.size u.bytes.now u.fit k.many k.heard c.loop-k-test.true)

pub with_bit-v-requires : goal.with_bit-v-requires
with_bit-v-requires c = let u = c.args.self.now in let k = c.loop-k.invariant in
    (omega (arith, low u.size u.bytes.now u.fit k.many k.heard c.loop-k-test.true), c.bit_at.ensures.1)

pub loop-k-preserved : goal.loop-k-preserved
loop-k-preserved c = let u = c.args.self.now in let k = c.loop-k.invariant in record {
  many = k.many;
  apart = k.apart;
  heard =
      hear-more u.size u.bytes.now u.fit k.many k.heard c.loop-k-test.true k.apart (omega arith) c.bit_at.ensures.0 c.bit_at.ensures.1 c.with_bit-v.ensures;
}

pub returns : goal.returns
returns c = let u = c.args.self.now in hear-done u.size u.bytes.now c.loop-k.invariant.heard c.loop-k-test.false
