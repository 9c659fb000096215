-- `repair::places::error_at` meets its contract.
use Rattle.std.proofs.Common.{◌∙◌, sym, ap, arith}
use Rattle.repair.specs.Way.{low, error_at}
use Rattle.repair.proofs.Loops.{error-none, error-start, error-next, error-done}
use Rattle.repair.proofs.places.error_at.Goals as goal

pub returns-then-l-ne0 : goal.returns-then-l-ne0
returns-then-l-ne0 c = error-none c.args.v.now c.args.s.now c.args.x c.requires c.if-l-ne0.true

pub loop-i-init : goal.loop-i-init
loop-i-init c = record { more = omega arith; sums = error-start c.numbers-v.result.now c.args.s.now c.args.x }

pub loop-i-preserved : goal.loop-i-preserved
loop-i-preserved c = record {
  more = omega arith;
  sums = error-next c.numbers-v.result.now c.args.s.now c.args.x c.loop-i.i c.loop-i-test.true c.loop-i.auto.i (omega arith) c.loop-i.invariant.sums
      c.times.ensures c.plus-a.ensures c.times-in-loop-i.ensures c.plus-b.ensures c.times-in-loop-i-2.ensures c.plus-sum.ensures;
}

pub returns : goal.returns
returns c =
    error-done c.numbers-v.result.now c.args.s.now c.args.x c.loop-i.i c.loop-i.invariant.more (omega arith) (omega arith)
    (c.requires ∙ ap (λ v. low v c.args.x) (sym c.numbers-v.ensures.0)) c.if-l-ne0.false c.loop-i.invariant.sums c.times-2.ensures c.inverse.ensures
    c.times-3.ensures
    ∙ ap (λ v. error_at v c.args.s.now c.args.x) c.numbers-v.ensures.0
