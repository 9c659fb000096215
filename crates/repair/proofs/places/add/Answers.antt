-- `repair::places::add` meets its contract.
use Rattle.std.proofs.Common.{◌≡◌, ◌∙◌, ap, ◌-◌, length, get_or, arith}
use Rattle.word_spec.specs.Word.{onto}
use Rattle.repair.specs.Way.{errors}
use Rattle.repair.proofs.Loops.{add_start, add-next, point-start, point-next, value_there, back_done}
use Rattle.repair.proofs.places.add.Goals as goal

pub loop-i-init : goal.loop-i-init
loop-i-init c = record { point = point-start (length c.args.word.now); added = add_start c.args.v.now c.args.s.now c.args.word.now }

pub error_at-requires : goal.error_at-requires
error_at-requires c =
    let here : length c.args.word.now - 1 - (c.loop-i.i - 1) ≡ length c.args.word.now - c.loop-i.i = omega arith in
    ap (λ k. get_or c.at_places-z.result k 0) here
    ∙ value_there c.args.v.now (length c.args.word.now - c.loop-i.i) (omega arith) c.at_places-z.ensures c.loop-i.invariant.point

pub loop-i-preserved : goal.loop-i-preserved
loop-i-preserved c = record {
  point = point-next (length c.args.word.now - c.loop-i.i) _ (omega arith) c.loop-i.invariant.point c.times-x.ensures;
  added = add-next c.args.v.now c.args.s.now c.args.word.now (length c.args.word.now - c.loop-i.i) c.loop-i.i c.loop-i.word c.loop-i-test.true
      c.loop-i.invariant.added (omega arith) c.loop-i.invariant.point c.error_at.ensures c.plus.ensures;
}

pub returns : goal.returns
returns c =
    back_done (λ t. onto (errors c.args.v.now c.args.s.now (length t)) t) c.args.word.now c.loop-i.i c.loop-i.word c.loop-i-test.false
    c.loop-i.invariant.added
