-- `repair::places::at_places` meets its contract.
use Rattle.std.proofs.Common.{◌∙◌, refl, ap, length, take, arith}
use Rattle.word_spec.specs.Word.{values_from}
use Rattle.repair.proofs.Loops.{places-start, places-whole, places-next, places-done}
use Rattle.repair.proofs.places.at_places.Goals as goal

pub loop-k-init : goal.loop-k-init
loop-k-init c = record { whole = refl; passed = places-start (take (length c.numbers-n.result.now) c.turned-u.result) }

pub loop-k-preserved : goal.loop-k-preserved
loop-k-preserved c = record {
  whole = places-whole (take (length c.numbers-n.result.now) c.turned-u.result) c.loop-k.z c.loop-k.k c.loop-k.invariant.whole c.loop-k.invariant.passed
      c.loop-k-test.true _ (omega (arith, c.copy_from_slice.ensures.len, c.copy_from_slice.auto.self));
  passed = places-next _ c.loop-k.z c.loop-k.k c.loop-k.invariant.whole c.loop-k.invariant.passed c.loop-k-test.true
      (c.copy_from_slice.ensures.after ∙ c.at_powers-l.ensures);
}

pub returns : goal.returns
returns c =
    places-done _ c.loop-k.z c.loop-k.k c.loop-k.invariant.whole c.loop-k.invariant.passed (omega arith)
    ∙ ap (λ t. values_from t 0 256) (ap (λ v. take (length v) c.turned-u.result) c.numbers-n.ensures.0 ∙ c.turned-u.ensures)
