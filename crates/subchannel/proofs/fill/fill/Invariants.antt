-- Any lane that these bytes fill goes on behind those that are stored.
use Rattle.std.proofs.Common.{◌≡◌, false}
use Rattle.interleaver_spec.specs.Running.{beyond}
use Rattle.subchannel.proofs.Filling.{Runs}
use Rattle.subchannel.proofs.fill.fill.Given as goal

abbrev pub invariant-loop-k : goal.invariant-loop-k
invariant-loop-k l = record {
  runs : Runs l.n l.from l.depth l.at l.piece l.initial.back l.initial.word l.k l.back l.word;
  same : l.back.again ≡ l.initial.back.again;
  placed : beyond l.depth l.back.matrix.place ≡ false;
}
