-- `parity::generate` meets its contract.
use Rattle.std.proofs.Common.{refl, arith}
use Rattle.word_spec.specs.Word.{generator}
use Rattle.parity.proofs.Loops.{generator-next, generator-done}
use Rattle.parity.proofs.generate.Goals as goal

pub loop-j-init : goal.loop-j-init
unfolding generator
loop-j-init c = refl

pub loop-j-preserved : goal.loop-j-preserved
loop-j-preserved c = generator-next _ _ c.loop-j.invariant (omega arith) c.power-a.ensures c.times_root.ensures

pub returns : goal.returns
returns c = generator-done _ _ _ (omega arith) (omega arith) c.loop-j.invariant
