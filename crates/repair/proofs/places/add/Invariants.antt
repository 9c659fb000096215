-- Behind the places left stand those passed, their bytes added.
use Rattle.std.proofs.Common.{◌≡◌, ◌-◌, ◌++◌, length, take, drop}
use Rattle.field.specs.Field.{alpha, pow}
use Rattle.word_spec.specs.Word.{onto}
use Rattle.repair.specs.Way.{errors}
use Rattle.repair.proofs.places.add.Given as goal

abbrev pub invariant-loop-i : goal.invariant-loop-i
invariant-loop-i l =
    let old = l.initial.word in record {
      point : l.x ≡ pow alpha (length old - l.i);
      added : l.word ≡ take l.i old ++ onto (errors l.v l.s (length (drop l.i old))) (drop l.i old);
    }
