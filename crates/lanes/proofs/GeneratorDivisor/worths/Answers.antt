-- `worths` of `lanes::Generator` meets its contract: the first row is the divisor, and each other is computed from the one before it.
use Rattle.std.proofs.Common.{refl}
use Rattle.field.specs.Field.{add, double, shift_add, mul}
use Rattle.word_spec.specs.Word.{scale, onto}
use Rattle.word_spec.specs.Private.{bytes_of, fed}
use Rattle.word_spec.proofs.Packed.{below-packed}
use Rattle.lanes.proofs.GeneratorDivisor.worths.Goals as goal

pub returns : goal.returns
returns c = (
  below-packed,
  unfold bytes_of fed scale onto mul shift_add double add in refl,
  unfold bytes_of fed scale onto mul shift_add double add in refl,
  unfold bytes_of fed scale onto mul shift_add double add in refl,
  unfold bytes_of fed scale onto mul shift_add double add in refl,
  unfold bytes_of fed scale onto mul shift_add double add in refl,
  unfold bytes_of fed scale onto mul shift_add double add in refl,
  unfold bytes_of fed scale onto mul shift_add double add in refl,
)
