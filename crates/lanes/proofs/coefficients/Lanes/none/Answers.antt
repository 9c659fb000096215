-- `lanes::coefficients::Lanes::none` meets its contract: computed.
use Rattle.std.proofs.Common.{refl}
use Rattle.word_spec.specs.Private.{bytes_of}
use Rattle.lanes.specs.Private.{laid}
use Rattle.lanes.proofs.coefficients.Lanes.none.Goals as goal

pub returns : goal.returns
unfolding laid bytes_of
returns c = refl
