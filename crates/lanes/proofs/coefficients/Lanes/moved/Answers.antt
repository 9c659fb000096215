-- `lanes::coefficients::Lanes::moved` meets its contract: the bytes are those of the numbers.
use Rattle.std.proofs.Common.{refl}
use Rattle.word_spec.specs.Private.{bytes_of}
use Rattle.lanes.specs.Private.{laid}
use Rattle.lanes.proofs.coefficients.Lanes.moved.Goals as goal

pub returns : goal.returns
unfolding laid bytes_of
returns c = refl
