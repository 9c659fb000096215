-- `lanes::coefficients::Lanes::row` meets its contract: the bytes are those of the numbers.
use Rattle.std.proofs.Common.{refl}
use Rattle.lanes.specs.Private.{laid}
use Rattle.lanes.proofs.coefficients.Lanes.row.Goals as goal

pub returns : goal.returns
unfolding laid
returns c = refl
