-- `lanes::coefficients::double_eight` meets its contract, by the law of bytes doubled; its masks are computed.
use Rattle.word_spec.proofs.Packed.{lows, ones, bytes-double}
use Rattle.lanes.proofs.coefficients.double_eight.Goals as goal

pub returns : goal.returns
unfolding lows ones
returns c = bytes-double 8 c.args.x
