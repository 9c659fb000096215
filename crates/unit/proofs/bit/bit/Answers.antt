-- `unit::bit::bit` meets its contract: what the check leaves open.
use Rattle.std.proofs.Common.{arith}
use Rattle.unit.proofs.Digits.{digit_at}
use Rattle.unit.proofs.bit.bit.Goals as goal

pub returns : goal.returns
returns c = (digit_at c.args.n c.args.v c.args.k c.requires.0, omega arith)
