use Rattle.std.proofs.Common.{arith}
use Rattle.office.proofs.Taking.{keep-is}
use Rattle.office.proofs.keep.Goals as goal

pub returns : goal.returns
returns c = (
  omega (arith, c.min.ensures, c.requires.0),
  keep-is c.args.line.now c.args.bytes.now c.args.at c.requires.0 c.requires.1 c.copy.ensures,
)
