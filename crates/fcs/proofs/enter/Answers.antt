-- `fcs::enter` meets its contract.
use Rattle.std.proofs.Common.{arith}
use Rattle.fcs.proofs.Entering.{byte-enters}
use Rattle.fcs.proofs.enter.Goals as goal

pub returns : goal.returns
returns c = rw c.from.ensures (byte-enters c.args.register c.args.byte (omega arith))
