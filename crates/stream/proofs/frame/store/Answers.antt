use Rattle.std.proofs.Common.{arith}
use Rattle.stream.proofs.Runs.{stored}
use Rattle.stream.proofs.frame.store.Goals as goal

pub returns : goal.returns
returns c =
    (c.up_to-n.ensures.0, stored c.args.bytes.now c.args.recv.now c.args.at (omega arith) c.up_to-n.ensures.0 c.copy.ensures)
