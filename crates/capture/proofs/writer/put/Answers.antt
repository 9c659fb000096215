use Rattle.capture.proofs.Entering.{record-put}
use Rattle.capture.proofs.writer.put.Goals as goal

pub returns : goal.returns
returns c =
    record-put c.args.number c.args.bytes.now c.args.out.now c.requires.1 c.head-head.ensures c.copy.ensures c.copy-2.ensures
