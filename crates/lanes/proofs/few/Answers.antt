-- `lanes::few` meets its contract.
use Rattle.base.proofs.Bytes.{bytes_of}
use Rattle.lanes.proofs.Eights.{few-is}
use Rattle.lanes.proofs.few.Goals as goal

pub returns : goal.returns
returns c =
    few-is c.args.bytes.now c.requires (bytes_of c.args.bytes.now (λ i. (c.type_inv.bytes i).fits))
    (rw c.copy_from_slice.ensures.after at c.from_be_bytes.ensures)
