-- `fcs::eight` meets its contract.
use Rattle.base.proofs.Bytes.{bytes_of}
use Rattle.fcs.proofs.Eights.{eight-is}
use Rattle.fcs.proofs.eight.Goals as goal

pub returns : goal.returns
returns c = eight-is c.args.bytes.now c.told-bytes (bytes_of c.args.bytes.now c.fits-bytes) c.from_le_bytes.ensures
