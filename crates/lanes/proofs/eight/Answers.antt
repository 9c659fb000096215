-- `lanes::eight` meets its contract.
use Rattle.lanes.proofs.Laid.{eight-is}
use Rattle.lanes.proofs.eight.Goals as goal

pub returns : goal.returns
returns c = eight-is c.args.bytes.now c.told-bytes c.fits-bytes c.from_be_bytes.ensures
