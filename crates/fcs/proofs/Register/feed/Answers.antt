-- `fcs::Register::feed` meets its contract.
use Rattle.fcs.proofs.Eights.{eights-enter}
use Rattle.fcs.proofs.Register.feed.Goals as goal

pub returns : goal.returns
returns c i = record {
  bits =
      eights-enter _ 8 _ c.args.bytes.now c.as_chunks.ensures.front c.as_chunks.ensures.back c.enter_eights-bits.ensures c.enter_each.ensures i;
}
