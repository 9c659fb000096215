-- `channel_sender::put_next` meets its contract: the block of the message copied.
use Rattle.channel_sender.proofs.Sending.{next-put}
use Rattle.channel_sender.proofs.put_next.Goals as goal

pub returns : goal.returns
returns c = next-put c.args.stream.now c.args.out.now c.copy.ensures c.requires c.mark.ensures
