-- `channel_sender::put_block` meets its contract, by the law of what its calls leave.
use Rattle.std.proofs.Common.{refl}
use Rattle.channel_sender.proofs.Sending.{block-put}
use Rattle.channel_sender.proofs.put_block.Goals as goal

pub returns : goal.returns
returns c =
    block-put c.args.message.now c.args.out.now c.requires.0 c.requires.1 _
    c.copy_from_slice.ensures.after c.copy_from_slice-2.ensures.after refl c.make.ensures
