-- `channel_sender::mark` meets its contract, where it is short of room, and where it writes.
use Rattle.channel_sender.proofs.Sending.{mark-short, mark-fits}
use Rattle.channel_sender.proofs.mark.Goals as goal

pub returns-then-out-lt-LENGTH : goal.returns-then-out-lt-LENGTH
returns-then-out-lt-LENGTH c = mark-short c.args.message.now c.args.out.now c.if-message-ne-MESSAGE.false c.if-out-lt-LENGTH.true

pub returns : goal.returns
returns c = mark-fits c.args.message.now c.args.out.now c.if-message-ne-MESSAGE.false c.if-out-lt-LENGTH.false c.put_block.ensures
