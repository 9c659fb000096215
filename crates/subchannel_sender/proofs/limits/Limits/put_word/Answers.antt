-- `Limits::put_word` meets its contract.
use Rattle.subchannel_sender.proofs.Storing.{word-put}
use Rattle.subchannel_sender.proofs.limits.Limits.put_word.Goals as goal

pub returns : goal.returns
returns c =
    let a = c.args in
    word-put a.self.parity _ a.stream.now _ a.out.now a.self.roots c.message-m.ensures c.message_of-message.ensures c.requires
    c.copy_from_slice.ensures.after c.make.ensures
