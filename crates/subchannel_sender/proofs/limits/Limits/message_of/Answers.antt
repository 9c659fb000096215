-- `Limits::message_of` meets its contract.
use Rattle.std.proofs.Common.{ap, min, ◌∙◌, length, arith}
use Rattle.subchannel_spec.specs.Sender.{message_bytes}
use Rattle.subchannel_sender.proofs.Storing.{message-is}
use Rattle.subchannel_sender.proofs.limits.Limits.message_of.Goals as goal

pub returns : goal.returns
returns c =
    let a = c.args in
    message-is (message_bytes a.self.parity) c.min-n.result a.stream.now (omega arith)
    (c.min-n.ensures ∙ ap (λ m. min m (length a.stream.now)) c.message.ensures) c.copy_from_slice.ensures.after
