-- `Sender::send` meets its contract.
use Rattle.std.proofs.Common.{sym, ◌∙◌}
use Rattle.four_senders.proofs.Calling.{told-is, send-known}
use Rattle.four_senders.proofs.Sender.send.Goals as goal

pub returns : goal.returns
returns c =
    let a = c.args in
    let e = sym c.sound.ensures ∙ c.if-not-sound.false in
    let t = told-is a.self a.number a.stream.now a.out.now e c.told.ensures c.in-Some.is in
    send-known a.self a.number a.stream.now a.out.now e t.0 t.1 c.send.ensures
