-- `Receiver::hear` meets its contract.
use Rattle.std.proofs.Common.{sym, ◌∙◌}
use Rattle.four_receivers.proofs.Calling.{told-is, told-none, hear-unknown, hear-known}
use Rattle.four_receivers.proofs.Receiver.hear.Goals as goal

pub returns-in_default : goal.returns-in_default
returns-in_default c =
    let a = c.args in
    hear-unknown a.self a.cells.now a.number a.recv.now a.word.now a.piece.now (sym c.sound.ensures ∙ c.if-not-sound.false)
    (told-none a.self a.number c.told.ensures c.in_default.is) c.unheard-in_default.ensures

pub returns : goal.returns
returns c =
    let a = c.args in
    let t = told-is a.self a.number c.told.ensures c.in-Some.is in
    hear-known a.self a.cells.now a.number a.recv.now a.word.now a.piece.now (sym c.sound.ensures ∙ c.if-not-sound.false) t.0 t.1
    c.with.ensures c.hear-heard.ensures c.of.ensures c.put.ensures
