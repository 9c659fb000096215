-- `Receiver::configure` meets its contract.
use Rattle.std.proofs.Common.{sym, ◌∙◌}
use Rattle.four_receivers.proofs.Calling.{configured-told}
use Rattle.four_receivers.proofs.Receiver.configure.Goals as goal

pub returns : goal.returns
returns c =
    let a = c.args in
    configured-told a.self a.cells.now a.number a.parity a.depth (sym c.sound.ensures ∙ c.if-not-sound.false) c.if-number-gt3.false c.told-told.result
    c.told-told.ensures c.in_default.not-Err c.of.ensures c.put.ensures
