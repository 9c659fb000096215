-- `missed::notes::Notes::note` meets its contract.
use Rattle.std.proofs.Common.{not, ap}
use Rattle.missed.proofs.Taking.{note-in}
use Rattle.missed.proofs.notes.Notes.note.Goals as goal

pub returns : goal.returns
returns c =
    note-in c.args.self c.args.taken c.args.delivery c.args.out.now c.has.ensures (ap not c.if-not-has.false) c.requires
    c.note-told.ensures c.put_noted-written.ensures
