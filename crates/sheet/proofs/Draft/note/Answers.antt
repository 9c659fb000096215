-- `sheet::Draft::note` meets its contract.
use Rattle.sheet.proofs.Ways.{note-out, note-in}
use Rattle.sheet.proofs.Draft.note.Goals as goal

pub returns-then-has : goal.returns-then-has
returns-then-has c = note-in _ _ _ _ c.if-has.ensures c.add.ensures

pub returns-else-has : goal.returns-else-has
returns-else-has c = note-out _ _ _ _ c.if-has.ensures
