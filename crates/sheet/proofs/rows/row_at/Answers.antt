-- `sheet::rows::row_at` meets its contract.
use Rattle.std.proofs.Common.{sym, ◌∙◌}
use Rattle.sheet_spec.proofs.Places.{own-row, new-row}
use Rattle.sheet.proofs.rows.row_at.Goals as goal

pub returns-in-Ok : goal.returns-in-Ok
returns-in-Ok c = (own-row _ _ (sym c.in-Ok.is ∙ c.requires.found)).1

pub returns-in-Err : goal.returns-in-Err
returns-in-Err c = c.blank.ensures ∙ (new-row _ _ (sym c.in-Err.is ∙ c.requires.found)).1
