-- `sheet::rows::find` meets its contract.
use Rattle.std.proofs.Common.{sym, ◌∙◌}
use Rattle.sheet_spec.proofs.Places.{found-own, found-other, found-none}
use Rattle.sheet.proofs.rows.find.Goals as goal

pub returns-in-Some : goal.returns-in-Some
returns-in-Some c = found-own _ _ (sym c.place.ensures ∙ c.in-Some.is) c.if-rows-at.true

pub returns-in-Some-2 : goal.returns-in-Some-2
returns-in-Some-2 c = found-other _ _ (sym c.place.ensures ∙ c.in-Some.is) c.if-rows-at.false

pub returns-in-None : goal.returns-in-None
returns-in-None c = found-none _ _ (sym c.place.ensures ∙ c.in-None.is)
