-- `ports::note` meets its contract.
use Rattle.std.proofs.Common.{sym, ◌∙◌}
use Rattle.ports.proofs.Finding.{note-unfit, note-held, note-new, note-full}
use Rattle.ports.proofs.note.Goals as goal

pub returns-then-is_unfit : goal.returns-then-is_unfit
returns-then-is_unfit c = note-unfit _ _ _ (sym c.is_unfit.ensures ∙ c.if-is_unfit.true)

pub returns-in-Some : goal.returns-in-Some
returns-in-Some c =
    note-held _ _ _ (sym c.is_unfit.ensures ∙ c.if-is_unfit.false) (sym c.place_of.ensures ∙ c.in-Some.is) c.rule.ensures c.last_behind.ensures

pub returns-in-Some-free_place : goal.returns-in-Some-free_place
returns-in-Some-free_place c =
    note-new _ _ _ (sym c.is_unfit.ensures ∙ c.if-is_unfit.false) (sym c.place_of.ensures ∙ c.in_default.is)
    (sym c.free_place.ensures ∙ c.in-Some-free_place.is)

pub returns : goal.returns
returns c =
    note-full _ _ _ (sym c.is_unfit.ensures ∙ c.if-is_unfit.false) (sym c.place_of.ensures ∙ c.in_default.is)
    (sym c.free_place.ensures ∙ c.in_default-free_place.is)
