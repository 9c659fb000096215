-- `ports::forget` meets its contract.
use Rattle.std.proofs.Common.{sym, ◌∙◌}
use Rattle.ports.proofs.Finding.{forget-unfit, forget-away, forget-held}
use Rattle.ports.proofs.forget.Goals as goal

pub returns-then-is_unfit : goal.returns-then-is_unfit
returns-then-is_unfit c = forget-unfit _ _ (sym c.is_unfit.ensures ∙ c.if-is_unfit.true)

pub returns-in_default : goal.returns-in_default
returns-in_default c = forget-away _ _ (sym c.is_unfit.ensures ∙ c.if-is_unfit.false) (sym c.place_of.ensures ∙ c.in_default.is)

pub returns : goal.returns
returns c = forget-held _ _ (sym c.is_unfit.ensures ∙ c.if-is_unfit.false) (sym c.place_of.ensures ∙ c.in-Some.is)
