-- `repair::amend` meets its contract.
use Rattle.std.proofs.Common.{◌∙◌, sym, ap, [], unwrap_or, refl}
use Rattle.repair.proofs.Loops.{sums-are, amend-none, amend-some}
use Rattle.repair.proofs.amend.Goals as goal

pub returns-in-Some : goal.returns-in-Some
returns-in-Some c =
    amend-some c.args.roots.count c.args.word.now (sums-are _ _ c.args.roots.few c.at_roots.ensures)
    (ap (λ o. unwrap_or o []) (sym c.in-Some.is) ∙ c.locator.ensures) c.add.ensures

pub returns-in_default : goal.returns-in_default
returns-in_default c =
    amend-none c.args.roots.count c.args.word.now (sums-are _ _ c.args.roots.few c.at_roots.ensures)
    (ap (λ o. unwrap_or o []) (sym c.in_default.is) ∙ c.locator.ensures) refl
