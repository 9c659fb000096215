-- `repair::rows::dot` meets its contract: the products are added from the first on.
use Rattle.std.proofs.Common.{◌∙◌, rules, tests}
use Rattle.std.proofs.lemmas.Iterator.{YieldsList-from_slice, YieldsList-from_zip}
use Rattle.std.proofs.lemmas.Iterator.Consumers.{fold_from_yields_List}
use Rattle.field.proofs.Sum.{zero-add}
use Rattle.repair.proofs.Loops.{summed, summed-dot}
use Rattle.repair.proofs.rows.dot.Goals as goal

pub returns : goal.returns
returns c =
    fold_from_yields_List _ summed 0 c.fold.result c.fold.ensures.ran
    (YieldsList-from_zip (YieldsList-from_slice c.args.u.now cc) (YieldsList-from_slice c.args.row.now cc)) (λ a x b q k. search (rules, tests))
    ∙ summed-dot 0 c.args.u.now c.args.row.now ∙ zero-add _
