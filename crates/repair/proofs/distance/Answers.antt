-- `repair::distance` meets its contract: the pairs that differ are counted.
use Rattle.std.proofs.Common.{◌∙◌, rules, tests}
use Rattle.std.proofs.lemmas.Iterator.{YieldsList-from_slice, YieldsList-from_zip}
use Rattle.std.proofs.lemmas.Iterator.Consumers.{YieldsList-at, YieldsList-from_filter, count_from_yields_List}
use Rattle.repair.proofs.Loops.{differ, pairs-differ}
use Rattle.repair.proofs.distance.Goals as goal

pub returns : goal.returns
returns c =
    count_from_yields_List c.filter.result c.count.result c.count.ensures.ran
    (YieldsList-from_filter _ differ
    (YieldsList-at c.filter.ensures.source (YieldsList-from_zip (YieldsList-from_slice c.args.a.now cc) (YieldsList-from_slice c.args.b.now cc)))
    c.filter.ensures.closure (λ x r q k. search (rules, tests)))
    ∙ pairs-differ c.args.a.now c.args.b.now
