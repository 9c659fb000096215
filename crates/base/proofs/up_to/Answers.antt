use Rattle.std.proofs.Common.{rules, tests, arith, ◌∙◌, eqb}
use Rattle.std.proofs.lemmas.Iterator.{YieldsList-from_slice}
use Rattle.std.proofs.lemmas.Iterator.Search.{position_from_yields_List}
use Rattle.base.proofs.UpTo.{up-to-short, up-to-place}
use Rattle.base.proofs.up_to.Goals as goal

pub returns : goal.returns
returns c =
    let bytes = c.args.bytes.now in
    let p = position_from_yields_List (λ b. eqb b c.args.c) _ _ _ c.position.ensures.ran (YieldsList-from_slice bytes cc) (λ x b q k. search (rules, tests)) in
    let e = c.unwrap_or.ensures ∙ up-to-place c.args.c bytes p in
    (e, omega (arith, e, up-to-short c.args.c bytes))
