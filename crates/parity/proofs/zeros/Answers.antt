-- `parity::zeros` meets its contract.
use Rattle.std.proofs.Common.{rules, tests}
use Rattle.std.proofs.lemmas.Iterator.{YieldsList-from_slice}
use Rattle.std.proofs.lemmas.Iterator.Search.{position_from_yields_List}
use Rattle.parity.proofs.Loops.{Other, zeros-are}
use Rattle.parity.proofs.zeros.Goals as goal

pub returns : goal.returns
returns c =
    let word = c.args.word.now in
    rw c.unwrap_or.ensures
    (zeros-are word (position_from_yields_List Other _ _ _ c.position.ensures.ran (YieldsList-from_slice word cc) (λ x b q k. search (rules, tests))))
