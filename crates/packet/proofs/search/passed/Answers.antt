use Rattle.std.proofs.Common.{rules, tests, ltb, length, List, ℕ}
use Rattle.std.proofs.lemmas.Iterator.{YieldsList-from_slice}
use Rattle.std.proofs.lemmas.Iterator.Search.{position_from_yields_List}
use Rattle.base.specs.UpTo.{up_to}
use Rattle.packet.proofs.Seeking.{chunks-passed}
use Rattle.packet.proofs.search.passed.Goals as goal

pub returns : goal.returns
returns c =
    let among = λ (x : List ℕ). ltb (length (up_to c.args.c x)) 16 in
    let p = position_from_yields_List among _ _ _ c.position.ensures.ran (YieldsList-from_slice c.as_chunks.result.0.now cc)
    (λ x b q k. search (rules, tests)) in
    chunks-passed c.args.c c.args.bytes.now c.as_chunks.ensures.front p c.unwrap_or-n.ensures
