-- `parity::at_roots` meets its contract: each return by the tests that led there.
use Rattle.std.proofs.Common.{◌≤◌, ◌∙◌, ap, arith}
use borrow.Author.Tests.{le-ltb}
use Rattle.base.specs.Written.{copied}
use Rattle.base.proofs.Writing.{wrote-short, wrote-copied}
use Rattle.word_spec.specs.Word.{values_from}
use Rattle.word_spec.proofs.Roots.{length-values}
use Rattle.parity.specs.Calls.{root_limit}
use Rattle.parity.proofs.at_roots.Goals as goal

pub returns-then-out-r : goal.returns-then-out-r
returns-then-out-r c =
    let few : c.args.r ≤ root_limit = omega arith in
    simp (le-ltb _ _ few)
    (wrote-short (values_from c.args.word.now 1 c.args.r) c.args.out.now c.args.r (length-values c.args.word.now 1 c.args.r) c.if-out-r.true)

pub returns : goal.returns
returns c =
    let few : c.args.r ≤ root_limit = omega arith in
    simp (le-ltb _ _ few)
    (wrote-copied (values_from c.args.word.now 1 c.args.r) c.args.out.now c.args.r (length-values c.args.word.now 1 c.args.r) c.if-out-r.false
    (c.copy.ensures ∙ ap (λ l. copied l c.args.out.now) (rw c.in_ok-roots.ensures at c.at_first-v.ensures)))
