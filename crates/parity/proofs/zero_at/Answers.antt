-- `parity::zero_at` meets its contract.
use Rattle.std.proofs.Common.{◌≡◌, take, refl, rules, tests}
use Rattle.std.proofs.lemmas.Iterator.{YieldsList-from_slice, cases_from_all}
use Rattle.word_spec.specs.Word.{clean}
use Rattle.parity.proofs.Loops.{clean-all}
use Rattle.parity.proofs.zero_at.Goals as goal

pub returns : goal.returns
returns c =
    clean-all c.args.word.now c.args.roots.count c.at_first-v.result c.at_first-v.ensures c.all.result
    (cases_from_all _ _ _ (λ x. x ≡ 0) (λ x. x ≡ 0 → ⊥) c.all.ensures.ran (YieldsList-from_slice (take c.args.roots.count c.at_first-v.result) cc)
    (λ x q k. search (rules, tests)) (λ x q k. search (rules, tests)))

pub returns-then-roots-eq0 : goal.returns-then-roots-eq0
unfolding clean
returns-then-roots-eq0 c = rw c.if-roots-eq0.true refl

pub returns-then-roots-eq-ROOTS : goal.returns-then-roots-eq-ROOTS
returns-then-roots-eq-ROOTS c = rw c.if-roots-eq-ROOTS.true c.is_clean.ensures
