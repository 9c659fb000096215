-- `parity::at_powers` meets its contract.
use Rattle.std.proofs.Common.{◌≡◌, ℕ, ◌+◌, take, ap, ◌∙◌, arith}
use Rattle.word_spec.specs.Word.{values_from}
use Rattle.parity.specs.Calls.{root_limit}
use Rattle.parity.proofs.Loops.{zeros-values, zeros-done, at-powers-next, at-powers-done}
use Rattle.parity.proofs.at_powers.Goals as goal

pub returns-then-passed-word : goal.returns-then-passed-word
returns-then-passed-word c = zeros-done c.args.j c.zeros-passed.result c.args.word.now c.zeros-passed.ensures.1 (omega arith)

pub loop-c-init : goal.loop-c-init
loop-c-init c =
    let z = c.zeros-passed.result in
    let e : z ≡ z + 0 = omega arith in
    zeros-values c.args.j z c.args.word.now c.zeros-passed.ensures.1 ∙ ap (λ (k : ℕ). values_from (take k c.args.word.now) c.args.j root_limit) e

pub loop-c-preserved : goal.loop-c-preserved
loop-c-preserved c =
    at-powers-next c.args.j c.zeros-passed.result c.loop-c.c-index c.args.word.now c.loop-c.invariant c.loop-c-test.true c.power.ensures
    c.points-p.ensures c.step-next.ensures

pub returns : goal.returns
returns c = at-powers-done c.args.j c.zeros-passed.result c.loop-c.c-index c.args.word.now c.loop-c.invariant c.loop-c-test.false
