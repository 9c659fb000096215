-- `lanes::coefficients::Lanes::raised` meets its contract.
use Rattle.std.proofs.Common.{◌≡◌, ℕ, refl, ap, ◌∙◌, arith}
use Rattle.lanes.specs.Private.{laid, doubled_by}
use Rattle.lanes.proofs.Bits.{raised-next}
use Rattle.lanes.proofs.coefficients.Lanes.raised.Goals as goal

pub loop-init : goal.loop-init
unfolding doubled_by
loop-init c = refl

pub loop-preserved : goal.loop-preserved
loop-preserved c = raised-next _ _ c.loop.invariant c.doubled-l.ensures

pub returns : goal.returns
returns c =
    let e : c.loop.counter ≡ c.args.times = omega arith in
    c.loop.invariant ∙ ap (λ (n : ℕ). doubled_by n (laid c.args.self)) e
