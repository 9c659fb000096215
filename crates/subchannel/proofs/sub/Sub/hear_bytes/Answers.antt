-- `Sub::hear_bytes` meets its contract.
use Rattle.std.proofs.Common.{arith}
use Rattle.subchannel.proofs.Ways.{able-of, going_next, going_end}
use Rattle.subchannel.proofs.Filling.{goes-all}
use Rattle.subchannel.proofs.sub.Sub.hear_bytes.Goals as goal

pub eat-step-requires : goal.eat-step-requires
eat-step-requires c =
    let g = goes-all _ c.loop-taken.invariant c.fill.ensures c.filled-full.ensures in (able-of g.fine, g.fine.place)

pub returns-in-Some : goal.returns-in-Some
returns-in-Some c =
    going_end (goes-all _ c.loop-taken.invariant c.fill.ensures c.filled-full.ensures)
    (omega (arith, c.plain-n.ensures.0, c.loop-taken-test.true)) c.eat-step.ensures c.in-Some.is

pub loop-taken-preserved : goal.loop-taken-preserved
loop-taken-preserved c =
    going_next (goes-all _ c.loop-taken.invariant c.fill.ensures c.filled-full.ensures)
    (omega (arith, c.plain-n.ensures.0, c.loop-taken-test.true)) c.eat-step.ensures c.in_default.is
