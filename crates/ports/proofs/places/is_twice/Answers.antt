-- `ports::places::is_twice` meets its contract.
use Rattle.ports.proofs.Finding.{held-again, not-held, held-once, held-none}
use Rattle.ports.proofs.places.is_twice.Goals.{else-e-via-then-e+else-is_some, else-e-via-else-e}
use Rattle.ports.proofs.places.is_twice.Goals as goal

pub returns-then-is_some : goal.returns-then-is_some
returns-then-is_some c =
    held-again c.in-Some.ensures.cases.0 c.loop-e.invariant c.if-e.true (cc)

pub loop-e-preserved : goal.loop-e-preserved
loop-e-preserved c = elim c.else-e.branch [
  | else-e-via-then-e+else-is_some w ↦ held-once c.in-Some.ensures.cases.0 c.loop-e.invariant w.if-e.true (cc)
  | else-e-via-else-e w ↦ not-held c.in-Some.ensures.cases.0 c.loop-e.invariant w.if-e.false
]

pub returns : goal.returns
returns c = held-none _ c.loop-e.invariant c.in_default.ensures.cases
