-- Doubled as often as it was.
use Rattle.std.proofs.Common.{◌≡◌}
use Rattle.lanes.specs.Private.{laid, doubled_by}
use Rattle.lanes.proofs.coefficients.Lanes.raised.Given as goal

abbrev pub invariant-loop : goal.invariant-loop
invariant-loop l = laid l.l ≡ doubled_by l.counter (laid l.initial.l)
