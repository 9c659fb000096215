-- What is left decides.
use Rattle.std.proofs.Common.{◌≡◌, length}
use Rattle.ports_spec.specs.Ports.{twice}
use Rattle.ports.proofs.places.is_twice.Given as goal

abbrev pub invariant-loop-e : goal.invariant-loop-e
invariant-loop-e l = twice l.rest ≡ twice l.fn.table

abbrev pub decreases-loop-e : goal.decreases-loop-e
decreases-loop-e l = length l.rest
