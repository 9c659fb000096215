-- The rows passed, and the rest reduced, are the whole reduced.
use Rattle.std.proofs.Common.{◌≡◌, ◌++◌, map, take, drop}
use Rattle.repair.specs.Way.{reduced}
use Rattle.repair.proofs.rows.reduce.Given as goal

abbrev pub invariant-loop-row : goal.invariant-loop-row
invariant-loop-row l = take l.row-index l.rows ++ map (reduced l.p) (drop l.row-index l.rows) ≡ map (reduced l.p) l.initial.rows
