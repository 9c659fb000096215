-- The rows passed, and those left to make, are the whole.
use Rattle.std.proofs.Common.{◌≡◌, ◌-◌, ◌++◌, length, take}
use Rattle.repair.specs.Way.{windows}
use Rattle.repair.proofs.rows.equations.Given as goal

abbrev pub invariant-loop-i : goal.invariant-loop-i
invariant-loop-i l = record {
  whole : length l.m ≡ 32;
  made : take l.i l.m ++ windows l.i (l.n - l.i) l.s ≡ windows 0 l.n l.s;
}
