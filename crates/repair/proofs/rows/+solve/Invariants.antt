-- The measure is the number of unknowns.
use Rattle.repair.proofs.rows.+solve.Given as goal

abbrev pub decreases-solve : goal.decreases-solve
decreases-solve l = l.n
