-- The measure is the exponent.
use Rattle.field.proofs.+raised.Given as goal

abbrev pub decreases-raised : goal.decreases-raised
decreases-raised l = l.e
