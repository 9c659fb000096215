-- What a public function answers, by `Follows`: the form in which the statements in `paper`'s words are to stand.
-- fcs-fcs-paper   the check of the bytes lent
use mathlib.Core.Path.{◌≡◌}
use Rattle.fcs.specs.Fcs as check
use Rattle.demands.specs.Means.{Follows}
use Rattle.fcs.proofs.fcs as fcs-fcs

pub fcs-fcs-paper : Follows fcs-fcs.Kinds.ps fcs-fcs.Kinds.r fcs-fcs.Reads.Learnt λ κs bytes r. r ≡ check.fcs bytes.now
fcs-fcs-paper κs a z ws p = p
