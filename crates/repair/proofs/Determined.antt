-- repair-determined   the promise of repair determines its answer, and what the word then holds
use mathlib.Core.Path.{refl}
use Rattle.base.specs.Determined.{Determined}
use Rattle.base.proofs.Determining.{buffer, skip}
use Rattle.repair.specs.Mended.{as_mended}
use Rattle.repair.proofs.Telling.{same-mended}
use Rattle.repair.proofs.Promising.{determined}
use Rattle.repair.proofs.repair.Kinds as repair-kinds
use Rattle.repair.proofs.repair.Reads as repair-reads

pub repair-determined : Determined repair-kinds.ps repair-kinds.r repair-reads.Asked repair-reads.Learnt
repair-determined κs a z z' ws ws' pre p q =
    let s = determined a.0 a.1.0.now (as_mended z) (as_mended z') _ _ p q in
    (same-mended z z' s.0, skip (buffer s.1 refl))
