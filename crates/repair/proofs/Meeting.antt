-- The way leads where the promise says (specs/Way, specs/Promise): where a clean word is near, it is what comes of the locator.
-- mended-promised, repaired-promised   what `mended`, and `repaired`, answer and leave is as promised
use mathlib.Core.Path.{◌≡◌, refl, ap}
use mathlib.Core.Bool.{Bool, true, false}
use mathlib.Core.List.{List}
use Prim.Native.Nat.{ℕ}
use native.Mathlib.Omega.{arith}
use lib.Dec.{ltb}
use borrow.Author.Tests.{ltb-true, ltb-false}
use Rattle.base.specs.Choice.{pick}
use Rattle.base.specs.Bytes.{Bytes}
use Rattle.parity.specs.Calls.{checked}
use Rattle.parity.specs.Checked.{Checked}
use Rattle.parity.specs.Checked as check
use Rattle.repair.specs.Mended.{Beyond}
use Rattle.repair.specs.Promise.{distance, half, Promised}
use Rattle.repair.specs.Way.{amended, settled, mended, repaired_by, repaired}
use Rattle.repair.proofs.Settled.{is-near, settled-promised}

-- ---- a damaged word
module _ (r : ℕ) (w : List ℕ) (b : Bytes w) (harmed : checked r w ≡ check.Damaged) where
  abbrev out : List ℕ
  out = amended r w

  mended-by : (t : Bool) → ltb (half r) (distance w out) ≡ t
      → Promised r w (pick t (Beyond, w) (settled (checked r out) w out)).0 (pick t (Beyond, w) (settled (checked r out) w out)).1
  mended-by true q =
      (harmed, λ v near. omega (arith, near.1, ltb-true (half r) (distance w out) q, ap (distance w) (is-near r w b harmed v near)), refl)
  mended-by false q = settled-promised r w b harmed (checked r out) refl (ltb-false (half r) (distance w out) q)

  pub mended-promised : Promised r w (mended r w).0 (mended r w).1
  unfolding mended
  mended-promised = mended-by (ltb (half r) (distance w (amended r w))) refl

-- ---- any word
repaired-by : (r : ℕ) (w : List ℕ) → Bytes w → (c : Checked) → checked r w ≡ c → Promised r w (repaired_by c r w).0 (repaired_by c r w).1
repaired-by r w b check.Clean q = (q, refl)
repaired-by r w b check.Damaged q = mended-promised r w b q
repaired-by r w b (check.Refused n) q = (q, refl)

pub repaired-promised : (r : ℕ) (w : List ℕ) → Bytes w → Promised r w (repaired r w).0 (repaired r w).1
unfolding repaired
repaired-promised r w b = repaired-by r w b (checked r w) refl
