-- `parity::points` meets its contract.
use Rattle.std.proofs.Common.{refl}
use lib.ListN.{length-set}
use Rattle.parity.proofs.Loops.{points-next, points-done}
use Rattle.parity.proofs.points.Goals as goal

pub loop-point-init : goal.loop-point-init
loop-point-init c = record { long = refl; left = refl }

pub loop-point-preserved : goal.loop-point-preserved
loop-point-preserved c =
    let inv = c.loop-point.invariant in record {
      long = simp length-set inv.long;
      left = points-next _ _ _ inv.long inv.left c.loop-point-test.true c.times-x.ensures;
    }

pub returns : goal.returns
returns c = points-done _ _ _ c.loop-point.invariant.long c.loop-point.invariant.left c.loop-point-test.false
