-- `parity::step` meets its contract.
use Rattle.std.proofs.Common.{refl, arith}
use lib.ListN.{length-set}
use Rattle.parity.proofs.Loops.{step-next, step-done}
use Rattle.parity.proofs.step.Goals as goal

pub loop-lane-init : goal.loop-lane-init
loop-lane-init c = record { long = omega arith; left = refl }

pub loop-lane-preserved : goal.loop-lane-preserved
loop-lane-preserved c =
    let at = c.loop-lane in record {
      long = simp length-set at.invariant.long;
      left = step-next _ _ c.args.p _ at.invariant.left (omega arith) (omega (arith, at.invariant.long)) c.times.ensures c.plus.ensures;
    }

pub returns : goal.returns
returns c = step-done _ c.loop-lane.lane c.args.p _ c.loop-lane.invariant.left (omega arith)
