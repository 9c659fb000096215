-- `unit::writer::Unit::spread` meets its contract: what the check leaves open.
use Rattle.std.proofs.Common.{refl, arith}
use Rattle.std.proofs.Math.ListN.{length-set}
use Rattle.unit.proofs.Placing.{spread_none, spread-more, spread-done}
use Rattle.unit.proofs.writer.Unit.spread.Goals as goal

pub loop-j-init : goal.loop-j-init
loop-j-init c = record { long = refl; made = spread_none _ _ }

pub loop-j-preserved : goal.loop-j-preserved
loop-j-preserved c = let l = c.loop-j.invariant in record {
  long = simp length-set l.long;
  made = spread-more _ _ _ _ _ l.made c.byte.ensures (omega arith);
}

pub returns : goal.returns
returns c = spread-done _ _ _ _ _ _ c.loop-j.invariant.made (omega arith) c.requires
