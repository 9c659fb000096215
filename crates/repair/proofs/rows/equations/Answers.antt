-- `repair::rows::equations` meets its contract.
use Rattle.std.proofs.Common.{rules, arith}
use Rattle.repair.proofs.Loops.{equations-next, equations-done}
use Rattle.repair.proofs.rows.equations.Goals as goal

pub loop-i-preserved : goal.loop-i-preserved
loop-i-preserved c = record {
  whole = search rules;
  made = equations-next c.args.n c.loop-i.i c.args.s.now c.loop-i.m c.loop-i.invariant.made c.loop-i-test.true (omega arith) c.copy_from_slice.ensures.after;
}

pub returns : goal.returns
returns c = equations-done c.args.n c.loop-i.i c.args.s.now c.loop-i.m c.loop-i.invariant.made (omega arith)
