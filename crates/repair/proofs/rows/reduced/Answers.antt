-- `repair::rows::reduced` meets its contract: a row that begins with zero is only shifted.
use Rattle.std.proofs.Common.{arith}
use Rattle.repair.proofs.Loops.{reduced-is, reduced-zero}
use Rattle.repair.proofs.rows.reduced.Goals as goal

pub returns-then-k-ne0 : goal.returns-then-k-ne0
returns-then-k-ne0 c = reduced-is c.args.row (omega arith) c.args.p c.copy_from_slice.ensures.after c.subtract.ensures

pub returns-else-k-ne0 : goal.returns-else-k-ne0
returns-else-k-ne0 c = reduced-zero c.args.row (omega arith) c.args.p c.copy_from_slice.ensures.after c.if-k-ne0.false
