-- `sheet::Sheet::with` meets its contract.
use Rattle.std.proofs.Common.{arith}
use Rattle.sheet.proofs.Ways.{with-stead, with-between}
use Rattle.sheet.proofs.Sheet.with.Goals as goal

pub returns-in-Ok : goal.returns-in-Ok
returns-in-Ok c = with-stead c.args.self (omega arith) c.requires.few c.requires.fits c.alone-rows.ensures _ c.in-Ok.is

pub returns-in-Err : goal.returns-in-Err
returns-in-Err c = with-between c.args.self (omega arith) c.requires.few c.requires.fits c.alone-rows.ensures _ c.in-Err.is c.rotate_right.ensures.after
