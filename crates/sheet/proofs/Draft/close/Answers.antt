-- `sheet::Draft::close` meets its contract.
use Rattle.sheet.proofs.Ways.{close-counts, close-keeps, why-not}
use Rattle.sheet.proofs.Draft.close.Goals as goal

pub returns-in-Ok : goal.returns-in-Ok
returns-in-Ok c = close-counts _ _ c.in-Ok.ensures c.tidied.ensures

pub returns-in-Err : goal.returns-in-Err
returns-in-Err c = close-keeps _ _ c.in-Err.ensures (why-not c.in-Err.why)
