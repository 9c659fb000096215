-- `sheet::Sheet::fresh` meets its contract.
use Rattle.sheet.proofs.Ways.{fresh-is}
use Rattle.sheet.proofs.Sheet.fresh.Goals as goal

pub returns : goal.returns
returns c = fresh-is c.blank.ensures
