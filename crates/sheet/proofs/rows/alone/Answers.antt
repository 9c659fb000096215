-- `sheet::rows::alone` meets its contract.
use Rattle.std.proofs.Common.{arith, rules}
use Rattle.sheet.proofs.Ways.{alone-is}
use Rattle.sheet.proofs.rows.alone.Goals as goal

pub returns : goal.returns
returns c = alone-is _ _ (omega arith) c.requires (c.fill.ensures.after (λ y h. search rules)) c.blank.ensures
