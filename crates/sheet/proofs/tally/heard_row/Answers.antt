-- `sheet::tally::heard_row` meets its contract.
use Rattle.std.proofs.Common.{◌∙◌}
use Rattle.sheet.proofs.Ways.{heard-none, heard-some}
use Rattle.sheet.proofs.tally.heard_row.Goals as goal

pub returns-in_err-tally : goal.returns-in_err-tally
returns-in_err-tally c = c.from_residual.ensures ∙ heard-none _ _ c.verdict-noted.ensures c.one.ensures c.sum.ensures c.in_err-tally.was

pub returns : goal.returns
returns c = heard-some _ _ c.verdict-noted.ensures c.one.ensures c.sum.ensures c.in_ok-tally.was c.last_by.ensures
