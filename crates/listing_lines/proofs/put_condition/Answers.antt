-- `listing_lines::put_condition` meets its contract.
use Rattle.listing_spec.specs.Lines.{block_line}
use Rattle.text.proofs.Putting.{put_then, put-case}
use Rattle.listing_lines.proofs.put_condition.Goals as goal

pub returns-in-Repaired : goal.returns-in-Repaired
returns-in-Repaired c =
    put-case block_line c.in-Repaired.is (put_then c.put_text-a.ensures c.put_item.ensures)
