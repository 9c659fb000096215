-- `listing_lines::put_line` meets its contract.
use Rattle.listing_spec.specs.Lines.{line}
use Rattle.text.proofs.Putting.{put-none, put-case}
use Rattle.listing_lines.proofs.put_line.Goals as goal

pub returns-in-More : goal.returns-in-More
returns-in-More c =
    put-case line c.in-More.is (put-none _ _)
