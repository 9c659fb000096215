-- `listing_lines::print` meets its contract.
use Rattle.text.proofs.Delivering.{delivers}
use Rattle.listing_lines.proofs.Short.{line-short}
use Rattle.listing_lines.proofs.print.Goals as goal

pub returns : goal.returns
returns c = delivers c.args.out.now c.put_line-n.ensures (line-short c.args.answer) c.deliver.ensures
