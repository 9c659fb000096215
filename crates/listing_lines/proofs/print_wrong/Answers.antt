-- `listing_lines::print_wrong` meets its contract.
use Rattle.text.proofs.Delivering.{delivers}
use Rattle.listing_lines.proofs.Short.{wrong-short}
use Rattle.listing_lines.proofs.Writing.{wrong-put}
use Rattle.listing_lines.proofs.print_wrong.Goals as goal

pub returns : goal.returns
returns c =
    delivers c.args.out.now (wrong-put _ c.put_text-a.ensures c.put_item-n.ensures) (wrong-short _) c.deliver.ensures
