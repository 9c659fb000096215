-- `listing_lines::print_end` meets its contract.
use Rattle.text.proofs.Delivering.{delivers}
use Rattle.listing_lines.proofs.Short.{end_short}
use Rattle.listing_lines.proofs.Writing.{end-put}
use Rattle.listing_lines.proofs.print_end.Goals as goal

pub returns : goal.returns
returns c =
    delivers c.args.out.now (end-put _ _ _ _ _ c.put_text-a.ensures c.put_item-b.ensures c.put_item-c.ensures c.put_item-d.ensures
    c.put_item-e.ensures c.put_item-n.ensures) (end_short _ _ _ _ _) c.deliver.ensures
