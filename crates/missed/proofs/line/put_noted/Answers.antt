-- `missed::line::put_noted` meets its contract.
use Rattle.missed.proofs.Taking.{noted-put}
use Rattle.missed.proofs.line.put_noted.Goals as goal

pub returns : goal.returns
returns c =
    noted-put _ _ _ c.from.ensures c.from-2.ensures c.put_item-a.ensures c.put_item-b.ensures c.put_noted_text.ensures
