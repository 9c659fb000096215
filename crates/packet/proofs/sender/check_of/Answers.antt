use Rattle.fcs.proofs.Laws.{check-parts}
use Rattle.packet.proofs.sender.check_of.Goals as goal

pub returns : goal.returns
returns c = check-parts c.args.opening.now c.args.payload.now c.fresh.ensures c.feed.ensures c.feed-2.ensures c.check.ensures
