-- `channel::receiver::Receiver::hunt` meets its contract, by the law of hunting.
use Rattle.channel.proofs.Ways.{hunt-found, hunt-more}
use Rattle.channel.proofs.receiver.Receiver.hunt.Goals as goal

pub returns-in-Some : goal.returns-in-Some
returns-in-Some c = hunt-found c.args.self c.args.piece.now c.requires c.hunt-found.ensures _ c.in-Some.is c.locked_at.ensures

pub returns-in-None : goal.returns-in-None
returns-in-None c = hunt-more c.args.self c.args.piece.now c.requires c.hunt-found.ensures c.in-None.is
