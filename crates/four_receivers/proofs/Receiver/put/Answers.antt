-- `Receiver::put` meets its contract.
use Rattle.std.proofs.Common.{rules}
use Rattle.four_receivers.proofs.Calling.{put_last}
use Rattle.four_receivers.proofs.Receiver.put.Goals as goal

pub returns-in_default : goal.returns-in_default
returns-in_default c = search (rules, put_last)
