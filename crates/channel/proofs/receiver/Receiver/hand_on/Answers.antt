-- `channel::receiver::Receiver::hand_on` meets its contract, by the law of a stored word's rest.
use Rattle.std.proofs.Common.{arith}
use Rattle.channel.proofs.Ways.{taken-within, hand-more, hand-said}
use Rattle.channel.proofs.receiver.Receiver.hand_on.Goals as goal

pub overflow_add-receiver : goal.overflow_add-receiver
overflow_add-receiver c =
    let q = c.requires in
    omega (arith, taken-within c.args.self c.args.recv.now c.args.word.now q.0 q.1 c.owed.ensures c.if-owed-eq0.false c.read-read.ensures)

pub returns-in-None : goal.returns-in-None
returns-in-None c =
    let q = c.requires in
    hand-more c.args.self c.args.recv.now c.args.word.now q.0 q.1 c.owed.ensures c.if-owed-eq0.false c.read-read.ensures c.in-None.is

pub returns-in-Some : goal.returns-in-Some
returns-in-Some c =
    let q = c.requires in
    hand-said c.args.self c.args.recv.now c.args.word.now q.0 q.1 c.owed.ensures c.if-owed-eq0.false c.read-read.ensures _ c.in-Some.is
