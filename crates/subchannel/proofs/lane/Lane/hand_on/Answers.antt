-- `Lane::hand_on` meets its contract, by the law of a stored word's rest.
use Rattle.std.proofs.Common.{arith}
use Rattle.subchannel.proofs.Ways.{hand-none, taken-within, hand-more, hand-said}
use Rattle.subchannel.proofs.lane.Lane.hand_on.Goals as goal

pub returns-then-owed-eq0 : goal.returns-then-owed-eq0
returns-then-owed-eq0 c =
    let a = c.args in
    hand-none a.self a.recv.now a.word.now c.requires.0 c.requires.1 c.owed.ensures c.if-owed-eq0.true

pub overflow_add-from : goal.overflow_add-from
overflow_add-from c =
    let a = c.args in
    omega (arith, taken-within a.self a.recv.now a.word.now c.requires.0 c.requires.1 c.owed.ensures c.if-owed-eq0.false c.read-read.ensures)

pub returns-in-None : goal.returns-in-None
returns-in-None c =
    let a = c.args in
    hand-more a.self a.recv.now a.word.now c.requires.0 c.requires.1 c.owed.ensures c.if-owed-eq0.false c.read-read.ensures c.in-None.is
    c.handing-lane.ensures

pub returns-in-Some : goal.returns-in-Some
returns-in-Some c =
    let a = c.args in
    hand-said a.self a.recv.now a.word.now c.requires.0 c.requires.1 c.owed.ensures c.if-owed-eq0.false c.read-read.ensures _ c.in-Some.is
    c.handing-lane.ensures
