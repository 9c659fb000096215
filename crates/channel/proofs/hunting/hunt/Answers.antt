-- `channel::hunting::hunt` meets its contract, by the laws of a turn.
use Rattle.std.proofs.Common.{arith}
use Rattle.channel.proofs.Ways.{hunt-next, hunt-stop, hunt-done}
use Rattle.channel.proofs.hunting.hunt.Goals as goal

pub returns-then-at_marker : goal.returns-then-at_marker
returns-then-at_marker c =
    let l = c.loop-i in
    hunt-stop l.hunting c.args.piece.now l.i l.invariant (omega arith) c.shift-hunting.ensures c.at_marker.ensures c.if-at_marker.true

pub loop-i-preserved : goal.loop-i-preserved
loop-i-preserved c =
    let l = c.loop-i in
    hunt-next l.hunting c.args.piece.now l.i l.invariant (omega arith) c.shift-hunting.ensures c.at_marker.ensures c.if-at_marker.false

pub returns : goal.returns
returns c = let l = c.loop-i in hunt-done l.hunting c.args.piece.now l.i l.invariant (omega arith)
