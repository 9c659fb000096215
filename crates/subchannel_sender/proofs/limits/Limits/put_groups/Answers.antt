-- `Limits::put_groups` meets its contract.
use Rattle.std.proofs.Common.{ap, ◌∙◌, ◌*◌, min, length}
use Rattle.subchannel_sender.proofs.Storing.{groups-first, group-as, groups-turn, groups-done}
use Rattle.subchannel_sender.proofs.limits.Limits.put_groups.Goals as goal

pub loop-i-init : goal.loop-i-init
loop-i-init c = let a = c.args in groups-first a.self.parity a.self.depth a.self.roots a.groups a.stream.now a.out.now c.fresh-matrix.ensures

pub loop-i-preserved : goal.loop-i-preserved
loop-i-preserved c =
    let l = c.loop-i in
    let a = c.args in
    groups-turn a.self.parity a.self.depth a.self.roots a.groups a.stream.now a.out.now l.rest.now l.out l.i _ l.matrix l.invariant c.loop-i-test.true
    c.requires (c.min.ensures ∙ ap (λ m. min (length l.rest.now) (4 * m)) c.message.ensures)
    (group-as a.self.depth l.matrix _ c.group_of-group.ensures c.put_group-matrix.ensures)

pub returns : goal.returns
returns c =
    let l = c.loop-i in
    let a = c.args in
    groups-done a.self.parity a.self.depth a.self.roots a.groups a.stream.now a.out.now l.rest.now l.out l.i l.matrix l.invariant c.loop-i-test.false
    c.requires
