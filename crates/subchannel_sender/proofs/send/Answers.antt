-- `send` meets its contract.
use Rattle.std.proofs.Common.{◌≡◌, ◌∙◌}
use Rattle.subchannel_sender.specs.Sending.{sending}
use Rattle.subchannel_sender.proofs.Storing.{send-short, send-fits}
use Rattle.subchannel_sender.proofs.send.Goals as goal

pub returns-then-out-groups : goal.returns-then-out-groups
returns-then-out-groups c =
    let a = c.args in
    let l = c.in_ok-limits.limits in
    let e : (l.parity ≡ a.parity) × (l.depth ≡ a.depth) = c.in_ok-limits.ensures in
    send-short l.parity l.depth l.roots l.rows a.stream.now a.out.now c.groups-groups.ensures c.if-out-groups.true
    ∙ (λ i. sending (e.0 i) (e.1 i) a.stream.now a.out.now)

pub returns : goal.returns
returns c =
    let a = c.args in
    let l = c.in_ok-limits.limits in
    let e : (l.parity ≡ a.parity) × (l.depth ≡ a.depth) = c.in_ok-limits.ensures in
    send-fits l.parity l.depth l.roots l.rows a.stream.now a.out.now c.groups-groups.ensures c.if-out-groups.false c.put_groups.ensures
    ∙ (λ i. sending (e.0 i) (e.1 i) a.stream.now a.out.now)
