-- `send_group` meets its contract.
use Rattle.std.proofs.Common.{◌≡◌, sym, ap, ◌∙◌, false, ◌*◌, min, length}
use Rattle.base.specs.Written.{as_written, outcome}
use Rattle.interleaver_spec.specs.Running.{beyond}
use Rattle.subchannel_sender.specs.declared.Sent.{Sent}
use Rattle.subchannel_sender.specs.Sending.{group_sending}
use Rattle.subchannel_sender.proofs.Storing.{group-as}
use Rattle.subchannel_sender.proofs.Running.{group-short, group-wrote}
use Rattle.subchannel_sender.proofs.send_group.Goals as goal

pub returns-then-out-lt-LENGTH : goal.returns-then-out-lt-LENGTH
returns-then-out-lt-LENGTH c =
    let a = c.args in
    let l = c.in-Ok.limits in
    let e : (l.parity ≡ a.parity) × (l.depth ≡ a.depth) = c.in-Ok.ensures in
    let b : beyond l.depth a.matrix.place ≡ false = ap (λ d. beyond d a.matrix.place) e.1 ∙ sym c.is_beyond.ensures ∙ c.if-is_beyond.false in
    ap (λ (s : Sent). (outcome (as_written s.written) a.out.now, s.taken, s.matrix)) c.unsent-then-out-lt-LENGTH.ensures
    ∙ group-short l.parity l.depth a.matrix a.stream.now a.out.now b l.roots l.rows c.if-out-lt-LENGTH.true
    ∙ (λ i. group_sending (e.0 i) (e.1 i) a.matrix a.stream.now a.out.now)

pub returns : goal.returns
returns c =
    let a = c.args in
    let l = c.in-Ok.limits in
    let e : (l.parity ≡ a.parity) × (l.depth ≡ a.depth) = c.in-Ok.ensures in
    let b : beyond l.depth a.matrix.place ≡ false = ap (λ d. beyond d a.matrix.place) e.1 ∙ sym c.is_beyond.ensures ∙ c.if-is_beyond.false in
    group-wrote l.parity l.depth a.matrix a.stream.now a.out.now b l.roots l.rows c.if-out-lt-LENGTH.false
    (group-as l.depth a.matrix _ c.group_of-group.ensures c.put_group-next.ensures)
    (c.min.ensures ∙ ap (λ m. min (4 * m) (length a.stream.now)) c.message.ensures)
    ∙ (λ i. group_sending (e.0 i) (e.1 i) a.matrix a.stream.now a.out.now)
