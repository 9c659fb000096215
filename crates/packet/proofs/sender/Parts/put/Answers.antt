use Rattle.std.proofs.Common.{ap, ◌∙◌, List, ℕ, arith}
use Rattle.base.specs.Written.{write}
use Rattle.packet_spec.specs.Contents.{packet_of}
use Rattle.packet.proofs.Sending.{opening-part, sent-parts}
use Rattle.packet.proofs.sender.Parts.put.Goals as goal

pub returns : goal.returns
returns c =
    let s = c.args.self.now in
    let p = packet_of s.format s.number s.key.now s.port s.sequence s.payload.now in
    let e = opening-part p c.put_opening-n.ensures (omega arith) s.few in
    c.put_frame.ensures
    ∙ ap (λ (bs : List ℕ). write bs c.args.out.now) (sent-parts p _ _ _ e c.two-tail.ensures c.check_of.ensures)
