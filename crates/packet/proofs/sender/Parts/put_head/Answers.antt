use Rattle.std.proofs.Common.{arith}
use Rattle.packet.proofs.Sending.{laid-key}
use Rattle.packet.proofs.sender.Parts.put_head.Goals as goal

pub returns : goal.returns
returns c =
    let p = c.args.self.now in
    laid-key p.format p.number p.key.now c.args.out.now c.copy.new.dst c.if-self-ne-KEY_FORMAT.false (omega (arith, p.few)) c.copy.ensures
