use Rattle.std.proofs.Common.{[]}
use Rattle.packet_spec.specs.Contents.{packet_of}
use Rattle.packet.proofs.Sending.{laid-opening}
use Rattle.packet.proofs.sender.Parts.put_opening.Goals as goal

pub returns : goal.returns
returns c =
    let p = c.args.self.now in
    laid-opening (packet_of p.format p.number p.key.now p.port p.sequence []) c.put_head-a.ensures c.put_two-b.ensures c.put_two.ensures
