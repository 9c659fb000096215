-- `Sub::hear_on` meets its contract, one behind the other.
use Rattle.subchannel.proofs.Fine.{sound-parts}
use Rattle.subchannel.proofs.Ways.{fine-spare, handed-end, bytes-end}
use Rattle.subchannel.proofs.sub.Sub.hear_on.Goals as goal

pub returns-in-Some : goal.returns-in-Some
returns-in-Some c =
    let a = c.args in
    handed-end a.self a.recv.now a.word.now a.piece.now c.hand_on-handed.ensures c.in-Some.is

pub hear_bytes-requires : goal.hear_bytes-requires
hear_bytes-requires c =
    let e = c.hand_on-handed.ensures in
    (fine-spare (e.fine c.args.self.back (sound-parts c.args.self c.requires.0).1), e.owed c.in_default.is)

pub returns : goal.returns
returns c =
    let a = c.args in
    bytes-end a.self a.recv.now a.word.now a.piece.now c.hand_on-handed.ensures c.in_default.is c.hear_bytes.ensures
