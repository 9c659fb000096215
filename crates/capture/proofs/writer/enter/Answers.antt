use Rattle.std.proofs.Common.{arith}
use Rattle.capture.proofs.Entering.{told-most, enter-fits, enter-none}
use Rattle.capture.proofs.writer.enter.Goals as goal

pub returns-in_default : goal.returns-in_default
returns-in_default c = enter-none c.args.number c.args.packed.now c.args.out.now c.told.ensures c.in_default.not-Packet

pub put-requires : goal.put-requires
put-requires c = (omega (arith, told-most c.args.packed.now c.told.ensures c.in-Packet.is), c.if-out-n.false)

pub returns : goal.returns
returns c =
    enter-fits c.args.number c.args.packed.now c.args.out.now c.told.ensures c.in-Packet.is c.if-out-n.false c.put.ensures
