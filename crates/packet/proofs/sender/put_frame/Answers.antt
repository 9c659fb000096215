use Rattle.std.proofs.Common.{sym, ◌++◌, arith}
use Rattle.base.proofs.Writing.{write-short}
use Rattle.packet_spec.specs.Sender.{flagged}
use Rattle.packet_spec.proofs.Escaping.{escape-most}
use Rattle.packet.proofs.Sending.{framed-length, laid-frame, frame-fits}
use Rattle.packet.proofs.sender.put_frame.Goals as goal

pub overflow_add-n : goal.overflow_add-n
overflow_add-n c = omega (arith, escape-most c.args.opening.now)

pub overflow_add-n-2 : goal.overflow_add-n-2
overflow_add-n-2 c = omega (arith, escape-most c.args.opening.now, escape-most c.args.tail.now)

pub returns-then-out-n : goal.returns-then-out-n
returns-then-out-n c =
    sym (write-short (flagged (c.args.opening.now ++ c.args.payload.now ++ c.args.tail.now)) c.args.out.now
    (omega (arith, framed-length c.args.opening.now c.args.payload.now c.args.tail.now)))

pub returns : goal.returns
returns c =
    let f = laid-frame c.args.opening.now c.args.payload.now c.args.tail.now c.put-a.ensures c.put-b.ensures c.put-c.ensures in
    frame-fits f (omega (arith, framed-length c.args.opening.now c.args.payload.now c.args.tail.now))
