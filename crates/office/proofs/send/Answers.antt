-- By what the packet's call answers.
use Rattle.std.proofs.Common.{arith, ap}
use Rattle.base.specs.Written.{as_written}
use Rattle.office.proofs.Putting.{send-asks, send-is, send-not}
use Rattle.office.proofs.send.Goals as goal

pub overflow_add-all : goal.overflow_add-all
overflow_add-all c =
    let a = c.args in
    let x = send-asks a.port a.sequence a.text.now a.held a.hold.now c.requires.0 c.requires.1 c.append.ensures _ (ap as_written c.in-Ok.is) in
    omega (arith, x.1)

pub put_out-requires : goal.put_out-requires
put_out-requires c =
    let a = c.args in
    let x = send-asks a.port a.sequence a.text.now a.held a.hold.now c.requires.0 c.requires.1 c.append.ensures _ (ap as_written c.in-Ok.is) in
    (x.0, x.1, c.requires.2)

pub returns-in-Ok : goal.returns-in-Ok
returns-in-Ok c =
    let a = c.args in
    send-is a.port a.sequence a.text.now a.held a.hold.now c.requires.0 c.requires.1 c.append.ensures _ (ap as_written c.in-Ok.is) a.out.now c.put_out.ensures

pub returns-in-Err : goal.returns-in-Err
returns-in-Err c =
    let a = c.args in
    send-not a.port a.sequence a.text.now a.held a.hold.now c.requires.0 c.requires.1 c.append.ensures c.in-Err.refusal (ap as_written c.in-Err.is) a.out.now
