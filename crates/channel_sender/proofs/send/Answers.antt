-- `channel_sender::send` meets its contract, by the laws of a turn and of the whole.
use Rattle.std.proofs.Common.{arith}
use Rattle.channel_sender.proofs.Sending.{send-short, send-fits, blocks-room, blocks-next}
use Rattle.channel_sender.proofs.send.Goals as goal

pub returns-then-out-blocks : goal.returns-then-out-blocks
returns-then-out-blocks c = send-short c.args.stream.now c.args.out.now _ c.blocks_of-blocks.ensures.0 c.if-out-blocks.true

pub loop-i-preserved : goal.loop-i-preserved
loop-i-preserved c =
    let l = c.loop-i in
    let a = c.args in
    record {
      room = blocks-room a.stream.now a.out.now l.out l.i l.invariant.so_far c.put_next.ensures (omega arith);
      so_far = blocks-next a.stream.now a.out.now l.out l.i l.invariant.so_far c.put_next.ensures;
    }

pub returns : goal.returns
returns c =
    let l = c.loop-i in
    send-fits c.args.stream.now c.args.out.now _ c.blocks_of-blocks.ensures.0 l.i c.if-out-blocks.false (omega arith) l.invariant.so_far
