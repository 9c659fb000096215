-- `lanes::begun` meets its contract.
use Rattle.std.proofs.Common.{arith}
use Rattle.lanes.proofs.Eights.{begun-first, begun-next, begun-done}
use Rattle.lanes.proofs.begun.Goals as goal

pub loop-bytes-init : goal.loop-bytes-init
loop-bytes-init c = begun-first c.args.head.now c.requires.0 c.none.ensures c.few.ensures c.moved-l.ensures

pub loop-bytes-preserved : goal.loop-bytes-preserved
loop-bytes-preserved c =
    begun-next c.args.head.now c.loop-bytes.bytes-index c.args.first.now c.requires.0 c.loop-bytes-test.true c.requires.1 c.loop-bytes.invariant
    c.eight.ensures c.moved-l-in-loop-bytes.ensures

pub returns : goal.returns
returns c = begun-done c.args.head.now c.loop-bytes.bytes-index c.args.first.now (omega arith) c.loop-bytes.invariant
