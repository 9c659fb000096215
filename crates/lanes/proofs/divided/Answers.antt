-- `lanes::divided` meets its contract.
use Rattle.std.proofs.Common.{◌/◌, ◌%◌, length, arith}
use Rattle.lanes.proofs.Eights.{split-start, fed-eight, fed-over}
use Rattle.lanes.proofs.divided.Goals as goal

pub loop-bytes-init : goal.loop-bytes-init
loop-bytes-init g c =
    let l = c.args.bytes.now in
    let chunks = c.as_rchunks.ensures in
    let parts = c.split_at.ensures in
    split-start g.D.Divisor.behind l (length l % 8) (length l / 8) c.min.result (omega arith) (omega arith) (omega arith) (omega arith) chunks.front
    chunks.front_len chunks.back parts.front_len parts.front parts.back c.begun-l.ensures

pub loop-bytes-preserved : goal.loop-bytes-preserved
loop-bytes-preserved g c =
    fed-eight g.D.Divisor.behind _ c.loop-bytes.bytes-index _ c.loop-bytes-test.true c.eight.ensures c.turned-l.ensures c.loop-bytes.invariant

pub returns : goal.returns
returns g c = fed-over g.D.Divisor.behind _ c.loop-bytes.bytes-index _ c.loop-bytes-test.false c.loop-bytes.invariant
