use Rattle.std.proofs.Common.{arith}
use Rattle.base.proofs.UpTo.{up-to-short}
use Rattle.packet.proofs.Seeking.{sought}
use Rattle.packet.proofs.search.up_to.Goals as goal

pub overflow_add-result : goal.overflow_add-result
overflow_add-result c =
    let short = up-to-short c.args.c c.args.bytes.now in
    omega (arith, sought c.args.c c.min-at.result c.args.bytes.now (omega arith) (omega (arith, short)) c.within.ensures, short)

pub returns : goal.returns
returns c =
    let short = up-to-short c.args.c c.args.bytes.now in
    let e = sought c.args.c c.min-at.result c.args.bytes.now (omega arith) (omega (arith, short)) c.within.ensures in
    (e, omega (arith, e, short))
