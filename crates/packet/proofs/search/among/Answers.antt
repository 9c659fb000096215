use Rattle.std.proofs.Common.{◌≡◌, sym, ap, ◌∙◌, ltb, length, arith}
use borrow.Author.Tests.{le-ltb}
use Rattle.base.specs.UpTo.{up_to}
use Rattle.packet.proofs.Seeking.{found-more}
use Rattle.packet.proofs.search.among.Goals as goal

pub loop-b-init : goal.loop-b-init
loop-b-init c = sym (le-ltb (length (up_to c.args.c c.args.bytes.now)) 0 (omega arith))

pub loop-b-preserved : goal.loop-b-preserved
loop-b-preserved c = found-more c.args.c c.args.bytes.now c.loop-b.b-index (omega arith) c.loop-b.invariant

pub returns : goal.returns
returns c =
    let all : c.loop-b.b-index ≡ 16 = omega arith in
    c.loop-b.invariant ∙ ap (ltb (length (up_to c.args.c c.args.bytes.now))) all
