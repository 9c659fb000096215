-- `interleaver::take` meets its contract: what the check leaves open.
use Rattle.std.proofs.Common.{arith}
use Rattle.interleaver.proofs.Holding.{kept-all, kept-some}
use Rattle.interleaver.proofs.take.Goals as goal

pub returns-then-kept-bytes : goal.returns-then-kept-bytes
returns-then-kept-bytes c =
    let a = c.args in
    kept-all a.depth c.requires.0 a.back a.bytes.now a.out.now a.kept c.requires.2 c.requires.3 (omega arith) c.keep-first.ensures.1

pub returns : goal.returns
returns c =
    let a = c.args in
    kept-some a.depth c.requires.0 a.back a.bytes.now a.out.now a.kept c.requires.2 c.requires.3 (omega (arith, c.requires.4)) c.requires.5
    c.keep-first.ensures.0 c.keep-first.ensures.1 c.give-last.ensures
