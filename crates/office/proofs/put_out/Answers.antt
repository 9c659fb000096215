use Rattle.office.proofs.Putting.{put_is, put-none}
use Rattle.office.proofs.put_out.Goals as goal

pub returns-then-whole-eq0 : goal.returns-then-whole-eq0
returns-then-whole-eq0 c =
    let a = c.args in
    put-none a.hold.now a.out.now a.n c.requires.0 c.requires.1 c.requires.2 c.send.result c.send.ensures c.unwrap_or-sent.ensures c.if-whole-eq0.true

pub returns : goal.returns
returns c =
    let a = c.args in
    put_is a.hold.now a.out.now a.n c.requires.0 c.requires.1 c.requires.2 c.send.result c.send.ensures c.unwrap_or-sent.ensures c.copy_within.ensures.after
