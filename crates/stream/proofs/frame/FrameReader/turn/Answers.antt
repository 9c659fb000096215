use Rattle.std.proofs.Common.{sym, ◌∙◌, arith}
use Rattle.stream.specs.Call.{held}
use Rattle.stream.proofs.Fine.{fine_of}
use Rattle.stream.proofs.Runs.{before-stops}
use Rattle.stream.proofs.Turning.{turn_end, turn-answer, turn-opens}
use Rattle.stream.proofs.frame.FrameReader.turn.Goals as goal

pub returns-then-n-bytes : goal.returns-then-n-bytes
returns-then-n-bytes c =
    let a = c.args in
    turn_end (held a.self a.recv.now) (fine_of a.self a.recv.now c.requires.0 c.requires.1) a.bytes.now c.requires.2
    c.gather-n.ensures.0 c.counted-frame.ensures c.gather-n.ensures.1 c.looked.ensures c.if-n-bytes.true

pub overflow_add-behind : goal.overflow_add-behind
overflow_add-behind c = omega (arith, before-stops c.args.bytes.now c.gather-n.ensures.0 c.if-n-bytes.false)

pub returns-then-not-closes : goal.returns-then-not-closes
returns-then-not-closes c =
    let a = c.args in
    turn-opens (held a.self a.recv.now) (fine_of a.self a.recv.now c.requires.0 c.requires.1) a.bytes.now c.requires.2
    c.gather-n.ensures.0 c.counted-frame.ensures c.gather-n.ensures.1 c.if-n-bytes.false
    (sym c.closes.ensures ∙ c.if-not-closes.true) c.begun.ensures

pub returns : goal.returns
returns c =
    let a = c.args in
    turn-answer (held a.self a.recv.now) (fine_of a.self a.recv.now c.requires.0 c.requires.1) a.bytes.now c.requires.2
    c.gather-n.ensures.0 c.counted-frame.ensures c.gather-n.ensures.1 c.if-n-bytes.false
    (sym c.closes.ensures ∙ c.if-not-closes.false) c.begun.ensures c.judge.ensures
