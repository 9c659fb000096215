-- `interleaver::pull` meets its contract: what the check leaves open.
use Rattle.std.proofs.Common.{◌-◌, sym, ◌∙◌, length, arith}
use Rattle.interleaver_spec.specs.Running.{gave}
use Rattle.interleaver_spec.proofs.Calling.{short, flat, deep}
use Rattle.interleaver.proofs.Holding.{pulled-length}
use Rattle.interleaver.proofs.pull.Goals as goal

pub returns-then-out-bytes : goal.returns-then-out-bytes
returns-then-out-bytes c =
    let a = c.args in
    let n = c.held-kept in
    let b = sym c.is_beyond.ensures ∙ c.if-is_beyond.false in
    short a.depth a.back.matrix.place (gave a.depth) a.back a.bytes.now a.out.now b c.if-depth-gt-DEEPEST.false (length a.bytes.now - n.result)
    (pulled-length a.depth a.back a.bytes.now n.result b n.ensures.0) (omega arith)

pub returns-then-depth-lt2 : goal.returns-then-depth-lt2
returns-then-depth-lt2 c =
    let a = c.args in
    let n = c.held-kept in
    let b = sym c.is_beyond.ensures ∙ c.if-is_beyond.false in
    flat a.depth a.back.matrix.place (gave a.depth) a.back a.bytes.now a.out.now b c.if-depth-gt-DEEPEST.false (length a.bytes.now - n.result)
    (pulled-length a.depth a.back a.bytes.now n.result b n.ensures.0) (omega arith) c.if-depth-lt2.true c.copy.ensures

pub returns : goal.returns
returns c =
    let a = c.args in
    let n = c.held-kept in
    let b = sym c.is_beyond.ensures ∙ c.if-is_beyond.false in
    deep a.depth a.back.matrix.place (gave a.depth) a.back a.bytes.now a.out.now b c.if-depth-gt-DEEPEST.false (length a.bytes.now - n.result)
    (pulled-length a.depth a.back a.bytes.now n.result b n.ensures.0) (omega arith) c.if-depth-lt2.false c.take.ensures
