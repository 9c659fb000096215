-- `interleaver::push` meets its contract: what the check leaves open.
use Rattle.std.proofs.Common.{sym, ◌∙◌, length, arith}
use Rattle.interleaver_spec.specs.Running.{sent}
use Rattle.interleaver_spec.proofs.Calling.{short, flat, deep}
use Rattle.interleaver_spec.proofs.Pushing.{pushed-length}
use Rattle.interleaver.proofs.Loops.{sent-out}
use Rattle.interleaver.proofs.push.Goals as goal

pub returns-then-out-bytes : goal.returns-then-out-bytes
returns-then-out-bytes c =
    let a = c.args in
    short a.depth a.matrix.place (sent a.depth) a.matrix a.bytes.now a.out.now (sym c.is_beyond.ensures ∙ c.if-is_beyond.false)
    c.if-depth-gt-DEEPEST.false (length a.bytes.now) (pushed-length a.depth a.matrix a.bytes.now) (omega arith)

pub returns-then-depth-lt2 : goal.returns-then-depth-lt2
returns-then-depth-lt2 c =
    let a = c.args in
    flat a.depth a.matrix.place (sent a.depth) a.matrix a.bytes.now a.out.now (sym c.is_beyond.ensures ∙ c.if-is_beyond.false)
    c.if-depth-gt-DEEPEST.false (length a.bytes.now) (pushed-length a.depth a.matrix a.bytes.now) (omega arith) c.if-depth-lt2.true c.copy.ensures

pub returns : goal.returns
returns c =
    let a = c.args in
    deep a.depth a.matrix.place (sent a.depth) a.matrix a.bytes.now a.out.now (sym c.is_beyond.ensures ∙ c.if-is_beyond.false)
    c.if-depth-gt-DEEPEST.false (length a.bytes.now) (pushed-length a.depth a.matrix a.bytes.now) (omega arith) c.if-depth-lt2.false
    (c.send-turn.ensures ∙ sent-out a.depth a.bytes.now a.matrix a.out.now (omega arith))
