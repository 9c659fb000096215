use Rattle.std.proofs.Common.{sym, ap, ◌∙◌}
use Rattle.base.specs.Written.{outcome, Wrote}
use Rattle.base.proofs.Writing.{write-fits}
use Rattle.capture_spec.specs.File.{header}
use Rattle.capture.proofs.writer.begin.Goals as goal

pub returns : goal.returns
returns c = ap (outcome (Wrote 24)) c.copy.ensures ∙ sym (write-fits header c.args.out.now c.if-out-lt-HEADER.false)
