use Rattle.capture.proofs.Hearing.{going-first, going_end}
use Rattle.capture.proofs.reader.CaptureReader.read_on.Goals as goal

pub loop-i-init : goal.loop-i-init
loop-i-init c = going-first _ _ (record { counts = c.requires.0; room = c.requires.1 })

pub returns-then-is_some : goal.returns-then-is_some
returns-then-is_some c =
    going_end c.loop-i.invariant c.loop-i-test.true c.take-step.ensures (λ z. let e = rw z at c.is_some.ensures in cc)
