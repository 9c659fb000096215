-- An answer that is passed over, or one that ends the call.
use Rattle.std.proofs.Common.{sym, ◌∙◌, Ok}
use Rattle.recording.proofs.Sought.{seek-on, seek-done}
use Rattle.recording.proofs.reader.RecordingReader.seek.Goals as goal

pub returns-then-not-is_passed : goal.returns-then-not-is_passed
returns-then-not-is_passed c =
    seek-done c.loop-h.invariant c.hear-h.result c.hear-h.ensures
    (sym c.is_passed.ensures ∙ c.if-not-is_passed.true) (Ok c.packet_in.result) c.packet_in.ensures

pub loop-h-smaller : goal.loop-h-smaller
loop-h-smaller c =
    (seek-on c.loop-h.invariant c.hear-h.result c.hear-h.ensures (sym c.is_passed.ensures ∙ c.if-not-is_passed.false)).1

pub loop-h-preserved : goal.loop-h-preserved
loop-h-preserved c =
    (seek-on c.loop-h.invariant c.hear-h.result c.hear-h.ensures (sym c.is_passed.ensures ∙ c.if-not-is_passed.false)).0
