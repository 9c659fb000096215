-- Each turn takes a byte at least, or ends the call.
use Rattle.std.proofs.Common.{◌-◌, length}
use Rattle.recording.specs.Call.{deck_of}
use Rattle.recording.proofs.Heard.{So}
use Rattle.recording.proofs.reader.RecordingReader.hear.Given as goal

abbrev pub invariant-loop-answer : goal.invariant-loop-answer
invariant-loop-answer l = So (deck_of l.fn.self l.initial.recv l.initial.word) l.piece l.i l.tape l.recv l.word

abbrev pub decreases-loop-answer : goal.decreases-loop-answer
decreases-loop-answer l = length l.piece - l.i
