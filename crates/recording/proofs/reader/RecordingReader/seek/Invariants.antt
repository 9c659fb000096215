-- Each answer that is passed over leaves fewer to come.
use Rattle.std.proofs.Common.{drop}
use Rattle.recording.specs.Call.{deck_of}
use Rattle.recording.proofs.Sought.{Seeks, awaited}
use Rattle.recording.proofs.reader.RecordingReader.seek.Given as goal

abbrev pub invariant-loop-h : goal.invariant-loop-h
invariant-loop-h l = Seeks (deck_of l.fn.self l.initial.recv l.initial.word) l.piece l.i l.tape l.recv l.word

abbrev pub decreases-loop-h : goal.decreases-loop-h
decreases-loop-h l = awaited l.tape l.recv l.word (drop l.i l.piece)
