-- A line for each way out.
use Rattle.std.proofs.Common.{sym, ◌∙◌, arith}
use Rattle.recording.proofs.Turn.{skip-fine, head-fine, turn-head, head-stays, turn-run, run-stays, turn_end, turn-out, turn-stays}
use Rattle.recording.proofs.reader.RecordingReader.turn.Goals as goal
use Rattle.recording.proofs.reader.RecordingReader.turn.Goals.{else-is_more-via-then-is_more+else-n-piece, else-is_more-via-else-is_more}

pub skip-requires : goal.skip-requires
skip-requires c =
    skip-fine c.args.self.channel c.args.self.receiver c.args.self.spot c.args.recv.now c.args.word.now c.args.piece.now _
    c.run-n.ensures _ _ _ c.listen-h.ensures c.requires.2 (omega arith)

pub head-requires : goal.head-requires
head-requires c =
    let a = c.args in
    head-fine a.self.channel a.self.receiver a.self.spot a.recv.now a.word.now a.piece.now _
    c.run-n.ensures _ _ _ c.listen-h.ensures _ c.skip.ensures
    (sym c.is_more.ensures ∙ c.if-is_more.true) c.if-n-eq0.true c.if-n-piece.true c.requires.2

pub returns-then-n-eq0 : goal.returns-then-n-eq0
returns-then-n-eq0 c =
    let a = c.args in (
      turn-head a.self.channel a.self.receiver a.self.spot a.recv.now a.word.now a.piece.now _
          c.run-n.ensures _ _ _ c.listen-h.ensures _ c.skip.ensures (sym c.is_more.ensures ∙ c.if-is_more.true)
          c.if-n-eq0.true c.if-n-piece.true _ c.head.ensures,
      head-stays a.self.channel a.self.receiver a.self.spot a.recv.now a.word.now a.piece.now _
          c.run-n.ensures _ _ _ c.listen-h.ensures _ c.skip.ensures (sym c.is_more.ensures ∙ c.if-is_more.true)
          c.requires.0 c.requires.1 c.if-n-eq0.true c.if-n-piece.true _ c.head.ensures,
    )

pub returns-then-n-piece : goal.returns-then-n-piece
returns-then-n-piece c =
    let a = c.args in (
      turn-run a.self.channel a.self.receiver a.self.spot a.recv.now a.word.now a.piece.now _
          c.run-n.ensures _ _ _ c.listen-h.ensures _ c.skip.ensures (sym c.is_more.ensures ∙ c.if-is_more.true) c.if-n-eq0.false,
      run-stays a.self.channel a.self.receiver a.self.spot a.recv.now a.word.now a.piece.now _
          c.run-n.ensures _ _ _ c.listen-h.ensures _ c.skip.ensures (sym c.is_more.ensures ∙ c.if-is_more.true)
          c.requires.0 c.requires.1,
    )

pub returns : goal.returns
returns c =
    let a = c.args in (
      elim c.else-is_more.branch [
        | else-is_more-via-then-is_more+else-n-piece w ↦ turn_end a.self.channel a.self.receiver a.self.spot a.recv.now a.word.now a.piece.now _
            c.run-n.ensures _ _ _ c.listen-h.ensures _ c.skip.ensures (sym c.is_more.ensures ∙ w.if-is_more.true) w.if-n-piece.false
        | else-is_more-via-else-is_more w ↦ turn-out a.self.channel a.self.receiver a.self.spot a.recv.now a.word.now a.piece.now _
            c.run-n.ensures _ _ _ c.listen-h.ensures _ c.skip.ensures (sym c.is_more.ensures ∙ w.if-is_more.false)
      ],
      turn-stays a.self.channel a.self.receiver a.self.spot a.recv.now a.word.now a.piece.now _
          c.run-n.ensures _ _ _ c.listen-h.ensures _ c.skip.ensures c.requires.0 c.requires.1,
    )
