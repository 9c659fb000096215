use Rattle.std.proofs.Common.{ap, sym, ◌∙◌, List, ℕ}
use lib.Seq.{length-take-le}
use Rattle.packet_spec.specs.Frame.{judged, judge_contents, closed_by}
use Rattle.packet_spec.proofs.Escaping.{plain-short}
use Rattle.packet_spec.proofs.Judging.{both, closed-over, closed-stored}
use Rattle.packet.proofs.Runs.{lent-start, lent-take, lent-within}
use Rattle.packet.proofs.frame.close.Goals as goal

pub returns-then-raw-gt-RAW : goal.returns-then-raw-gt-RAW
returns-then-raw-gt-RAW c = both (closed-over c.args.recv.now c.args.raw c.if-raw-gt-RAW.true)

pub slice_bounds-judge_contents-end : goal.slice_bounds-judge_contents-end
slice_bounds-judge_contents-end c = lent-within c.args.recv.now c.min-stored.result c.undo_plain-n.ensures (plain-short _)

pub slice_bounds-judge_contents-end-in-Right : goal.slice_bounds-judge_contents-end-in-Right
slice_bounds-judge_contents-end-in-Right c =
    sym (length-take-le _ _ (lent-within c.args.recv.now c.min-stored.result c.undo_plain-n.ensures (plain-short _)))

pub returns-in-Unfinished : goal.returns-in-Unfinished
unfolding closed_by
returns-in-Unfinished c =
    both (closed-stored c.args.recv.now c.args.raw c.if-raw-gt-RAW.false c.min-stored.ensures _ (sym c.scan.ensures ∙ c.in-Unfinished.is))

pub returns-in-Wrong : goal.returns-in-Wrong
unfolding closed_by
returns-in-Wrong c =
    both (closed-stored c.args.recv.now c.args.raw c.if-raw-gt-RAW.false c.min-stored.ensures _ (sym c.scan.ensures ∙ c.in-Wrong.is))

pub returns-in-Right : goal.returns-in-Right
unfolding closed_by
returns-in-Right c =
    let l = c.args.recv.now in
    let n = c.min-stored.result in
    let u = c.undo_plain-n.ensures in
    let j = both (closed-stored l c.args.raw c.if-raw-gt-RAW.false c.min-stored.ensures _ (sym c.scan.ensures ∙ c.in-Right.is)) in (
      c.told.ensures ∙ c.judge_contents.ensures ∙ ap (λ (x : List ℕ). judged (judge_contents x)) (lent-take l n u (plain-short _)) ∙ j.0,
      lent-start l n u (plain-short _) ∙ j.1,
    )
