use Rattle.std.proofs.Common.{◌+◌, arith}
use lib.Seq.{drop-set-lt}
use Rattle.base.proofs.Lists.{next, over}
use Rattle.base.proofs.Laid.{laid_none, laid_more}
use Rattle.packet_spec.specs.Escape.{escaped}
use Rattle.packet.proofs.Runs.{moved-within, undo-ends, undo-hands}
use Rattle.packet.proofs.escape.+undo_escaped_undo_plain.Goals as goal

pub undo_escaped-returns-then-from-recv : goal.undo_escaped-returns-then-from-recv
undo_escaped-returns-then-from-recv t c =
    unfold escaped in rw (over c.args.recv.now c.args.from (omega arith)) (laid_none c.args.recv.now c.args.to)

pub undo_escaped-returns : goal.undo_escaped-returns
undo_escaped-returns t c =
    let l = c.args.recv.now in
    unfold escaped in
    rw (next l c.args.from (omega arith))
    (rw (← c.restored-b.ensures)
    (laid_more _ (rw (drop-set-lt (c.args.from + 1) l c.args.to c.restored-b.result (omega arith)) at c.undo_plain.ensures)))

pub undo_plain-overflow_add-at : goal.undo_plain-overflow_add-at
undo_plain-overflow_add-at t c =
    omega (arith, moved-within c.args.recv.now _ c.args.from c.args.to _ c.move_run-k.ensures (omega arith))

pub undo_plain-overflow_add-end : goal.undo_plain-overflow_add-end
undo_plain-overflow_add-end t c =
    omega (arith, moved-within c.args.recv.now _ c.args.from c.args.to _ c.move_run-k.ensures (omega arith))

pub undo_plain-returns-then-at-recv : goal.undo_plain-returns-then-at-recv
undo_plain-returns-then-at-recv t c =
    undo-ends c.args.recv.now _ c.args.from c.args.to _ c.move_run-k.ensures (omega arith)

pub undo_plain-overflow_add-at-2 : goal.undo_plain-overflow_add-at-2
undo_plain-overflow_add-at-2 t c =
    omega (arith, moved-within c.args.recv.now _ c.args.from c.args.to _ c.move_run-k.ensures (omega arith))

pub undo_plain-undo_escaped-requires : goal.undo_plain-undo_escaped-requires
undo_plain-undo_escaped-requires t c =
    omega (arith, moved-within c.args.recv.now _ c.args.from c.args.to _ c.move_run-k.ensures (omega arith))

pub undo_plain-returns : goal.undo_plain-returns
undo_plain-returns t c =
    let w = moved-within c.args.recv.now _ c.args.from c.args.to _ c.move_run-k.ensures (omega arith) in
    undo-hands c.args.recv.now _ c.args.from c.args.to _ c.move_run-k.ensures (omega (arith, w)) (omega arith) c.undo_escaped.ensures
