use Rattle.std.proofs.Common.{◌≡◌, ◌+◌, ◌∙◌, ap, sym, ℕ, take, drop, arith}
use Rattle.std.proofs.lemmas.List.Edits.{sets}
use Rattle.packet.proofs.Runs.{run-within, run_moved, moved-part, shift_none}
use Rattle.packet.proofs.escape.move_run.Goals as goal

pub returns-then-to-from : goal.returns-then-to-from
returns-then-to-from c =
    let l = c.args.recv.now in
    let from = c.args.from in
    let e = c.up_to-k.ensures.0 in
    run_moved l from e c.args.to
    (c.copy_within.ensures.after
    ∙ moved-part l from (from + c.up_to-k.result) c.args.to (omega arith) (omega arith) (run-within l from e (omega arith)))

pub returns-else-to-from : goal.returns-else-to-from
returns-else-to-from c =
    let l = c.args.recv.now in
    let from = c.args.from in
    let e = c.up_to-k.ensures.0 in
    let same : from ≡ c.args.to = omega arith in
    run_moved l from e c.args.to
    (sym (shift_none l from (from + c.up_to-k.result) (run-within l from e (omega arith)))
    ∙ ap (λ (i : ℕ). sets l i (drop from (take (from + c.up_to-k.result) l))) same)
