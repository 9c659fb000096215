-- `missed::line::print_noted` meets its contract.
use Rattle.std.proofs.Common.{List, ℕ, ap, ◌∙◌, arith}
use Rattle.base.specs.Written.{write}
use Rattle.text.proofs.Putting.{put-taken}
use Rattle.missed_spec.proofs.Laws.{line-short}
use Rattle.missed.proofs.line.print_noted.Goals as goal

pub returns : goal.returns
returns c =
    let s = c.args in
    c.deliver.ensures
    ∙ ap (λ (bs : List ℕ). write bs s.out.now)
    (put-taken c.put_noted-n.ensures (omega (arith, line-short s.port s.sequence s.noted)))
