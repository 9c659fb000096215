-- `sheet::line::print_row` meets its contract.
use Rattle.std.proofs.Common.{ℕ, ap, ◌∙◌}
use Rattle.base.specs.Written.{write}
use Rattle.sheet_spec.specs.Line.{row_line}
use Rattle.text.proofs.Delivering.{delivers}
use Rattle.sheet_spec.proofs.Line.{row-short}
use Rattle.sheet.proofs.Writing.{row_put}
use Rattle.sheet.proofs.line.print_row.Goals as goal

pub returns : goal.returns
returns c =
    delivers c.args.out.now (row_put _ _ _ _ _ _ c.put_item-a.ensures c.put_item-b.ensures c.put_item-c.ensures c.put_item-d.ensures
    c.put_item-e.ensures c.put_item-f.ensures c.put_item-n.ensures) (row-short _ _ _ _ _ _) c.deliver.ensures ∙
    ap (λ (p : ℕ). write (row_line p c.args.row.tally.delivered c.args.row.tally.repeated c.args.row.tally.late c.args.row.tally.missing
    c.args.row.tally.total) c.args.out.now) c.from.ensures
