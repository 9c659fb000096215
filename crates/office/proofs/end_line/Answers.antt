-- A bid, or none.
use Rattle.std.proofs.Common.{sym, ◌∙◌}
use Rattle.office.proofs.Putting.{line-asks, line-bid, line-none}
use Rattle.office.proofs.end_line.Goals as goal

pub slice_bounds-send-count : goal.slice_bounds-send-count
slice_bounds-send-count c = line-asks c.args.line.now c.args.held c.args.hold.now (sym c.read.ensures ∙ c.in-Some.is)

pub returns-in-Some : goal.returns-in-Some
returns-in-Some c =
    let a = c.args in
    line-bid a.line.now a.held a.hold.now a.out.now c.send.result (sym c.read.ensures ∙ c.in-Some.is) c.send.ensures

pub returns-in-None : goal.returns-in-None
returns-in-None c =
    let a = c.args in
    line-none a.line.now a.held a.hold.now a.out.now (sym c.read.ensures ∙ c.in-None.is)

pub slice_bounds-send-start : goal.slice_bounds-send-start
slice_bounds-send-start c = line-asks c.args.line.now c.args.held c.args.hold.now (sym c.read.ensures ∙ c.in-Some.is)
