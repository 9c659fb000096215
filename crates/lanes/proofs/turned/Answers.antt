-- `lanes::turned` meets its contract: the bits that go are replaced by what they are worth, five by five, which is eight steps of the division.
use Rattle.std.proofs.Common.{ap, ◌∙◌, arith}
use Rattle.lanes.specs.Private.{doubled_by}
use Rattle.lanes.proofs.Bits.{worths-are, group, turn_is}
use Rattle.lanes.proofs.turned.Goals as goal

pub returns : goal.returns
returns g c =
    let d = g.D.Divisor.behind in
    let is0 = c.row-w0.ensures ∙ worths-are c.worths-w.result d c.worths-w.ensures 0 (omega arith) in
    let is1 = c.row-w1.ensures ∙ worths-are c.worths-w.result d c.worths-w.ensures 1 (omega arith) in
    let is2 = c.row-w2.ensures ∙ worths-are c.worths-w.result d c.worths-w.ensures 2 (omega arith) in
    let is3 = c.row-w3.ensures ∙ worths-are c.worths-w.result d c.worths-w.ensures 3 (omega arith) in
    let is4 = c.row-w4.ensures ∙ worths-are c.worths-w.result d c.worths-w.ensures 4 (omega arith) in
    let is5 = c.row-w5.ensures ∙ worths-are c.worths-w.result d c.worths-w.ensures 5 (omega arith) in
    let is6 = c.row-w6.ensures ∙ worths-are c.worths-w.result d c.worths-w.ensures 6 (omega arith) in
    let is7 = c.row-w7.ensures ∙ worths-are c.worths-w.result d c.worths-w.ensures 7 (omega arith) in
    turn_is d c.row-w0.result c.args.l c.args.x is0
    (group 8 _ is0 is1 c.adding-r-13.ensures
    (group 3 _ (c.raised-11.ensures ∙ ap (doubled_by 5) is0) is1 c.adding-r-12.ensures
    (group 6 _ (c.raised-10.ensures ∙ ap (doubled_by 2) is1) is2 c.adding-r-11.ensures
    (group 1 _ (c.raised-9.ensures ∙ ap (doubled_by 7) is1) is2 c.adding-r-10.ensures
    (group 4 _ (c.raised-8.ensures ∙ ap (doubled_by 4) is2) is3 c.adding-r-9.ensures
    (group 7 _ (c.raised-7.ensures ∙ ap (doubled_by 1) is3) is4 c.adding-r-8.ensures
    (group 2 _ (c.raised-6.ensures ∙ ap (doubled_by 6) is3) is4 c.adding-r-7.ensures
    (group 5 _ (c.raised-5.ensures ∙ ap (doubled_by 3) is4) is5 c.adding-r-6.ensures
    (group 8 _ is5 is6 c.adding-r-5.ensures
    (group 3 _ (c.raised-4.ensures ∙ ap (doubled_by 5) is5) is6 c.adding-r-4.ensures
    (group 6 _ (c.raised-3.ensures ∙ ap (doubled_by 2) is6) is7 c.adding-r-3.ensures
    (group 1 _ (c.raised-2.ensures ∙ ap (doubled_by 7) is6) is7 c.adding-r-2.ensures
    (group 4 _ (c.raised.ensures ∙ ap (doubled_by 4) is7) c.none-none.ensures c.adding-r.ensures
    c.moved-r.ensures)))))))))))))
