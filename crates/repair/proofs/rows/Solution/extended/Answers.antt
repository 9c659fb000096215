-- `repair::rows::Solution::extended` meets its contract.
use Rattle.std.proofs.Common.{◌≡◌, ◌∙◌, sym, ap, length, ◌≤◌, length-take-le, arith}
use Rattle.repair.specs.Way.{dot}
use Rattle.repair.proofs.Loops.{extended-some}
use Rattle.repair.proofs.rows.Solution.extended.Goals as goal

pub returns : goal.returns
returns c =
    let v = c.self.inside.v in
    let n = c.self.inside.n in
    let long : length v ≡ 33 = omega arith in
    let few : n ≤ 32 = omega (arith, ap length c.self.view_is, length-take-le n v (omega (arith, c.self.invariant.1, long)), c.requires) in
    extended-some c.args.p v n long c.self.invariant.0 few (sym c.self.view_is) (c.dot.ensures ∙ ap (λ u. dot u c.args.p) c.numbers.ensures.0)
    c.copy_from_slice.ensures.after
