-- `repair::rows::solve` meets its contract.
use Rattle.std.proofs.Common.{◌∙◌, sym, ap, [], unwrap_or, length, ◌-◌, arith}
use Rattle.repair.proofs.Loops.{solve-zero, solve-free, solve-some, solve-none, solve-short}
use Rattle.repair.proofs.rows.+solve.Goals as goal

pub returns-then-n-eq0 : goal.returns-then-n-eq0
returns-then-n-eq0 t c = solve-zero c.args.n c.args.rows.now c.if-n-eq0.true

pub returns-in_default : goal.returns-in_default
returns-in_default t c = c.one.ensures ∙ solve-free c.args.n c.args.rows.now c.if-n-eq0.false (sym c.in_default.is ∙ c.pivot.ensures)

pub returns-in_err-rest : goal.returns-in_err-rest
returns-in_err-rest t c =
    ap (λ o. unwrap_or o []) c.from_residual.ensures
    ∙ solve-none c.args.n c.args.rows.now c.if-n-eq0.false (sym c.in-Some.is ∙ c.pivot.ensures) c.normal-p.ensures c.reduce.ensures
    (ap (λ o. unwrap_or o []) (sym c.in_err-rest.was) ∙ c.solve.ensures)

pub extended-requires : goal.extended-requires
extended-requires t c =
    let e = ap (λ o. unwrap_or o []) (sym c.in_ok-rest.was) ∙ c.solve.ensures in
    omega (arith, ap length e, solve-short (c.args.n - 1) c.reduce.new.rows, c.requires)

pub returns : goal.returns
returns t c =
    c.extended.ensures
    ∙ solve-some c.args.n c.args.rows.now c.if-n-eq0.false (sym c.in-Some.is ∙ c.pivot.ensures) c.normal-p.ensures c.reduce.ensures
    (ap (λ o. unwrap_or o []) (sym c.in_ok-rest.was) ∙ c.solve.ensures)
