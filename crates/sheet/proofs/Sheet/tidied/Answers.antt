-- `sheet::Sheet::tidied` meets its contract.
use Rattle.std.proofs.Common.{arith, rules, ap, take, ◌∙◌}
use Rattle.sheet_spec.specs.Rows.{cleared, padded}
use Rattle.sheet.proofs.Ways.{cleared-is, same-places}
use Rattle.sheet.proofs.Sheet.tidied.Goals as goal

pub returns : goal.returns
returns c =
    cleared-is c.args.self (omega arith) c.min-ports.ensures (
    c.alone.ensures ∙
    ap (λ xs. padded (take c.min-ports.result xs))
    (same-places cleared c.args.self.rows c.map.result (omega arith) (λ i d e h. let (p, q, k) = c.map.ensures.items.at i d e (omega arith) in search rules))
    )
