-- `lanes::coefficients::Lanes::is_zero` meets its contract.
use Rattle.std.proofs.Common.{arith}
use Rattle.std.proofs.lemmas.Bool.Decides.{nat_tests}
use Rattle.lanes.proofs.Laid.{laid-zero}
use Rattle.lanes.proofs.coefficients.Lanes.is_zero.Goals as goal

pub returns-then-self-eq0-3 : goal.returns-then-self-eq0-3
returns-then-self-eq0-3 c =
    let e = laid-zero c.args.self (omega arith) (omega arith) (omega arith) (omega arith) in grind (arith, nat_tests, e)

pub returns-else-self-eq0-3 : goal.returns-else-self-eq0-3
returns-else-self-eq0-3 c =
    let e = laid-zero c.args.self (omega arith) (omega arith) (omega arith) (omega arith) in grind (arith, nat_tests, e)
