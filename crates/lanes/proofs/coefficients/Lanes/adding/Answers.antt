-- `lanes::coefficients::Lanes::adding` meets its contract, lane by lane.
use Rattle.std.proofs.Common.{refl}
use Rattle.lanes.proofs.Bits.{adding-is}
use Rattle.lanes.proofs.coefficients.Lanes.adding.Goals as goal

pub returns : goal.returns
returns c =
    adding-is _ _ c.args.self (record { a = c.chosen.result; b = c.chosen-2.result; c = c.chosen-3.result; d = c.chosen-4.result }) c.args.row c.args.next _
    refl c.chosen.ensures c.chosen-2.ensures c.chosen-3.ensures c.chosen-4.ensures
