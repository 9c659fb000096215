-- `lanes::coefficients::Lanes::doubled` meets its contract, lane by lane.
use Rattle.std.proofs.Common.{map}
use Rattle.std.proofs.lemmas.List.{map-append}
use Rattle.field.specs.Field.{double}
use Rattle.lanes.proofs.Laid.{laid_each}
use Rattle.lanes.proofs.coefficients.Lanes.doubled.Goals as goal

pub returns : goal.returns
returns c =
    laid_each c.args.self _ (map double) (map-append double) c.double_eight.ensures c.double_eight-2.ensures c.double_eight-3.ensures c.double_eight-4.ensures
