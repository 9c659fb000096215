-- `fcs::fcs` meets its contract.
use Rattle.std.proofs.Common.{◌∙◌, ap}
use Rattle.fcs.specs.declared.Register.{Register}
use Rattle.fcs.specs.Fcs.{complement, fed, fcs}
use Rattle.fcs.proofs.fcs.Goals as goal

pub returns : goal.returns
unfolding fcs
returns c =
    c.check.ensures
    ∙ ap (λ (r : Register). complement r.bits) (c.feed.ensures ∙ ap (λ (r : Register). fed r c.args.bytes.now) c.fresh.ensures)
