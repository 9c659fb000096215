-- `lanes::is_clean` meets its contract: nothing is left exactly of a clean word.
use Rattle.std.proofs.Common.{ap, ◌∙◌, arith}
use Rattle.word_spec.specs.Residue.{lane_roots}
use Rattle.word_spec.specs.Private.{is_zero}
use Rattle.base.proofs.Bytes.{bytes_of}
use Rattle.word_spec.proofs.Residue.{residue-fed, residue-clean}
use Rattle.lanes.proofs.is_clean.Goals as goal

pub returns : goal.returns
returns c =
    let w = c.args.word.now in
    c.is_zero.ensures ∙ ap is_zero (c.divided.ensures ∙ residue-fed lane_roots w (omega arith))
    ∙ residue-clean lane_roots w (bytes_of w (λ i. (c.type_inv.word i).fits)) (omega arith)
