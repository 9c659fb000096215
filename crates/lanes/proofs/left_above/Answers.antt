-- `lanes::left_above` meets its contract: the bytes of what is left.
use Rattle.std.proofs.Common.{◌∙◌, arith}
use Rattle.word_spec.specs.Residue.{lane_roots, next_root}
use Rattle.word_spec.proofs.Residue.{from-fed}
use Rattle.lanes.proofs.left_above.Goals as goal

pub returns : goal.returns
returns c = c.unlaid.ensures ∙ c.divided.ensures ∙ from-fed next_root lane_roots c.args.bytes.now (omega arith)
