-- `lanes::left` meets its contract: the bytes of what is left.
use Rattle.std.proofs.Common.{◌∙◌, arith}
use Rattle.word_spec.specs.Residue.{lane_roots}
use Rattle.word_spec.proofs.Residue.{residue-fed}
use Rattle.lanes.proofs.left.Goals as goal

pub returns : goal.returns
returns c = c.unlaid.ensures ∙ c.divided.ensures ∙ residue-fed lane_roots c.args.bytes.now (omega arith)
