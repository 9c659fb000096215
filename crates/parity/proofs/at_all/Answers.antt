-- `parity::at_all` meets its contract: what two divisions leave of a word has its values.
use Rattle.std.proofs.Common.{sym, length-take-le, arith}
use Rattle.word_spec.specs.Residue.{lane_roots}
use Rattle.base.proofs.Bytes.{bytes_of}
use Rattle.parity.proofs.Loops.{both-are}
use Rattle.parity.proofs.at_all.Goals as goal

pub slice_bounds-copy-end : goal.slice_bounds-copy-end
slice_bounds-copy-end c = sym (length-take-le lane_roots c.at_powers-low.result (omega arith))

pub returns : goal.returns
returns c =
    both-are _ (bytes_of c.args.word.now (λ i. (c.type_inv.word i).fits)) c.left-left.ensures c.at_powers-low.ensures c.left_above-above.ensures
    c.at_powers-v.ensures c.copy.ensures
