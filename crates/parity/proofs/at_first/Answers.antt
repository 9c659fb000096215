-- `parity::at_first` meets its contract: what division leaves of a word has its values.
use Rattle.std.proofs.Common.{arith}
use Rattle.base.proofs.Bytes.{bytes_of}
use Rattle.parity.proofs.Loops.{first-left, first-all}
use Rattle.parity.proofs.at_first.Goals as goal

pub returns-then-roots-le-ROOTS : goal.returns-then-roots-le-ROOTS
returns-then-roots-le-ROOTS c =
    first-left _ _ (bytes_of c.args.word.now (λ i. (c.type_inv.word i).fits)) c.if-roots-le-ROOTS.true c.left-left.ensures c.at_powers.ensures

pub returns : goal.returns
returns c = first-all _ _ (omega arith) c.at_all.ensures
