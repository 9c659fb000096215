-- `repair::repair` meets its contract.
use Rattle.std.proofs.Common.{rules}
use Rattle.std.specs.Prelude.{Ok}
use Rattle.base.proofs.Bytes.{bytes_of}
use Rattle.parity.proofs.Refusing.{checked-found}
use Rattle.repair.specs.Mended.{as_mended}
use Rattle.repair.proofs.Loops.{repair-damaged}
use Rattle.repair.proofs.repair.Goals as goal

pub returns-in-Damaged : goal.returns-in-Damaged
returns-in-Damaged c =
    repair-damaged c.args.r c.args.word.now (bytes_of c.args.word.now (λ i. search rules)) c.check.ensures
    (checked-found c.in_ok-check.was c.in-Damaged.is) (as_mended (Ok c.mend.result)) c.mend.new.word
    (rw c.in_ok-roots.ensures at c.mend.ensures)
