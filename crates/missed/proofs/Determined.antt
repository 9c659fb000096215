-- Each public function's promise determines its result, and what the lent buffers then hold.
-- ..-determined   a law of each function
use mathlib.Core.Path.{refl}
use Rattle.base.specs.Determined.{Determined}
use Rattle.base.proofs.Determining.{same, same_answer, same-output, buffer, skip}
use Rattle.missed.proofs.Told.{same-took}
use Rattle.missed.proofs.line.print_noted.Kinds as print-noted-kinds
use Rattle.missed.proofs.line.print_noted.Reads as print-noted-reads
use Rattle.missed.proofs.notes.Notes.fresh.Kinds as fresh-kinds
use Rattle.missed.proofs.notes.Notes.fresh.Reads as fresh-reads
use Rattle.missed.proofs.notes.Notes.take.Kinds as take-kinds
use Rattle.missed.proofs.notes.Notes.take.Reads as take-reads

pub print-noted-determined : Determined print-noted-kinds.ps print-noted-kinds.r print-noted-reads.Asked print-noted-reads.Learnt
print-noted-determined κs a z z' ws ws' pre p q = (same_answer p q, skip (skip (skip (buffer (same-output p q) refl))))

pub fresh-determined : Determined fresh-kinds.ps fresh-kinds.r fresh-reads.Asked fresh-reads.Learnt
fresh-determined κs a z z' ws ws' pre p q = (same p q, refl)

pub take-determined : Determined take-kinds.ps take-kinds.r take-reads.Asked take-reads.Learnt
take-determined κs a z z' ws ws' pre p q =
    (same-took z z' (same p.0 q.0), skip (buffer (same p.1 q.1) (buffer (same p.2 q.2) (skip (buffer (same p.3 q.3) refl)))))
