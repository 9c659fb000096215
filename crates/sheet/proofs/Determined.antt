-- Each public function's promise determines its result, and what the lent output then holds.
-- fresh-determined, begin-determined, print-determined, note-determined, close-determined   a law of each function
use mathlib.Core.Path.{refl}
use Rattle.base.specs.Determined.{Determined}
use Rattle.base.proofs.Determining.{same, same_answer, same-output, buffer, skip}
use Rattle.sheet.proofs.Told.{same-closed}
use Rattle.sheet.proofs.Sheet.fresh.Kinds as fresh-kinds
use Rattle.sheet.proofs.Sheet.fresh.Reads as fresh-reads
use Rattle.sheet.proofs.Sheet.begin.Kinds as begin-kinds
use Rattle.sheet.proofs.Sheet.begin.Reads as begin-reads
use Rattle.sheet.proofs.Sheet.print.Kinds as print-kinds
use Rattle.sheet.proofs.Sheet.print.Reads as print-reads
use Rattle.sheet.proofs.Draft.note.Kinds as note-kinds
use Rattle.sheet.proofs.Draft.note.Reads as note-reads
use Rattle.sheet.proofs.Draft.close.Kinds as close-kinds
use Rattle.sheet.proofs.Draft.close.Reads as close-reads

pub fresh-determined : Determined fresh-kinds.ps fresh-kinds.r fresh-reads.Asked fresh-reads.Learnt
fresh-determined κs a z z' ws ws' pre p q = (same p q, refl)

pub begin-determined : Determined begin-kinds.ps begin-kinds.r begin-reads.Asked begin-reads.Learnt
begin-determined κs a z z' ws ws' pre p q = (same p q, refl)

pub print-determined : Determined print-kinds.ps print-kinds.r print-reads.Asked print-reads.Learnt
print-determined κs a z z' ws ws' pre p q = (same_answer p q, skip (skip (buffer (same-output p q) refl)))

pub note-determined : Determined note-kinds.ps note-kinds.r note-reads.Asked note-reads.Learnt
note-determined κs a z z' ws ws' pre p q = (same p q, refl)

pub close-determined : Determined close-kinds.ps close-kinds.r close-reads.Asked close-reads.Learnt
close-determined κs a z z' ws ws' pre p q = (same-closed z z' (same p q), refl)
