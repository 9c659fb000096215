-- Each public function's promise determines its result, and what the lent output then holds.
-- print-determined, print-end-determined, print-wrong-determined, none-determined, count-determined   a law of each function
use mathlib.Core.Path.{refl}
use Rattle.base.specs.Determined.{Determined}
use Rattle.base.proofs.Determining.{same, same_answer, same-output, buffer, skip}
use Rattle.listing_lines.proofs.print.Kinds as print-kinds
use Rattle.listing_lines.proofs.print.Reads as print-reads
use Rattle.listing_lines.proofs.print_end.Kinds as print-end-kinds
use Rattle.listing_lines.proofs.print_end.Reads as print-end-reads
use Rattle.listing_lines.proofs.print_wrong.Kinds as print-wrong-kinds
use Rattle.listing_lines.proofs.print_wrong.Reads as print-wrong-reads
use Rattle.listing_lines.proofs.totals.Totals.none.Kinds as none-kinds
use Rattle.listing_lines.proofs.totals.Totals.none.Reads as none_reads
use Rattle.listing_lines.proofs.totals.Totals.count.Kinds as count-kinds
use Rattle.listing_lines.proofs.totals.Totals.count.Reads as count-reads

pub print-determined : Determined print-kinds.ps print-kinds.r print-reads.Asked print-reads.Learnt
print-determined κs a z z' ws ws' pre p q = (same_answer p q, skip (buffer (same-output p q) refl))

pub print-end-determined : Determined print-end-kinds.ps print-end-kinds.r print-end-reads.Asked print-end-reads.Learnt
print-end-determined κs a z z' ws ws' pre p q =
    (same_answer p q, skip (skip (buffer (same-output p q) refl)))

pub print-wrong-determined : Determined print-wrong-kinds.ps print-wrong-kinds.r print-wrong-reads.Asked print-wrong-reads.Learnt
print-wrong-determined κs a z z' ws ws' pre p q = (same_answer p q, skip (buffer (same-output p q) refl))

pub none-determined : Determined none-kinds.ps none-kinds.r none_reads.Asked none_reads.Learnt
none-determined κs a z z' ws ws' pre p q = (same p q, refl)

pub count-determined : Determined count-kinds.ps count-kinds.r count-reads.Asked count-reads.Learnt
count-determined κs a z z' ws ws' pre p q = (same p q, refl)
