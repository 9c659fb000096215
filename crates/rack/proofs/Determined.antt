-- Each function's promise determines the number that it answers, and what the lent memory then holds.
-- make-determined, check-determined, repair-determined, read-determined, hear-determined   of the function whose name ends so
use mathlib.Core.Path.{refl, ap}
use Rattle.base.specs.Determined.{Determined}
use Rattle.base.proofs.Determining.{same, buffer, skip}
use Rattle.rack.proofs.word.aas_parity_make.Kinds as make-kinds
use Rattle.rack.proofs.word.aas_parity_make.Reads as make-reads
use Rattle.rack.proofs.word.aas_word_check.Kinds as check-kinds
use Rattle.rack.proofs.word.aas_word_check.Reads as check-reads
use Rattle.rack.proofs.word.aas_word_repair.Kinds as repair-kinds
use Rattle.rack.proofs.word.aas_word_repair.Reads as repair-reads
use Rattle.rack.proofs.reading.aas_stream_read.Kinds as read-kinds
use Rattle.rack.proofs.reading.aas_stream_read.Reads as read-reads
use Rattle.rack.proofs.hearing.aas_channel_read.Kinds as hear-kinds
use Rattle.rack.proofs.hearing.aas_channel_read.Reads as hear-reads

pub make-determined : Determined make-kinds.ps make-kinds.r make-reads.Asked make-reads.Learnt
make-determined κs a z z' ws ws' pre p q = let e = same p q in (ap (λ x. x.0) e, skip (skip (buffer (ap (λ x. x.1) e) refl)))

pub check-determined : Determined check-kinds.ps check-kinds.r check-reads.Asked check-reads.Learnt
check-determined κs a z z' ws ws' pre p q = (same p q, refl)

pub repair-determined : Determined repair-kinds.ps repair-kinds.r repair-reads.Asked repair-reads.Learnt
repair-determined κs a z z' ws ws' pre p q = let e = same p q in (ap (λ x. x.0) e, skip (buffer (ap (λ x. x.1) e) refl))

pub read-determined : Determined read-kinds.ps read-kinds.r read-reads.Asked read-reads.Learnt
read-determined κs a z z' ws ws' pre p q =
    let e = same p q in
    (ap (λ x. x.0) e, buffer (ap (λ x. x.1) e) (buffer (ap (λ x. x.2) e) refl))

pub hear-determined : Determined hear-kinds.ps hear-kinds.r hear-reads.Asked hear-reads.Learnt
hear-determined κs a z z' ws ws' pre p q =
    let e = same p q in
    (ap (λ x. x.0) e, buffer (ap (λ x. x.1) e) (buffer (ap (λ x. x.2) e) (buffer (ap (λ x. x.3) e) refl)))
