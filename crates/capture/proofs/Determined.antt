-- Each public function's promise determines its result, and what the lent buffer then holds. `packed` returns a part of the buffer: what this
-- holds is determined.
-- packed-determined, begin-determined, enter-determined, fresh-determined, read-determined, finish-determined   of the function of that name
use mathlib.Core.Path.{◌≡◌, refl, ap}
use Prim.Native.Nat.{ℕ}
use Rattle.std.specs.Prelude.{Result, Ok, Err}
use Rattle.base.specs.declared.Refusal.{Refusal}
use Rattle.base.specs.Refusals.{number}
use Rattle.base.specs.Written.{Refused as Number}
use Rattle.base.proofs.Writing.{same-written}
use Rattle.capture.specs.Call.{as_ended}
use Rattle.base.specs.Determined.{Determined, DeterminedAs}
use Rattle.base.proofs.Determining.{same, same_answer, same-output, buffer, skip}
use Rattle.capture.proofs.entry.packed.Kinds as packed-kinds
use Rattle.capture.proofs.entry.packed.Reads as packed-reads
use Rattle.capture.proofs.writer.begin.Kinds as begin-kinds
use Rattle.capture.proofs.writer.begin.Reads as begin-reads
use Rattle.capture.proofs.writer.enter.Kinds as enter-kinds
use Rattle.capture.proofs.writer.enter.Reads as enter-reads
use Rattle.capture.proofs.reader.CaptureReader.fresh.Kinds as fresh-kinds
use Rattle.capture.proofs.reader.CaptureReader.fresh.Reads as fresh-reads
use Rattle.capture.proofs.reader.CaptureReader.read.Kinds as read-kinds
use Rattle.capture.proofs.reader.CaptureReader.read.Reads as read-reads
use Rattle.capture.proofs.reader.CaptureReader.finish.Kinds as finish-kinds
use Rattle.capture.proofs.reader.CaptureReader.finish.Reads as finish-reads

same-ended : (r s : Result (Unit {0}) Refusal) → as_ended r ≡ as_ended s → r ≡ s
same-ended (Ok x) (Ok y) e = refl
same-ended (Ok x) (Err s) e = cc
same-ended (Err r) (Ok y) e = cc
same-ended (Err r) (Err s) e =
    let k : number r ≡ number s = cc in
    let w : ◌≡◌ {A = Result ℕ Refusal} (Err r) (Err s) = same-written (Err r) (Err s) (ap Number k) in
    let y : r ≡ s = cc in ap (λ (t : Refusal). Err t) y

pub packed-determined : DeterminedAs packed-kinds.ps packed-kinds.r (λ κs z. z.now) packed-reads.Asked packed-reads.Learnt
packed-determined κs a z z' ws ws' pre p q = (same p q, refl)

pub begin-determined : Determined begin-kinds.ps begin-kinds.r begin-reads.Asked begin-reads.Learnt
begin-determined κs a z z' ws ws' pre p q = (same_answer p q, buffer (same-output p q) refl)

pub enter-determined : Determined enter-kinds.ps enter-kinds.r enter-reads.Asked enter-reads.Learnt
enter-determined κs a z z' ws ws' pre p q = (same_answer p q, skip (skip (buffer (same-output p q) refl)))

pub fresh-determined : Determined fresh-kinds.ps fresh-kinds.r fresh-reads.Asked fresh-reads.Learnt
fresh-determined κs a z z' ws ws' pre p q = (same p q, refl)

pub read-determined : Determined read-kinds.ps read-kinds.r read-reads.Asked read-reads.Learnt
read-determined κs a z z' ws ws' pre p q = (same p.0 q.0, skip (buffer (same p.1 q.1) refl))

pub finish-determined : Determined finish-kinds.ps finish-kinds.r finish-reads.Asked finish-reads.Learnt
finish-determined κs a z z' ws ws' pre p q = (same-ended z z' (same p q), refl)
