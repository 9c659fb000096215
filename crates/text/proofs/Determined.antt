-- Each public function's promise determines its result, and what the lent buffer then holds.
-- put-byte-determined, put-text-determined, put-number-determined, put-item-determined, deliver-determined   a law of each function
use mathlib.Core.Path.{refl, ap}
use Rattle.base.specs.Determined.{Determined}
use Rattle.base.proofs.Determining.{same, same_answer, same-output, buffer, skip}
use Rattle.text.specs.Put.{Place}
use Rattle.text.proofs.put_byte.Kinds as put-byte-kinds
use Rattle.text.proofs.put_byte.Reads as put-byte-reads
use Rattle.text.proofs.put_text.Kinds as put-text-kinds
use Rattle.text.proofs.put_text.Reads as put-text-reads
use Rattle.text.proofs.put_number.Kinds as put-number-kinds
use Rattle.text.proofs.put_number.Reads as put-number-reads
use Rattle.text.proofs.put_item.Kinds as put-item-kinds
use Rattle.text.proofs.put_item.Reads as put-item-reads
use Rattle.text.proofs.deliver.Kinds as deliver-kinds
use Rattle.text.proofs.deliver.Reads as deliver-reads

pub put-byte-determined : Determined put-byte-kinds.ps put-byte-kinds.r put-byte-reads.Asked put-byte-reads.Learnt
put-byte-determined κs a z z' ws ws' pre p q =
    let e = same p.is q.is in
    (ap (λ (x : Place). x.1) e, buffer (ap (λ (x : Place). x.0) e) refl)

pub put-text-determined : Determined put-text-kinds.ps put-text-kinds.r put-text-reads.Asked put-text-reads.Learnt
put-text-determined κs a z z' ws ws' pre p q =
    let e = same p.is q.is in
    (ap (λ (x : Place). x.1) e, buffer (ap (λ (x : Place). x.0) e) refl)

pub put-number-determined : Determined put-number-kinds.ps put-number-kinds.r put-number-reads.Asked put-number-reads.Learnt
put-number-determined κs a z z' ws ws' pre p q =
    let e = same p.is q.is in
    (ap (λ (x : Place). x.1) e, buffer (ap (λ (x : Place). x.0) e) refl)

pub put-item-determined : Determined put-item-kinds.ps put-item-kinds.r put-item-reads.Asked put-item-reads.Learnt
put-item-determined κs a z z' ws ws' pre p q =
    let e = same p.is q.is in
    (ap (λ (x : Place). x.1) e, buffer (ap (λ (x : Place). x.0) e) refl)

pub deliver-determined : Determined deliver-kinds.ps deliver-kinds.r deliver-reads.Asked deliver-reads.Learnt
deliver-determined κs a z z' ws ws' pre p q = (same_answer p q, skip (skip (buffer (same-output p q) refl)))
