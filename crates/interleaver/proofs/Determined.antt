-- Each public function's promise determines its result, and what the output then holds.
-- fresh-determined, push-determined, close-determined, back-determined, pull-determined   the five calls
-- is-beyond-determined, step-determined   a place
use mathlib.Core.Path.{refl}
use Rattle.base.specs.Determined.{Determined}
use Rattle.base.proofs.Determining.{same, buffer, skip}
use Rattle.base.proofs.Writing.{same-written}
use Rattle.interleaver.proofs.fresh.Kinds as fresh-kinds
use Rattle.interleaver.proofs.fresh.Reads as fresh-reads
use Rattle.interleaver.proofs.push.Kinds as push-kinds
use Rattle.interleaver.proofs.push.Reads as push-reads
use Rattle.interleaver.proofs.close.Kinds as close-kinds
use Rattle.interleaver.proofs.close.Reads as close-reads
use Rattle.interleaver.proofs.fresh_back.Kinds as back-kinds
use Rattle.interleaver.proofs.fresh_back.Reads as back-reads
use Rattle.interleaver.proofs.pull.Kinds as pull-kinds
use Rattle.interleaver.proofs.pull.Reads as pull-reads
use Rattle.interleaver.proofs.is_beyond.Kinds as is-beyond-kinds
use Rattle.interleaver.proofs.is_beyond.Reads as is-beyond-reads
use Rattle.interleaver.proofs.step.Kinds as step-kinds
use Rattle.interleaver.proofs.step.Reads as step-reads

pub fresh-determined : Determined fresh-kinds.ps fresh-kinds.r fresh-reads.Asked fresh-reads.Learnt
fresh-determined κs a z z' ws ws' pre p q = (same p q, refl)

pub push-determined : Determined push-kinds.ps push-kinds.r push-reads.Asked push-reads.Learnt
push-determined κs a z z' ws ws' pre p q =
    let e = same p q in
    (λ i. record { written = same-written _ _ (λ j. (e j).0.answer) i; matrix = (e i).1 }, skip (skip (skip (buffer (λ i. (e i).0.output) refl))))

pub close-determined : Determined close-kinds.ps close-kinds.r close-reads.Asked close-reads.Learnt
close-determined κs a z z' ws ws' pre p q =
    let e = same p q in
    (λ i. record { written = same-written _ _ (λ j. (e j).0.answer) i; matrix = (e i).1 }, skip (skip (buffer (λ i. (e i).0.output) refl)))

pub back-determined : Determined back-kinds.ps back-kinds.r back-reads.Asked back-reads.Learnt
back-determined κs a z z' ws ws' pre p q = (same p q, refl)

pub pull-determined : Determined pull-kinds.ps pull-kinds.r pull-reads.Asked pull-reads.Learnt
pull-determined κs a z z' ws ws' pre p q =
    let e = same p q in
    (λ i. record { written = same-written _ _ (λ j. (e j).0.answer) i; back = (e i).1 }, skip (skip (skip (buffer (λ i. (e i).0.output) refl))))

pub is-beyond-determined : Determined is-beyond-kinds.ps is-beyond-kinds.r is-beyond-reads.Asked is-beyond-reads.Learnt
is-beyond-determined κs a z z' ws ws' pre p q = (same p q, refl)

pub step-determined : Determined step-kinds.ps step-kinds.r step-reads.Asked step-reads.Learnt
step-determined κs a z z' ws ws' pre p q = (same p q, refl)
