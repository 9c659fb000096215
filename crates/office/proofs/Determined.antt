-- Each public function's promise determines its result, and what each lent buffer then holds:
-- start-determined, hear-determined, close-determined, finish-determined.
use Prim.Native.Nat.{ℕ}
use mathlib.Core.Path.{◌≡◌, refl, sym, ap}
use Rattle.std.specs.Prelude.{Result, Ok, Err}
use Rattle.base.specs.declared.Refusal.{Refusal}
use Rattle.base.specs.Refusals.{number}
use Rattle.base.specs.Written.{Refused}
use Rattle.base.proofs.Writing.{same-written}
use Rattle.office.specs.declared.Office.{Office}
use Rattle.office.specs.declared.Hearing.{Hearing}
use Rattle.office.specs.declared.Answer.{Answer}
use Rattle.office.specs.declared.Answer.TheVariants as said
use Rattle.office.specs.Answer.{as_answer, Got, as_got}
use mathlib.Core.List.{List}
use Rattle.base.specs.Determined.{Determined}
use Rattle.base.proofs.Determining.{same, same_answer, same-output, buffer, skip}
use Rattle.office.specs.Start.{Started, as_started}
use Rattle.office.proofs.Office.start.Kinds as start-kinds
use Rattle.office.proofs.Office.start.Reads as start-reads
use Rattle.office.proofs.Office.hear.Kinds as hear-kinds
use Rattle.office.proofs.Office.hear.Reads as hear-reads
use Rattle.office.proofs.Office.close.Kinds as close-kinds
use Rattle.office.proofs.Office.close.Reads as close-reads
use Rattle.office.proofs.Office.finish.Kinds as finish-kinds
use Rattle.office.proofs.Office.finish.Reads as finish-reads

-- what the code answers is told by the paper's numbers
same-started : (r s : Result Office Refusal) → as_started r ≡ as_started s → r ≡ s
same-started (Ok r) (Ok s) e = cc
same-started (Ok r) (Err m) e = cc
same-started (Err n) (Ok s) e = cc
same-started (Err n) (Err m) e =
    let k : number n ≡ number m = cc in
    let f : ◌≡◌ {A = Result ℕ Refusal} (Err n) (Err m) = same-written (Err n) (Err m) (ap Refused k) in cc

same-answers : (r s : Result Answer Refusal) → as_answer r ≡ as_answer s → r ≡ s
same-answers (Ok said.More) (Ok said.More) e = refl
same-answers (Ok said.More) (Ok (said.Sent m)) e = cc
same-answers (Ok said.More) (Ok said.NoBid) e = cc
same-answers (Ok said.More) (Err m) e = cc
same-answers (Ok (said.Sent n)) (Ok said.More) e = cc
same-answers (Ok (said.Sent n)) (Ok (said.Sent m)) e = cc
same-answers (Ok (said.Sent n)) (Ok said.NoBid) e = cc
same-answers (Ok (said.Sent n)) (Err m) e = cc
same-answers (Ok said.NoBid) (Ok said.More) e = cc
same-answers (Ok said.NoBid) (Ok (said.Sent m)) e = cc
same-answers (Ok said.NoBid) (Ok said.NoBid) e = refl
same-answers (Ok said.NoBid) (Err m) e = cc
same-answers (Err n) (Ok said.More) e = cc
same-answers (Err n) (Ok (said.Sent m)) e = cc
same-answers (Err n) (Ok said.NoBid) e = cc
same-answers (Err n) (Err m) e =
    let k : number n ≡ number m = cc in
    let f : ◌≡◌ {A = Result ℕ Refusal} (Err n) (Err m) = same-written (Err n) (Err m) (ap Refused k) in cc

same-heard : (r s : Hearing) → as_got r ≡ as_got s → r ≡ s
same-heard r s e =
    let f : r.answer ≡ s.answer = same-answers r.answer s.answer (ap (λ (x : Got). x.answer) e) in
    λ i. record { answer = f i; taken = (e i).taken; office = (e i).office }

pub start-determined : Determined start-kinds.ps start-kinds.r start-reads.Asked start-reads.Learnt
start-determined κs a z z' ws ws' pre p q =
    let e : ◌≡◌ {A = Started × List ℕ} _ _ = same (sym p) (sym q) in
    (same-started z z' (λ i. (e i).0), buffer (λ i. (e i).1) refl)

pub hear-determined : Determined hear-kinds.ps hear-kinds.r hear-reads.Asked hear-reads.Learnt
hear-determined κs a z z' ws ws' pre p q =
    (same-heard z z' (same p.0 q.0), skip (buffer (same p.1 q.1) (buffer (same p.2 q.2) (skip (buffer (same p.3 q.3) refl)))))

pub close-determined : Determined close-kinds.ps close-kinds.r close-reads.Asked close-reads.Learnt
close-determined κs a z z' ws ws' pre p q =
    (same-heard z z' (same p.0 q.0), skip (buffer (same p.1 q.1) (buffer (same p.2 q.2) (buffer (same p.3 q.3) refl))))

pub finish-determined : Determined finish-kinds.ps finish-kinds.r finish-reads.Asked finish-reads.Learnt
finish-determined κs a z z' ws ws' pre p q = (same_answer p q, skip (skip (buffer (same-output p q) refl)))
