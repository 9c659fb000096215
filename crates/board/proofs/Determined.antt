-- Each public function's promise determines its result, and what the lent buffers then hold.
-- fresh-determined, take-determined, finish-determined   a law of each function
use Prim.Native.Nat.{ℕ}
use mathlib.Core.Path.{◌≡◌, refl, ap}
use Rattle.std.specs.Prelude.{Result, Ok, Err}
use Rattle.base.specs.declared.Refusal.{Refusal}
use Rattle.base.specs.Refusals.{number}
use Rattle.base.specs.Written.{Refused}
use Rattle.base.proofs.Writing.{same-written}
use Rattle.board.specs.declared.readout.Took.{Took}
use Rattle.board.specs.declared.readout.Wants.{Wants}
use Rattle.board.specs.declared.readout.Wants.TheVariants as asked
use Rattle.board.specs.Wants.{as_wants, Got, as_got}
use Rattle.base.specs.Determined.{Determined}
use Rattle.base.proofs.Determining.{same, buffer, skip}
use Rattle.board.proofs.readout.Readout.fresh.Kinds as fresh-kinds
use Rattle.board.proofs.readout.Readout.fresh.Reads as fresh-reads
use Rattle.board.proofs.readout.Readout.take.Kinds as take-kinds
use Rattle.board.proofs.readout.Readout.take.Reads as take-reads
use Rattle.board.proofs.readout.Readout.finish.Kinds as finish-kinds
use Rattle.board.proofs.readout.Readout.finish.Reads as finish-reads

-- what a call answers is told by the paper's numbers
same-wants : (r s : Result Wants Refusal) → as_wants r ≡ as_wants s → r ≡ s
same-wants (Ok asked.More) (Ok asked.More) e = refl
same-wants (Ok asked.More) (Ok asked.Again) e = cc
same-wants (Ok asked.More) (Err n) e = cc
same-wants (Ok asked.Again) (Ok asked.More) e = cc
same-wants (Ok asked.Again) (Ok asked.Again) e = refl
same-wants (Ok asked.Again) (Err n) e = cc
same-wants (Err n) (Ok asked.More) e = cc
same-wants (Err n) (Ok asked.Again) e = cc
same-wants (Err n) (Err m) e =
    let k : number n ≡ number m = cc in
    let f : ◌≡◌ {A = Result ℕ Refusal} (Err n) (Err m) = same-written (Err n) (Err m) (ap Refused k) in cc

same-took : (r s : Took) → as_got r ≡ as_got s → r ≡ s
same-took r s e =
    let f : r.wants ≡ s.wants = same-wants r.wants s.wants (ap (λ (x : Got). x.wants) e) in
    λ i. record { wants = f i; taken = (e i).taken; written = (e i).written; next = (e i).next }

pub fresh-determined : Determined fresh-kinds.ps fresh-kinds.r fresh-reads.Asked fresh-reads.Learnt
fresh-determined κs a z z' ws ws' pre p q = (same p q, refl)

pub take-determined : Determined take-kinds.ps take-kinds.r take-reads.Asked take-reads.Learnt
take-determined κs a z z' ws ws' pre p q =
    (same-took z z' (same p.0 q.0), skip (buffer (same p.1 q.1) (buffer (same p.2 q.2) (skip (buffer (same p.3 q.3) refl)))))

pub finish-determined : Determined finish-kinds.ps finish-kinds.r finish-reads.Asked finish-reads.Learnt
finish-determined κs a z z' ws ws' pre p q = (same p q, refl)
