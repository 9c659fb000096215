-- Each public function's promise determines its result, and what the lent output then holds; a refused call leaves the output as it was.
-- send-determined, send-group-determined, count-determined
-- sending-keeps   a refused call leaves the output
use Prim.Native.Nat.{ℕ}
use mathlib.Core.Path.{◌≡◌, refl, sym, ap, ◌∙◌}
use mathlib.Core.List.{List}
use lib.Dec.{ltb}
use Rattle.base.specs.Determined.{Determined}
use Rattle.std.specs.Prelude.{Result, Ok, Err}
use Rattle.base.specs.declared.Refusal.{Refusal}
use Rattle.base.specs.Written.{Written, Wrote, as_written, Keeps}
use Rattle.base.specs.Written.{Refused as NotWritten}
use Rattle.base.proofs.Determining.{same, same_answer, same-output, buffer, skip}
use Rattle.base.proofs.Writing.{same-written, write_keeps, refused-keeps, pick-keeps}
use Rattle.parity.specs.Calls.{root_limit}
use Rattle.interleaver_spec.specs.Running.{depth_limit}
use Rattle.subchannel_spec.specs.Sender.{sent}
use Rattle.subchannel_sender.specs.Sending.{sending, Counted, Groups, Refused, as_counted}
use Rattle.subchannel_sender.proofs.send.Kinds as send-kinds
use Rattle.subchannel_sender.proofs.send.Reads as send-reads
use Rattle.subchannel_sender.proofs.send_group.Kinds as send-group-kinds
use Rattle.subchannel_sender.proofs.send_group.Reads as send-group-reads
use Rattle.subchannel_sender.proofs.count.Kinds as count-kinds
use Rattle.subchannel_sender.proofs.count.Reads as count-reads

pub send-determined : Determined send-kinds.ps send-kinds.r send-reads.Asked send-reads.Learnt
send-determined κs a z z' ws ws' pre p q = (same_answer p q, skip (skip (skip (buffer (same-output p q) refl))))

pub sending-keeps : (r d : ℕ) (bs out : List ℕ) → Keeps out (sending r d bs out)
sending-keeps r d bs out =
    pick-keeps (ltb root_limit r) out (refused-keeps 30 out) (pick-keeps (ltb depth_limit d) out (refused-keeps 32 out) (write_keeps (sent r d bs) out))

pub send-group-determined : Determined send-group-kinds.ps send-group-kinds.r send-group-reads.Asked send-group-reads.Learnt
send-group-determined κs a z z' ws ws' pre p q =
    let e = same p q in
    let w : z.written ≡ z'.written = same-written z.written z'.written (λ i. (e i).0.answer) in
    (λ i. record { written = w i; taken = (e i).1; matrix = (e i).2 }, skip (skip (skip (skip (buffer (λ i. (e i).0.output) refl)))))

-- an answer of the count is told by its number
abbrev written : Counted → Written
written (Groups n) = Wrote n
written (Refused n) = NotWritten n

same-counted : (r s : Result ℕ Refusal) → as_counted r ≡ as_counted s → r ≡ s
same-counted r s e = same-written r s (sym (by r) ∙ ap written e ∙ by s)
  where
    by : (r : Result ℕ Refusal) → written (as_counted r) ≡ as_written r
    by (Ok n) = refl
    by (Err r) = refl

pub count-determined : Determined count-kinds.ps count-kinds.r count-reads.Asked count-reads.Learnt
count-determined κs a z z' ws ws' pre p q = (same-counted z z' (same p q), refl)
