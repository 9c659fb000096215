-- Each public function's promise determines its result, and what the lent buffers then hold.
-- ..-determined   a law of each function
use mathlib.Core.Path.{◌≡◌, refl, ap}
use Rattle.std.specs.Prelude.{Option, Some, None, Result, Ok, Err}
use Rattle.base.specs.declared.Refusal.{Refusal}
use Rattle.base.specs.Refusals.{number}
use Rattle.base.specs.Written.{Refused as Told}
use Rattle.base.proofs.Writing.{same-written}
use Prim.Native.Nat.{ℕ}
use Rattle.packet_spec.specs.declared.Delivery.{Delivery}
use Rattle.recording.specs.declared.reader.NextPacket.{NextPacket}
use Rattle.recording.specs.Found.{as_found, Got, as_got}
use Rattle.base.specs.Determined.{Determined}
use Rattle.base.proofs.Determining.{same, buffer, skip}
use Rattle.recording.proofs.reader.RecordingReader.fresh.Kinds as fresh-kinds
use Rattle.recording.proofs.reader.RecordingReader.fresh.Reads as fresh-reads
use Rattle.recording.proofs.reader.RecordingReader.next.Kinds as next-kinds
use Rattle.recording.proofs.reader.RecordingReader.next.Reads as next-reads
use Rattle.recording.proofs.reader.RecordingReader.next_packet.Kinds as next-packet-kinds
use Rattle.recording.proofs.reader.RecordingReader.next_packet.Reads as next-packet-reads
use Rattle.recording.proofs.reader.RecordingReader.may_end.Kinds as may-end-kinds
use Rattle.recording.proofs.reader.RecordingReader.may_end.Reads as may-end-reads
use Rattle.recording.proofs.reader.RecordingReader.is_wrong.Kinds as is-wrong-kinds
use Rattle.recording.proofs.reader.RecordingReader.is_wrong.Reads as is-wrong-reads
use Rattle.recording.proofs.reader.Hearing.is_more.Kinds as is-more-kinds
use Rattle.recording.proofs.reader.Hearing.is_more.Reads as is-more-reads

-- what a call for a packet answers is told by the paper's numbers
same-found : (r s : Result (Option Delivery) Refusal) → as_found r ≡ as_found s → r ≡ s
same-found (Ok None) (Ok None) e = refl
same-found (Ok None) (Ok (Some d)) e = cc
same-found (Ok None) (Err n) e = cc
same-found (Ok (Some c)) (Ok None) e = cc
same-found (Ok (Some c)) (Ok (Some d)) e = cc
same-found (Ok (Some c)) (Err n) e = cc
same-found (Err n) (Ok None) e = cc
same-found (Err n) (Ok (Some d)) e = cc
same-found (Err n) (Err m) e =
    let k : number n ≡ number m = cc in
    let f : ◌≡◌ {A = Result ℕ Refusal} (Err n) (Err m) = same-written (Err n) (Err m) (ap Told k) in cc

same-next : (r s : NextPacket) → as_got r ≡ as_got s → r ≡ s
same-next r s e =
    let f : r.found ≡ s.found = same-found r.found s.found (ap (λ (x : Got). x.found) e) in
    λ i. record { found = f i; taken = (e i).taken; tape = (e i).tape }

pub fresh-determined : Determined fresh-kinds.ps fresh-kinds.r fresh-reads.Asked fresh-reads.Learnt
fresh-determined κs a z z' ws ws' pre p q = (same p q, refl)

pub next-determined : Determined next-kinds.ps next-kinds.r next-reads.Asked next-reads.Learnt
next-determined κs a z z' ws ws' pre p q = (same p.0 q.0, skip (buffer (same p.1 q.1) (buffer (same p.2 q.2) refl)))

pub next-packet-determined : Determined next-packet-kinds.ps next-packet-kinds.r next-packet-reads.Asked next-packet-reads.Learnt
next-packet-determined κs a z z' ws ws' pre p q =
    (same-next z z' (same p.0 q.0), skip (buffer (same p.1 q.1) (buffer (same p.2 q.2) refl)))

pub may-end-determined : Determined may-end-kinds.ps may-end-kinds.r may-end-reads.Asked may-end-reads.Learnt
may-end-determined κs a z z' ws ws' pre p q = (same p q, refl)

pub is-wrong-determined : Determined is-wrong-kinds.ps is-wrong-kinds.r is-wrong-reads.Asked is-wrong-reads.Learnt
is-wrong-determined κs a z z' ws ws' pre p q = (same p q, refl)

pub is-more-determined : Determined is-more-kinds.ps is-more-kinds.r is-more-reads.Asked is-more-reads.Learnt
is-more-determined κs a z z' ws ws' pre p q = (same p q, refl)
