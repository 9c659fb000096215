-- A schedule comes to its end: pieces for configured sub-channels, each with its two buffers, are all read.
-- Ready          what a sub-channel's calls ask: the state passes 10, it is configured, its buffers pass 11
-- told-ready     .. met by one that was told its settings
-- lifted         the calls on one sub-channel, made among the four
-- ready-kept     a piece for any of them keeps what another's calls ask
-- schedule-ends  every schedule
use Prim.Native.Nat.{ℕ, ◌≤◌}
use mathlib.Core.Path.{◌≡◌, refl, sym, ◌∙◌, ap, subst}
use mathlib.Core.Bool.{true}
use mathlib.Core.List.{List, [], ◌∷◌, ◌++◌, map}
use mathlib.Core.Option.{Option}
use lib.ListN.{length}
use borrow.Author.Tests.{le-leb}
use Rattle.base.specs.Bytes.{Each}
use Rattle.base.specs.Calls.{Reads, ReadsAll}
use Rattle.base.specs.Calls.Reads.{more, answer}
use Rattle.base.specs.Calls.ReadsAll.{piece}
use Rattle.base.proofs.Calls.{inv-hear}
use Rattle.base.proofs.Tests.{by-eq}
use Rattle.packet_spec.specs.Contents.{raw_limit}
use Rattle.channel_spec.specs.Sender.{word_bytes}
use Rattle.channel_spec.specs.Meaning.{Event}
use Rattle.channel.specs.Call.{roomy}
use Rattle.subchannel.specs.Call.{Memory, eat_byte, owed, hand_on, hear_call, Fine}
use Rattle.subchannel.proofs.Fine.{fine_of, fine-roomy, fine-hand, fine-eat}
use Rattle.subchannel.proofs.Cutting.{hand-one, hear-agrees, hear-yields}
use Rattle.subchannel_spec.specs.Settings.{Done}
use Rattle.four_receivers.specs.Call.{configuring, Memories, memory_at, exchanged, call_on, Scheduled}
use Rattle.four_receivers.specs.Call.Scheduled.{done, next}
use Rattle.four_receivers.proofs.Apart.{memory-own, sound-at, Live, call-own, live_own, reads-own, reads_other, told-live}

-- sub-channel k's calls are not refused
abbrev pub Ready : Memories → ℕ → Type 0
Ready s k = Live k s × (roomy (s.recv k) (s.word k) ≡ true)

-- that can be met: by a sub-channel that was told its settings, with buffers that pass 11
pub told-ready : (k r d : ℕ) (s : Memories) → (configuring s.st k r d).0 ≡ Done → raw_limit ≤ length (s.recv k) → word_bytes ≤ length (s.word k)
    → Ready (record { st = (configuring s.st k r d).1; recv = s.recv; word = s.word }) k
told-ready k r d s e a b = (told-live k r d s e, rw (le-leb _ _ a, le-leb _ _ b) refl)

ready-fine : (s : Memories) (k : ℕ) → Ready s k → Fine (memory_at s k)
ready-fine s k h = fine_of (memory_at s k) (sound-at s.st k h.0.0) h.1

-- ---- one sub-channel's piece, by calls among the four
lifted : (n : ℕ) {c u : Memory} {p : List ℕ} {xs : List Event} → Reads hear_call c p xs u → (s : Memories) → memory_at s n ≡ c → Live n s
    → (t : Memories) × Reads (call_on n) s p xs t
lifted n {u = u} {p = p} (more a q) s e l =
    (exchanged s n u, more a (call-own n s p l _ (ap (λ (y : Memory). hear_call y p) e ∙ q)))
lifted n {p = p} (answer a {t = c} q r) s e l =
    let x = ap (λ (y : Memory). hear_call y p) e ∙ q in
    let m : Live n (exchanged s n c) = subst (λ (z : Option Event × ℕ × Memory). Live n (exchanged s n z.2)) x (live_own n s p l) in
    let y = lifted n r (exchanged s n c) (memory-own s n c) m in
    (y.0, answer a (call-own n s p l _ x) y.1)

-- its calls keep what passes 10 and 11
fine-reads : {c u : Memory} {p : List ℕ} {xs : List Event} → Reads hear_call c p xs u → Fine c → Fine u
fine-reads {c} {p = p} (more a q) f =
    subst (λ (z : Option Event × ℕ × Memory). Fine z.2) q
    (subst (λ (z : Option Event × ℕ × Memory). Fine z.2) (sym (hear-agrees c p f)) (inv-hear owed hand_on eat_byte hand-one Fine fine-hand fine-eat c p f))
fine-reads {c} {p = p} (answer a q r) f =
    fine-reads r
    (subst (λ (z : Option Event × ℕ × Memory). Fine z.2) q
    (subst (λ (z : Option Event × ℕ × Memory). Fine z.2) (sym (hear-agrees c p f)) (inv-hear owed hand_on eat_byte hand-one Fine fine-hand fine-eat c p f)))

-- a piece for sub-channel n, and what sub-channel k's calls ask
ready-kept : (n k : ℕ) {s t : Memories} {p : List ℕ} {xs : List Event} → Reads (call_on n) s p xs t → Ready s n → Ready s k → Ready t k
ready-kept n k {s} {t} {p} {xs} r a b =
    by-eq n k
    (λ e.
    let o = reads-own k b.0 (subst (λ j. Reads (call_on j) s p xs t) e r) in
    (o.1, fine-roomy (memory_at t k) (fine-reads o.0 (ready-fine s k b))))
    (λ e. let o = reads_other k n e b.0 r in (o.1, ap (λ (c : Memory). roomy c.recv c.word) o.0 ∙ b.1))

ready-each : (n : ℕ) {s t : Memories} {p : List ℕ} {xs : List Event} → Reads (call_on n) s p xs t → Ready s n
    → (ps : List (ℕ × List ℕ)) → Each (λ (x : ℕ × List ℕ). Ready s x.0) ps → Each (λ (x : ℕ × List ℕ). Ready t x.0) ps
ready-each n r a [] h = tt
ready-each n r a (x ∷ ps) h = (ready-kept n x.0 r a h.0, ready-each n r a ps h.1)

first_piece : {c u : Memory} {p : List ℕ} {ps : List (List ℕ)} {xs : List Event} → ReadsAll hear_call c (p ∷ ps) xs u
    → (ys : List Event) × (t : Memory) × Reads hear_call c p ys t
first_piece (piece {t = t} {xs = ys} r rs) = (ys, t, r)

-- pieces for sub-channels whose calls are not refused: all are read
pub schedule-ends : (ps : List (ℕ × List ℕ)) (s : Memories) → Each (λ (x : ℕ × List ℕ). Ready s x.0) ps
    → (es : List (ℕ × Event)) × (t : Memories) × Scheduled s ps es t
schedule-ends [] s h = ([], s, done)
schedule-ends (x ∷ ps) s h =
    let n : ℕ = x.0 in
    let y = (hear-yields (memory_at s n) (ready-fine s n h.0) x.1 []).ends in
    let r = first_piece y.2 in
    let m = lifted n r.2 s refl h.0.0 in
    let z = schedule-ends ps m.0 (ready-each n m.1 h.0 ps h.1) in
    (map (λ e. (n, e)) r.0 ++ z.0, z.1, next m.1 z.2)
