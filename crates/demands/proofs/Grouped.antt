-- A fixed sub-channel's stream sent group by group (request W7): a stream of any length goes through in constant memory.
-- group-refusals, group-same   the call that sends a group: its rows; refused, it leaves output and cells, and takes nothing
-- count-refusals               the call that says how many groups a stream has
-- group-called                 a call with room writes the next group, and the next call is not refused with 10
-- group-by-group               the groups of a stream, call by call, are what one call on the whole stream sends
-- sent-by-calls                .. so are the bytes that the calls write, one behind the other
-- groups-counted, groups-left  as many as the count says; behind whole groups as many as it says of the rest
-- group-handed                 a call may be handed four messages, or more of the stream: it is the same group
use Prim.Native.Nat.{ℕ, ◌+◌, ◌*◌, ◌≤◌, ◌<◌, min}
use mathlib.Core.Path.{◌≡◌, refl, sym, ◌∙◌, ap, subst}
use mathlib.Core.Bool.{Bool, false}
use mathlib.Core.Logic.{◌↔◌}
use mathlib.Core.List.{List, [], ◌∷◌, ◌++◌}
use lib.Dec.{ltb}
use lib.ListN.{length, take, drop}
use lib.Seq.{take_at}
use borrow.Author.Tests.{ltb-true, lt-ltb}
use native.Mathlib.Omega.{arith}
use Rattle.base.specs.Bytes.{Each}
use Rattle.base.specs.Choice.{pick}
use Rattle.base.specs.Written.{Outcome, outcome, refused, copied}
use Rattle.base.specs.Written.{Wrote, Refused}
use Rattle.base.proofs.Lists.{over}
use Rattle.base.proofs.Tests.{by_le, by-test}
use Rattle.base.proofs.Writing.{copied-fits}
use Rattle.interleaver_spec.specs.Running.{fresh, beyond}
use Rattle.interleaver_spec.specs.declared.Matrix.{Matrix}
use Rattle.subchannel_spec.specs.Sender.{sent}
use Rattle.subchannel_sender.specs.Sending.{group_stream, group_next, group_sending, group_written, group_count, counting, groups_by}
use Rattle.subchannel_sender.specs.Sending.{Groups, Refused as CountRefused}
use Rattle.subchannel_sender.proofs.Running.{group-state, group-roots, group-depth, group-short, group-long, group-goes}
use Rattle.subchannel_sender.proofs.Running.{group-placed, groups-sent, sent-long, count-rest, group-first}
use Rattle.subchannel_sender.proofs.Running.{count-are}
use Rattle.subchannel.proofs.Fine.{zero-placed}
use Rattle.demands_laws.specs.Table.{Exact}
use Rattle.demands_laws.specs.Refusals.{PlaceBeyond, ByGroup, ByCount}
use Rattle.demands_laws.specs.SubChannels.{groups_put}
use Rattle.demands_laws.specs.Captures.{put}
use Rattle.demands_laws.proofs.Rows.{applies, row, passed, not-less, refuses, wrote, place-beyond, place-within}

-- ---- the calls' refusals
module _ (r d : ℕ) (m : Matrix) (bs out : List ℕ) where
  pub group-refusals : Exact ByGroup (group_sending r d m bs out)
      ((10, PlaceBeyond d m.place) ∷  -- a cell place of N or more
      (30, 64 < r) ∷  -- R above 64
      (32, 64 < d) ∷  -- depth above 64
      (23, length out < 1024) ∷  -- output shorter than a group
      [])
  group-refusals =
      row ByGroup (beyond d m.place) (refuses 10 out) (place-beyond d m.place) (place-within d m.place)
      (by_le r 64
      (λ h.
      row ByGroup (ltb 64 r) (refuses 30 out) (ltb-true _ _) (not-less _ _)
      (row ByGroup (ltb 64 d) (refuses 32 out) (ltb-true _ _) (not-less _ _)
      (record { says = (wrote (group_next r d m bs).0 out 1024 (group-long r d h m bs)).says })))
      (λ h.
      subst
      (λ (t : Bool).
      Exact {A = Outcome × ℕ × Matrix} ByGroup
      (pick t (refused 30 out, 0, m) (pick (ltb 64 d) (refused 32 out, 0, m) (group_written r m bs (group_next r d m bs) out)))
      ((30, 64 < r) ∷ (32, 64 < d) ∷ (23, length out < 1024) ∷ []))
      (sym (lt-ltb 64 r h)) (applies ByGroup ((32, 64 < d) ∷ (23, length out < 1024) ∷ []) (refuses 30 out) h)))

  pub group-same : (n : ℕ) → ByGroup (group_sending r d m bs out) n → group_sending r d m bs out ≡ (refused n out, 0, m)
  group-same n q =
      by-test (beyond d m.place) (λ b. by 10 (group-state r d m bs out b))
      (λ b.
      by_le r 64
      (λ hr.
      by_le d 64
      (λ hd.
      by_le 1024 (length out) (λ k. absurd (not_written (sym (group-goes r d m bs out b hr hd k)))) (λ k. by 23 (group-short r d m bs out b hr hd k)))
      (λ hd. by 32 (group-depth r d m bs out b hr hd)))
      (λ hr. by 30 (group-roots r d m bs out b hr)))
    where
      by : (k : ℕ) → ◌≡◌ {A = Outcome × ℕ × Matrix} (refused k out, 0, m) (group_sending r d m bs out) → group_sending r d m bs out ≡ (refused n out, 0, m)
      by k e =
          let a : Refused k ≡ Refused n = ap (λ (x : Outcome × ℕ × Matrix). x.0.answer) e ∙ q in
          let z : k ≡ n = cc in
          sym e ∙ ap (λ (x : ℕ). (refused x out, 0, m)) z

      not_written : {o : List ℕ} {k t : ℕ} {c : Matrix} → ◌≡◌ {A = Outcome × ℕ × Matrix} (outcome (Wrote k) o, t, c) (group_sending r d m bs out) → ⊥
      not_written {o} {k} {t} {c} e =
          let a : Wrote k ≡ Refused n = ap (λ (x : Outcome × ℕ × Matrix). x.0.answer) e ∙ q in
          let z : ◌≡◌ {A = ℕ} 0 1 = cc in
          omega arith

pub count-refusals : (r d n : ℕ) → Exact ByCount (counting r d n)
    ((30, 64 < r) ∷  -- R above 64
    (32, 64 < d) ∷  -- depth above 64
    [])
count-refusals r d n =
    row ByCount (ltb 64 r) (by 30) (ltb-true _ _) (not-less _ _)
    (row ByCount (ltb 64 d) (by 32) (ltb-true _ _) (not-less _ _) (passed ByCount λ k e. let z : ◌≡◌ {A = ℕ} 0 1 = cc in omega arith))
  where
    by : (m k : ℕ) → ByCount (CountRefused m) k ↔ k ≡ m
    by m k = (λ e. let z : m ≡ k = cc in sym z, λ e i. CountRefused (sym e i))

-- ---- call by call
module _ (r d : ℕ) (hr : r ≤ 64) (hd : d ≤ 64) where
  pub group-called : (m : Matrix) (bs out : List ℕ) → beyond d m.place ≡ false → 1024 ≤ length out
      → (group_sending r d m bs out ≡ (outcome (Wrote 1024) (copied (group_next r d m bs).0 out), min (group_stream r) (length bs), (group_next r d m bs).1))
      × (beyond d (group_next r d m bs).1.place ≡ false)
  group-called m bs out b l = (group-goes r d m bs out b hr hd l, group-placed r d m bs out b)

  pub group-by-group : (bs : List ℕ) → groups_by r d (group_count r d (length bs)) fresh bs ≡ sent r d bs
  group-by-group = groups-sent r d hr hd

  -- what a call with room writes is the group, and the rest of the stream begins behind four messages
  group-put : (m : Matrix) (bs out : List ℕ) → 1024 ≤ length out → take 1024 (copied (group_next r d m bs).0 out) ≡ (group_next r d m bs).0
  group-put m bs out h =
      let x : List ℕ = (group_next r d m bs).0 in
      let l : length x ≡ 1024 = group-long r d hr m bs in
      ap (take 1024) (copied-fits x out (omega arith)) ∙ take_at x (drop (length x) out) 1024 l

  group-rest : (bs : List ℕ) → drop (min (group_stream r) (length bs)) bs ≡ drop (group_stream r) bs
  group-rest bs =
      by_le (group_stream r) (length bs)
      (λ h. let e : min (group_stream r) (length bs) ≡ group_stream r = omega arith in ap (λ n. drop n bs) e)
      (λ h. over bs (min (group_stream r) (length bs)) (omega arith) ∙ sym (over bs (group_stream r) (omega arith)))

  each-put : (outs : List (List ℕ)) → Each (λ (out : List ℕ). 1024 ≤ length out) outs → (m : Matrix) (bs : List ℕ) → beyond d m.place ≡ false
      → groups_put r d m bs outs ≡ groups_by r d (length outs) m bs
  each-put [] h m bs b = refl
  each-put (out ∷ outs) h m bs b =
      let c = group-called m bs out b h.0 in
      let x : List ℕ × Matrix = group_next r d m bs in
      ap (λ (y : Outcome × ℕ × Matrix). put y.0 ++ groups_put r d y.2 (drop y.1 bs) outs) c.0
      ∙ (λ i. group-put m bs out h.0 i ++ groups_put r d x.1 (group-rest bs i) outs)
      ∙ ap (λ l. x.0 ++ l) (each-put outs h.1 x.1 (drop (group_stream r) bs) c.1)

  -- from fresh cells as many calls as the count says, each with room for a group: each begins with the cells and the rest of the stream that the one
  -- before left, and what they write, one behind the other, is what is sent
  pub sent-by-calls : (bs : List ℕ) (outs : List (List ℕ)) → counting r d (length bs) ≡ Groups (length outs)
      → Each (λ (out : List ℕ). 1024 ≤ length out) outs → groups_put r d fresh bs outs ≡ sent r d bs
  sent-by-calls bs outs e h =
      let c : Groups (group_count r d (length bs)) ≡ Groups (length outs) = count-are r d (length bs) hr hd ∙ e in
      let n : group_count r d (length bs) ≡ length outs = cc in
      each-put outs h fresh bs (zero-placed d) ∙ ap (λ g. groups_by r d g fresh bs) (sym n) ∙ groups-sent r d hr hd bs

  pub groups-counted : (bs : List ℕ) → length (sent r d bs) ≡ group_count r d (length bs) * 1024
  groups-counted = sent-long r d hr hd

  pub groups-left : (k n : ℕ) → group_count r d (k * group_stream r + n) ≡ k + group_count r d n
  groups-left = count-rest r d hr

  pub group-handed : (m : Matrix) (bs : List ℕ) → group_next r d m (take (group_stream r) bs) ≡ group_next r d m bs
  group-handed = group-first r d hr
