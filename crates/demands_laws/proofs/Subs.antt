-- The refusals of fixed sub-channels, row by row: of one, and of four by number; and that a refused call changes nothing.
-- Fails, fails-and, fails-most   a test that fails exactly where a row applies
-- sub-fails, receiver-fails, sender-fails   10
-- sub-exact, sub_same, sub-given   one sub-channel's call, and the numbers that it gives
-- configure-.., receiver-configure-.., sender-configure-..   configuring
-- told-exact, told_same          .. of one sub-channel
-- number-exact, number_same, four-given   a receiving call by number
-- send-exact                     a sending call by number
use Prim.Native.Nat.{ℕ, zero, suc, ◌<◌}
use native.Mathlib.Omega.{arith}
use mathlib.Core.Path.{◌≡◌, refl, sym, ap, ◌∙◌, subst}
use mathlib.Core.Bool.{Bool, true, false, ◌&&◌, not}
use mathlib.Core.Logic.{◌⊎◌, ◌↔◌, ⊎_elim}
use mathlib.Core.Logic.◌⊎◌.{inl, inr}
use mathlib.Core.List.{List, [], ◌∷◌}
use mathlib.Core.Option.{Option, some, none}
use lib.Dec.{ltb, leb}
use lib.ListN.{length, get_or}
use borrow.Author.Tests.{ltb-true, leb-false, not-true, not-false}
use Rattle.base.specs.Calls.{With}
use Rattle.base.specs.Choice.{pick}
use Rattle.base.proofs.Tests.{and_parts}
use Rattle.packet_spec.specs.Frame.{Told, refusal}
use Rattle.stream.specs.Call.{take_byte, sound as sound_frame}
use Rattle.parity.specs.Calls.{root_limit}
use Rattle.interleaver_spec.specs.Running.{depth_limit, beyond}
use Rattle.channel_spec.specs.Sender.{word_bytes}
use Rattle.channel_spec.specs.Meaning.{Event, said}
use Rattle.channel.specs.Call.{roomy}
use Rattle.subchannel_spec.specs.Sender.{message_bytes, group_bytes, sent}
use Rattle.subchannel_spec.specs.declared.Settings.{Settings}
use Rattle.subchannel.specs.declared.counts.Counts.{Counts}
use Rattle.subchannel.specs.declared.lane.Lane.{Lane}
use Rattle.subchannel.specs.declared.sub.Sub.{Sub}
use Rattle.subchannel.specs.Call.{Memory, memory, held_in, hand_on}
use Rattle.subchannel.specs.Call.{untold, told_sub, telling, sound_counts, sound_lane, sound, hear_on, hear_by, hear_call}
use Rattle.subchannel_spec.specs.Settings.{within}
use Rattle.subchannel.proofs.Delivery.{heard-with}
use Rattle.subchannel_spec.specs.Settings.{Configured}
use Rattle.subchannel_spec.specs.Settings as configured
use Rattle.four_receivers.specs.Call.{Receiver}
use Rattle.four_receivers.specs.Call as receiver
use Rattle.four_receivers.proofs.Apart.{sound-at}
use Rattle.four_senders.specs.declared.Sender.{Sender}
use Rattle.four_senders.specs.Call as sender
use Rattle.demands_laws.specs.Table.{Exact}
use Rattle.demands_laws.specs.Refusals.{PlaceBeyond, Short, OfFrame, OfCall, ByFrame, ByCall, ByHear}
use Rattle.demands_laws.specs.SubChannels.{SettingsBeyond, CountsBeyond, SubBeyond, ReceiverBeyond}
use Rattle.demands_laws.specs.SubChannels.{SenderBeyond, Unknown, OfNumbered, ByConfigure, ByNumbered}
use Rattle.demands_laws.proofs.Rows.{applies, over, row, row-not, passed, not-both, not-less, refuses, wrote, place-beyond, place-within}
use Rattle.demands_laws.proofs.Frames.{frame-or-call}
use Rattle.demands_laws.proofs.Called.{not-most, frame-beyond, frame-within, short, long, small-byte}
use Rattle.demands_laws.proofs.Called.{SmallEvent, small-as, event-only, is-hear, Given, number-given}

-- ---- a test that fails exactly where a row applies
abbrev Fails : Bool → Type 0 → Type 0
Fails t C = (t ≡ false → C) × (t ≡ true → C → ⊥)

fails-and : (a b : Bool) {A B : Type 0} → Fails a A → Fails b B → Fails (a && b) (A ⊎ B)
fails-and a b f g = (
  λ e. ⊎_elim (λ h. inl (f.0 h)) (λ h. inr (g.0 h)) (not-both a b e),
  λ e. let p = and_parts a b e in ⊎_elim (f.1 p.0) (g.1 p.1),
)

fails-most : (a b : ℕ) → Fails (leb a b) (b < a)
fails-most a b = (leb-false a b, not-most a b)

fails-told : (t : Bool) → Fails t (t ≡ false)
fails-told t = (λ e. e, λ e f. not-one (sym e ∙ f))
  where
    not-one : true ≡ false → ⊥
    not-one e = let z : ◌≡◌ {A = ℕ} 0 1 = cc in omega arith

-- ---- 10
settings-fails : (x : Settings) → Fails (within x) (SettingsBeyond x)
settings-fails x = fails-and (leb x.parity root_limit) _ (fails-most x.parity root_limit) (fails-most x.depth depth_limit)

counts-fails : (r : ℕ) (n : Counts) → Fails (sound_counts r n) (CountsBeyond r n)
counts-fails r n =
    fails-and (leb n.group group_bytes) _ (fails-most n.group group_bytes)
    (fails-and (leb n.marker 3) _ (fails-most n.marker 3)
    (fails-and (leb n.word word_bytes) _ (fails-most n.word word_bytes) (fails-most n.handed (message_bytes r))))

place-fails : (d p : ℕ) → Fails (not (beyond d p)) (PlaceBeyond d p)
place-fails d p = (λ e. place-beyond d p (not-false _ e), λ e. place-within d p (not-true _ e))

pub sub-fails : (s : Sub) → Fails (sound s) (SubBeyond s)
sub-fails s =
    let l : Lane = s.lane in
    fails-and (sound_lane l) _
    (fails-and (sound_frame l.frame) _ (frame-beyond l.frame, frame-within l.frame)
    (fails-and (within l.settings) _ (settings-fails l.settings) (counts-fails l.settings.parity l.counts)))
    (place-fails l.settings.depth s.back.matrix.place)

receiver-fails : (s : Receiver) → Fails (receiver.sound_four s) (ReceiverBeyond s)
receiver-fails s =
    fails-and (sound s.a) _ (sub-fails s.a)
    (fails-and (sound s.b) _ (sub-fails s.b) (fails-and (sound s.c) _ (sub-fails s.c) (sub-fails s.d)))

sender-fails : (s : Sender) → Fails (sender.sound_four s) (SenderBeyond s)
sender-fails s =
    fails-and (within s.a) _ (settings-fails s.a)
    (fails-and (within s.b) _ (settings-fails s.b) (fails-and (within s.c) _ (settings-fails s.c) (settings-fails s.d)))

-- ---- a frame's numbers are none of a call
small-hand : (c : Memory) → With SmallEvent (hand_on c).0 (hand_on c).1
small-hand c =
    let b : ℕ = get_or c.word c.st.lane.counts.handed 0 in
    let x = take_byte (held_in c) b in
    small-as x.0 x.1 (hand_on c).1 (small-byte (held_in c) b)

small-hear : (c : Memory) (bs : List ℕ) → With SmallEvent (hear_on c bs).0 (hear_on c bs).2
small-hear = heard-with SmallEvent (λ x d. tt) (λ d. tt) small-hand

-- ---- one sub-channel's call
pub sub-exact : (c : Memory) (bs : List ℕ) → Exact ByHear (hear_call c bs) ((10, SubBeyond c.st) ∷ (11, Short c.recv c.word) ∷ [])
sub-exact c bs = go (sound c.st) (roomy c.recv c.word) refl refl
  where
    go : (s r : Bool) → sound c.st ≡ s → roomy c.recv c.word ≡ r
        → Exact ByHear (hear_by s r c bs) ((10, SubBeyond c.st) ∷ (11, Short c.recv c.word) ∷ [])
    go false r e f = applies ByHear _ (λ n. is-hear c 10 n (inl refl)) ((sub-fails c.st).0 e)
    go true false e f = over ByHear ((sub-fails c.st).1 e) (applies ByHear _ (λ n. is-hear c 11 n (inr refl)) (short c.recv c.word f))
    go true true e f =
        over ByHear ((sub-fails c.st).1 e) (over ByHear (long c.recv c.word f)
        (passed ByHear λ n b. event-only (hear_on c bs).0 (hear_on c bs).2 n (small-hear c bs) b.0 b.1))

pub sub_same : (c : Memory) (bs : List ℕ) (n : ℕ) → ByHear (hear_call c bs) n → hear_call c bs ≡ (some (said (refusal n)), 0, c)
sub_same c bs n = go (sound c.st) (roomy c.recv c.word)
  where
    go : (s r : Bool) → ByHear (hear_by s r c bs) n → hear_by s r c bs ≡ (some (said (refusal n)), 0, c)
    go false r b = λ i. (b.1 i, 0, c)
    go true false b = λ i. (b.1 i, 0, c)
    go true true b = absurd (event-only (hear_on c bs).0 (hear_on c bs).2 n (small-hear c bs) b.0 b.1)

sub-refused : (c : Memory) (bs : List ℕ) (n : ℕ) → (hear_call c bs).0 ≡ some (said (refusal n)) → Given n
sub-refused c bs n = go (sound c.st) (roomy c.recv c.word)
  where
    go : (s r : Bool) → (hear_by s r c bs).0 ≡ some (said (refusal n)) → Given n
    go false r e = let z : 10 ≡ n = cc in inr (inl (sym z))
    go true false e = let z : 11 ≡ n = cc in inr (inr (sym z))
    go true true e = inl (subst (λ (o : Option Event). With SmallEvent o (hear_on c bs).2) e (small-hear c bs))

pub sub-given : (c : Memory) (bs : List ℕ) (t : Told) (n : ℕ) → (hear_call c bs).0 ≡ some (said t) → ByFrame t n → OfFrame n ⊎ OfCall n
sub-given c bs t n e k = number-given t n k (λ m z. sub-refused c bs m (e ∙ ap (λ (t : Told). some (said t)) z))

-- ---- configuring: s as it was, and t told
module _ {S : Type 0} (s t : S) (passes : Bool) {C : Type 0} (f : Fails passes C) (n r d : ℕ) where
  abbrev result : Bool → Bool → Bool → Bool → Configured × S
  result a b c e = pick a (pick b (configured.Refused 42, s) (pick c (configured.Refused 30, s) (pick e (configured.Refused 32, s) (configured.Done, t))))
      (configured.Refused 10, s)

  refuses-configure : (m k : ℕ) → ByConfigure {S = S} (configured.Refused m, s) k ↔ k ≡ m
  refuses-configure m k = (λ e. let z : m ≡ k = cc in sym z, λ e i. configured.Refused (sym e i))

  pub configure-exact : Exact ByConfigure (result passes (ltb 3 n) (ltb root_limit r) (ltb depth_limit d))
      ((10, C) ∷ (42, 3 < n) ∷ (30, 64 < r) ∷ (32, 64 < d) ∷ [])
  configure-exact =
      row-not ByConfigure passes (refuses-configure 10) f.0 f.1
      (row ByConfigure (ltb 3 n) (refuses-configure 42) (ltb-true _ _) (not-less _ _)
      (row ByConfigure (ltb root_limit r) (refuses-configure 30) (ltb-true _ _) (not-less _ _)
      (row ByConfigure (ltb depth_limit d) (refuses-configure 32) (ltb-true _ _) (not-less _ _)
      (passed ByConfigure λ k e. let z : ◌≡◌ {A = ℕ} 0 1 = cc in omega arith))))

  pub configure-same : (m : ℕ) → ByConfigure (result passes (ltb 3 n) (ltb root_limit r) (ltb depth_limit d)) m
      → result passes (ltb 3 n) (ltb root_limit r) (ltb depth_limit d) ≡ (configured.Refused m, s)
  configure-same m = go passes (ltb 3 n) (ltb root_limit r) (ltb depth_limit d)
    where
      go : (a b c e : Bool) → ByConfigure (result a b c e) m → result a b c e ≡ (configured.Refused m, s)
      go false b c e q = λ i. (q i, s)
      go true true c e q = λ i. (q i, s)
      go true false true e q = λ i. (q i, s)
      go true false false true q = λ i. (q i, s)
      go true false false false q = let z : ◌≡◌ {A = ℕ} 0 1 = cc in absurd (omega arith)

pub receiver-configure-exact : (s : Receiver) (n r d : ℕ)
    → Exact ByConfigure (receiver.configuring s n r d) ((10, ReceiverBeyond s) ∷ (42, 3 < n) ∷ (30, 64 < r) ∷ (32, 64 < d) ∷ [])
receiver-configure-exact s n r d = configure-exact s _ (receiver.sound_four s) (receiver-fails s) n r d

pub receiver-configure-same : (s : Receiver) (n r d m : ℕ) → ByConfigure (receiver.configuring s n r d) m
    → receiver.configuring s n r d ≡ (configured.Refused m, s)
receiver-configure-same s n r d = configure-same s _ (receiver.sound_four s) (receiver-fails s) n r d

pub sender-configure-exact : (s : Sender) (n r d : ℕ)
    → Exact ByConfigure (sender.configuring s n r d) ((10, SenderBeyond s) ∷ (42, 3 < n) ∷ (30, 64 < r) ∷ (32, 64 < d) ∷ [])
sender-configure-exact s n r d = configure-exact s _ (sender.sound_four s) (sender-fails s) n r d

pub sender-configure-same : (s : Sender) (n r d m : ℕ) → ByConfigure (sender.configuring s n r d) m → sender.configuring s n r d ≡ (configured.Refused m, s)
sender-configure-same s n r d = configure-same s _ (sender.sound_four s) (sender-fails s) n r d

-- ---- one sub-channel is told its settings
pub told-exact : (r d : ℕ) → Exact ByConfigure (telling r d) ((30, 64 < r) ∷ (32, 64 < d) ∷ [])
told-exact r d =
    row ByConfigure (ltb root_limit r) (told-refuses 30) (ltb-true _ _) (not-less _ _)
    (row ByConfigure (ltb depth_limit d) (told-refuses 32) (ltb-true _ _) (not-less _ _)
    (passed ByConfigure λ k e. let z : ◌≡◌ {A = ℕ} 0 1 = cc in omega arith))
  where
    told-refuses : (m k : ℕ) → ByConfigure (configured.Refused m, untold) k ↔ k ≡ m
    told-refuses m k = (λ e. let z : m ≡ k = cc in sym z, λ e i. configured.Refused (sym e i))

pub told_same : (r d m : ℕ) → ByConfigure (telling r d) m → telling r d ≡ (configured.Refused m, untold)
told_same r d m = go (ltb root_limit r) (ltb depth_limit d)
  where
    result : Bool → Bool → Configured × Sub
    result a b = pick a (configured.Refused 30, untold) (pick b (configured.Refused 32, untold) (configured.Done, told_sub r d))

    go : (a b : Bool) → ByConfigure (result a b) m → result a b ≡ (configured.Refused m, untold)
    go true b q = λ i. (q i, untold)
    go false true q = λ i. (q i, untold)
    go false false q = let z : ◌≡◌ {A = ℕ} 0 1 = cc in absurd (omega arith)

-- ---- a receiving call by number
known-fails : (n : ℕ) (x : Settings) → Fails (leb n 3 && x.told) (Unknown n x)
known-fails n x = fails-and (leb n 3) x.told (fails-most n 3) (fails-told x.told)

put-got : (s : Receiver) (n : ℕ) → receiver.put s n (receiver.get s n) ≡ s
put-got s zero = refl
put-got s (suc zero) = refl
put-got s (suc (suc zero)) = refl
put-got s (suc (suc (suc n))) = refl

numbered-only : {B : Type 0} (o : Option Event) (c : B) (n : ℕ) → With SmallEvent o c → OfNumbered n → o ≡ some (said (refusal n)) → ⊥
numbered-only o c n w k e =
    let f : OfFrame n = subst (λ (o : Option Event). With SmallEvent o c) e w in
    ⊎_elim (frame-or-call n f) (λ z. ⊎_elim (λ a. omega (arith, a.1, z)) (λ a. omega (arith, a, z)) f) k

module _ (s : Receiver) (n : ℕ) (recv word bs : List ℕ) where
  abbrev Result : Type 0
  Result = Option Event × ℕ × Receiver × List ℕ × List ℕ

  abbrev c : Memory
  c = memory (receiver.get s n) recv word

  -- a call that passes 10 and 42, by what is left of it
  abbrev behind : Option Event × ℕ × Memory → Result
  behind x = (x.0, x.1, receiver.put s n x.2.st, x.2.recv, x.2.word)

  is_number : (m k : ℕ) (x : Result) → x.0 ≡ some (said (refusal m)) → OfNumbered m → ByNumbered x k ↔ k ≡ m
  is_number m k x e h = (
    λ b. let q : some (said (refusal m)) ≡ some (said (refusal k)) = sym e ∙ b.1 in let z : m ≡ k = cc in sym z,
    λ q. (subst OfNumbered (sym q) h, e ∙ (λ i. some (said (refusal (sym q i))))),
  )

  pub number-exact : Exact ByNumbered (receiver.hear_four s n recv word bs)
      ((10, ReceiverBeyond s) ∷ (42, Unknown n (receiver.get s n).lane.settings) ∷ (11, Short recv word) ∷ [])
  number-exact = go (receiver.sound_four s) (receiver.known s n) refl refl
    where
      left : (t : Bool) → roomy recv word ≡ t → Exact ByNumbered (behind (hear_by true t c bs)) ((11, Short recv word) ∷ [])
      left false f = applies ByNumbered _ (λ k. is_number 11 k (behind (hear_by true false c bs)) refl (inl (inr refl))) (short recv word f)
      left true f =
          over ByNumbered (long recv word f) (passed ByNumbered λ k b. numbered-only (hear_on c bs).0 (hear_on c bs).2 k (small-hear c bs) b.0 b.1)

      go : (a b : Bool) → receiver.sound_four s ≡ a → receiver.known s n ≡ b → Exact ByNumbered (receiver.heard_by a b s n recv word bs)
          ((10, ReceiverBeyond s) ∷ (42, Unknown n (receiver.get s n).lane.settings) ∷ (11, Short recv word) ∷ [])
      go false b e f =
          applies ByNumbered _ (λ k. is_number 10 k (receiver.heard_by false b s n recv word bs) refl (inl (inl refl))) ((receiver-fails s).0 e)
      go true false e f =
          over ByNumbered ((receiver-fails s).1 e)
          (applies ByNumbered _ (λ k. is_number 42 k (receiver.heard_by true false s n recv word bs) refl (inr refl))
          ((known-fails n (receiver.get s n).lane.settings).0 f))
      go true true e f =
          over ByNumbered ((receiver-fails s).1 e) (over ByNumbered ((known-fails n (receiver.get s n).lane.settings).1 f)
          (subst (λ t. Exact ByNumbered (behind (hear_by t (roomy recv word) c bs)) ((11, Short recv word) ∷ [])) (sym (sound-at s n e))
          (left (roomy recv word) refl)))

  pub number_same : (m : ℕ) → ByNumbered (receiver.hear_four s n recv word bs) m
      → receiver.hear_four s n recv word bs ≡ (some (said (refusal m)), 0, s, recv, word)
  number_same m = go (receiver.sound_four s) (receiver.known s n)
    where
      left : (a b : Bool) → ByNumbered (behind (hear_by a b c bs)) m → behind (hear_by a b c bs) ≡ (some (said (refusal m)), 0, s, recv, word)
      left false b q = λ i. (q.1 i, 0, put-got s n i, recv, word)
      left true false q = λ i. (q.1 i, 0, put-got s n i, recv, word)
      left true true q = absurd (numbered-only (hear_on c bs).0 (hear_on c bs).2 m (small-hear c bs) q.0 q.1)

      go : (a b : Bool) → ByNumbered (receiver.heard_by a b s n recv word bs) m
          → receiver.heard_by a b s n recv word bs ≡ (some (said (refusal m)), 0, s, recv, word)
      go false b q = λ i. (q.1 i, 0, s, recv, word)
      go true false q = λ i. (q.1 i, 0, s, recv, word)
      go true true q = left (sound (receiver.get s n)) (roomy recv word) q

  -- a call by number that 10 and 42 let pass is one of its sub-channel
  pub four-given : (t : Told) (m : ℕ) → (receiver.hear_four s n recv word bs).0 ≡ some (said t) → ByFrame t m → OfFrame m ⊎ OfNumbered m
  four-given t m = go (receiver.sound_four s) (receiver.known s n)
    where
      told : (k : ℕ) → some (said (refusal k)) ≡ some (said t) → ByFrame t m → k ≡ m
      told k e b = let q : some (said (refusal k)) ≡ some (said t) = e in let z : refusal k ≡ t = cc in
          let w : ByFrame (refusal k) m = subst (λ (u : Told). ByFrame u m) (sym z) b in cc

      go : (a b : Bool) → (receiver.heard_by a b s n recv word bs).0 ≡ some (said t) → ByFrame t m → OfFrame m ⊎ OfNumbered m
      go false b e k = inr (inl (inl (sym (told 10 e k))))
      go true false e k = inr (inr (sym (told 42 e k)))
      go true true e k = ⊎_elim (λ f. inl f) (λ f. inr (inl f)) (sub-given c bs t m e k)

-- ---- a sending call by number
pub send-exact : (s : Sender) (n : ℕ) (bs out : List ℕ) → Exact ByCall (sender.send_four s n bs out)
    ((10, SenderBeyond s) ∷ (42, Unknown n (sender.get s n)) ∷ (23, length out < length (sent (sender.get s n).parity (sender.get s n).depth bs)) ∷ [])
send-exact s n bs out =
    row-not ByCall (sender.sound_four s) (refuses 10 out) (sender-fails s).0 (sender-fails s).1
    (row-not ByCall (sender.known s n) (refuses 42 out) (known-fails n (sender.get s n)).0 (known-fails n (sender.get s n)).1
    (wrote (sent (sender.get s n).parity (sender.get s n).depth bs) out _ refl))
