-- Bytes of one sub-channel never affect another's answers.
-- got-put, got_other       a sub-channel exchanged, and the others then
-- memory-own, memory-other   the same with the buffers
-- kept-hear, kept-call     a call keeps the settings told, and what passes 10
-- sound-at                 10 of the four is 10 of each
-- call-other, call-own     a call on another sub-channel, and on this one
-- Live, live_own, reads-own, reads_other   configured, in a state that passes 10; a piece for this one, and for another
-- hear-others              a call on one leaves the others, whatever it answers
-- configure-others         configuring one leaves the others
-- configure-own, told-means   .. and that one is as just told, also told again, and what it then hears means that
-- told-live, live-kept     .. and is configured, in a state that passes 10, also while others are told
-- fresh-told               the fresh receiver may be told
-- alone, alone-means       whatever is scheduled, a sub-channel's answers, final state and buffers are those of its own pieces
use Prim.Native.Nat.{ℕ, zero, suc, ◌≤◌}
use native.Mathlib.Omega.{arith}
use mathlib.Core.Path.{◌≡◌, refl, sym, ◌∙◌, ap, subst}
use mathlib.Core.Logic.{◌≢◌}
use mathlib.Core.Bool.{Bool, true, false, ◌&&◌, not}
use mathlib.Core.List.{List, [], ◌∷◌, ◌++◌, map}
use mathlib.Core.Option.{Option, some, none}
use lib.Dec.{eqb, ltb, leb}
use lib.ListN.{length, set}
use borrow.Author.Tests.{eq-eqb, ne_eqb, le-leb, le-ltb, leb-true, ltb-false}
use Rattle.base.specs.Calls.{joined, Reads, ReadsAll}
use Rattle.base.specs.Calls.Reads.{more, answer}
use Rattle.base.specs.Calls.ReadsAll.{done, piece}
use Rattle.base.specs.Choice.{pick}
use Rattle.base.proofs.Calls.{inv-hear}
use Rattle.base.proofs.Tests.{and_parts, and-true as both, by-eq}
use Rattle.packet_spec.specs.Contents.{raw_limit}
use Rattle.parity.specs.Calls.{root_limit}
use Rattle.interleaver_spec.specs.Running.{depth_limit, pull}
use Rattle.interleaver_spec.specs.declared.Back.{Back}
use Rattle.channel_spec.specs.declared.Hunting.{Hunting}
use Rattle.channel_spec.specs.Sender.{word_bytes}
use Rattle.channel_spec.specs.Meaning.{Event, shift, is_marker}
use Rattle.subchannel_spec.specs.Sender.{message_bytes, group_bytes}
use Rattle.subchannel_spec.specs.Meaning.{hears, start, answers}
use Rattle.channel.specs.Call.{roomy}
use Rattle.subchannel_spec.specs.declared.Settings.{Settings}
use Rattle.subchannel.specs.declared.lane.Lane.{Lane}
use Rattle.subchannel.specs.declared.sub.Sub.{Sub}
use Rattle.subchannel.specs.Call.{Memory, memory, hunt_on, word_at, word_on, group_on, compare_on, mark_on, eat_by, owed, hand_on, eat_byte}
use Rattle.subchannel.specs.Call.{told_sub, sound, hear_by, hear_on, hear_call, Fine, in_use, memory_of}
use Rattle.subchannel.proofs.Fine.{fine_of, fine-is, fine-hand, fine-eat, zero-placed}
use Rattle.subchannel.proofs.Cutting.{hand-one}
use Rattle.subchannel.proofs.Demands.{every-cut}
use Rattle.subchannel_spec.specs.Settings.{Configured, Done, Refused}
use Rattle.four_receivers.specs.Call.{get, put, sound_four, known, configuring, Memories, memory_at, exchanged, call_by, call_on, Scheduled, of_one}
use Rattle.four_receivers.specs.Call.{Receiver, fresh_receiver, heard_by, hear_four}
use Rattle.four_receivers.specs.Call.Scheduled.{done as first, next}

pub got-put : (s : Receiver) (n : ℕ) (x : Sub) → get (put s n x) n ≡ x
got-put s zero x = refl
got-put s (suc zero) x = refl
got-put s (suc (suc zero)) x = refl
got-put s (suc (suc (suc n))) x = refl

pub got_other : (s : Receiver) (n k : ℕ) (x : Sub) → n ≤ 3 → k ≤ 3 → n ≢ k → get (put s n x) k ≡ get s k
got_other s zero zero x h i e = absurd (e refl)
got_other s zero (suc zero) x h i e = refl
got_other s zero (suc (suc zero)) x h i e = refl
got_other s zero (suc (suc (suc k))) x h i e = refl
got_other s (suc zero) zero x h i e = refl
got_other s (suc zero) (suc zero) x h i e = absurd (e refl)
got_other s (suc zero) (suc (suc zero)) x h i e = refl
got_other s (suc zero) (suc (suc (suc k))) x h i e = refl
got_other s (suc (suc zero)) zero x h i e = refl
got_other s (suc (suc zero)) (suc zero) x h i e = refl
got_other s (suc (suc zero)) (suc (suc zero)) x h i e = absurd (e refl)
got_other s (suc (suc zero)) (suc (suc (suc k))) x h i e = refl
got_other s (suc (suc (suc n))) zero x h i e = refl
got_other s (suc (suc (suc n))) (suc zero) x h i e = refl
got_other s (suc (suc (suc n))) (suc (suc zero)) x h i e = refl
got_other s (suc (suc (suc n))) (suc (suc (suc k))) x h i e = absurd (e (omega arith))

-- the boards
pub memory-own : (s : Memories) (n : ℕ) (c : Memory) → memory_at (exchanged s n c) n ≡ c
memory-own s n c = λ i. memory (got-put s.st n c.st i) (pick (eq-eqb n n refl i) c.recv (s.recv n)) (pick (eq-eqb n n refl i) c.word (s.word n))

pub memory-other : (s : Memories) (n k : ℕ) (c : Memory) → n ≤ 3 → k ≤ 3 → n ≢ k → memory_at (exchanged s n c) k ≡ memory_at s k
memory-other s n k c h i e =
    let t : eqb k n ≡ false = ne_eqb k n (λ q. e (sym q)) in
    λ j. memory (got_other s.st n k c.st h i e j) (pick (t j) c.recv (s.recv k)) (pick (t j) c.word (s.word k))

-- ---- what a call keeps
settings-word : (t : Bool) (s : Lane) (w : ℕ) (l : List ℕ) → (word_on t s w l).1.settings ≡ s.settings
settings-word true s w l = refl
settings-word false s w l = refl

settings-group : (o : Option ℕ) (s : Lane) (l : List ℕ) → (group_on o s l).1.settings ≡ s.settings
settings-group none s l = refl
settings-group (some y) s l =
    settings-word (ltb (suc (word_at s.counts.word)) word_bytes) s (word_at s.counts.word) (set l (word_at s.counts.word) y)

settings-compare : (t : Bool) (f : Hunting) (s : Lane) → (compare_on t f s).1.settings ≡ s.settings
settings-compare true f s = refl
settings-compare false f s = refl

settings-mark : (t : Bool) (f : Hunting) (s : Lane) → (mark_on t f s).1.settings ≡ s.settings
settings-mark true f s = refl
settings-mark false f s = settings-compare (is_marker f) f s

settings-hunt : (t : Bool) (f : Hunting) (s : Lane) → (hunt_on t f s).settings ≡ s.settings
settings-hunt true f s = refl
settings-hunt false f s = refl

settings-by : (o l t : Bool) (s : Lane) (k : Back) (w : List ℕ) (b : ℕ) → (eat_by o l t s k w b).1.settings ≡ s.settings
settings-by true l t s k w b = refl
settings-by false false t s k w b = settings-hunt (is_marker (shift s.hunting b)) (shift s.hunting b) s
settings-by false true true s k w b = settings-group (pull s.settings.depth k b).0 s w
settings-by false true false s k w b = settings-mark (ltb (suc s.counts.marker) 4) (shift s.hunting b) s

-- what is told stays told, and what passes 10 passes it again
abbrev Kept : Memory → Type 0
Kept c = (sound c.st ≡ true) × (c.st.lane.settings.told ≡ true)

kept-hear : (c : Memory) (bs : List ℕ) → Fine c → c.st.lane.settings.told ≡ true → Kept (hear_on c bs).2
kept-hear c bs i e =
    let f : Fine (hear_on c bs).2 = inv-hear owed hand_on eat_byte hand-one Fine fine-hand fine-eat c bs i in (
      fine-is (hear_on c bs).2 f,
      inv-hear owed hand_on eat_byte hand-one (λ x. x.st.lane.settings.told ≡ true) (λ x n q h. h)
          (λ x b q h.
          let s : Lane = x.st.lane in
          ap (λ (y : Settings). y.told) (settings-by s.lost s.locked (ltb s.counts.group group_bytes) s x.st.back x.word b) ∙ h) c bs e,
    )

kept-call : (c : Memory) (bs : List ℕ) → Kept c → Kept (hear_call c bs).2
kept-call c bs k = go (roomy c.recv c.word) refl
  where
    go : (t : Bool) → roomy c.recv c.word ≡ t → Kept (hear_call c bs).2
    go true q = subst (λ (x : Option Event × ℕ × Memory). Kept x.2) (λ i. hear_by (sym k.0 i) (sym q i) c bs) (kept-hear c bs (fine_of c k.0 q) k.1)
    go false q = subst (λ (x : Option Event × ℕ × Memory). Kept x.2) (λ i. hear_by (sym k.0 i) (sym q i) c bs) k

-- the four: what passes 10, of each
pub sound-at : (s : Receiver) (n : ℕ) → sound_four s ≡ true → sound (get s n) ≡ true
sound-at s zero e = (and_parts (sound s.a) _ e).0
sound-at s (suc zero) e = (and_parts (sound s.b) _ (and_parts (sound s.a) _ e).1).0
sound-at s (suc (suc zero)) e = (and_parts (sound s.c) _ (and_parts (sound s.b) _ (and_parts (sound s.a) _ e).1).1).0
sound-at s (suc (suc (suc n))) e = (and_parts (sound s.c) _ (and_parts (sound s.b) _ (and_parts (sound s.a) _ e).1).1).1

sound-put : (s : Receiver) (n : ℕ) (x : Sub) → sound_four s ≡ true → sound x ≡ true → sound_four (put s n x) ≡ true
sound-put s zero x e h = both h (both (sound-at s 1 e) (both (sound-at s 2 e) (sound-at s 3 e)))
sound-put s (suc zero) x e h = both (sound-at s 0 e) (both h (both (sound-at s 2 e) (sound-at s 3 e)))
sound-put s (suc (suc zero)) x e h = both (sound-at s 0 e) (both (sound-at s 1 e) (both h (sound-at s 3 e)))
sound-put s (suc (suc (suc n))) x e h = both (sound-at s 0 e) (both (sound-at s 1 e) (both (sound-at s 2 e) h))

told-sound : (r d : ℕ) → r ≤ root_limit → d ≤ depth_limit → sound (told_sub r d) ≡ true
told-sound r d hr hd =
    both (both refl (both (both (le-leb r root_limit hr) (le-leb d depth_limit hd))
    (both refl (both refl (both refl (le-leb 0 (message_bytes r) (omega arith)))))))
    (ap not (zero-placed d))

-- ---- sub-channel k, configured, among the four
module _ (k : ℕ) where
  abbrev pub Live : Memories → Type 0
  Live s = (sound_four s.st ≡ true) × (known s.st k ≡ true)

  within : (s : Receiver) (n : ℕ) → known s n ≡ true → (n ≤ 3) × ((get s n).lane.settings.told ≡ true)
  within s n e = let p = and_parts (leb n 3) _ e in (leb-true _ _ p.0, p.1)

  -- a call on another one
  pub call-other : (n : ℕ) (s : Memories) (bs : List ℕ) → n ≢ k → Live s → (memory_at (call_on n s bs).2 k ≡ memory_at s k) × Live (call_on n s bs).2
  call-other n s bs e l = go (known s.st n) refl
    where
      go : (t : Bool) → known s.st n ≡ t → (memory_at (call_on n s bs).2 k ≡ memory_at s k) × Live (call_on n s bs).2
      go false q =
          subst (λ (x : Option Event × ℕ × Memories). (memory_at x.2 k ≡ memory_at s k) × Live x.2) (λ i. call_by (sym l.0 i) (sym q i) n s bs) (refl, l)
      go true q =
          let c : Memory = (hear_call (memory_at s n) bs).2 in
          let a = within s.st n q in
          let b = within s.st k l.1 in
          let o : memory_at (exchanged s n c) k ≡ memory_at s k = memory-other s n k c a.0 b.0 e in
          subst (λ (x : Option Event × ℕ × Memories). (memory_at x.2 k ≡ memory_at s k) × Live x.2) (λ i. call_by (sym l.0 i) (sym q i) n s bs) (
            o,
            (
              sound-put s.st n c.st l.0 (kept-call (memory_at s n) bs (sound-at s.st n l.0, a.1)).0,
              ap (λ (x : Memory). leb k 3 && x.st.lane.settings.told) o ∙ l.1,
            ),
          )

  -- a call on this one
  pub call-own : (s : Memories) (bs : List ℕ) → Live s → (x : Option Event × ℕ × Memory) → hear_call (memory_at s k) bs ≡ x
      → call_on k s bs ≡ (x.0, x.1, exchanged s k x.2)
  call-own s bs l x e = (λ i. call_by (l.0 i) (l.1 i) k s bs) ∙ ap (λ (y : Option Event × ℕ × Memory). (y.0, y.1, exchanged s k y.2)) e

  pub live_own : (s : Memories) (bs : List ℕ) → Live s → Live (exchanged s k (hear_call (memory_at s k) bs).2)
  live_own s bs l =
      let c : Memory = (hear_call (memory_at s k) bs).2 in
      let b = within s.st k l.1 in
      let m = kept-call (memory_at s k) bs (sound-at s.st k l.0, b.1) in
      (sound-put s.st k c.st l.0 m.0, both (le-leb k 3 b.0) (ap (λ (x : Memory). x.st.lane.settings.told) (memory-own s k c) ∙ m.1))

  -- a piece for another one, handed in until "more wanted"
  pub reads_other : (n : ℕ) → n ≢ k → {s t : Memories} {p : List ℕ} {xs : List Event} → Live s → Reads (call_on n) s p xs t
      → (memory_at t k ≡ memory_at s k) × Live t
  reads_other n e {s} {p = p} l (more a q) =
      let c = call-other n s p e l in
      subst (λ (x : Option Event × ℕ × Memories). (memory_at x.2 k ≡ memory_at s k) × Live x.2) q c
  reads_other n e {s} {p = p} l (answer {a = v} a {t = m} q r) =
      let c = subst (λ (x : Option Event × ℕ × Memories). (memory_at x.2 k ≡ memory_at s k) × Live x.2) q (call-other n s p e l) in
      let d = reads_other n e c.1 r in
      (d.0 ∙ c.0, d.1)

  -- a piece for this one
  own-call : (s : Memories) (p : List ℕ) {t : Memories} {o : Option Event} {a : ℕ} → Live s → call_on k s p ≡ (o, a, t)
      → (hear_call (memory_at s k) p ≡ (o, a, memory_at t k)) × Live t
  own-call s p {t} {o} {a} l q =
      let x : Option Event × ℕ × Memory = hear_call (memory_at s k) p in
      let y : ◌≡◌ {A = Option Event × ℕ × Memories} (x.0, x.1, exchanged s k x.2) (o, a, t) = sym (call-own s p l x refl) ∙ q in (
        (λ i. (x.0, x.1, sym (memory-own s k x.2) i)) ∙ ap (λ (z : Option Event × ℕ × Memories). (z.0, z.1, memory_at z.2 k)) y,
        subst (λ (z : Option Event × ℕ × Memories). Live z.2) y (live_own s p l),
      )

  pub reads-own : {s t : Memories} {p : List ℕ} {xs : List Event} → Live s → Reads (call_on k) s p xs t
      → Reads hear_call (memory_at s k) p xs (memory_at t k) × Live t
  reads-own {s} {p = p} l (more a q) = let c = own-call s p l q in (more a c.0, c.1)
  reads-own {s} {p = p} l (answer a q r) = let c = own-call s p l q in let d = reads-own c.1 r in (answer a c.0 d.0, d.1)

  -- answers with another number, and with this one
  of_other : (n : ℕ) → n ≢ k → (xs : List Event) (ys : List (ℕ × Event)) → of_one k (map (λ x. (n, x)) xs ++ ys) ≡ of_one k ys
  of_other n e [] ys = refl
  of_other n e (x ∷ xs) ys =
      ap (λ t. pick t (x ∷ of_one k (map (λ x. (n, x)) xs ++ ys)) (of_one k (map (λ x. (n, x)) xs ++ ys))) (ne_eqb n k e) ∙ of_other n e xs ys

  of-own : (xs : List Event) (ys : List (ℕ × Event)) → of_one k (map (λ x. (k, x)) xs ++ ys) ≡ xs ++ of_one k ys
  of-own [] ys = refl
  of-own (x ∷ xs) ys =
      ap (λ t. pick t (x ∷ of_one k (map (λ x. (k, x)) xs ++ ys)) (of_one k (map (λ x. (k, x)) xs ++ ys))) (eq-eqb k k refl) ∙ ap (λ l. x ∷ l) (of-own xs ys)

  -- whatever is scheduled over the four: the answers with this number, and the final state and buffers, are those of its own pieces alone
  pub alone : {s t : Memories} {ps : List (ℕ × List ℕ)} {es : List (ℕ × Event)} → Live s → Scheduled s ps es t
      → ReadsAll hear_call (memory_at s k) (of_one k ps) (of_one k es) (memory_at t k)
  alone l first = done
  alone {s} {t} l (next {t = m} {n = n} {p = p} {ps = ps} {xs = xs} {ys = ys} r rs) =
      by-eq n k
      (λ e.
      let c = reads-own l (subst (λ j. Reads (call_on j) s p xs m) e r) in
      let d = alone c.1 rs in
      let a : of_one k ((n, p) ∷ ps) ≡ p ∷ of_one k ps = ap (λ t. pick t (p ∷ of_one k ps) (of_one k ps)) (eq-eqb n k e) in
      let b : of_one k (map (λ x. (n, x)) xs ++ ys) ≡ xs ++ of_one k ys = ap (λ j. of_one k (map (λ x. (j, x)) xs ++ ys)) e ∙ of-own xs ys in
      subst (λ z. ReadsAll hear_call (memory_at s k) z (of_one k (map (λ x. (n, x)) xs ++ ys)) (memory_at t k)) (sym a)
      (subst (λ z. ReadsAll hear_call (memory_at s k) (p ∷ of_one k ps) z (memory_at t k)) (sym b) (piece c.0 d)))
      (λ e.
      let c = reads_other n e l r in
      let d = alone c.1 rs in
      let a : of_one k ((n, p) ∷ ps) ≡ of_one k ps = ap (λ t. pick t (p ∷ of_one k ps) (of_one k ps)) (ne_eqb n k e) in
      let b : of_one k (map (λ x. (n, x)) xs ++ ys) ≡ of_one k ys = of_other n e xs ys in
      subst (λ z. ReadsAll hear_call (memory_at s k) z (of_one k (map (λ x. (n, x)) xs ++ ys)) (memory_at t k)) (sym a)
      (subst (λ z. ReadsAll hear_call (memory_at s k) (of_one k ps) z (memory_at t k)) (sym b)
      (subst (λ z. ReadsAll hear_call z (of_one k ps) (of_one k ys) (memory_at t k)) c.0 d)))

-- with two lent buffers that pass 11, of a sub-channel that was just told its settings: those of its own bytes, put together
pub alone-means : (k r d : ℕ) → r ≤ root_limit → d ≤ depth_limit → {s t : Memories} {ps : List (ℕ × List ℕ)} {es : List (ℕ × Event)} → Live k s
    → get s.st k ≡ told_sub r d
    → raw_limit ≤ length (s.recv k) → word_bytes ≤ length (s.word k) → Scheduled s ps es t
    → (of_one k es ≡ answers r d (joined (of_one k ps))) × (in_use (memory_at t k) ≡ in_use (memory_of r d (hears r d start (joined (of_one k ps))).1 [] []))
alone-means k r d hr hd {s} {t} {ps} {es} l e a b c =
    (every-cut r d hr hd (joined (of_one k ps)) (s.recv k) (s.word k) a b (of_one k ps) refl).always (of_one k es) (memory_at t k)
    (subst (λ x. ReadsAll hear_call (memory x (s.recv k) (s.word k)) (of_one k ps) (of_one k es) (memory_at t k)) e (alone k l c))

-- a call by any number leaves the sub-channels of the other numbers, whatever it answers
pub hear-others : (s : Receiver) (n k : ℕ) (recv word bs : List ℕ) → k ≤ 3 → n ≢ k → get (hear_four s n recv word bs).2 k ≡ get s k
hear-others s n k recv word bs i e = go (sound_four s) (known s n) refl
  where
    go : (a b : Bool) → known s n ≡ b → get (heard_by a b s n recv word bs).2 k ≡ get s k
    go false b q = refl
    go true false q = refl
    go true true q = got_other s n k (hear_call (memory (get s n) recv word) bs).2.st (within k s n q).0 i e

-- configuring one sub-channel leaves the others
pub configure-others : (s : Receiver) (n k r d : ℕ) → n ≤ 3 → k ≤ 3 → n ≢ k → get (configuring s n r d).1 k ≡ get s k
configure-others s n k r d h i e = go (sound_four s) (ltb 3 n) (ltb root_limit r) (ltb depth_limit d)
  where
    go : (a b c f : Bool) → get (pick {A = Configured × Receiver} a
        (pick b (Refused 42, s) (pick c (Refused 30, s) (pick f (Refused 32, s) (Done, put s n (told_sub r d))))) (Refused 10, s)).1 k
        ≡ get s k
    go false b c f = refl
    go true true c f = refl
    go true false true f = refl
    go true false false true = refl
    go true false false false = got_other s n k (told_sub r d) h i e

-- told, also again: whatever it was before, the sub-channel is configured, passes 10, and is as one just told
pub configure-own : (s : Receiver) (n r d : ℕ) → (configuring s n r d).0 ≡ Done →
    let t : Receiver = (configuring s n r d).1 in
    (r ≤ root_limit) × (d ≤ depth_limit) × (sound_four t ≡ true) × (known t n ≡ true) × (get t n ≡ told_sub r d)
configure-own s n r d = go (sound_four s) (ltb 3 n) (ltb root_limit r) (ltb depth_limit d) refl refl refl refl
  where
    not-told : {m : ℕ} → Refused m ≡ Done → ⊥
    not-told e = let z : ◌≡◌ {A = ℕ} 0 1 = cc in omega arith

    go : (a b c f : Bool) → sound_four s ≡ a → ltb 3 n ≡ b → ltb root_limit r ≡ c → ltb depth_limit d ≡ f →
        let x : Configured × Receiver =
        pick a (pick b (Refused 42, s) (pick c (Refused 30, s) (pick f (Refused 32, s) (Done, put s n (told_sub r d))))) (Refused 10, s) in
        x.0 ≡ Done → (r ≤ root_limit) × (d ≤ depth_limit) × (sound_four x.1 ≡ true) × (known x.1 n ≡ true) × (get x.1 n ≡ told_sub r d)
    go false b c f e g h i q = absurd (not-told q)
    go true true c f e g h i q = absurd (not-told q)
    go true false true f e g h i q = absurd (not-told q)
    go true false false true e g h i q = absurd (not-told q)
    go true false false false e g h i q =
        let hr : r ≤ root_limit = ltb-false _ _ h in
        let hd : d ≤ depth_limit = ltb-false _ _ i in (
          hr,
          hd,
          sound-put s n (told_sub r d) e (told-sound r d hr hd),
          both (le-leb n 3 (ltb-false _ _ g)) (ap (λ (x : Sub). x.lane.settings.told) (got-put s n (told_sub r d))),
          got-put s n (told_sub r d),
        )

-- .. so that what it then hears means what it means to one just told
pub told-means : (k r d : ℕ) (s : Memories) → (configuring s.st k r d).0 ≡ Done → raw_limit ≤ length (s.recv k) → word_bytes ≤ length (s.word k)
    → {t : Memories} {ps : List (ℕ × List ℕ)} {es : List (ℕ × Event)}
    → Scheduled (record { st = (configuring s.st k r d).1; recv = s.recv; word = s.word }) ps es t
    → (of_one k es ≡ answers r d (joined (of_one k ps))) × (in_use (memory_at t k) ≡ in_use (memory_of r d (hears r d start (joined (of_one k ps))).1 [] []))
told-means k r d s e a b c = let o = configure-own s.st k r d e in alone-means k r d o.0 o.1 (o.2, o.3) o.4 a b c

-- .. it is configured then, in a state that passes 10 ..
pub told-live : (k r d : ℕ) (s : Memories) → (configuring s.st k r d).0 ≡ Done
    → Live k (record { st = (configuring s.st k r d).1; recv = s.recv; word = s.word })
told-live k r d s e = let o = configure-own s.st k r d e in (o.2, o.3)

-- .. and so it is while another is told, or is refused that
pub live-kept : (k n r d : ℕ) (s : Memories) → n ≢ k → Live k s → Live k (record { st = (configuring s.st n r d).1; recv = s.recv; word = s.word })
live-kept k n r d s e l = go s.st l (sound_four s.st) (ltb 3 n) (ltb root_limit r) (ltb depth_limit d) refl refl refl
  where
    go : (t : Receiver) → (sound_four t ≡ true) × (known t k ≡ true) → (a b c f : Bool) → ltb 3 n ≡ b → ltb root_limit r ≡ c → ltb depth_limit d ≡ f →
        let x : Configured × Receiver =
        pick a (pick b (Refused 42, t) (pick c (Refused 30, t) (pick f (Refused 32, t) (Done, put t n (told_sub r d))))) (Refused 10, t) in
        (sound_four x.1 ≡ true) × (known x.1 k ≡ true)
    go t l false b c f g h i = l
    go t l true true c f g h i = l
    go t l true false true f g h i = l
    go t l true false false true g h i = l
    go t l true false false false g h i = (
      sound-put t n (told_sub r d) l.0 (told-sound r d (ltb-false _ _ h) (ltb-false _ _ i)),
      ap (λ (x : Sub). leb k 3 && x.lane.settings.told) (got_other t n k (told_sub r d) (ltb-false _ _ g) (within k t k l.1).0 e) ∙ l.1,
    )

-- each of the four may be told, with every R and depth to 64
pub fresh-told : (n r d : ℕ) → n ≤ 3 → r ≤ root_limit → d ≤ depth_limit → (configuring fresh_receiver n r d).0 ≡ Done
fresh-told n r d h i j = rw (le-ltb 3 n h, le-ltb root_limit r i, le-ltb depth_limit d j) refl
