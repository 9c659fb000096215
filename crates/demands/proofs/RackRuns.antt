-- The rack's calls: what the receivers' laws of payloads and of cutting (proofs/Demand3) say of them, by numbers.
-- rack-payload       where payload and key stand behind a call, on the plain stream
-- rack-channel-payload   .. and on the channel
-- rack-wanting       when a call wants more, on the plain stream
-- rack-channel-wanting   .. and on the channel
-- runs               calls that follow others, answer by answer and state by state, yield what those yield
-- rack-cut           every way of cutting, from a state of zeros, on the plain stream
-- rack-channel-cut   .. and on the channel
use Prim.Native.Nat.{ℕ, suc, ◌+◌, ◌≤◌}
use native.Mathlib.Omega.{arith}
use mathlib.Core.Path.{◌≡◌, refl, sym, ap, subst, ◌∙◌}
use mathlib.Core.Bool.{Bool, true, false}
use mathlib.Core.Logic.{◌⊎◌, ◌≢◌, ◌↔◌}
use mathlib.Core.Logic.◌⊎◌.{inl, inr}
use mathlib.Core.List.{List, [], ◌∷◌, ◌++◌, map, map-append}
use mathlib.Core.Option.{Option, some, none, none-ne-some}
use lib.Dec.{ltb}
use lib.ListN.{length, take, drop, set, replicate, get_or}
use borrow.Author.Tests.{ne_eqb}
use Rattle.base.specs.Bytes.{Each, IsByte, Bytes}
use Rattle.base.specs.Calls.{joined, owes_none, hands_none, unless, one_more, With, Reads, ReadsAll, Yields}
use Rattle.base.specs.Calls.Reads.{more, answer}
use Rattle.base.specs.Calls.ReadsAll.{done, piece}
use Rattle.base.specs.Choice.{pick}
use Rattle.base.proofs.Bytes.{each-append-left, each-append-right, each-drop}
use Rattle.base.proofs.Calls.{hear-by, yields-so, none-owed, more-iff}
use Rattle.packet_spec.specs.Contents.{raw_limit, Packet}
use Rattle.packet_spec.specs.Frame.{Told, packet, refusal, broken, part}
use Rattle.stream.specs.Meaning.{waiting, reads}
use Rattle.stream.specs.Call.{Held, held, take_byte, read_all, read_call, answered, held_of, in_use, ThereHeld, Fine}
use Rattle.stream.proofs.Cutting.{read-agrees}
use Rattle.channel_spec.specs.Sender.{word_bytes}
use Rattle.channel_spec.specs.declared.Hunting.{Hunting}
use Rattle.channel_spec.specs.Meaning.{Event, said, block, lost, shift, is_marker, fresh_channel, hears, answers}
use Rattle.channel_spec.specs.declared.Condition.TheVariants.{Clean, Repaired, Beyond}
use Rattle.channel.specs.Call as channel
use Rattle.channel_spec.specs.Answer as channel-spec
use Rattle.channel.specs.Call.{Memory, memory, hunt_on, word_on, compare_on, mark_on, eat_by, eat_byte, owed, hand_on, hear_on, hear_by, hear_call, memory_of}
use Rattle.channel.proofs.Cutting.{hand-one, hear-agrees}
use Rattle.rack.specs.Answers.{of_answer, receiver_of, channel_numbers}
use Rattle.rack.specs.Call.{read_by, reading, heard_by, hearing}
use Rattle.demands_laws.specs.Refusals.{OfFrame, OfCall, ByFrame}
use Rattle.demands.specs.Rack.{StandsBy, said_by, called_by, read_called, told_as, held_by, channel_by, heard_called, event_as, memory_by}
use Rattle.demands.proofs.Demand1.{read-numbers, read-keeps-all, hear-numbers, hear-keeps-all}
use Rattle.demands.proofs.Demand3.{plain-cut, plain-payload, every-cut, every-payload}
use Rattle.demands.proofs.Rack.{stream-back, channel-back}
use Rattle.demands.proofs.Calling.{read-wanting, hear-wanting}

-- an answer in other words
abbrev each : {A B : Type 0} → (A → B) → Option A → Option B
each g none = none
each g (some a) = some (g a)

none-back : {A B : Type 0} (g : A → B) (o : Option A) → each g o ≡ none → o ≡ none
none-back g none e = refl
none-back g (some a) e = absurd (none-ne-some (g a) (sym e))

some_back : {A B : Type 0} (g : A → B) (o : Option A) (b : B) → each g o ≡ some b → (a : A) × (o ≡ some a) × (g a ≡ b)
some_back g none b e = absurd (none-ne-some b e)
some_back g (some a) b e = (a, refl, cc)

-- a call follows another: in other words its answer, as many bytes taken, and its state means the other's
abbrev Follows : {S T A B : Type 0} → (T → S) → (A → B) → Option B × ℕ × T → Option A × ℕ × S → Type 0
Follows f g r q = (r.0 ≡ each g q.0) × (r.1 ≡ q.1) × (f r.2 ≡ q.2)

module _ {S T A B : Type 0} (f : T → S) (g : A → B) (call : S → List ℕ → Option A × ℕ × S) (by : T → List ℕ → Option B × ℕ × T)
    (Q : ℕ → Type 0) (follows : (t : T) (bs : List ℕ) → Each Q bs → Follows f g (by t bs) (call (f t) bs)) where
  forth : {s u : S} {bs : List ℕ} {xs : List A} → Each Q bs → Reads call s bs xs u → (t : T) → f t ≡ s → (v : T) × (f v ≡ u) × Reads by t bs (map g xs) v
  forth {bs = bs} q (more n {t = u} e) t k =
      let c : call (f t) bs ≡ (none, n, u) = ap (λ (s : S). call s bs) k ∙ e in
      let m = follows t bs q in
      let o : (by t bs).0 ≡ none = m.0 ∙ ap (λ (r : Option A × ℕ × S). each g r.0) c in
      let a : (by t bs).1 ≡ n = m.1 ∙ ap (λ (r : Option A × ℕ × S). r.1) c in
      ((by t bs).2, m.2 ∙ ap (λ (r : Option A × ℕ × S). r.2) c, more n (λ i. (o i, a i, (by t bs).2)))
  forth {bs = bs} q (answer {a = x} n {t = u} e r) t k =
      let c : call (f t) bs ≡ (some x, n, u) = ap (λ (s : S). call s bs) k ∙ e in
      let m = follows t bs q in
      let o : (by t bs).0 ≡ some (g x) = m.0 ∙ ap (λ (r : Option A × ℕ × S). each g r.0) c in
      let a : (by t bs).1 ≡ n = m.1 ∙ ap (λ (r : Option A × ℕ × S). r.1) c in
      let j = forth (each-drop Q n bs q) r (by t bs).2 (m.2 ∙ ap (λ (r : Option A × ℕ × S). r.2) c) in
      (j.0, j.1, answer n (λ i. (o i, a i, (by t bs).2)) j.2)

  back : {t v : T} {bs : List ℕ} {ys : List B} → Each Q bs → Reads by t bs ys v → (xs : List A) × (ys ≡ map g xs) × Reads call (f t) bs xs (f v)
  back {t} {bs = bs} q (more n {t = v} e) =
      let m = follows t bs q in
      let o = none-back g (call (f t) bs).0 (sym m.0 ∙ ap (λ (r : Option B × ℕ × T). r.0) e) in
      let a : (call (f t) bs).1 ≡ n = sym m.1 ∙ ap (λ (r : Option B × ℕ × T). r.1) e in
      let w : (call (f t) bs).2 ≡ f v = sym m.2 ∙ ap (λ (r : Option B × ℕ × T). f r.2) e in
      ([], refl, more n (λ i. (o i, a i, w i)))
  back {t} {bs = bs} q (answer {a = y} n {t = v} e r) =
      let m = follows t bs q in
      let o = some_back g (call (f t) bs).0 y (sym m.0 ∙ ap (λ (r : Option B × ℕ × T). r.0) e) in
      let a : (call (f t) bs).1 ≡ n = sym m.1 ∙ ap (λ (r : Option B × ℕ × T). r.1) e in
      let w : (call (f t) bs).2 ≡ f v = sym m.2 ∙ ap (λ (r : Option B × ℕ × T). f r.2) e in
      let j = back (each-drop Q n bs q) r in
      (o.0 ∷ j.0, λ i. sym o.2 i ∷ j.1 i, answer n (λ i. (o.1 i, a i, w i)) j.2)

  forth-all : {s u : S} {ps : List (List ℕ)} {xs : List A} → Each Q (joined ps) → ReadsAll call s ps xs u → (t : T) → f t ≡ s
      → (v : T) × (f v ≡ u) × ReadsAll by t ps (map g xs) v
  forth-all q done t k = (t, k, done)
  forth-all q (piece {p = p} {ps = ps} {xs = xs} {ys = ys} r rs) t k =
      let j = forth (each-append-left Q p (joined ps) q) r t k in
      let l = forth-all (each-append-right Q p (joined ps) q) rs j.0 j.1 in
      (l.0, l.1, subst (λ (zs : List B). ReadsAll by t (p ∷ ps) zs l.0) (sym (map-append g xs ys)) (piece j.2 l.2))

  back-all : {t v : T} {ps : List (List ℕ)} {ys : List B} → Each Q (joined ps) → ReadsAll by t ps ys v
      → (xs : List A) × (ys ≡ map g xs) × ReadsAll call (f t) ps xs (f v)
  back-all q done = ([], refl, done)
  back-all q (piece {p = p} {ps = ps} r rs) =
      let j = back (each-append-left Q p (joined ps) q) r in
      let l = back-all (each-append-right Q p (joined ps) q) rs in
      (j.0 ++ l.0, (λ i. j.1 i ++ l.1 i) ∙ sym (map-append g j.0 l.0), piece j.2 l.2)

  runs : {P : List A → S → Type 0} (t : T) (ps : List (List ℕ)) → Each Q (joined ps) → Yields call (f t) ps P
      → Yields by t ps λ ys v. (xs : List A) × (ys ≡ map g xs) × P xs (f v)
  runs t ps q y =
      let e = y.ends in
      let j = forth-all q e.2 t refl in
      record {
        ends = (map g e.0, j.0, j.2);
        always = λ ys v r. let b = back-all q r in (b.0, b.1, y.always b.0 (f v) b.2);
      }

-- ---- behind a call that tells of a packet (256: `rack-packet`, `rack-channel-packet`) payload and key stand in the receive buffer where its numbers
-- say, on the plain stream ..
part-is : (at : ℕ) (bs recv : List ℕ) → part at (length bs) recv ≡ bs → take (length bs) (drop at recv) ≡ bs
part-is at bs recv = go (ltb (length recv) (at + length bs))
  where
    go : (t : Bool) → pick t [] (take (length bs) (drop at recv)) ≡ bs → take (length bs) (drop at recv) ≡ bs
    go true e = subst (λ (l : List ℕ). take (length l) (drop at recv) ≡ l) e refl
    go false e = e

pub rack-payload : (s recv bs : List ℕ) (p : Packet) → (read_call (held_by (s, recv)) bs).0 ≡ some (packet p)
    → let x = reading s recv bs in StandsBy p x.1 x.2
rack-payload s recv bs p e =
    let q = read_call (held_by (s, recv)) bs in
    let t = subst (λ (o : Option Told). With ThereHeld o q.2) e (plain-payload (held_by (s, recv)) bs) in
    subst (λ (o : Option Told). let x = read_by s (o, q.1, q.2) in StandsBy p x.1 x.2) (sym e)
    (part-is _ _ q.2.recv t.0, part-is _ _ q.2.recv t.1)

-- .. and on the channel
pub rack-channel-payload : (s recv word bs : List ℕ) (p : Packet) → (hear_call (memory_by (s, recv, word)) bs).0 ≡ some (said (packet p))
    → let x = hearing s recv word bs in StandsBy p x.1 x.2
rack-channel-payload s recv word bs p e =
    let q = hear_call (memory_by (s, recv, word)) bs in
    let t = subst (λ (o : Option Event). With channel.ThereEvent o q.2) e (every-payload (memory_by (s, recv, word)) bs) in
    subst (λ (o : Option Event). let x = heard_by s (o, q.1, q.2) in StandsBy p x.1 x.2) (sym e)
    (part-is _ _ q.2.recv t.0, part-is _ _ q.2.recv t.1)

-- ---- on the plain stream one call of the rack follows the receiver's
module _ (s recv : List ℕ) where
  abbrev Same : Option Told × ℕ × Held → Type 0
  Same q = Follows held_by told_as (called_by (read_by s q)) q

  -- a refusal of a frame
  by-frame : (m k : ℕ) (h : Held) → m ≢ 0 → m ≢ 10 → m ≢ 11 → Same (some (refusal m), k, h)
  by-frame m k h a b c =
      rw (ne_eqb m 10 b) (rw (ne_eqb m 11 c) (rw (ne_eqb m 0 a) (refl, refl, λ i. held (stream-back k (answered (some (refusal m))) h.st i) h.recv)))

  -- .. of the call, which changes nothing
  by_call : (m : ℕ) → OfCall m → Same (some (refusal m), 0, held_by (s, recv))
  by_call m (inl e) = subst (λ (m : ℕ). Same (some (refusal m), 0, held_by (s, recv))) (sym e) (refl, refl, refl)
  by_call m (inr e) = subst (λ (m : ℕ). Same (some (refusal m), 0, held_by (s, recv))) (sym e) (refl, refl, refl)

  -- each answer; of refusals it is known which they are
  by_answer : (o : Option Told) (k : ℕ) (h : Held) → ((t : Told) (n : ℕ) → o ≡ some t → ByFrame t n → OfFrame n ⊎ OfCall n)
      → ((n : ℕ) → OfCall n → o ≡ some (refusal n) → ◌≡◌ {A = Option Told × ℕ × Held} (o, k, h) (some (refusal n), 0, held_by (s, recv)))
      → Same (o, k, h)
  by_answer none k h a b = (refl, refl, λ i. held (stream-back k (answered none) h.st i) h.recv)
  by_answer (some (packet p)) k h a b = (refl, refl, λ i. held (stream-back k (answered (some (packet p))) h.st i) h.recv)
  by_answer (some (broken n)) k h a b = (refl, refl, λ i. held (stream-back k (answered (some (broken n))) h.st i) h.recv)
  by_answer (some (refusal m)) k h a b = go (a (refusal m) m refl refl)
    where
      go : OfFrame m ⊎ OfCall m → Same (some (refusal m), k, h)
      go (inl (inl c)) = by-frame m k h (λ e. omega (arith, e, c.0)) (λ e. omega (arith, e, c.1)) (λ e. omega (arith, e, c.1))
      go (inl (inr c)) = by-frame m k h (λ e. omega (arith, e, c)) (λ e. omega (arith, e, c)) (λ e. omega (arith, e, c))
      go (inr c) = subst Same (sym (b m c refl)) (by_call m c)

-- whatever is received
abbrev Any : ℕ → Type 0
Any b = Unit {0}

each-any : (bs : List ℕ) → Each Any bs
each-any [] = tt
each-any (b ∷ bs) = (tt, each-any bs)

call-follows : (x : List ℕ × List ℕ) (bs : List ℕ) → Each Any bs → Follows held_by told_as (read_called x bs) (read_call (held_by x) bs)
call-follows x bs _ =
    let q = read_call (held_by x) bs in
    by_answer x.0 x.1 q.0 q.1 q.2 (read-numbers (held_by x) bs) (λ n c e. read-keeps-all (held_by x) bs n (c, e))

-- "It says "more wanted" exactly when all bytes are taken .. and no answer is owed": 0 says so, and the state's first number how many are taken
pub rack-wanting : (s recv bs : List ℕ) → Fine (held_by (s, recv))
    → let x = reading s recv bs in (x.0 ≡ 0) ↔ ((get_or x.1 0 0 ≡ length bs) × ((read_all (held_by (s, recv)) bs).0 ≡ []))
rack-wanting s recv bs f =
    let x = reading s recv bs in
    let h = held_by (s, recv) in
    let q = read_call h bs in
    let w = read-wanting h f bs in
    let none_said : x.0 ≡ 0 → q.0 ≡ none =
    λ e. none-back told_as q.0 (sym (call-follows (s, recv) bs (each-any bs)).0 ∙ ap (λ (n : ℕ). said_by n (take 7 (drop 1 x.1))) e) in
    let of_none : (g : ℕ × List ℕ × List ℕ → ℕ) → q.0 ≡ none → g x ≡ g (read_by s (none, q.1, q.2)) =
    λ g e. ap (λ (o : Option Told). g (read_by s (o, q.1, q.2))) e in (
      (λ e. let o = none_said e in (of_none (λ r. get_or r.1 0 0) o ∙ (w.0 o).0, (w.0 o).1)),
      (λ p.
          of_none (λ r. r.0)
          (ap (λ (r : Option Told × ℕ × Held). r.0) (read-agrees h bs f) ∙ (more-iff owes_none hands_none take_byte none-owed h bs).1 p.1)),
    )

-- a byte string, cut in every way, from a state of zeros and with every receive buffer that passes 11: the calls come to their end, and yield the
-- numbers of its answers; the state's numbers behind them, and the bytes in use, are those of the uncut string
pub rack-cut : (bs recv : List ℕ) → raw_limit ≤ length recv → (pieces : List (List ℕ)) → joined pieces ≡ bs
    → Yields read_called (replicate 12 0, recv) pieces
    λ ys x. (ys ≡ map told_as (reads waiting bs).0) × (in_use (held_by x) ≡ in_use (held_of (reads waiting bs).1 []))
rack-cut bs recv room pieces cut =
    yields-so
    (runs held_by told_as read_call read_called Any call-follows (replicate 12 0, recv) pieces (each-any (joined pieces))
    (plain-cut bs recv room pieces cut)) λ ys x r.
    (r.1 ∙ ap (map told_as) r.2.0, r.2.1)

-- ---- on the channel: the hunted bytes are bytes, where bytes are received
abbrev Four : Hunting → Type 0
Four f = Bytes (f.a ∷ f.b ∷ f.c ∷ f.d ∷ [])

abbrev Hunted : Memory → Type 0
Hunted c = Four c.st.hunting

shifted : (f : Hunting) (b : ℕ) → IsByte b → Four f → Four (shift f b)
shifted f b k h = (h.1.0, (h.1.1.0, (h.1.1.1.0, (k, tt))))

hunted-hunt : (t : Bool) (f : Hunting) (c : Memory) → Four f → Hunted (hunt_on t f c)
hunted-hunt true f c h = h
hunted-hunt false f c h = h

hunted-word : (t : Bool) (c : Memory) (k : List ℕ) → Hunted c → Hunted (word_on t c k).1
hunted-word true c k h = h
hunted-word false c k h = h

hunted-compare : (t : Bool) (f : Hunting) (c : Memory) → Four f → Hunted (compare_on t f c).1
hunted-compare true f c h = h
hunted-compare false f c h = h

hunted-mark : (t : Bool) (f : Hunting) (c : Memory) → Four f → Hunted (mark_on t f c).1
hunted-mark true f c h = h
hunted-mark false f c h = hunted-compare (is_marker f) f c h

hunted-eat : (l t : Bool) (c : Memory) (b : ℕ) → IsByte b → Hunted c → Hunted (eat_by l t c b).1
hunted-eat false t c b k h = hunted-hunt (is_marker (shift c.st.hunting b)) (shift c.st.hunting b) c (shifted c.st.hunting b k h)
hunted-eat true true c b k h = hunted-word (ltb (suc c.st.lock.word) word_bytes) c (set c.word c.st.lock.word b) h
hunted-eat true false c b k h = hunted-mark (ltb (suc c.st.lock.marker) 4) (shift c.st.hunting b) c (shifted c.st.hunting b k h)

hunted-unless : (o : Option Event) (n : ℕ) (d : Memory) (r : Option Event × ℕ × Memory) → Hunted d → Hunted r.2 → Hunted (unless o n d r).2
hunted-unless none n d r i j = j
hunted-unless (some a) n d r i j = i

hunted-on : (c : Memory) (bs : List ℕ) → Bytes bs → Hunted c → Hunted (hear_on c bs).2
hunted-on =
    hear-by owed hand_on eat_byte hand-one (λ c bs r. Bytes bs → Hunted c → Hunted r.2) (λ c e k h. h)
    (λ c n bs r e q k h. hunted-unless (hand_on c).0 0 (hand_on c).1 r h (q k h))
    (λ c b bs r e q k h.
    let j = hunted-eat c.st.locked (ltb c.st.lock.word word_bytes) c b k.0 h in
    hunted-unless (eat_byte c b).0 1 (eat_byte c b).1 (one_more r) j (q k.1 j))

hunted-call : (c : Memory) (bs : List ℕ) → Bytes bs → Hunted c → Hunted (hear_call c bs).2
hunted-call c bs k h = go (channel.sound c.st) (channel.roomy c.recv c.word)
  where
    go : (s r : Bool) → Hunted (hear_by s r c bs).2
    go false r = h
    go true false = h
    go true true = hunted-on c bs k h

-- .. and one call of the rack follows the receiver's
module _ (s recv word : List ℕ) where
  abbrev Alike : Option Event × ℕ × Memory → Type 0
  Alike q = Follows memory_by event_as (channel_by (heard_by s q)) q

  back_by : (o : Option Event) (k : ℕ) (h : Memory) → Hunted h
      → memory (receiver_of (channel_numbers k (of_answer (channel-spec.answered o)) h.st)) h.recv h.word ≡ h
  back_by o k h u = λ i. memory (channel-back k (channel-spec.answered o) h.st u i) h.recv h.word

  frame-alike : (m k : ℕ) (h : Memory) → Hunted h → m ≢ 0 → m ≢ 10 → m ≢ 11 → Alike (some (said (refusal m)), k, h)
  frame-alike m k h u a b c = rw (ne_eqb m 10 b) (rw (ne_eqb m 11 c) (rw (ne_eqb m 0 a) (refl, refl, back_by (some (said (refusal m))) k h u)))

  call-alike : (m : ℕ) → OfCall m → Alike (some (said (refusal m)), 0, memory_by (s, recv, word))
  call-alike m (inl e) = subst (λ (m : ℕ). Alike (some (said (refusal m)), 0, memory_by (s, recv, word))) (sym e) (refl, refl, refl)
  call-alike m (inr e) = subst (λ (m : ℕ). Alike (some (said (refusal m)), 0, memory_by (s, recv, word))) (sym e) (refl, refl, refl)

  event-alike : (o : Option Event) (k : ℕ) (h : Memory) → Hunted h → ((t : Told) (n : ℕ) → o ≡ some (said t) → ByFrame t n → OfFrame n ⊎ OfCall n)
      → ((n : ℕ) → OfCall n → o ≡ some (said (refusal n))
      → ◌≡◌ {A = Option Event × ℕ × Memory} (o, k, h) (some (said (refusal n)), 0, memory_by (s, recv, word)))
      → Alike (o, k, h)
  event-alike none k h u a b = (refl, refl, back_by none k h u)
  event-alike (some (said (packet p))) k h u a b = (refl, refl, back_by (some (said (packet p))) k h u)
  event-alike (some (said (broken n))) k h u a b = (refl, refl, back_by (some (said (broken n))) k h u)
  event-alike (some (block Clean)) k h u a b = (refl, refl, back_by (some (block Clean)) k h u)
  event-alike (some (block (Repaired n))) k h u a b = (refl, refl, back_by (some (block (Repaired n))) k h u)
  event-alike (some (block Beyond)) k h u a b = (refl, refl, back_by (some (block Beyond)) k h u)
  event-alike (some lost) k h u a b = (refl, refl, back_by (some lost) k h u)
  event-alike (some (said (refusal m))) k h u a b = go (a (refusal m) m refl refl)
    where
      go : OfFrame m ⊎ OfCall m → Alike (some (said (refusal m)), k, h)
      go (inl (inl c)) = frame-alike m k h u (λ e. omega (arith, e, c.0)) (λ e. omega (arith, e, c.1)) (λ e. omega (arith, e, c.1))
      go (inl (inr c)) = frame-alike m k h u (λ e. omega (arith, e, c)) (λ e. omega (arith, e, c)) (λ e. omega (arith, e, c))
      go (inr c) = subst Alike (sym (b m c refl)) (call-alike m c)

channel-follows : (x : List ℕ × List ℕ × List ℕ) (bs : List ℕ) → Bytes bs → Follows memory_by event_as (heard_called x bs) (hear_call (memory_by x) bs)
channel-follows x bs k =
    let c = memory_by x in
    let q = hear_call c bs in
    event-alike x.0 x.1 x.2 q.0 q.1 q.2 (hunted-call c bs k (omega arith, (omega arith, (omega arith, (omega arith, tt)))))
    (hear-numbers c bs) (λ n o e. hear-keeps-all c bs n (o, e))

-- .. "a stored word is handed on whole" too
pub rack-channel-wanting : (s recv word bs : List ℕ) → Bytes bs → channel.Fine (memory_by (s, recv, word))
    → let x = hearing s recv word bs in
    (x.0 ≡ 0) ↔ ((get_or x.1 0 0 ≡ length bs) × (owed (memory_by (x.1, x.2, x.3)) ≡ 0) × ((channel.hear_all (memory_by (s, recv, word)) bs).0 ≡ []))
rack-channel-wanting s recv word bs k f =
    let x = hearing s recv word bs in
    let c = memory_by (s, recv, word) in
    let q = hear_call c bs in
    let m = channel-follows (s, recv, word) bs k in
    let w = hear-wanting c f bs in
    let none_said : x.0 ≡ 0 → q.0 ≡ none =
    λ e. none-back event_as q.0 (sym m.0 ∙ ap (λ (n : ℕ). said_by n (take 7 (drop 1 x.1) ++ (get_or x.1 12 0 ∷ []))) e) in
    let of_none : (g : ℕ × List ℕ × List ℕ × List ℕ → ℕ) → q.0 ≡ none → g x ≡ g (heard_by s (none, q.1, q.2)) =
    λ g e. ap (λ (o : Option Event). g (heard_by s (o, q.1, q.2))) e in (
      (λ e. let o = none_said e in (of_none (λ r. get_or r.1 0 0) o ∙ (w.0 o).0, ap owed m.2 ∙ (w.0 o).1, (w.0 o).2)),
      (λ p.
          of_none (λ r. r.0)
          (ap (λ (r : Option Event × ℕ × Memory). r.0) (hear-agrees c bs f) ∙ (more-iff owed hand_on eat_byte hand-one c bs).1 p.2)),
    )

pub rack-channel-cut : (bs recv word : List ℕ) → Bytes bs → raw_limit ≤ length recv → word_bytes ≤ length word → (pieces : List (List ℕ)) → joined pieces ≡ bs
    → Yields heard_called (replicate 21 0, recv, word) pieces
    λ ys x. (ys ≡ map event_as (answers bs)) × (channel.in_use (memory_by x) ≡ channel.in_use (memory_of (hears fresh_channel bs).1 [] []))
rack-channel-cut bs recv word k room most pieces cut =
    yields-so
    (runs memory_by event_as hear_call heard_called IsByte channel-follows (replicate 21 0, recv, word) pieces (subst Bytes (sym cut) k)
    (every-cut bs recv word room most pieces cut)) λ ys x r.
    (r.1 ∙ ap (map event_as) r.2.0, r.2.1)
