-- What the code's ways through a call give.
-- hand-..                              the rest of a stored word
-- going-first, going_next, going_end, going_done   the loop over the bytes of a piece
-- taken-within, fine-spare, able-of    .. what it asks of its parts; some-none: what is there is not nothing
-- handed-end, bytes-end                one behind the other
-- call-unsound, call-cramped, call-on  refused with 10, with 11, or let on
-- some-none                            some is not none
use Prim.Native.Nat.{ℕ, suc, ◌+◌, ◌-◌, ◌≤◌, ◌<◌}
use native.Mathlib.Omega.{arith}
use native.Mathlib.Numerals.{add-one}
use native.Mathlib.Nat.{add-zero}
use mathlib.Core.Path.{◌≡◌, refl, sym, ◌∙◌, ap, subst}
use mathlib.Core.Bool.{Bool, true, false}
use mathlib.Core.List.{List}
use mathlib.Core.Option.{Option, some, none}
use lib.ListN.{length, take, drop, get_or, set, length-replicate, drop_of_length-le}
use lib.Seq.{drop-cons}
use lib.Dec.{eqb, ltb}
use borrow.Author.Tests.{ne_eqb, ltb-true}
use Rattle.base.specs.Calls.{unless, after, one_more}
use Rattle.base.proofs.Calls.{hear-eat, hear-end, after_none, after_more}
use Rattle.packet_spec.specs.Contents.{raw_limit}
use Rattle.packet_spec.specs.declared.Judged.{Judged}
use Rattle.packet_spec.specs.declared.Judged.TheVariants.{Refused}
use Rattle.parity.specs.Calls.{root_limit}
use Rattle.stream.specs.declared.frame.Read.{Read}
use Rattle.stream.specs.Call.{Held, held, read_call, ReadIs}
use Rattle.interleaver_spec.specs.Running.{beyond, fresh_back, pull}
use Rattle.interleaver_spec.specs.declared.Back.{Back}
use Rattle.channel_spec.specs.declared.Hunting.{Hunting}
use Rattle.std.specs.Prelude as code
use Rattle.channel_spec.specs.declared.Answer.{Answer}
use Rattle.channel_spec.specs.declared.Answer.TheVariants.{More, Said}
use Rattle.channel_spec.specs.Sender.{word_bytes}
use Rattle.channel_spec.specs.Meaning.{Event, said, shift, is_marker}
use Rattle.channel.specs.Call.{roomy}
use Rattle.channel.proofs.Stored as stored
use Rattle.channel_spec.specs.Answer.{answered}
use Rattle.subchannel_spec.specs.Sender.{message_bytes, group_bytes}
use Rattle.subchannel.specs.declared.lane.Lane.{Lane}
use Rattle.subchannel.specs.declared.lane.Step.{Step}
use Rattle.subchannel.specs.declared.sub.Sub.{Sub}
use Rattle.subchannel.specs.declared.sub.Hearing.{Hearing}
use Rattle.subchannel.specs.Call.{Memory, memory, sub, Given, hunt_on, word_at, word_on, group_on, compare_on, mark_on, eat_by, eat, in_memory, eat_byte}
use Rattle.subchannel.specs.Call.{owed_by, owes, owed, handing, handed, hand_on, sound_lane, sound}
use Rattle.subchannel.specs.Call.{hear_by, hear_on, hear_call, hearing_of, HearingIs, Fine}
use Rattle.subchannel.specs.Private.{as_answer, Able, EatenIs, HandedBy, HandedIs, spare, BytesIs, Going}
use Rattle.subchannel.proofs.Fine.{fine-lane, fine-eat, zero-placed}
use Rattle.subchannel.proofs.Cutting.{hand-one}

-- ---- the rest of a stored word
owed-some : (o l t : Bool) (m h : ℕ) → (owed_by o l t m h ≡ 0 → ⊥) → (o ≡ false) × (l ≡ true) × (t ≡ true) × (h < m)
owed-some true l t m h e = absurd (e refl)
owed-some false false t m h e = absurd (e refl)
owed-some false true true m h e = (refl, refl, refl, let n : m - h ≡ 0 → ⊥ = e in omega arith)
owed-some false true false m h e = absurd (e refl)

module _ (s : Lane) (l w : List ℕ) (sd : sound_lane s ≡ true) (rm : roomy l w ≡ true) where
  abbrev h : ℕ
  h = s.counts.handed

  abbrev n : ℕ
  n = message_bytes s.settings.parity

  fine-with : (k : Back) → beyond s.settings.depth k.matrix.place ≡ false → Fine (memory (sub s k) l w)
  fine-with = fine-lane s l w sd rm

  -- of some cells: what does not hang on them
  fine-some : Fine (memory (sub s fresh_back) l w)
  fine-some = fine-with fresh_back (zero-placed s.settings.depth)

  pub hand-parity : s.settings.parity ≤ root_limit
  hand-parity = fine-some.parity

  pub hand-within : h ≤ n
  hand-within = fine-some.handed

  pub hand-room : n ≤ length w
  hand-room = let a = fine-some.room in omega arith

  pub hand-none : {a : ℕ} → a ≡ owes s → a ≡ 0 → HandedIs s l w (record { answer = code.None; lane = s }) l
  hand-none e z = record { means = λ k bs. refl; fine = fine-with; owed = λ d. sym e ∙ z }

  module _ {a : ℕ} (en : a ≡ owes s) (nz : a ≡ 0 → ⊥) where
    some-owed : (s.lost ≡ false) × (s.locked ≡ true) × (eqb s.counts.word word_bytes ≡ true) × (h < n)
    some-owed = owed-some s.lost s.locked (eqb s.counts.word word_bytes) n h (λ z. nz (en ∙ z))

    module _ (k : Back) where
      -- with i message bytes handed on
      abbrev at : ℕ → Held → Memory
      at i g = handed (memory (sub s k) l w) i g

      owes_at : (i : ℕ) (g : Held) → owed (at i g) ≡ n - i
      owes_at i g = λ j. owed_by (some-owed.0 j) (some-owed.1 j) (some-owed.2 j) n i

    module _ {r : Read} {l' : List ℕ} (e : ReadIs (read_call (held s.frame l) (take (n - h) (drop h w))) r l') where
      abbrev at₀ : ℕ → Held → Memory
      at₀ = at fresh_back

      pub taken-within : h + r.taken ≤ n
      taken-within =
          stored.taken-within owed hand_on eat_byte hand-one n w at₀ (owes_at fresh_back) (λ i g. refl) h (held s.frame l) some-owed.3 hand-room
          fine-some.frame e

      abbrev next : Lane
      next = handing s (h + r.taken) r.frame

      fine-next : (k : Back) → beyond s.settings.depth k.matrix.place ≡ false → Fine (memory (sub next k) l' w)
      fine-next k b = record {
        frame = stored.fine-next owed hand_on eat_byte hand-one n w at₀ (owes_at fresh_back) (λ i g. refl) h (held s.frame l) some-owed.3 hand-room
            fine-some.frame e;
        parity = fine-some.parity;
        depth = fine-some.depth;
        group = fine-some.group;
        marker = fine-some.marker;
        word = fine-some.word;
        handed = taken-within;
        place = b;
        room = fine-some.room;
      }

      pub hand-more : {t : Lane} → r.heard ≡ code.None → t ≡ next → HandedIs s l w (record { answer = code.None; lane = t }) l'
      hand-more m p =
          let x : (k : Back) → (h + r.taken ≡ n) × ((bs : List ℕ) → hear_on (memory (sub s k) l w) bs ≡ hear_on (memory (sub next k) l' w) bs) =
          λ k. stored.read_more owed hand_on eat_byte hand-one n w (at k) (owes_at k) (λ i g. refl) h (held s.frame l) some-owed.3 hand-room
          fine-some.frame e m in
          let z : n - (h + r.taken) ≡ 0 = omega (arith, (x fresh_back).0) in
          subst (λ t. HandedIs s l w (record { answer = code.None; lane = t }) l') (sym p) (record {
            means = λ k bs. (x k).1 bs;
            fine = fine-next;
            owed = λ d. owes_at fresh_back (h + r.taken) (held r.frame l') ∙ z;
          })

      pub hand-said : (j : Judged) {t : Lane} → r.heard ≡ code.Some j → t ≡ next → HandedIs s l w (record { answer = code.Some (Said j); lane = t }) l'
      hand-said j m p =
          subst (λ t. HandedIs s l w (record { answer = code.Some (Said j); lane = t }) l') (sym p) (record {
            means = λ k bs.
                let x = stored.read-said owed hand_on eat_byte hand-one n w (at k) (owes_at k) (λ i g. refl) h (held s.frame l) some-owed.3 hand-room
                fine-some.frame e j m in
                let q : hear_on (memory (sub s k) l w) bs ≡ (some (said x.0), 0, memory (sub next k) l' w) = x.2 bs in (
                  (λ i. record { answer = Said (x.1 i); taken = 0; sub = sub next k }) ∙ ap hearing_of (sym q),
                  ap (λ y. y.2.recv) (sym q),
                  ap (λ y. y.2.word) (sym q),
                );
            fine = fine-next;
            owed = λ d. cc;
          })

-- ---- the loop over the bytes of a piece
spare-long : raw_limit ≤ length spare
unfolding spare
spare-long = omega (arith, length-replicate {A = ℕ} raw_limit 0)

-- the receive buffer does not matter, if it is long enough
pub fine-spare : {s : Sub} {l w : List ℕ} → Fine (memory s l w) → Fine (memory s spare w)
fine-spare i = record {
  frame = record { stored = i.frame.stored; raw = i.frame.raw; place = i.frame.place; room = spare-long };
  parity = i.parity;
  depth = i.depth;
  group = i.group;
  marker = i.marker;
  word = i.word;
  handed = i.handed;
  place = i.place;
  room = i.room;
}

pub able-of : {c : Memory} → Fine c → Able c.st.lane c.word
able-of i = record { parity = i.parity; depth = i.depth; group = i.group; marker = i.marker; word = i.word; room = i.room }

-- a new byte that gives no answer leaves nothing owed where nothing was
not-whole : (o l : Bool) (a b : ℕ) → owed_by o l false a b ≡ 0
not-whole true l a b = refl
not-whole false true a b = refl
not-whole false false a b = refl

pub some-none : {A : Type 0} {x : A} → some x ≡ none → ⊥
some-none e = let z : ◌≡◌ {A = ℕ} 0 1 = cc in omega arith

module _ (s : Lane) (z : owes s ≡ 0) where
  owes-word : (t : Bool) (v : ℕ) (w : List ℕ) → ltb (suc v) word_bytes ≡ t → (word_on t s v w).0 ≡ none → owes (word_on t s v w).1 ≡ 0
  owes-word true v w e q =
      let l : suc v < word_bytes = ltb-true _ _ e in
      ap (λ t. owed_by s.lost s.locked t (message_bytes s.settings.parity) 0) (ne_eqb (suc v) word_bytes (λ f. omega arith))
      ∙ not-whole s.lost s.locked (message_bytes s.settings.parity) 0
  owes-word false v w e q = absurd (some-none q)

  owes-group : (o : Option ℕ) (w : List ℕ) → (group_on o s w).0 ≡ none → owes (group_on o s w).1 ≡ 0
  owes-group none w q = z
  owes-group (some y) w q =
      owes-word (ltb (suc (word_at s.counts.word)) word_bytes) (word_at s.counts.word) (set w (word_at s.counts.word) y) refl q

  owes-compare : (t : Bool) (f : Hunting) → (compare_on t f s).0 ≡ none → owes (compare_on t f s).1 ≡ 0
  owes-compare true f q = z
  owes-compare false f q = refl

  owes-mark : (t : Bool) (f : Hunting) → (mark_on t f s).0 ≡ none → owes (mark_on t f s).1 ≡ 0
  owes-mark true f q = z
  owes-mark false f q = owes-compare (is_marker f) f q

  owes-hunt : (t : Bool) (f : Hunting) → owes (hunt_on t f s) ≡ 0
  owes-hunt true f = refl
  owes-hunt false f = z

  owes-by : (o l t : Bool) (k : Back) (w : List ℕ) (b : ℕ) → (eat_by o l t s k w b).0 ≡ none → owes (eat_by o l t s k w b).1 ≡ 0
  owes-by true l t k w b q = z
  owes-by false false t k w b q = owes-hunt (is_marker (shift s.hunting b)) (shift s.hunting b)
  owes-by false true true k w b q = owes-group (pull s.settings.depth k b).0 w q
  owes-by false true false k w b q = owes-mark (ltb (suc s.counts.marker) 4) (shift s.hunting b) q

none_so : (o : Option Event) → as_answer o ≡ code.None → o ≡ none
none_so none e = refl
none_so (some a) e = cc

some_so : {a : Answer} (o : Option Event) → as_answer o ≡ code.Some a → answered o ≡ a
some_so none e = cc
some_so (some a) e = cc

pub going-first : (s : Sub) (w bs : List ℕ) → Fine (memory s spare w) → owes s.lane ≡ 0 → Going s w bs 0 s w
going-first s w bs i z = record { within = omega arith; fine = i; owed = z; left = λ l. after_none (hear_on (memory s l w) bs) }

module _ {s₀ : Sub} {w₀ bs : List ℕ} {i : ℕ} {s : Sub} {w : List ℕ} (g : Going s₀ w₀ bs i s w) where
  -- "more wanted": no byte is left
  pub going_done : length bs ≤ i → BytesIs s₀ w₀ bs (record { answer = More; taken = i; sub = s }) w
  going_done h l =
      let x : hear_on (memory s₀ l w₀) bs ≡ (none, i + 0, memory s l w) =
      g.left l ∙ ap (λ y. after i (hear_on (memory s l w) y)) (drop_of_length-le bs h)
      ∙ ap (after i) (hear-end owed hand_on eat_byte hand-one (memory s l w) g.owed) in (
        (λ j. record { answer = More; taken = sym (add-zero i) j; sub = s }) ∙ ap hearing_of (sym x),
        ap (λ y. y.2.recv) (sym x),
        ap (λ y. y.2.word) (sym x),
      )

  module _ (h : i < length bs) {t : Step} {k' : Back} {w' : List ℕ} (e : EatenIs (eat s.lane s.back w (get_or bs i 0)) t k' w') where
    abbrev x : Given
    x = eat s.lane s.back w (get_or bs i 0)

    abbrev s' : Sub
    s' = sub t.lane k'

    behind-is : (l : List ℕ) → (in_memory l x).1 ≡ memory s' l w'
    behind-is l = sym (λ j. memory (sub (e.0 j).lane (e.1 j)) l (e.2 j))

    turn : (l : List ℕ) → hear_on (memory s₀ l w₀) bs
        ≡ after i (unless x.0 1 (memory s' l w') (one_more (hear_on (memory s' l w') (drop (suc i) bs))))
    turn l =
        g.left l ∙ ap (λ y. after i (hear_on (memory s l w) y)) (drop-cons bs i 0 h)
        ∙ ap (after i) (hear-eat owed hand_on eat_byte hand-one (memory s l w) (get_or bs i 0) (drop (suc i) bs) g.owed)
        ∙ ap (λ c. after i (unless x.0 1 c (one_more (hear_on c (drop (suc i) bs))))) (behind-is l)

    -- a turn without answer
    pub going_next : t.answer ≡ code.None → Going s₀ w₀ bs (i + 1) s' w'
    going_next d =
        let n : x.0 ≡ none = none_so x.0 (sym (ap (λ (y : Step). y.answer) e.0) ∙ d) in record {
          within = omega arith;
          fine = subst Fine (behind-is spare) (fine-eat (memory s spare w) (get_or bs i 0) g.owed g.fine);
          owed = ap (λ (y : Step). owes y.lane) e.0
              ∙ owes-by s.lane g.owed s.lane.lost s.lane.locked (ltb s.lane.counts.group group_bytes) s.back w (get_or bs i 0) n;
          left = λ l.
              turn l ∙ ap (λ o. after i (unless o 1 (memory s' l w') (one_more (hear_on (memory s' l w') (drop (suc i) bs))))) n
              ∙ after_more i (hear_on (memory s' l w') (drop (suc i) bs)) ∙ ap (λ j. after (i + 1) (hear_on (memory s' l w') (drop j bs))) (sym (add-one i));
        }

    -- a turn that ends the call
    pub going_end : {r : Answer} → t.answer ≡ code.Some r → BytesIs s₀ w₀ bs (record { answer = r; taken = i + 1; sub = s' }) w'
    going_end {r} d l = by x.0 refl
      where
        told : answered x.0 ≡ r
        told = some_so x.0 (sym (ap (λ (y : Step). y.answer) e.0) ∙ d)

        by : (o : Option Event) → x.0 ≡ o → HearingIs (hear_on (memory s₀ l w₀) bs) (record { answer = r; taken = i + 1; sub = s' }) l w'
        by none n = let z : code.None ≡ code.Some r = ap as_answer (sym n) ∙ sym (ap (λ (y : Step). y.answer) e.0) ∙ d in cc
        by (some a) n =
            let y = turn l ∙ ap (λ o. after i (unless o 1 (memory s' l w') (one_more (hear_on (memory s' l w') (drop (suc i) bs))))) n in (
              (λ j. record { answer = (sym told ∙ ap answered n) j; taken = i + 1; sub = s' }) ∙ ap hearing_of (sym y),
              ap (λ y. y.2.recv) (sym y),
              ap (λ y. y.2.word) (sym y),
            )

-- ---- one behind the other
module _ (s : Sub) (l w bs : List ℕ) {t : Step} {l' : List ℕ} (e : HandedIs s.lane l w t l') where
  pub handed-end : {a : Answer} → t.answer ≡ code.Some a
      → HearingIs (hear_on (memory s l w) bs) (record { answer = a; taken = 0; sub = sub t.lane s.back }) l' w
  handed-end d = subst (λ b. HandedBy b s.lane l w t.lane l' s.back bs) d (e.means s.back bs)

  pub bytes-end : {r : Hearing} {w' : List ℕ} → t.answer ≡ code.None → BytesIs (sub t.lane s.back) w bs r w' → HearingIs (hear_on (memory s l w) bs) r l' w'
  bytes-end {r} {w'} d b =
      subst (λ y. HearingIs y r l' w') (sym (subst (λ b. HandedBy b s.lane l w t.lane l' s.back bs) d (e.means s.back bs))) (b l')

-- ---- the refusals
module _ (c : Memory) (bs : List ℕ) where
  pub call-unsound : sound c.st ≡ false
      → HearingIs (hear_call c bs) (record { answer = Said (Refused 10); taken = 0; sub = c.st }) c.recv c.word
  call-unsound e =
      subst (λ t. HearingIs t (record { answer = Said (Refused 10); taken = 0; sub = c.st }) c.recv c.word)
      (λ i. hear_by (sym e i) (roomy c.recv c.word) c bs) (refl, refl, refl)

  pub call-cramped : sound c.st ≡ true → roomy c.recv c.word ≡ false
      → HearingIs (hear_call c bs) (record { answer = Said (Refused 11); taken = 0; sub = c.st }) c.recv c.word
  call-cramped e f =
      subst (λ t. HearingIs t (record { answer = Said (Refused 11); taken = 0; sub = c.st }) c.recv c.word) (λ i. hear_by (sym e i) (sym f i) c bs)
      (refl, refl, refl)

  pub call-on : {r : Hearing} {l k : List ℕ} → sound c.st ≡ true → roomy c.recv c.word ≡ true → HearingIs (hear_on c bs) r l k
      → HearingIs (hear_call c bs) r l k
  call-on {r} {l} {k} e f h = subst (λ x. HearingIs x r l k) (λ i. hear_by (sym e i) (sym f i) c bs) h
