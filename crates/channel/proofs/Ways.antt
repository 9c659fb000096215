-- What the code's ways through the phases of a call give.
-- hunt-next, hunt-stop, hunt-done, behind_by, latest           hunting byte by byte
-- sound-lock, lock-word, lock-marker, lock-handed, room_word   what 10 and 11 ask
-- taken-within, hand-more, hand-said                           the rest of a stored word
-- compare-more, compare-again, compare-lost                    marker bytes
-- hunt-found, hunt-more, sought-none                           hunting, or nothing to seek
-- fill-copied                                                  bytes copied where there is just room for them
-- fill-room, fill-within, fill-same, fill_more, fill-whole     bytes of a word
-- sought-end, filled-end                                       phase behind phase
-- call-unsound, call-cramped, call-on                          refused with 10, with 11, or let on
use Prim.Native.Nat.{ℕ, suc, ◌+◌, ◌-◌, ◌≤◌, ◌<◌, min}
use native.Mathlib.Omega.{arith}
use native.Mathlib.Numerals.{add-one}
use mathlib.Core.Path.{◌≡◌, refl, sym, ◌∙◌, ap, subst}
use mathlib.Core.Bool.{Bool, true, false}
use mathlib.Core.List.{List, [], ◌∷◌, ◌++◌, append_assoc}
use mathlib.Core.Option.{Option, some, none}
use lib.ListN.{length, take, drop, get_or, length-append, length-drop, drop_of_length-le, take-append-drop}
use lib.Seq.{drop-cons, take_at, take_all, length-take-le}
use lib.Dec.{eqb, leb}
use borrow.Author.Tests.{le-leb, leb-true}
use borrow.Rule.Slice.PartMut.{put_mid}
use Rattle.base.specs.Written.{copied}
use Rattle.base.proofs.Writing.{copied-all}
use Rattle.base.specs.Choice.{pick}
use Rattle.base.specs.Calls.{after}
use Rattle.base.proofs.Calls.{after_none}
use Rattle.base.proofs.Tests.{and_parts}
use Rattle.packet_spec.specs.Contents.{raw_limit}
use Rattle.packet_spec.specs.declared.Judged.{Judged}
use Rattle.stream.specs.declared.frame.Read.{Read}
use Rattle.std.specs.Prelude.{None, Some}
use Rattle.stream.specs.Call.{Held, held, fresh, read_call, ReadIs, sound as sound_frame, Fine as FineFrame}
use Rattle.stream.proofs.Fine.{fine_of}
use Rattle.channel_spec.specs.declared.Hunting.{Hunting}
use Rattle.channel.specs.declared.locked.Locked.{Locked}
use Rattle.channel.specs.declared.receiver.Receiver.{Receiver}
use Rattle.channel_spec.specs.declared.Answer.TheVariants.{More, Said, Block, LockLost}
use Rattle.channel.specs.declared.answer.Hearing.{Hearing}
use Rattle.channel.specs.declared.hunting.Found.{Found}
use Rattle.channel_spec.specs.Meaning.{condition, Event, said, block, shift, is_marker}
use Rattle.channel.specs.Call.{Memory, memory, counts, locked_with, eat_byte, owed_by, owes, owed, hand_on, hear_on, sound_lock, sound, roomy, hear_by}
use Rattle.channel.specs.Call.{hear_call, mend_in, hearing_of, HearingIs}
use Rattle.std.proofs.Common.{Some, None}
use Rattle.std.specs.declared.option.Option.{Option as Maybe}
use Rattle.channel.specs.Private.{shifts, taken_on, later, hunted, Handed, Sought, FilledIs}
use Rattle.channel.proofs.Words.{mend_in-is}
use Rattle.channel.proofs.Cutting.{hand-one}
use Rattle.channel.proofs.Stored as stored
use Rattle.channel.proofs.Phases.{mark-part, compared_on, behind_four, mark-four, hunted_on, hunt-run, word-part, word-whole}
use Rattle.channel_spec.specs.declared.Condition.{Condition}
use Rattle.channel_spec.specs.Sender.{word_bytes, message_bytes}

-- ---- hunting byte by byte
-- what hunting finds, so many bytes later
abbrev pub behind_by : ℕ → Maybe ℕ → Maybe ℕ
behind_by n (Some k) = Some (n + k)
behind_by n None = None

abbrev pub latest : ℕ → Found → Found
latest n x = record { taken = behind_by n x.taken; hunting = x.hunting }

hunted-some : (f : Hunting) (bs : List ℕ) (i : ℕ) {g : Hunting} (t : Bool) → i < length bs → g ≡ shift f (get_or bs i 0) → is_marker g ≡ t
    → hunted f (drop i bs) ≡ pick t (record { taken = Some 1; hunting = g }) (later (hunted g (drop (suc i) bs)))
unfolding hunted
hunted-some f bs i {g} t h e m =
    ap (hunted f) (drop-cons bs i 0 h)
    ∙ (λ j. pick (is_marker (sym e j)) (record { taken = Some 1; hunting = sym e j }) (later (hunted (sym e j) (drop (suc i) bs))))
    ∙ ap (λ b. pick b (record { taken = Some 1; hunting = g }) (later (hunted g (drop (suc i) bs)))) m

behind-on : (i : ℕ) (t : Maybe ℕ) → behind_by (i + 1) t ≡ behind_by i (taken_on t)
behind-on i (Some k) = ap Some (let n : i + 1 + k ≡ i + suc k = omega arith in n)
behind-on i None = refl

module _ (f : Hunting) (bs : List ℕ) (i : ℕ) {t : Found} (p : latest i (hunted f (drop i bs)) ≡ t) where
  pub hunt-next : {g : Hunting} {r : Bool} → i < length bs → g ≡ shift f (get_or bs i 0) → r ≡ is_marker g → r ≡ false
      → latest (i + 1) (hunted g (drop (i + 1) bs)) ≡ t
  hunt-next {g} h e m q =
      let x : Found = hunted g (drop (suc i) bs) in
      ap (λ j. latest (i + 1) (hunted g (drop j bs))) (add-one i)
      ∙ (λ j. record { taken = behind-on i x.taken j; hunting = x.hunting })
      ∙ ap (latest i) (sym (hunted-some f bs i false h e (sym m ∙ q))) ∙ p

  pub hunt-stop : {g : Hunting} {r : Bool} → i < length bs → g ≡ shift f (get_or bs i 0) → r ≡ is_marker g → r ≡ true
      → record { taken = Some (i + 1); hunting = g } ≡ t
  hunt-stop h e m q = ap (latest i) (sym (hunted-some f bs i true h e (sym m ∙ q))) ∙ p

  pub hunt-done : length bs ≤ i → record { taken = None; hunting = f } ≡ t
  unfolding hunted
  hunt-done h = ap (λ l. latest i (hunted f l)) (sym (drop_of_length-le bs h)) ∙ p

-- ---- what 10 and 11 ask
pub sound-lock : (s : Receiver) → sound s ≡ true → sound_lock s.lock ≡ true
sound-lock s e = (and_parts (sound_frame s.frame) _ e).1

sound-frame : (s : Receiver) → sound s ≡ true → sound_frame s.frame ≡ true
sound-frame s e = (and_parts (sound_frame s.frame) _ e).0

module _ (k : Locked) (e : sound_lock k ≡ true) where
  pub lock-word : k.word ≤ word_bytes
  lock-word = leb-true _ _ (and_parts (leb k.word word_bytes) _ e).0

  pub lock-marker : k.marker ≤ 3
  lock-marker = leb-true _ _ (and_parts (leb k.marker 3) _ (and_parts (leb k.word word_bytes) _ e).1).0

  pub lock-handed : k.handed ≤ message_bytes
  lock-handed = leb-true _ _ (and_parts (leb k.marker 3) _ (and_parts (leb k.word word_bytes) _ e).1).1

lock-sound : (w h m : ℕ) → w ≤ word_bytes → m ≤ 3 → h ≤ message_bytes → sound_lock (counts w h m) ≡ true
lock-sound w h m a b c = rw (le-leb w word_bytes a, le-leb m 3 b, le-leb h message_bytes c) refl

room-recv : (l k : List ℕ) → roomy l k ≡ true → raw_limit ≤ length l
room-recv l k e = leb-true _ _ (and_parts (leb raw_limit (length l)) _ e).0

pub room_word : (l k : List ℕ) → roomy l k ≡ true → word_bytes ≤ length k
room_word l k e = leb-true _ _ (and_parts (leb raw_limit (length l)) _ e).1

-- ---- the rest of a stored word
owed-some : (l t : Bool) (h : ℕ) → (owed_by l t h ≡ 0 → ⊥) → (l ≡ true) × (t ≡ true) × (h < message_bytes)
owed-some true true h e = (refl, refl, let n : message_bytes - h ≡ 0 → ⊥ = e in omega arith)
owed-some true false h e = absurd (e refl)
owed-some false t h e = absurd (e refl)

module _ (s : Receiver) (l k : List ℕ) (sd : sound s ≡ true) where
  module _ (rm : roomy l k ≡ true) {n : ℕ} (en : n ≡ owes s) (nz : n ≡ 0 → ⊥) where
    some-owed : (s.locked ≡ true) × (eqb s.lock.word word_bytes ≡ true) × (s.lock.handed < message_bytes)
    some-owed = owed-some s.locked (eqb s.lock.word word_bytes) s.lock.handed (λ z. nz (en ∙ z))

    hand-handed : s.lock.handed < message_bytes
    hand-handed = some-owed.2

    -- with h message bytes handed on
    abbrev at : ℕ → Held → Memory
    at h g = locked_with s.hunting s.lock.word h s.lock.marker g k

    owes_at : (h : ℕ) (g : Held) → owes (at h g).st ≡ message_bytes - h
    owes_at h g = ap (λ t. owed_by true t h) some-owed.1

    -- where it stands
    begun : (bs : List ℕ) → hear_on (memory s l k) bs ≡ hear_on (at s.lock.handed (held s.frame l)) bs
    begun bs i = hear_on (memory (record { locked = some-owed.0 i; hunting = s.hunting; lock = s.lock; frame = s.frame }) l k) bs

    fine : FineFrame (held s.frame l)
    fine = fine_of s.frame l (sound-frame s sd) (room-recv l k rm)

    long : message_bytes ≤ length k
    long = omega (arith, room_word l k rm)

    module _ {r : Read} {l' : List ℕ} (e : ReadIs (read_call (held s.frame l) (take (message_bytes - s.lock.handed) (drop s.lock.handed k))) r l') where
      pub taken-within : s.lock.handed + r.taken ≤ message_bytes
      taken-within =
          stored.taken-within owed hand_on eat_byte hand-one message_bytes k at owes_at (λ h g. refl) s.lock.handed (held s.frame l) hand-handed long fine e

      abbrev next : Receiver
      next = record { locked = true; hunting = s.hunting; lock = counts s.lock.word (s.lock.handed + r.taken) s.lock.marker; frame = r.frame }

      next-lock : sound_lock next.lock ≡ true
      next-lock =
          lock-sound s.lock.word (s.lock.handed + r.taken) s.lock.marker (lock-word s.lock (sound-lock s sd))
          (lock-marker s.lock (sound-lock s sd)) taken-within

      -- .. with the flag as it stands there
      onward : (P : Receiver → Type 0) → P next
          → P (record { locked = s.locked; hunting = s.hunting; lock = counts s.lock.word (s.lock.handed + r.taken) s.lock.marker; frame = r.frame })
      onward P x =
          subst
          (λ o. P (record { locked = o; hunting = s.hunting; lock = counts s.lock.word (s.lock.handed + r.taken) s.lock.marker; frame = r.frame }))
          (sym some-owed.0) x

      pub hand-more : r.heard ≡ None
          → Handed (memory s l k)
          (record { locked = s.locked; hunting = s.hunting; lock = counts s.lock.word (s.lock.handed + r.taken) s.lock.marker; frame = r.frame }) l'
      hand-more m =
          let x = stored.read_more owed hand_on eat_byte hand-one message_bytes k at owes_at (λ h g. refl) s.lock.handed
          (held s.frame l) hand-handed long fine e m in
          let z : message_bytes - (s.lock.handed + r.taken) ≡ 0 = omega (arith, x.0) in
          onward (λ y. Handed (memory s l k) y l') (record {
            means = λ bs. begun bs ∙ x.1 bs;
            lock = next-lock;
            owed = owes_at (s.lock.handed + r.taken) (held r.frame l') ∙ z;
          })

      pub hand-said : (j : Judged) → r.heard ≡ Some j → (bs : List ℕ)
          → HearingIs (hear_on (memory s l k) bs) (record {
            answer = Said j;
            taken = 0;
            receiver = record { locked = s.locked; hunting = s.hunting; lock = counts s.lock.word (s.lock.handed + r.taken) s.lock.marker; frame = r.frame };
          }) l' k
      hand-said j m bs =
          let x = stored.read-said owed hand_on eat_byte hand-one message_bytes k at owes_at (λ h g. refl) s.lock.handed
          (held s.frame l) hand-handed long fine e j m in
          let q : hear_on (memory s l k) bs ≡ (some (said x.0), 0, memory next l' k) = begun bs ∙ x.2 bs in
          onward (λ y. HearingIs (hear_on (memory s l k) bs) (record { answer = Said j; taken = 0; receiver = y }) l' k) (
            (λ i. record { answer = Said (x.1 i); taken = 0; receiver = next }) ∙ ap hearing_of (sym q),
            ap (λ x. x.2.recv) (sym q),
            ap (λ x. x.2.word) (sym q),
          )

-- ---- marker bytes
module _ (s : Receiver) (bs : List ℕ) (o : s.locked ≡ true) (w : s.lock.word ≡ word_bytes) (m : s.lock.marker ≤ 3) (z : owes s ≡ 0)
    {n : ℕ} (en : n ≡ min (4 - s.lock.marker) (length bs)) {f : Hunting} (ef : f ≡ shifts s.hunting (take n bs)) where
  none_left : message_bytes - s.lock.handed ≡ 0
  none_left = sym (λ i. owed_by (o i) (eqb (w i) word_bytes) s.lock.handed) ∙ z

  memory-is : (l k : List ℕ) → memory s l k ≡ locked_with s.hunting word_bytes s.lock.handed s.lock.marker (held s.frame l) k
  memory-is l k i = memory (record { locked = o i; hunting = s.hunting; lock = counts (w i) s.lock.handed s.lock.marker; frame = s.frame }) l k

  pub compare-more : s.lock.marker + n < 4 → (l k : List ℕ)
      → HearingIs (hear_on (memory s l k) bs) (record {
        answer = More;
        taken = n;
        receiver = record { locked = s.locked; hunting = f; lock = counts s.lock.word s.lock.handed (s.lock.marker + n); frame = s.frame };
      }) l k
  compare-more h l k =
      let all : n ≡ length bs = omega (arith, en) in
      let part : take n bs ≡ bs = take_all n bs (omega arith) in
      let q : hear_on (memory s l k) bs
      ≡ (
        none,
        n,
        memory (record { locked = s.locked; hunting = f; lock = counts s.lock.word s.lock.handed (s.lock.marker + n); frame = s.frame }) l k,
      ) =
      ap (λ c. hear_on c bs) (memory-is l k)
      ∙ mark-part s.lock.handed (held s.frame l) k none_left bs s.hunting s.lock.marker (omega arith)
      ∙ (λ i. (
        none,
        sym all i,
        memory (record {
          locked = sym o i;
          hunting = sym (ef ∙ ap (shifts s.hunting) part) i;
          lock = counts (sym w i) s.lock.handed (s.lock.marker + sym all i);
          frame = s.frame;
        }) l k,
      )) in
      (ap hearing_of (sym q), ap (λ x. x.2.recv) (sym q), ap (λ x. x.2.word) (sym q))

  four : (l k : List ℕ) (t : Bool) → is_marker f ≡ t → 4 ≤ s.lock.marker + n
      → hear_on (memory s l k) bs ≡ behind_four s.lock.handed (held s.frame l) k none_left (drop n bs) n
      (compared_on s.lock.handed (held s.frame l) k none_left t f)
  four l k t e h =
      ap (λ c. hear_on c bs) (memory-is l k)
      ∙ ap (hear_on (locked_with s.hunting word_bytes s.lock.handed s.lock.marker (held s.frame l) k)) (sym (take-append-drop n bs))
      ∙ go (take n bs) refl
    where
      long : length (take n bs) ≡ n
      long = length-take-le n bs (omega (arith, en))

      go : (v : List ℕ) → take n bs ≡ v
          → hear_on (locked_with s.hunting word_bytes s.lock.handed s.lock.marker (held s.frame l) k) (v ++ drop n bs)
          ≡ behind_four s.lock.handed (held s.frame l) k none_left (drop n bs) n (compared_on s.lock.handed (held s.frame l) k none_left t f)
      go [] p = absurd (omega (arith, long, ap length p, h, m))
      go (b ∷ v) p =
          let g : f ≡ shifts s.hunting (b ∷ v) = ef ∙ ap (shifts s.hunting) p in
          let c : suc (length v) ≡ n = sym (ap length p) ∙ long in
          mark-four s.lock.handed (held s.frame l) k none_left b v s.hunting s.lock.marker (drop n bs) (omega (arith, en, h, m, c))
          ∙ (λ i. behind_four s.lock.handed (held s.frame l) k none_left (drop n bs) (c i)
          (compared_on s.lock.handed (held s.frame l) k none_left ((ap is_marker (sym g) ∙ e) i) (sym g i)))

  pub compare-again : {r : Bool} {x : Receiver} → 4 ≤ s.lock.marker + n → r ≡ is_marker f → r ≡ true
      → x ≡ record { locked = true; hunting = f; lock = counts 0 0 0; frame = s.frame } → Sought s bs n x
  compare-again h e g ex =
      subst (Sought s bs n) (sym ex) (record {
        means = λ l k. four l k true (sym e ∙ g) h;
        within = omega (arith, en);
        locked = refl;
        word = omega arith;
      })

  pub compare-lost : {r : Bool} {x : Receiver} → 4 ≤ s.lock.marker + n → r ≡ is_marker f → r ≡ false
      → x ≡ record { locked = false; hunting = f; lock = counts 0 0 0; frame = fresh } → (l k : List ℕ)
      → HearingIs (hear_on (memory s l k) bs) (record { answer = LockLost; taken = n; receiver = x }) l k
  compare-lost h e g ex l k =
      let q = four l k false (sym e ∙ g) h in (
        ap (λ y. record { answer = LockLost; taken = n; receiver = y }) ex ∙ ap hearing_of (sym q),
        ap (λ x. x.2.recv) (sym q),
        ap (λ x. x.2.word) (sym q),
      )

-- ---- hunting
abbrev or_zero : Maybe ℕ → ℕ
or_zero (Some n) = n
or_zero None = 0

hunted-within : (bs : List ℕ) (f : Hunting) (n : ℕ) → (hunted f bs).taken ≡ Some n → n ≤ length bs
unfolding hunted
hunted-within [] f n e = absurd (cc)
hunted-within (b ∷ bs) f n e = by (is_marker (shift f b)) (hunted (shift f b) bs) (hunted-within bs (shift f b)) e
  where
    behind : (t : Maybe ℕ) → ((m : ℕ) → t ≡ Some m → m ≤ length bs) → taken_on t ≡ Some n → n ≤ suc (length bs)
    behind (Some k) h e = let z : suc k ≡ n = ap or_zero e in omega (arith, h k refl)
    behind None h e = absurd (cc)

    by : (t : Bool) (x : Found) → ((m : ℕ) → x.taken ≡ Some m → m ≤ length bs)
        → (pick t (record { taken = Some 1; hunting = shift f b }) (later x)).taken ≡ Some n → n ≤ suc (length bs)
    by true x h e = let z : 1 ≡ n = ap or_zero e in omega arith
    by false x h e = behind x.taken h e

module _ (s : Receiver) (bs : List ℕ) (o : s.locked ≡ false) {x : Found} (ex : x ≡ hunted s.hunting bs) where
  hunts : (l k : List ℕ) (t : Maybe ℕ) → x.taken ≡ t → hear_on (memory s l k) bs ≡ hunted_on s.lock s.frame l k bs t x.hunting
  hunts l k t e =
      (λ i. hear_on (memory (record { locked = o i; hunting = s.hunting; lock = s.lock; frame = s.frame }) l k) bs)
      ∙ hunt-run s.lock s.frame l k bs s.hunting
      ∙ (λ i. hunted_on s.lock s.frame l k bs (sym ex i).taken (sym ex i).hunting)
      ∙ ap (λ b. hunted_on s.lock s.frame l k bs b x.hunting) e

  pub hunt-found : (n : ℕ) {y : Receiver} → x.taken ≡ Some n → y ≡ record { locked = true; hunting = x.hunting; lock = counts 0 0 0; frame = s.frame }
      → Sought s bs n y
  hunt-found n e ey =
      subst (Sought s bs n) (sym ey) (record {
        means = λ l k. hunts l k (Some n) e;
        within = hunted-within bs s.hunting n (ap (λ (y : Found). y.taken) (sym ex) ∙ e);
        locked = refl;
        word = omega arith;
      })

  pub hunt-more : x.taken ≡ None → (l k : List ℕ)
      → HearingIs (hear_on (memory s l k) bs) (record {
        answer = More;
        taken = length bs;
        receiver = record { locked = s.locked; hunting = x.hunting; lock = s.lock; frame = s.frame };
      }) l k
  hunt-more e l k =
      let q = hunts l k None e in (
        (λ i. record {
          answer = More;
          taken = length bs;
          receiver = record { locked = o i; hunting = x.hunting; lock = s.lock; frame = s.frame };
        }) ∙ ap hearing_of (sym q),
        ap (λ x. x.2.recv) (sym q),
        ap (λ x. x.2.word) (sym q),
      )

-- ---- nothing to seek: a word's bytes are wanted
pub sought-none : (s : Receiver) (bs : List ℕ) → s.locked ≡ true → s.lock.word < word_bytes → Sought s bs 0 s
sought-none s bs o h = record { means = λ l k. after_none (hear_on (memory s l k) bs); within = omega arith; locked = o; word = h }

-- ---- bytes of a word, copied from `at` on in a piece
module _ (s : Receiver) (word piece : List ℕ) (at : ℕ) (w : s.lock.word < word_bytes) (room : word_bytes ≤ length word) (in-piece : at ≤ length piece)
    {n : ℕ} (left : n ≡ min (word_bytes - s.lock.word) (length piece - at)) where
  pub fill-copied : {y : List ℕ} → y ≡ copied (take (at + n - at) (drop at piece)) (take (s.lock.word + n - s.lock.word) (drop s.lock.word word))
      → y ≡ take (at + n - at) (drop at piece)
  fill-copied e =
      e ∙ copied-all (take (at + n - at) (drop at piece)) (take (s.lock.word + n - s.lock.word) (drop s.lock.word word))
      (omega (
        arith,
        length-take-le (at + n - at) (drop at piece) (omega (arith, length-drop at piece, left)),
        length-take-le (s.lock.word + n - s.lock.word) (drop s.lock.word word) (omega (arith, length-drop s.lock.word word, left)),
      ))

-- ---- bytes of a word, from `at` on in a piece
module _ (s : Receiver) (word piece : List ℕ) (at : ℕ) (o : s.locked ≡ true) (w : s.lock.word < word_bytes) (room : word_bytes ≤ length word)
    (in-piece : at ≤ length piece)
    {n : ℕ} (left : n ≡ min (word_bytes - s.lock.word) (length piece - at)) {y : List ℕ}
    (copy : y ≡ take (at + n - at) (drop at piece)) where
  abbrev bs : List ℕ
  bs = drop at piece

  en : n ≡ min (word_bytes - s.lock.word) (length bs)
  en = left ∙ ap (min (word_bytes - s.lock.word)) (sym (length-drop at piece))

  ey : y ≡ take n bs
  ey = copy ∙ ap (λ m. take m bs) (let z : at + n - at ≡ n = omega arith in z)

  -- the word buffer behind it
  abbrev filled : List ℕ
  filled = put_mid s.lock.word (s.lock.word + n - s.lock.word) word y

  abbrev before : List ℕ
  before = take s.lock.word word

  abbrev behind : List ℕ
  behind = drop s.lock.word word

  before-length : length before ≡ s.lock.word
  before-length = length-take-le s.lock.word word (omega arith)

  some-length : length (take n bs) ≡ n
  some-length = length-take-le n bs (omega (arith, en))

  parts : word ≡ before ++ behind
  parts = sym (take-append-drop s.lock.word word)

  filled_is : filled ≡ (before ++ take n bs) ++ drop (length (take n bs)) behind
  filled_is =
      (λ i. before ++ (ey i ++ drop ((let z : s.lock.word + n - s.lock.word ≡ length (take n bs) = omega (arith, some-length) in z) i) behind))
      ∙ sym (append_assoc before (take n bs) (drop (length (take n bs)) behind))

  memory-at : (l : List ℕ) → memory s l word ≡ locked_with s.hunting (length before) s.lock.handed s.lock.marker (held s.frame l)
      (before ++ behind)
  memory-at l i = memory
      (record { locked = o i; hunting = s.hunting; lock = counts (sym before-length i) s.lock.handed s.lock.marker; frame = s.frame }) l (parts i)

  pub fill_more : s.lock.word + n < word_bytes
      → FilledIs s word bs at (record {
        answer = More;
        taken = at + n;
        receiver = record { locked = s.locked; hunting = s.hunting; lock = counts (s.lock.word + n) s.lock.handed s.lock.marker; frame = s.frame };
      }) filled
  fill_more h l =
      let part : take n bs ≡ bs = take_all n bs (omega (arith, en)) in
      let q : hear_on (memory s l word) bs
      ≡ (
        none,
        n,
        memory (record { locked = s.locked; hunting = s.hunting; lock = counts (s.lock.word + n) s.lock.handed s.lock.marker; frame = s.frame }) l
            filled,
      ) =
      (λ i. hear_on (memory-at l i) (sym part i))
      ∙ word-part s.hunting s.lock.handed s.lock.marker (held s.frame l) (take n bs) before behind
      (omega (arith, before-length, some-length)) (omega (arith, some-length, en, length-drop s.lock.word word))
      ∙ (λ i. (
        none,
        some-length i,
        memory (record {
          locked = sym o i;
          hunting = s.hunting;
          lock = counts (before-length i + some-length i) s.lock.handed s.lock.marker;
          frame = s.frame;
        }) l (sym filled_is i),
      )) in
      (ap (λ x. hearing_of (after at x)) (sym q), ap (λ x. x.2.recv) (sym q), ap (λ x. x.2.word) (sym q))

  whole_length : word_bytes ≤ s.lock.word + n → length (before ++ take n bs) ≡ word_bytes
  whole_length h = omega (arith, length-append before (take n bs), before-length, some-length, en)

  whole_is : word_bytes ≤ s.lock.word + n → take word_bytes filled ≡ before ++ take n bs
  whole_is h = ap (take word_bytes) filled_is ∙ take_at (before ++ take n bs) (drop (length (take n bs)) behind) word_bytes (whole_length h)

  pub fill-room : word_bytes ≤ s.lock.word + n → word_bytes ≤ length filled
  fill-room h =
      omega (arith, ap length filled_is, length-append (before ++ take n bs) (drop (length (take n bs)) behind), whole_length h)

  pub fill-within : at + n ≤ length piece
  fill-within = omega (arith, left)

  pub fill-same : word_bytes ≤ s.lock.word + n → n ≡ word_bytes
      → take word_bytes bs ≡ take word_bytes filled
  fill-same h e =
      let z : s.lock.word ≡ 0 = omega (arith, en) in
      ap (λ i. take i bs) (sym e) ∙ ap (λ i. take i word ++ take n bs) (sym z) ∙ sym (whole_is h)

  pub fill-whole : {a : Condition} {k : Locked} {z : List ℕ} → word_bytes ≤ s.lock.word + n
      → (a ≡ condition (take word_bytes filled))
      × (z ≡ mend_in filled) → k ≡ counts word_bytes 0 0
      → FilledIs s word bs at (record {
        answer = Block a;
        taken = at + n;
        receiver = record { locked = s.locked; hunting = s.hunting; lock = k; frame = s.frame };
      }) z
  fill-whole {a} {k} {z} h ea ek l =
      let q : hear_on (memory s l word) bs
      ≡ (some (block (condition (before ++ take n bs))), n, memory (record { locked = s.locked; hunting = s.hunting; lock = k; frame = s.frame }) l z) =
      (λ i. hear_on (memory-at l i) (sym (take-append-drop n bs) i))
      ∙ word-whole s.hunting s.lock.handed s.lock.marker (held s.frame l) (take n bs) before behind (drop n bs)
      (omega (arith, before-length)) (omega (arith, before-length, some-length, en)) (omega (arith, some-length, en, length-drop s.lock.word word))
      ∙ (λ i. (
        some (block (condition (before ++ take n bs))),
        some-length i,
        memory (record { locked = sym o i; hunting = s.hunting; lock = sym ek i; frame = s.frame }) l
            (sym (ea.1 ∙ ap mend_in filled_is ∙ mend_in-is (before ++ take n bs) (drop (length (take n bs)) behind) (whole_length h)) i),
      )) in (
        (λ i. record {
          answer = Block ((ea.0 ∙ ap condition (whole_is h)) i);
          taken = at + n;
          receiver = record { locked = s.locked; hunting = s.hunting; lock = k; frame = s.frame };
        }) ∙ ap (λ x. hearing_of (after at x)) (sym q),
        ap (λ x. x.2.recv) (sym q),
        ap (λ x. x.2.word) (sym q),
      )

-- ---- phase behind phase
heard-by : {x y : Option Event × ℕ × Memory} {r : Hearing} {l k : List ℕ} → x ≡ y → HearingIs y r l k → HearingIs x r l k
heard-by {r = r} {l = l} {k = k} p h = subst (λ z. HearingIs z r l k) (sym p) h

module _ (c : Memory) (bs : List ℕ) {r : Receiver} {l : List ℕ} (h : Handed c r l) where
  pub sought-end : {a : Hearing} → HearingIs (hear_on (memory r l c.word) bs) a l c.word → HearingIs (hear_on c bs) a l c.word
  sought-end g = heard-by (h.means bs) g

  pub filled-end : {n : ℕ} {s : Receiver} {a : Hearing} {k : List ℕ} → Sought r bs n s → FilledIs s c.word (drop n bs) n a k
      → HearingIs (hear_on c bs) a l k
  filled-end g f = heard-by (h.means bs ∙ g.means l c.word) (f l)

-- ---- the call: refused with 10, with 11, or let on
module _ (c : Memory) (bs : List ℕ) where
  pub call-unsound : sound c.st ≡ false → HearingIs (hear_call c bs) (hearing_of (hear_by false true c bs)) c.recv c.word
  call-unsound e = heard-by (ap (λ t. hear_by t (roomy c.recv c.word) c bs) e) (refl, refl, refl)

  module _ (s : sound c.st ≡ true) where
    pub call-cramped : roomy c.recv c.word ≡ false → HearingIs (hear_call c bs) (hearing_of (hear_by true false c bs)) c.recv c.word
    call-cramped e = heard-by (λ i. hear_by (s i) (e i) c bs) (refl, refl, refl)

    pub call-on : {r : Hearing} {l k : List ℕ} → roomy c.recv c.word ≡ true → HearingIs (hear_on c bs) r l k → HearingIs (hear_call c bs) r l k
    call-on e h = heard-by (λ i. hear_by (s i) (e i) c bs) h
