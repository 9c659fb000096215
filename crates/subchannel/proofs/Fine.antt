-- States and buffers that pass refusals 10 and 11.
-- sound-parts                     10, of all but the cells and of their place
-- fine_of, fine-lane, fine-is, fine-roomy   10 and 11 are passed exactly where `Fine` holds
-- fine-told                       a sub-channel that was just told its settings passes them, with buffers that are long enough
-- mend_in-length                   a word that is repaired keeps its length
-- fine-hand, fine-eat             every move keeps it
-- zero-placed, pull-placed        the cells' place stays within them
-- owed-one, owed_at               what is owed behind a move, and by a lane
use Prim.Native.Nat.{ℕ, suc, ◌+◌, ◌≤◌, ◌<◌}
use native.Mathlib.Nat.{mod-lt}
use native.Mathlib.Omega.{arith}
use mathlib.Core.Path.{◌≡◌, refl, sym, ◌∙◌, ap}
use mathlib.Core.Bool.{Bool, true, false, ◌&&◌, not, false≢true}
use mathlib.Core.List.{List}
use mathlib.Core.Option.{Option, some, none}
use lib.ListN.{length, take, drop, get_or, set, length-set, length-append, take-append-drop}
use lib.Dec.{eqb, ltb, leb}
use borrow.Author.Tests.{lt-ltb, le-ltb, le-leb, lt-leb, ltb-true, leb-true}
use Rattle.base.specs.Choice.{pick}
use Rattle.base.proofs.Tests.{and_parts, and-true as both, by_le}
use Rattle.packet_spec.specs.Contents.{raw_limit}
use Rattle.parity.specs.Calls.{root_limit}
use Rattle.stream.proofs.Fine.{fine-take, fine_of as frame-of, fine-is as frame_is}
use Rattle.interleaver_spec.specs.Running.{depth_limit, size, pull, gave, beyond}
use Rattle.interleaver_spec.specs.declared.Back.{Back}
use Rattle.channel_spec.specs.declared.Hunting.{Hunting}
use Rattle.channel_spec.specs.Sender.{word_bytes}
use Rattle.channel_spec.specs.Meaning.{shift, is_marker}
use Rattle.channel_spec.proofs.Words.{mend-length}
use Rattle.channel.specs.Call.{roomy}
use Rattle.subchannel_spec.specs.Sender.{message_bytes, group_bytes}
use Rattle.subchannel_spec.specs.Word.{mend}
use Rattle.subchannel.specs.declared.counts.Counts.{Counts}
use Rattle.subchannel.specs.declared.lane.Lane.{Lane}
use Rattle.subchannel.specs.declared.sub.Sub.{Sub}
use Rattle.subchannel.specs.Call.{Memory, memory, sub, counts, told_sub, held_in, moved, hunt_on, word_at, mend_in, word_on, group_on, compare_on, mark_on}
use Rattle.subchannel.specs.Call.{behind, eat_by, in_memory, eat_byte, owed_by, owed, handed, hand_on, sound_counts, sound_lane, sound, Fine}
use Rattle.subchannel_spec.specs.Settings.{within}

not_so : (b : Bool) → not b ≡ true → b ≡ false
not_so true e = absurd (false≢true e)
not_so false e = refl

pub sound-parts : (s : Sub) → sound s ≡ true → (sound_lane s.lane ≡ true) × (beyond s.lane.settings.depth s.back.matrix.place ≡ false)
sound-parts s e = let a = and_parts (sound_lane s.lane) _ e in (a.0, not_so _ a.1)

-- the tests of 10 and 11, passed ..
pub fine_of : (c : Memory) → sound c.st ≡ true → roomy c.recv c.word ≡ true → Fine c
fine_of c s r =
    let n : Counts = c.st.lane.counts in
    let a = sound-parts c.st s in
    let f = and_parts _ (within c.st.lane.settings && sound_counts c.st.lane.settings.parity n) a.0 in
    let w = and_parts (within c.st.lane.settings) _ f.1 in
    let v = and_parts (leb c.st.lane.settings.parity root_limit) _ w.0 in
    let g = and_parts (leb n.group group_bytes) _ w.1 in
    let m = and_parts (leb n.marker 3) _ g.1 in
    let o = and_parts (leb n.word word_bytes) _ m.1 in
    let q = and_parts (leb raw_limit (length c.recv)) _ r in
    record {
      frame = frame-of c.st.lane.frame c.recv f.0 (leb-true _ _ q.0);
      parity = leb-true _ _ v.0;
      depth = leb-true _ _ v.1;
      group = leb-true _ _ g.0;
      marker = leb-true _ _ m.0;
      word = leb-true _ _ o.0;
      handed = leb-true _ _ o.1;
      place = a.1;
      room = leb-true _ _ q.1;
    }

-- .. of the lane, whatever the cells hold ..
pub fine-lane : (s : Lane) (recv word : List ℕ) → sound_lane s ≡ true → roomy recv word ≡ true
    → (k : Back) → beyond s.settings.depth k.matrix.place ≡ false → Fine (memory (sub s k) recv word)
fine-lane s recv word sd rm k e = fine_of (memory (sub s k) recv word) (both sd (ap not e)) rm

-- .. and passed only then: 10 ..
pub fine-is : (c : Memory) → Fine c → sound c.st ≡ true
fine-is c i =
    both
    (both (frame_is (held_in c) i.frame)
    (both (both (le-leb _ _ i.parity) (le-leb _ _ i.depth))
    (both (le-leb _ _ i.group) (both (le-leb _ _ i.marker) (both (le-leb _ _ i.word) (le-leb _ _ i.handed))))))
    (ap not i.place)

-- .. and 11
pub fine-roomy : (c : Memory) → Fine c → roomy c.recv c.word ≡ true
fine-roomy c i = both (le-leb _ _ i.frame.room) (le-leb _ _ i.room)

-- at place 0 no depth is beyond its cells
pub zero-placed : (d : ℕ) → beyond d 0 ≡ false
zero-placed d = by_le 2 d (λ h. rw (le-leb 2 d h, lt-leb (size d) 0 (omega arith)) refl) (λ h. rw (lt-leb 2 d h) refl)

-- just told
pub fine-told : (r d : ℕ) → r ≤ root_limit → d ≤ depth_limit → (recv word : List ℕ) → raw_limit ≤ length recv → word_bytes ≤ length word
    → Fine (memory (told_sub r d) recv word)
fine-told r d hr hd recv word a b = record {
  frame = record { stored = refl; raw = omega arith; place = omega arith; room = a };
  parity = hr;
  depth = hd;
  group = omega arith;
  marker = omega arith;
  word = omega arith;
  handed = omega arith;
  place = zero-placed d;
  room = b;
}

pub mend_in-length : (r : ℕ) (l : List ℕ) → length (mend_in r l) ≡ length l
mend_in-length r l =
    length-append (mend r (take word_bytes l)) (drop word_bytes l)
    ∙ ap (λ n. n + length (drop word_bytes l)) (mend-length r (take word_bytes l))
    ∙ sym (length-append (take word_bytes l) (drop word_bytes l))
    ∙ ap length (take-append-drop word_bytes l)

-- a byte through the interleaver
pub pull-placed : (d : ℕ) (k : Back) (b : ℕ) → beyond d k.matrix.place ≡ false → beyond d (pull d k b).1.matrix.place ≡ false
pull-placed d k b e =
    by_le 2 d
    (λ h.
    let l : (gave d k b).1.matrix.place < size d = mod-lt (k.matrix.place + 1) (omega arith) in
    ap (λ (t : Bool). beyond d (pick {A = Option ℕ × Back} t (some b, k) (gave d k b)).1.matrix.place) (le-ltb d 2 h)
    ∙ ap (λ (t : Bool). leb 2 d && t) (lt-leb (size d) (gave d k b).1.matrix.place l) ∙ last (leb 2 d))
    (λ h. ap (λ (t : Bool). beyond d (pick {A = Option ℕ × Back} t (some b, k) (gave d k b)).1.matrix.place) (lt-ltb d 2 h) ∙ e)
  where
    last : (t : Bool) → t && false ≡ false
    last true = refl
    last false = refl

-- within their limits
abbrev Within : ℕ → Counts → Type 0
Within r n = (n.group ≤ group_bytes) × (n.marker ≤ 3) × (n.word ≤ word_bytes) × (n.handed ≤ message_bytes r)

module _ (c : Memory) (i : Fine c) where
  abbrev s : Lane
  s = c.st.lane

  fine_moved : (f : Hunting) (n : Counts) (k : Back) (l : List ℕ) → Within s.settings.parity n → beyond s.settings.depth k.matrix.place ≡ false
      → word_bytes ≤ length l → Fine (memory (sub (moved s f n) k) c.recv l)
  fine_moved f n k l w p h = record {
    frame = i.frame;
    parity = i.parity;
    depth = i.depth;
    group = w.0;
    marker = w.1;
    word = w.2;
    handed = w.3;
    place = p;
    room = h;
  }

  fine-hunt : (t : Bool) (f : Hunting) → Fine (memory (sub (hunt_on t f s) c.st.back) c.recv c.word)
  fine-hunt true f = record {
    frame = i.frame;
    parity = i.parity;
    depth = i.depth;
    group = omega arith;
    marker = omega arith;
    word = omega arith;
    handed = omega arith;
    place = i.place;
    room = i.room;
  }
  fine-hunt false f = fine_moved f s.counts c.st.back c.word (i.group, i.marker, i.word, i.handed) i.place i.room

  fine-word : (t : Bool) (w : ℕ) (k : Back) (l : List ℕ) → ltb (suc w) word_bytes ≡ t → s.counts.group < group_bytes
      → beyond s.settings.depth k.matrix.place ≡ false → word_bytes ≤ length l → Fine (in_memory c.recv (behind k (word_on t s w l))).1
  fine-word true w k l e g p h =
      let m : suc w < word_bytes = ltb-true _ _ e in
      fine_moved _ (counts (suc s.counts.group) s.counts.marker (suc w) 0) k l (g, i.marker, omega arith, omega arith) p h
  fine-word false w k l e g p h =
      fine_moved _ (counts (suc s.counts.group) s.counts.marker word_bytes 0) k (mend_in s.settings.parity l)
      (g, i.marker, omega arith, omega arith) p (omega (arith, mend_in-length s.settings.parity l))

  fine-group : (o : Option ℕ) (k : Back) → s.counts.group < group_bytes → beyond s.settings.depth k.matrix.place ≡ false
      → Fine (in_memory c.recv (behind k (group_on o s c.word))).1
  fine-group none k g p =
      fine_moved _ (counts (suc s.counts.group) s.counts.marker s.counts.word s.counts.handed) k c.word
      (g, i.marker, i.word, i.handed) p i.room
  fine-group (some y) k g p = fine-word _ (word_at s.counts.word) k (set c.word (word_at s.counts.word) y) refl g p (rw length-set i.room)

  fine-compare : (t : Bool) (f : Hunting) → Fine (memory (sub (compare_on t f s).1 c.st.back) c.recv c.word)
  fine-compare true f =
      fine_moved f (counts 0 0 s.counts.word s.counts.handed) c.st.back c.word (omega arith, omega arith, i.word, i.handed) i.place
      i.room
  fine-compare false f = record {
    frame = record { stored = refl; raw = omega arith; place = omega arith; room = i.frame.room };
    parity = i.parity;
    depth = i.depth;
    group = omega arith;
    marker = omega arith;
    word = omega arith;
    handed = omega arith;
    place = i.place;
    room = i.room;
  }

  fine-mark : (t : Bool) (f : Hunting) → ltb (suc s.counts.marker) 4 ≡ t → Fine (memory (sub (mark_on t f s).1 c.st.back) c.recv c.word)
  fine-mark true f e =
      let m : suc s.counts.marker < 4 = ltb-true _ _ e in
      fine_moved f (counts s.counts.group (suc s.counts.marker) s.counts.word s.counts.handed) c.st.back c.word
      (i.group, omega arith, i.word, i.handed) i.place i.room
  fine-mark false f e = fine-compare (is_marker f) f

  fine-by : (o l t : Bool) (b : ℕ) → ltb s.counts.group group_bytes ≡ t → Fine (in_memory c.recv (eat_by o l t s c.st.back c.word b)).1
  fine-by true l t b e = i
  fine-by false false t b e = fine-hunt (is_marker (shift s.hunting b)) (shift s.hunting b)
  fine-by false true true b e =
      fine-group (pull s.settings.depth c.st.back b).0 (pull s.settings.depth c.st.back b).1 (ltb-true _ _ e)
      (pull-placed s.settings.depth c.st.back b i.place)
  fine-by false true false b e = fine-mark (ltb (suc s.counts.marker) 4) (shift s.hunting b) refl

-- a new byte keeps it ..
pub fine-eat : (c : Memory) (b : ℕ) → owed c ≡ 0 → Fine c → Fine (eat_byte c b).1
fine-eat c b e i = fine-by c i c.st.lane.lost c.st.lane.locked (ltb c.st.lane.counts.group group_bytes) b refl

-- where a message byte is owed, it is one of the message, and one less is owed behind it
pub owed-one : (o l t : Bool) (m h n : ℕ) → owed_by o l t m h ≡ suc n → (owed_by o l t m (suc h) ≡ n) × (h < m)
owed-one true l t m h n e = absurd (omega arith)
owed-one false false t m h n e = absurd (omega arith)
owed-one false true true m h n e = omega arith
owed-one false true false m h n e = absurd (omega arith)

abbrev pub owed_at : (c : Memory) (n : ℕ) → owed c ≡ suc n
    → (owed (handed c (suc c.st.lane.counts.handed) (held_in c)) ≡ n) × (c.st.lane.counts.handed < message_bytes c.st.lane.settings.parity)
owed_at c n e =
    let s : Lane = c.st.lane in
    owed-one s.lost s.locked (eqb s.counts.word word_bytes) (message_bytes s.settings.parity) s.counts.handed n e

-- .. and so does a stored message byte that is handed on
pub fine-hand : (c : Memory) (n : ℕ) → owed c ≡ suc n → Fine c → Fine (hand_on c).1
fine-hand c n e i =
    let h : ℕ = c.st.lane.counts.handed in
    let l = (owed_at c n e).1 in record {
      frame = fine-take (held_in c) (get_or c.word h 0) i.frame;
      parity = i.parity;
      depth = i.depth;
      group = i.group;
      marker = i.marker;
      word = i.word;
      handed = l;
      place = i.place;
      room = i.room;
    }
