-- States and buffers that pass refusals 10 and 11.
-- fine-is, fine-roomy, fine_of   they are passed exactly where `Fine` holds
-- fine-fresh                     a fresh receiver passes them, with buffers that are long enough
-- owed-one                       where a message byte is owed, one less is behind it
-- fine-hand, fine-eat            every move keeps it
use Prim.Native.Nat.{ℕ, suc, ◌≤◌, ◌<◌}
use native.Mathlib.Omega.{arith}
use mathlib.Core.Path.{◌≡◌, refl}
use mathlib.Core.Bool.{Bool, true, false}
use mathlib.Core.List.{List}
use lib.ListN.{length, get_or, set, length-set}
use lib.Dec.{eqb, ltb, leb}
use borrow.Author.Tests.{le-leb, ltb-true, leb-true}
use Rattle.base.proofs.Tests.{and_parts}
use Rattle.packet_spec.specs.Contents.{raw_limit}
use Rattle.stream.specs.Call.{Held, take_byte, Fine as FineFrame}
use Rattle.stream.proofs.Fine.{fine-take, fine_of as frame-of, fine-is as frame_is}
use Rattle.channel_spec.specs.declared.Hunting.{Hunting}
use Rattle.channel_spec.specs.Sender.{message_bytes, word_bytes}
use Rattle.channel_spec.specs.Meaning.{shift, is_marker, zeros}
use Rattle.channel.specs.Call.{Memory, memory, held_in, hunting_with, fresh_receiver, locked_with, sound, roomy}
use Rattle.channel.specs.Call.{hunt_on, mend_in, word_on, compare_on, mark_on, eat_by, eat_byte, owed_by, owed, hand_on, Fine}
use Rattle.channel.proofs.Words.{mend_in-length}

-- the tests of 10 and 11, passed ..
pub fine_of : (c : Memory) → sound c.st ≡ true → roomy c.recv c.word ≡ true → Fine c
fine_of c s r =
    let p = and_parts _ _ s in
    let l = and_parts (leb c.st.lock.word word_bytes) _ p.1 in
    let m = and_parts (leb c.st.lock.marker 3) _ l.1 in
    let q = and_parts (leb raw_limit (length c.recv)) _ r in
    record {
      frame = frame-of c.st.frame c.recv p.0 (leb-true _ _ q.0);
      word = leb-true _ _ l.0;
      marker = leb-true _ _ m.0;
      handed = leb-true _ _ m.1;
      room = leb-true _ _ q.1;
    }

-- .. and passed only then: 10 ..
pub fine-is : (c : Memory) → Fine c → sound c.st ≡ true
fine-is c i =
    rw (
      frame_is (held_in c) i.frame,
      le-leb c.st.lock.word word_bytes i.word,
      le-leb c.st.lock.marker 3 i.marker,
      le-leb c.st.lock.handed message_bytes i.handed,
    ) refl

-- .. and 11
pub fine-roomy : (c : Memory) → Fine c → roomy c.recv c.word ≡ true
fine-roomy c i = rw (le-leb raw_limit (length c.recv) i.frame.room, le-leb word_bytes (length c.word) i.room) refl

fine-hunting : (f : Hunting) (l k : List ℕ) → raw_limit ≤ length l → word_bytes ≤ length k → Fine (hunting_with f l k)
fine-hunting f l k a b = record {
  frame = record { stored = refl; raw = omega arith; place = omega arith; room = a };
  word = omega arith;
  marker = omega arith;
  handed = omega arith;
  room = b;
}

-- a fresh receiver, with buffers that are long enough
pub fine-fresh : (l k : List ℕ) → raw_limit ≤ length l → word_bytes ≤ length k → Fine (memory fresh_receiver l k)
fine-fresh l k a b = fine-hunting zeros l k a b

fine-locked : (f : Hunting) (w h m : ℕ) (r : Held) (k : List ℕ)
    → w ≤ word_bytes → h ≤ message_bytes → m ≤ 3 → FineFrame r → word_bytes ≤ length k → Fine (locked_with f w h m r k)
fine-locked f w h m r k a b c d e = record { frame = d; word = a; marker = c; handed = b; room = e }

-- locked, at the start of a word
fine-begun : (f : Hunting) (c : Memory) → Fine c → Fine (locked_with f 0 0 0 (held_in c) c.word)
fine-begun f c i = fine-locked f 0 0 0 (held_in c) c.word (omega arith) (omega arith) (omega arith) i.frame i.room

fine-hunt : (t : Bool) (f : Hunting) (c : Memory) → Fine c → Fine (hunt_on t f c)
fine-hunt true f c i = fine-begun f c i
fine-hunt false f c i = record { frame = i.frame; word = i.word; marker = i.marker; handed = i.handed; room = i.room }

fine-compare : (t : Bool) (f : Hunting) (c : Memory) → Fine c → Fine (compare_on t f c).1
fine-compare true f c i = fine-begun f c i
fine-compare false f c i = fine-hunting _ c.recv c.word i.frame.room i.room

fine-mark : (t : Bool) (f : Hunting) (c : Memory) → ltb (suc c.st.lock.marker) 4 ≡ t → Fine c → Fine (mark_on t f c).1
fine-mark true f c e i =
    let l : suc c.st.lock.marker < 4 = ltb-true _ _ e in
    fine-locked f _ _ _ (held_in c) c.word i.word i.handed (omega arith) i.frame i.room
fine-mark false f c e i = fine-compare (is_marker f) f c i

fine-word : (t : Bool) (c : Memory) (k : List ℕ) → ltb (suc c.st.lock.word) word_bytes ≡ t → Fine c → word_bytes ≤ length k → Fine (word_on t c k).1
fine-word true c k e i h =
    let l : suc c.st.lock.word < word_bytes = ltb-true _ _ e in
    fine-locked _ _ _ _ (held_in c) k (omega arith) i.handed i.marker i.frame h
fine-word false c k e i h =
    fine-locked _ word_bytes 0 0 (held_in c) (mend_in k) (omega arith) (omega arith) (omega arith) i.frame (omega (arith, mend_in-length k))

fine-by : (l t : Bool) (c : Memory) (b : ℕ) → Fine c → Fine (eat_by l t c b).1
fine-by false t c b i = fine-hunt (is_marker (shift c.st.hunting b)) (shift c.st.hunting b) c i
fine-by true true c b i =
    fine-word (ltb (suc c.st.lock.word) word_bytes) c (set c.word c.st.lock.word b) refl i (rw length-set i.room)
fine-by true false c b i = fine-mark (ltb (suc c.st.lock.marker) 4) (shift c.st.hunting b) c refl i

-- a new byte keeps it ..
pub fine-eat : (c : Memory) (b : ℕ) → owed c ≡ 0 → Fine c → Fine (eat_byte c b).1
fine-eat c b e i = fine-by c.st.locked (ltb c.st.lock.word word_bytes) c b i

-- where a message byte is owed, it is one of the 223, and one less is owed behind it
pub owed-one : (l t : Bool) (h n : ℕ) → owed_by l t h ≡ suc n → (owed_by true t (suc h) ≡ n) × (h < message_bytes)
owed-one true true h n e = omega arith
owed-one true false h n e = absurd (omega arith)
owed-one false t h n e = absurd (omega arith)

-- .. and so does a stored message byte that is handed on
pub fine-hand : (c : Memory) (n : ℕ) → owed c ≡ suc n → Fine c → Fine (hand_on c).1
fine-hand c n e i =
    let l : c.st.lock.handed < message_bytes = (owed-one c.st.locked (eqb c.st.lock.word word_bytes) c.st.lock.handed n e).1 in
    let b : ℕ = get_or c.word c.st.lock.handed 0 in
    fine-locked _ _ _ _ (take_byte (held_in c) b).1 c.word i.word (omega arith) i.marker (fine-take (held_in c) b i.frame) i.room
