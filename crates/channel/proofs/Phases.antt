-- A call phase by phase, many bytes at once.
-- mark-part, mark-four, compared_on, behind_four   marker bytes, fewer than four and four; the call behind four
-- hunt-run, hunting_at, hunted_on                  hunting up to the marker; the call behind what it finds
-- word-part, word-whole                          bytes of a word, some and the last
use Prim.Native.Nat.{ℕ, suc, ◌+◌, ◌-◌, ◌≤◌, ◌<◌}
use native.Mathlib.Omega.{arith}
use native.Mathlib.Nat.{add-zero}
use mathlib.Core.Path.{◌≡◌, refl, sym, ◌∙◌, ap}
use mathlib.Core.Bool.{Bool, true, false}
use mathlib.Core.List.{List, [], ◌∷◌, ◌++◌, append-nil}
use mathlib.Core.Option.{Option, some, none}
use lib.ListN.{length, drop, length-append}
use lib.Seq.{append_snoc, take_at, set-append_seam}
use lib.Dec.{ltb}
use borrow.Author.Tests.{lt-ltb, le-ltb, ne_eqb}
use Rattle.base.specs.Choice.{pick}
use Rattle.base.specs.Calls.{unless, one_more, after}
use Rattle.base.proofs.Calls.{after_one, one-after, hear-eat, hear-end}
use Rattle.stream.specs.declared.frame.FrameReader.{FrameReader}
use Rattle.stream.specs.Call.{Held, held}
use Rattle.channel_spec.specs.declared.Hunting.{Hunting}
use Rattle.channel.specs.declared.locked.Locked.{Locked}
use Rattle.channel.specs.declared.hunting.Found.{Found}
use Rattle.channel_spec.specs.Meaning.{condition, mend, Event, block, lost, shift, is_marker}
use Rattle.channel.specs.Call.{Memory, memory, hunting_with, locked_with, hunt_on, word_on, compare_on, mark_on, eat_by, eat_byte, owed, hand_on, hear_on}
use Rattle.std.proofs.Common.{Some, None}
use Rattle.std.specs.declared.option.Option.{Option as Maybe}
use Rattle.channel.specs.Private.{shifts, taken_on, later, hunted}
use Rattle.channel.proofs.Words.{mend_in-is}
use Rattle.channel.proofs.Cutting.{hand-one}
use Rattle.channel_spec.specs.Sender.{word_bytes, message_bytes}

-- one new byte, where nothing is owed
eat-one : (c : Memory) (b : ℕ) (bs : List ℕ) → owed c ≡ 0 → hear_on c (b ∷ bs) ≡ unless (eat_byte c b).0 1 (eat_byte c b).1
    (one_more (hear_on (eat_byte c b).1 bs))
eat-one c b bs o = hear-eat owed hand_on eat_byte hand-one c b bs o

no_more : (c : Memory) → owed c ≡ 0 → hear_on c [] ≡ (none, 0, c)
no_more c o = hear-end owed hand_on eat_byte hand-one c o

-- ---- marker bytes
module _ (h : ℕ) (g : Held) (k : List ℕ) (none_left : message_bytes - h ≡ 0) where
  mark-one : (t : Bool) (f : Hunting) (m b : ℕ) (bs : List ℕ) → ltb (suc m) 4 ≡ t
      → hear_on (locked_with f word_bytes h m g k) (b ∷ bs)
      ≡ unless (mark_on t (shift f b) (locked_with f word_bytes h m g k)).0 1 (mark_on t (shift f b) (locked_with f word_bytes h m g k)).1
      (one_more (hear_on (mark_on t (shift f b) (locked_with f word_bytes h m g k)).1 bs))
  mark-one t f m b bs e =
      eat-one (locked_with f word_bytes h m g k) b bs none_left
      ∙ ap (λ u.
      unless (mark_on u (shift f b) (locked_with f word_bytes h m g k)).0 1 (mark_on u (shift f b) (locked_with f word_bytes h m g k)).1
      (one_more (hear_on (mark_on u (shift f b) (locked_with f word_bytes h m g k)).1 bs))) e

  pub mark-part : (v : List ℕ) (f : Hunting) (m : ℕ) → m + length v < 4
      → hear_on (locked_with f word_bytes h m g k) v ≡ (none, length v, locked_with (shifts f v) word_bytes h (m + length v) g k)
  mark-part [] f m l = no_more (locked_with f word_bytes h m g k) none_left ∙ (λ i. (none, 0, locked_with f word_bytes h (sym (add-zero m) i) g k))
  mark-part (b ∷ v) f m l =
      let n : suc m + length v ≡ m + suc (length v) = omega arith in
      mark-one true f m b v (lt-ltb (suc m) 4 (omega arith))
      ∙ ap one_more (mark-part v (shift f b) (suc m) (omega arith))
      ∙ (λ i. (none, suc (length v), locked_with (shifts (shift f b) v) word_bytes h (n i) g k))

  abbrev pub compared_on : Bool → Hunting → Option Event × Memory
  compared_on true f = (none, locked_with f 0 0 0 g k)
  compared_on false f = (some lost, hunting_with f g.recv k)

  -- the call behind four marker bytes, n of them new
  abbrev pub behind_four : List ℕ → ℕ → Option Event × Memory → Option Event × ℕ × Memory
  behind_four bs n x = unless x.0 n x.1 (after n (hear_on x.1 bs))

  later-four : (bs : List ℕ) (n : ℕ) (x : Option Event × Memory) → one_more (behind_four bs n x) ≡ behind_four bs (suc n) x
  later-four bs n (none, c) = after_one n (hear_on c bs)
  later-four bs n (some e, c) = refl

  pub mark-four : (b : ℕ) (v : List ℕ) (f : Hunting) (m : ℕ) (bs : List ℕ) → m + suc (length v) ≡ 4
      → hear_on (locked_with f word_bytes h m g k) (b ∷ v ++ bs)
      ≡ behind_four bs (suc (length v)) (compared_on (is_marker (shifts f (b ∷ v))) (shifts f (b ∷ v)))
  mark-four b [] f m bs e =
      mark-one false f m b bs (le-ltb (suc m) 4 (omega arith)) ∙ last (is_marker (shift f b))
    where
      last : (t : Bool)
          → unless (compare_on t (shift f b) (locked_with f word_bytes h m g k)).0 1 (compare_on t (shift f b) (locked_with f word_bytes h m g k)).1
          (one_more (hear_on (compare_on t (shift f b) (locked_with f word_bytes h m g k)).1 bs))
          ≡ behind_four bs 1 (compared_on t (shift f b))
      last true = one-after (hear_on (locked_with (shift f b) 0 0 0 g k) bs)
      last false = refl
  mark-four b (c ∷ v) f m bs e =
      mark-one true f m b (c ∷ v ++ bs) (lt-ltb (suc m) 4 (omega arith))
      ∙ ap one_more (mark-four c v (shift f b) (suc m) bs (omega arith))
      ∙ later-four bs (suc (length v)) (compared_on (is_marker (shifts f (b ∷ c ∷ v))) (shifts f (b ∷ c ∷ v)))

-- ---- hunting
module _ (lk : Locked) (g : FrameReader) (l k : List ℕ) where
  abbrev pub hunting_at : Hunting → Memory
  hunting_at f = memory (record { locked = false; hunting = f; lock = lk; frame = g }) l k

  -- the call behind what hunting finds
  abbrev pub hunted_on : List ℕ → Maybe ℕ → Hunting → Option Event × ℕ × Memory
  hunted_on bs (Some n) f = after n (hear_on (locked_with f 0 0 0 (held g l) k) (drop n bs))
  hunted_on bs None f = (none, length bs, hunting_at f)

  hunted-later : (b : ℕ) (bs : List ℕ) (t : Maybe ℕ) (f : Hunting) → one_more (hunted_on bs t f) ≡ hunted_on (b ∷ bs) (taken_on t) f
  hunted-later b bs (Some n) f = after_one n (hear_on (locked_with f 0 0 0 (held g l) k) (drop n bs))
  hunted-later b bs None f = refl

  hunted-by : (t : Bool) (e f : Hunting) (b : ℕ) (bs : List ℕ) (x : Found) → hear_on (hunting_at f) bs ≡ hunted_on bs x.taken x.hunting
      → one_more (hear_on (hunt_on t f (hunting_at e)) bs)
      ≡ hunted_on (b ∷ bs) (pick t (record { taken = Some 1; hunting = f }) (later x)).taken (pick t (record { taken = Some 1; hunting = f }) (later x)).hunting
  hunted-by true e f b bs x p = one-after (hear_on (locked_with f 0 0 0 (held g l) k) bs)
  hunted-by false e f b bs x p = ap one_more p ∙ hunted-later b bs x.taken x.hunting

  pub hunt-run : (bs : List ℕ) (f : Hunting) → hear_on (hunting_at f) bs ≡ hunted_on bs (hunted f bs).taken (hunted f bs).hunting
  unfolding hunted
  hunt-run [] f = no_more (hunting_at f) refl
  hunt-run (b ∷ bs) f =
      eat-one (hunting_at f) b bs refl ∙ hunted-by (is_marker (shift f b)) f (shift f b) b bs (hunted (shift f b) bs) (hunt-run bs (shift f b))

-- ---- bytes of a word
abbrev moved : Option Event × Memory → List ℕ → Option Event × ℕ × Memory
moved r bs = unless r.0 1 r.1 (one_more (hear_on r.1 bs))

module _ (f : Hunting) (h m : ℕ) (g : Held) where
  not-owed : (n : ℕ) (k : List ℕ) → n < word_bytes → owed (locked_with f n h m g k) ≡ 0
  not-owed n k l = rw (ne_eqb n word_bytes (λ q. omega arith)) refl

  word-one : (t : Bool) (u : List ℕ) (x : ℕ) (k : List ℕ) (b : ℕ) (bs : List ℕ) → length u < word_bytes → ltb (suc (length u)) word_bytes ≡ t
      → hear_on (locked_with f (length u) h m g (u ++ x ∷ k)) (b ∷ bs) ≡ moved (word_on t (locked_with f (length u) h m g (u ++ x ∷ k)) ((u ++ b ∷ []) ++ k)) bs
  word-one t u x k b bs l e =
      eat-one (locked_with f (length u) h m g (u ++ x ∷ k)) b bs (not-owed (length u) (u ++ x ∷ k) l)
      ∙ ap (λ s. moved (eat_by true s (locked_with f (length u) h m g (u ++ x ∷ k)) b) bs) (lt-ltb (length u) word_bytes l)
      ∙ (λ i. moved (word_on (e i) (locked_with f (length u) h m g (u ++ x ∷ k)) ((set-append_seam u x k b ∙ sym (append_snoc u b k)) i)) bs)

  -- behind the bytes u of a word, the bytes v of a piece: fewer than are wanted ..
  pub word-part : (v u k : List ℕ) → length u + length v < word_bytes → length v ≤ length k
      → hear_on (locked_with f (length u) h m g (u ++ k)) v ≡ (none, length v, locked_with f (length u + length v) h m g (u ++ v ++ drop (length v) k))
  word-part [] u k l r =
      no_more (locked_with f (length u) h m g (u ++ k)) (not-owed (length u) (u ++ k) (omega arith))
      ∙ (λ i. (none, 0, locked_with f (sym (add-zero (length u)) i) h m g (sym (append-nil u) i ++ k)))
  word-part (b ∷ v) u [] l r = absurd (omega arith)
  word-part (b ∷ v) u (x ∷ k) l r =
      let n : suc (length u) ≡ length (u ++ b ∷ []) = omega (arith, length-append u (b ∷ [])) in
      let s : length (u ++ b ∷ []) + length v ≡ length u + suc (length v) = omega arith in
      word-one true u x k b v (omega arith) (lt-ltb (suc (length u)) word_bytes (omega arith))
      ∙ ap (λ q. one_more (hear_on (locked_with f q h m g (u ++ b ∷ [] ++ k)) v)) n
      ∙ ap one_more (word-part v (u ++ b ∷ []) k (omega arith) (omega arith))
      ∙ (λ i. (none, suc (length v), locked_with f (s i) h m g (append_snoc u b v i ++ drop (length v) k)))

  -- .. and all that are wanted
  pub word-whole : (v u k bs : List ℕ) → length u < word_bytes → length u + length v ≡ word_bytes → length v ≤ length k
      → hear_on (locked_with f (length u) h m g (u ++ k)) (v ++ bs)
      ≡ (some (block (condition (u ++ v))), length v, locked_with f word_bytes 0 0 g (mend (u ++ v) ++ drop (length v) k))
  word-whole [] u k bs l e r = absurd (omega arith)
  word-whole (b ∷ v) u [] bs l e r = absurd (omega arith)
  word-whole (b ∷ []) u (x ∷ k) bs l e r =
      word-one false u x k b bs l (le-ltb (suc (length u)) word_bytes (omega arith))
      ∙ (λ i. (
        some (block (condition (take_at (u ++ b ∷ []) k word_bytes (length-append u (b ∷ []) ∙ e) i))),
        1,
        locked_with f word_bytes 0 0 g (mend_in-is (u ++ b ∷ []) k (length-append u (b ∷ []) ∙ e) i),
      ))
  word-whole (b ∷ c ∷ v) u (x ∷ k) bs l e r =
      let n : suc (length u) ≡ length (u ++ b ∷ []) = omega (arith, length-append u (b ∷ [])) in
      word-one true u x k b (c ∷ v ++ bs) l (lt-ltb (suc (length u)) word_bytes (omega arith))
      ∙ ap (λ q. one_more (hear_on (locked_with f q h m g (u ++ b ∷ [] ++ k)) (c ∷ v ++ bs))) n
      ∙ ap one_more (word-whole (c ∷ v) (u ++ b ∷ []) k bs (omega arith) (omega arith) (omega arith))
      ∙ (λ i. (
        some (block (condition (append_snoc u b (c ∷ v) i))),
        suc (suc (length v)),
        locked_with f word_bytes 0 0 g (mend (append_snoc u b (c ∷ v) i) ++ drop (suc (length v)) k),
      ))
