-- The receiver with its buffers does what the receiver without a limit does: its state is that one's, in numbers and the lent buffers.
-- Good, Room  the states that it can be in, and buffers that pass 11
-- Now         what is shown after a byte
-- shown-all   a byte string
-- in_use_lem      what is in use does not hang on what stands behind it in the buffers
use Prim.Native.Nat.{ℕ, suc, ◌≤◌, ◌<◌}
use native.Mathlib.Omega.{arith}
use mathlib.Core.Path.{◌≡◌, refl, sym, ◌∙◌, ap, subst}
use mathlib.Core.Bool.{Bool, true, false}
use mathlib.Core.List.{List, [], ◌∷◌, ◌++◌, map}
use mathlib.Core.Option.{some}
use lib.ListN.{length, take, set, length-set, length-append}
use lib.Seq.{append_snoc, take_at, take-append-le, set-append_seam}
use lib.Dec.{ltb, lit<}
use borrow.Author.Tests.{lt-ltb, ne_eqb, ltb-true, ltb-false}
use Rattle.base.specs.Calls.{tell, drain, rest}
use Rattle.packet_spec.specs.Contents.{raw_limit}
use Rattle.stream.specs.Meaning.{Reading, reads}
use Rattle.stream.specs.Call.{Held, held_of}
use Rattle.stream.proofs.Shown.{held-use, held-st}
use Rattle.channel_spec.specs.declared.Hunting.{Hunting}
use Rattle.channel_spec.specs.Sender.{message_bytes, parity_bytes, word_bytes}
use Rattle.channel_spec.specs.Meaning.{condition, mend, Event, said, block, message, shift, is_marker}
use Rattle.channel_spec.specs.Meaning.{Chan, hunting, in_word, in_mark, whole, hunt, grow, compared, behind_word, step, hears}
use Rattle.channel.specs.Call.{Memory, counts, hunting_with, locked_with, hunt_on, mend_in, word_on, compare_on, mark_on, eat_by, eat_byte}
use Rattle.channel.specs.Call.{owed_by, owed, hand_on, hear_all, memory_of, in_use}
use Rattle.channel_spec.proofs.Words.{mend-length}
use Rattle.channel.proofs.Words.{mend_in-is}
use Rattle.channel.proofs.Stored as stored
use Rattle.channel.proofs.Stored.{drained}
use Rattle.channel.proofs.Cutting.{hand-one}

-- a word that is begun is not whole, and one behind which marker bytes stand is; those are not four yet
abbrev pub Good : Chan → Type 0
Good (hunting f) = Unit {0}
Good (in_word f w r) = length w < word_bytes
Good (in_mark f w n r) = (length w ≡ word_bytes) × (n < 4)

-- both buffers pass 11
abbrev pub Room : Chan → List ℕ → List ℕ → Type 0
Room a j k = (raw_limit ≤ length (memory_of a j k).recv) × (word_bytes ≤ length (memory_of a j k).word)

none-owed : (a : Chan) (j k : List ℕ) → Good a → owed (memory_of a j k) ≡ 0
none-owed (hunting f) j k g = refl
none-owed (in_word f w r) j k g = rw (ne_eqb (length w) word_bytes (λ e. omega arith)) refl
none-owed (in_mark f w n r) j k g = refl

-- where nothing is owed: a byte string ..
abbrev R : List ℕ → Memory → List Event × Memory
R = rest owed hand_on eat_byte

-- .. and what is owed, alone
abbrev D : Memory → List Event × Memory
D c = drain owed hand_on eat_byte (owed c) c (R [])

-- what is shown after a byte: x are the answers and the memory, y those of the receiver without a limit
abbrev pub Now : List Event × Memory → List Event × Chan → Type 0
Now = stored.Now memory_of Good Room

now-hunt : (t : Bool) (f g : Hunting) (j k : List ℕ) → raw_limit ≤ length j → word_bytes ≤ length k
    → Now (D (hunt_on t g (hunting_with f j k))) ([], hunt t g)
now-hunt true f g j k h i = (j, k, refl, lit< tt, (h, i))
now-hunt false f g j k h i = (j, k, refl, tt, (h, i))

now-compare : (t : Bool) (f g : Hunting) (w : List ℕ) (n : ℕ) (r : Reading) (j k : List ℕ)
    → raw_limit ≤ length (held_of r j).recv → word_bytes ≤ length (w ++ k)
    → Now (tell (compare_on t g (memory_of (in_mark f w n r) j k)).0 (D (compare_on t g (memory_of (in_mark f w n r) j k)).1)) (compared t g r)
now-compare true f g w n r j k h i = (j, w ++ k, refl, lit< tt, (h, i))
now-compare false f g w n r j k h i = ((held_of r j).recv, w ++ k, refl, tt, (h, i))

now-mark : (t : Bool) (f g : Hunting) (w : List ℕ) (n : ℕ) (r : Reading) (j k : List ℕ) → ltb (suc n) 4 ≡ t → length w ≡ word_bytes
    → raw_limit ≤ length (held_of r j).recv → word_bytes ≤ length (w ++ k)
    → Now (tell (mark_on t g (memory_of (in_mark f w n r) j k)).0 (D (mark_on t g (memory_of (in_mark f w n r) j k)).1)) (behind_word t g w (suc n) r)
now-mark true f g w n r j k e l h i = (j, k, refl, (l, ltb-true _ _ e), (h, i))
now-mark false f g w n r j k e l h i = now-compare (is_marker g) f g w n r j k h i

put-behind : (w : List ℕ) (x : ℕ) (k : List ℕ) (b : ℕ) → set (w ++ x ∷ k) (length w) b ≡ (w ++ b ∷ []) ++ k
put-behind w x k b = set-append_seam w x k b ∙ sym (append_snoc w b k)

not-whole : (n : ℕ) (f : Hunting) (g : Held) (l : List ℕ) → n < word_bytes → D (locked_with f n 0 0 g l) ≡ ([], locked_with f n 0 0 g l)
not-whole n f g l h =
    ap (λ t. drain owed hand_on eat_byte (owed_by true t 0) (locked_with f n 0 0 g l) (R []))
    (ne_eqb n word_bytes (λ e. omega arith))

-- what a whole word owes
whole_owed : (w : List ℕ) (f : Hunting) (r : Reading) (j k : List ℕ) → length w ≡ word_bytes → raw_limit ≤ length (held_of r j).recv
    → (m : List ℕ)
    × (D (locked_with f word_bytes 0 0 (held_of r j) (mend w ++ k)) ≡ (map said (reads r (message w)).0, memory_of (in_mark f (mend w) 0 (whole w r).1) m k))
    × (raw_limit ≤ length (held_of (reads r (message w)).1 m).recv)
whole_owed w f r j k l h =
    drained owed hand_on eat_byte hand-one message_bytes (mend w ++ k) (λ n g. locked_with f word_bytes n 0 g (mend w ++ k)) (λ n g. refl) (λ n g. refl)
    (mend w) k r j refl (omega (arith, mend-length parity_bytes w)) h

-- and with the block's answer before it, where the word buffer is l
whole_word : (w : List ℕ) (f : Hunting) (r : Reading) (j k l : List ℕ) → l ≡ w ++ k → length w ≡ word_bytes → raw_limit ≤ length (held_of r j).recv
    → (m : List ℕ)
    × (tell (some (block (condition (take word_bytes l)))) (D (locked_with f word_bytes 0 0 (held_of r j) (mend_in l)))
    ≡ ((whole w r).0, memory_of (in_mark f (mend w) 0 (whole w r).1) m k))
    × (raw_limit ≤ length (held_of (reads r (message w)).1 m).recv)
whole_word w f r j k l e n h =
    let d = whole_owed w f r j k n h in
    let c : take word_bytes l ≡ w = ap (take word_bytes) e ∙ take_at w k word_bytes n in (
      d.0,
      (λ i. tell (some (block (condition (c i)))) ((ap (λ y. D (locked_with f word_bytes 0 0 (held_of r j) y)) (ap mend_in e ∙ mend_in-is w k n) ∙ d.1) i)),
      d.2,
    )

now-word : (t : Bool) (f : Hunting) (w : List ℕ) (r : Reading) (j k : List ℕ) (b : ℕ) → ltb (suc (length w)) word_bytes ≡ t → length w < word_bytes
    → raw_limit ≤ length (held_of r j).recv → word_bytes ≤ length (w ++ k)
    → Now
    (tell (word_on t (memory_of (in_word f w r) j k) (set (w ++ k) (length w) b)).0
    (D (word_on t (memory_of (in_word f w r) j k) (set (w ++ k) (length w) b)).1))
    (grow t f (w ++ b ∷ []) r)
now-word t f w r j [] b e l h i = absurd (omega (arith, l, i, length-append w []))
now-word true f w r j (x ∷ k) b e l h i =
    let n : suc (length w) ≡ length (w ++ b ∷ []) = omega (arith, length-append w (b ∷ [])) in
    let m : suc (length w) < word_bytes = ltb-true _ _ e in
    let s : set (w ++ x ∷ k) (length w) b ≡ (w ++ b ∷ []) ++ k = put-behind w x k b in (
      j,
      k,
      not-whole (suc (length w)) f (held_of r j) (set (w ++ x ∷ k) (length w) b) m ∙ (λ i. ([], locked_with f (n i) 0 0 (held_of r j) (s i))),
      omega arith,
      (h, subst (λ y. word_bytes ≤ length y) s (rw length-set i)),
    )
now-word false f w r j (x ∷ k) b e l h i =
    let n : suc (length w) ≡ length (w ++ b ∷ []) = omega (arith, length-append w (b ∷ [])) in
    let m : word_bytes ≤ suc (length w) = ltb-false _ _ e in
    let s : set (w ++ x ∷ k) (length w) b ≡ (w ++ b ∷ []) ++ k = put-behind w x k b in
    let d = whole_word (w ++ b ∷ []) f r j k (set (w ++ x ∷ k) (length w) b) s (omega arith) h in
    let q : length (mend (w ++ b ∷ [])) ≡ length (w ++ b ∷ []) = mend-length parity_bytes (w ++ b ∷ []) in (
      d.0,
      k,
      d.1,
      omega arith,
      (d.2, omega (arith, length-append (mend (w ++ b ∷ [])) k)),
    )

-- one byte of the channel receiver
shown-step : (a : Chan) (j k : List ℕ) (b : ℕ) → Good a → Room a j k → Now (R (b ∷ []) (memory_of a j k)) (step a b)
shown-step (hunting f) j k b g h = now-hunt (is_marker (shift f b)) f (shift f b) j k h.0 h.1
shown-step (in_word f w r) j k b g h =
    subst
    (λ t. Now (tell (eat_by true t (memory_of (in_word f w r) j k) b).0 (D (eat_by true t (memory_of (in_word f w r) j k) b).1))
    (step (in_word f w r) b))
    (sym (lt-ltb (length w) word_bytes g))
    (now-word (ltb (suc (length w)) word_bytes) f w r j k b refl g h.0 h.1)
shown-step (in_mark f w n r) j k b g h = now-mark (ltb (suc n) 4) f (shift f b) w n r j k refl g.0 h.0 h.1

-- a byte string, to the channel receiver
pub shown-all : (bs : List ℕ) (a : Chan) (j k : List ℕ) → Good a → Room a j k → Now (hear_all (memory_of a j k) bs) (hears a bs)
shown-all = stored.shown-bytes memory_of Good Room owed hand_on eat_byte hand-one step none-owed shown-step

locked-use : (f : Hunting) (n h m : ℕ) (r : Reading) (j w k : List ℕ) → n ≤ length w
    → in_use (locked_with f n h m (held_of r j) (w ++ k)) ≡ in_use (locked_with f n h m (held_of r []) (w ++ []))
locked-use f n h m r j w k l =
    λ i. (
      record { locked = true; hunting = f; lock = counts n h m; frame = held-st r j i },
      held-use r j i,
      (take-append-le n w k l ∙ sym (take-append-le n w [] l)) i,
    )

-- what is in use does not hang on what stands behind it in the buffers
pub in_use_lem : (a : Chan) (j k : List ℕ) → Good a → in_use (memory_of a j k) ≡ in_use (memory_of a [] [])
in_use_lem (hunting f) j k g = refl
in_use_lem (in_word f w r) j k g = locked-use f (length w) 0 0 r j w k (omega arith)
in_use_lem (in_mark f w n r) j k g = locked-use f word_bytes message_bytes n r j w k (omega arith)
