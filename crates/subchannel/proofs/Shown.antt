-- A sub-channel with its buffers does what the one without a limit does: its state is that one's, in numbers and the lent buffers.
-- Good, Room  the states that it can be in, and buffers that pass 11
-- Now         what is shown after a byte
-- shown-all   a byte string
-- in_use_lem      what is in use does not hang on what stands behind it in the buffers
use Prim.Native.Nat.{ℕ, suc, ◌-◌, ◌≤◌, ◌<◌}
use native.Mathlib.Omega.{arith}
use mathlib.Core.Path.{◌≡◌, refl, sym, ◌∙◌, ap, subst}
use mathlib.Core.Bool.{Bool, true, false}
use mathlib.Core.List.{List, [], ◌∷◌, ◌++◌, map}
use mathlib.Core.Option.{Option, some, none}
use lib.ListN.{length, take, drop, set, length-set, length-append}
use lib.Seq.{append_snoc, take_at, drop_at, take-append-le, set-append_seam}
use lib.Dec.{eqb, ltb, lit<}
use borrow.Author.Tests.{lt-ltb, le-ltb, eq-eqb, ne_eqb, ltb-true, ltb-false}
use Rattle.base.specs.Calls.{tell, drain, rest}
use Rattle.base.specs.Choice.{pick}
use Rattle.base.proofs.Tests.{by_le}
use Rattle.packet_spec.specs.Contents.{raw_limit}
use Rattle.parity.specs.Calls.{root_limit}
use Rattle.stream.specs.Meaning.{Reading, reads}
use Rattle.stream.specs.Call.{Held, held_of}
use Rattle.stream.proofs.Shown.{held-use, held-st}
use Rattle.interleaver_spec.specs.Running.{pull}
use Rattle.interleaver_spec.specs.declared.Back.{Back}
use Rattle.channel_spec.specs.declared.Hunting.{Hunting}
use Rattle.channel_spec.specs.Sender.{word_bytes}
use Rattle.channel_spec.specs.Meaning.{Event, said, block, shift, is_marker}
use Rattle.channel_spec.proofs.Words.{mend-length}
use Rattle.channel.proofs.Stored as stored
use Rattle.channel.proofs.Stored.{drained}
use Rattle.subchannel_spec.specs.Sender.{message_bytes, group_bytes}
use Rattle.subchannel_spec.specs.Word.{condition, mend, message}
use Rattle.subchannel_spec.specs.Meaning.{Sub, hunting, in_group, in_mark, silent, worded, takes, hunt, grouping, compared, behind_group, step, hears}
use Rattle.subchannel.specs.declared.lane.Lane.{Lane}
use Rattle.subchannel.specs.Call.{Memory, memory, sub, lane, counts, hunt_on, mend_in, word_on, group_on, compare_on, mark_on}
use Rattle.subchannel_spec.specs.Settings.{settings}
use Rattle.subchannel.specs.Call.{behind, eat_by, in_memory, eat_byte}
use Rattle.subchannel.specs.Call.{owed_by, owed, hand_on, hear_all, in_use, handed_of, locked_with, memory_of}
use Rattle.subchannel.proofs.Cutting.{hand-one}

-- a group that is begun is not whole, marker bytes are not four yet, a word is at most whole
abbrev pub Good : Sub → Type 0
Good (hunting f) = Unit {0}
Good (in_group f n k w q) = (n < group_bytes) × (length w ≤ word_bytes)
Good (in_mark f n k w q) = (n < 4) × (length w ≤ word_bytes)
Good (silent f k) = Unit {0}

-- where nothing is owed: a byte string ..
abbrev R : List ℕ → Memory → List Event × Memory
R = rest owed hand_on eat_byte

-- .. and what is owed, alone
abbrev D : Memory → List Event × Memory
D c = drain owed hand_on eat_byte (owed c) c (R [])

module _ (r d : ℕ) (hr : r ≤ root_limit) where
  -- ---- a stored word is handed on
  module _ (f : Hunting) (g m : ℕ) (k : Back) where
    -- n message bytes handed on of a whole word
    abbrev whole_at : ℕ → Held → List ℕ → Memory
    whole_at n h l = locked_with r d f (counts g m word_bytes n) k h l

    -- what a whole word owes
    whole_owed : (w : List ℕ) (q : Reading) (j l : List ℕ) → length w ≡ word_bytes → raw_limit ≤ length (held_of q j).recv
        → (i : List ℕ)
        × (D (whole_at 0 (held_of q j) (mend r w ++ l))
        ≡ (map said (reads q (message r w)).0, whole_at (message_bytes r) (held_of (reads q (message r w)).1 i) (mend r w ++ l)))
        × (raw_limit ≤ length (held_of (reads q (message r w)).1 i).recv)
    whole_owed w q j l e h =
        drained owed hand_on eat_byte hand-one (message_bytes r) (mend r w ++ l) (λ n h. whole_at n h (mend r w ++ l)) (λ n h. refl) (λ n h. refl)
        (mend r w) l q j refl (omega (arith, mend-length r w)) h

  -- both buffers pass 11
  abbrev pub Room : Sub → List ℕ → List ℕ → Type 0
  Room a j l = (raw_limit ≤ length (memory_of r d a j l).recv) × (word_bytes ≤ length (memory_of r d a j l).word)

  -- a word so far owes nothing
  settled : (w : List ℕ) → length w ≤ word_bytes → owed_by false true (eqb (length w) word_bytes) (message_bytes r) (handed_of r w) ≡ 0
  settled w h =
      by_le word_bytes (length w)
      (λ (l : word_bytes ≤ length w).
      (λ i. owed_by false true (eq-eqb (length w) word_bytes (omega arith) i) (message_bytes r) (pick (le-ltb (length w) word_bytes l i) 0 (message_bytes r)))
      ∙ (let z : message_bytes r - message_bytes r ≡ 0 = omega arith in z))
      (λ l. ap (λ t. owed_by false true t (message_bytes r) (handed_of r w)) (ne_eqb (length w) word_bytes (λ e. omega arith)))

  none-owed : (a : Sub) (j l : List ℕ) → Good a → owed (memory_of r d a j l) ≡ 0
  none-owed (hunting f) j l g = refl
  none-owed (in_group f n k w q) j l g = settled w g.1
  none-owed (in_mark f n k w q) j l g = settled w g.1
  none-owed (silent f k) j l g = refl

  -- what is shown after a byte: x are the answers and the memory, y those of the one without a limit
  abbrev pub Now : List Event × Memory → List Event × Sub → Type 0
  Now = stored.Now (memory_of r d) Good Room

  now-hunt : (t : Bool) (f g : Hunting) (j l : List ℕ) → raw_limit ≤ length j → word_bytes ≤ length l
      → Now (D (memory (sub (hunt_on t g (memory_of r d (hunting f) j l).st.lane) (memory_of r d (hunting f) j l).st.back) j l)) ([], hunt t g)
  now-hunt true f g j l h i = (j, l, refl, (lit< tt, omega arith), (h, i))
  now-hunt false f g j l h i = (j, l, refl, tt, (h, i))

  -- ---- a byte of a group
  module _ (f : Hunting) (n : ℕ) (k : Back) where
    -- the state behind it, by the answers, the word so far and the frame reader
    abbrev Behind : List Event × Memory → List Event × List ℕ × Reading → Type 0
    Behind x t =
        (j : List ℕ) × (l : List ℕ)
        × (x ≡ (t.0, locked_with r d f (counts (suc n) 0 (length t.1) (handed_of r t.1)) k (held_of t.2 j) (t.1 ++ l)))
        × (length t.1 ≤ word_bytes) × (raw_limit ≤ length (held_of t.2 j).recv) × (word_bytes ≤ length (t.1 ++ l))

    grouping-now : (x : List Event × Memory) (t : List Event × List ℕ × Reading) (s : Bool) → ltb (suc n) group_bytes ≡ s → n < group_bytes
        → Behind x t → Now x (t.0, grouping s f (suc n) k t.1 t.2)
    grouping-now x t true e h b = (b.0, b.1, b.2, (ltb-true _ _ e, b.3), (b.4, b.5))
    grouping-now x t false e h b =
        let m : suc n ≡ group_bytes = let y : group_bytes ≤ suc n = ltb-false _ _ e in omega arith in (
          b.0,
          b.1,
          b.2 ∙ (λ i. (t.0, locked_with r d f (counts (m i) 0 (length t.1) (handed_of r t.1)) k (held_of t.2 b.0) (t.1 ++ b.1))),
          (lit< tt, b.3),
          (b.4, b.5),
        )

    -- the lane before it, with v bytes of a word and o handed on
    abbrev at : ℕ → ℕ → Held → Lane
    at v o h = lane (settings true r d) true false f (counts n 0 v o) h.st

    -- y goes behind the bytes u of a word, where the word buffer held b
    word-now : (t : Bool) (v o : ℕ) (u : List ℕ) (q : Reading) (j l : List ℕ) (y b : ℕ) → ltb (suc (length u)) word_bytes ≡ t → length u < word_bytes
        → raw_limit ≤ length (held_of q j).recv → word_bytes ≤ length (u ++ b ∷ l)
        → Behind
        (let x = in_memory (held_of q j).recv (behind k (word_on t (at v o (held_of q j)) (length u) (set (u ++ b ∷ l) (length u) y))) in tell x.0 (D x.1))
        (worded t r (u ++ y ∷ []) q)
    word-now true v o u q j l y b e h hj hw =
        let a : suc (length u) ≡ length (u ++ y ∷ []) = omega (arith, length-append u (y ∷ [])) in
        let m : suc (length u) < word_bytes = ltb-true _ _ e in
        let z : set (u ++ b ∷ l) (length u) y ≡ (u ++ y ∷ []) ++ l = set-append_seam u b l y ∙ sym (append_snoc u y l) in
        let p : handed_of r (u ++ y ∷ []) ≡ 0 = ap (λ t. pick t 0 (message_bytes r)) (lt-ltb (length (u ++ y ∷ [])) word_bytes (omega arith)) in
        let c : Memory = locked_with r d f (counts (suc n) 0 (suc (length u)) 0) k (held_of q j) (set (u ++ b ∷ l) (length u) y) in (
          j,
          l,
          ap (λ t. drain owed hand_on eat_byte (owed_by false true t (message_bytes r) 0) c (R [])) (ne_eqb (suc (length u)) word_bytes (λ w. omega arith))
              ∙ (λ i. ([], locked_with r d f (counts (suc n) 0 (a i) (sym p i)) k (held_of q j) (z i))),
          omega arith,
          hj,
          subst (λ x. word_bytes ≤ length x) z (rw length-set hw),
        )
    word-now false v o u q j l y b e h hj hw =
        let w : List ℕ = u ++ y ∷ [] in
        let a : length w ≡ suc (length u) = length-append u (y ∷ []) ∙ omega arith in
        let m : length w ≡ word_bytes = let x : word_bytes ≤ suc (length u) = ltb-false _ _ e in omega arith in
        let z : set (u ++ b ∷ l) (length u) y ≡ w ++ l = set-append_seam u b l y ∙ sym (append_snoc u y l) in
        let x = whole_owed f (suc n) 0 k w q j l m hj in
        let c : length (mend r w) ≡ word_bytes = mend-length r w ∙ m in
        let p : handed_of r (mend r w) ≡ message_bytes r = ap (λ t. pick t 0 (message_bytes r)) (le-ltb (length (mend r w)) word_bytes (omega arith)) in
        let t : take word_bytes (set (u ++ b ∷ l) (length u) y) ≡ w = ap (take word_bytes) z ∙ take_at w l word_bytes m in
        let i : mend_in r (set (u ++ b ∷ l) (length u) y) ≡ mend r w ++ l = (λ i. mend r (t i) ++ (ap (drop word_bytes) z ∙ drop_at w l word_bytes m) i) in (
          x.0,
          l,
          (λ a. tell (some (block (condition r (t a)))) (D (locked_with r d f (counts (suc n) 0 word_bytes 0) k (held_of q j) (i a))))
              ∙ ap (tell (some (block (condition r w)))) x.1
              ∙ (λ a. (
                (worded false r w q).0,
                locked_with r d f (counts (suc n) 0 (sym c a) (sym p a)) k (held_of (reads q (message r w)).1 x.0) (mend r w ++ l),
              )),
          omega arith,
          x.2,
          omega (arith, length-append (mend r w) l, length-append u (b ∷ l)),
        )

    -- y goes to the place p of the word buffer L, and x is the word then
    abbrev Put : List ℕ → Reading → List ℕ → List ℕ → ℕ → ℕ → List ℕ → Type 0
    Put w q j L y p x =
        Behind
        (let z = in_memory (held_of q j).recv (behind k (word_on (ltb (suc p) word_bytes) (at (length w) (handed_of r w) (held_of q j)) p (set L p y))) in
        tell z.0 (D z.1))
        (worded (ltb (length x) word_bytes) r x q)

    put-now : (w : List ℕ) (q : Reading) (j : List ℕ) (y : ℕ) (u L : List ℕ) → length u < word_bytes → raw_limit ≤ length (held_of q j).recv
        → word_bytes ≤ length (u ++ L) → Put w q j (u ++ L) y (length u) (u ++ y ∷ [])
    put-now w q j y u [] h hj hw = absurd (omega (arith, length-append u []))
    put-now w q j y u (b ∷ l) h hj hw =
        subst
        (λ m. Behind
        (let z = in_memory (held_of q j).recv
        (behind k (word_on (ltb (suc (length u)) word_bytes) (at (length w) (handed_of r w) (held_of q j)) (length u) (set (u ++ b ∷ l) (length u) y))) in
        tell z.0 (D z.1))
        (worded (ltb m word_bytes) r (u ++ y ∷ []) q))
        (let e : suc (length u) ≡ length (u ++ y ∷ []) = omega (arith, length-append u (y ∷ [])) in e)
        (word-now (ltb (suc (length u)) word_bytes) (length w) (handed_of r w) u q j l y b refl h hj hw)

    -- a byte of the group, by what it brings
    group-now : (o : Option ℕ) (w : List ℕ) (q : Reading) (j l : List ℕ) → length w ≤ word_bytes → raw_limit ≤ length (held_of q j).recv
        → word_bytes ≤ length (w ++ l)
        → Behind
        (let x = in_memory (held_of q j).recv (behind k (group_on o (at (length w) (handed_of r w) (held_of q j)) (w ++ l))) in tell x.0 (D x.1))
        (takes r o w q)
    group-now none w q j l h hj hw =
        let c : Memory = locked_with r d f (counts (suc n) 0 (length w) (handed_of r w)) k (held_of q j) (w ++ l) in
        (j, l, ap (λ m. drain owed hand_on eat_byte m c (R [])) (settled w h), h, hj, hw)
    group-now (some y) w q j l h hj hw =
        by_le word_bytes (length w)
        (λ e.
        subst (λ t. Put w q j (w ++ l) y (pick t (length w) 0) (pick t (w ++ y ∷ []) (y ∷ []))) (sym (le-ltb (length w) word_bytes e))
        (put-now w q j y [] (w ++ l) (lit< tt) hj hw))
        (λ e.
        subst (λ t. Put w q j (w ++ l) y (pick t (length w) 0) (pick t (w ++ y ∷ []) (y ∷ []))) (sym (lt-ltb (length w) word_bytes e))
        (put-now w q j y w l e hj hw))

  -- ---- a marker byte
  now-compare : (t : Bool) (f g : Hunting) (n : ℕ) (k : Back) (w : List ℕ) (q : Reading) (j l : List ℕ) → length w ≤ word_bytes
      → raw_limit ≤ length (held_of q j).recv → word_bytes ≤ length (w ++ l)
      → Now
      (let x = compare_on t g (memory_of r d (in_mark f n k w q) j l).st.lane in tell x.0 (D (memory (sub x.1 k) (held_of q j).recv (w ++ l))))
      (compared t g k w q)
  now-compare true f g n k w q j l h hj hw =
      let c : Memory = locked_with r d g (counts 0 0 (length w) (handed_of r w)) k (held_of q j) (w ++ l) in
      (j, l, ap (λ m. drain owed hand_on eat_byte m c (R [])) (settled w h), (lit< tt, h), (hj, hw))
  now-compare false f g n k w q j l h hj hw = ((held_of q j).recv, w ++ l, refl, tt, (hj, hw))

  now-mark : (t : Bool) (f g : Hunting) (n : ℕ) (k : Back) (w : List ℕ) (q : Reading) (j l : List ℕ) → ltb (suc n) 4 ≡ t → length w ≤ word_bytes
      → raw_limit ≤ length (held_of q j).recv → word_bytes ≤ length (w ++ l)
      → Now
      (let x = mark_on t g (memory_of r d (in_mark f n k w q) j l).st.lane in tell x.0 (D (memory (sub x.1 k) (held_of q j).recv (w ++ l))))
      (behind_group t g (suc n) k w q)
  now-mark true f g n k w q j l e h hj hw =
      let c : Memory = locked_with r d g (counts group_bytes (suc n) (length w) (handed_of r w)) k (held_of q j) (w ++ l) in
      (j, l, ap (λ m. drain owed hand_on eat_byte m c (R [])) (settled w h), (ltb-true _ _ e, h), (hj, hw))
  now-mark false f g n k w q j l e h hj hw = now-compare (is_marker g) f g n k w q j l h hj hw

  -- one byte
  shown-step : (a : Sub) (j l : List ℕ) (b : ℕ) → Good a → Room a j l → Now (R (b ∷ []) (memory_of r d a j l)) (step r d a b)
  shown-step (hunting f) j l b g h = now-hunt (is_marker (shift f b)) f (shift f b) j l h.0 h.1
  shown-step (in_group f n k w q) j l b g h =
      let c : Memory = memory_of r d (in_group f n k w q) j l in
      subst
      (λ t. Now
      (let x = in_memory c.recv (eat_by false true t c.st.lane k (w ++ l) b) in tell x.0 (D x.1))
      (step r d (in_group f n k w q) b))
      (sym (lt-ltb n group_bytes g.0))
      (grouping-now f n (pull d k b).1 _ (takes r (pull d k b).0 w q) (ltb (suc n) group_bytes) refl g.0
      (group-now f n (pull d k b).1 (pull d k b).0 w q j l g.1 h.0 h.1))
  shown-step (in_mark f n k w q) j l b g h = now-mark (ltb (suc n) 4) f (shift f b) n k w q j l refl g.1 h.0 h.1
  shown-step (silent f k) j l b g h = (j, l, refl, tt, h)

  -- a byte string
  pub shown-all : (bs : List ℕ) (a : Sub) (j l : List ℕ) → Good a → Room a j l → Now (hear_all (memory_of r d a j l) bs) (hears r d a bs)
  shown-all = stored.shown-bytes (memory_of r d) Good Room owed hand_on eat_byte hand-one (step r d) none-owed shown-step

  locked-use : (f : Hunting) (g m : ℕ) (k : Back) (w : List ℕ) (q : Reading) (j l : List ℕ)
      → in_use (locked_with r d f (counts g m (length w) (handed_of r w)) k (held_of q j) (w ++ l))
      ≡ in_use (locked_with r d f (counts g m (length w) (handed_of r w)) k (held_of q []) (w ++ []))
  locked-use f g m k w q j l =
      λ i. (
        sub (lane (settings true r d) true false f (counts g m (length w) (handed_of r w)) (held-st q j i)) k,
        held-use q j i,
        (take-append-le (length w) w l (omega arith) ∙ sym (take-append-le (length w) w [] (omega arith))) i,
      )

  -- what is in use does not hang on what stands behind it in the buffers
  pub in_use_lem : (a : Sub) (j l : List ℕ) → in_use (memory_of r d a j l) ≡ in_use (memory_of r d a [] [])
  in_use_lem (hunting f) j l = refl
  in_use_lem (in_group f n k w q) j l = locked-use f n 0 k w q j l
  in_use_lem (in_mark f n k w q) j l = locked-use f group_bytes n k w q j l
  in_use_lem (silent f k) j l = refl
