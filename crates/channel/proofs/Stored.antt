-- Of any receiver that stores words, as it is called: the opportunistic channel's, and a fixed sub-channel's.
-- hand-run               the rest of a stored word is what the frame reader makes of it in one call
-- taken-within, fine-next, read_more, read-said   .. by what such a call gave: no more is taken than there is, and it goes on, or has an answer
-- drained                all of a stored word, as the receiver without a limit reads it
-- Now, shown-bytes       what is shown of a byte, as the receiver without a limit has it, is shown of a byte string
use Prim.Native.Nat.{ℕ, zero, suc, ◌+◌, ◌-◌, ◌≤◌, ◌<◌}
use native.Mathlib.Omega.{arith}
use native.Mathlib.Numerals.{add-one}
use native.Mathlib.Nat.{add-zero, sub-zero}
use mathlib.Core.Path.{◌≡◌, refl, sym, ◌∙◌, ap, subst}
use mathlib.Core.List.{List, [], ◌∷◌, ◌++◌, map, append_assoc}
use mathlib.Core.Option.{Option, some, none}
use lib.ListN.{length, take, drop, get_or, length-append, length-drop, take-append-drop}
use lib.Seq.{drop-cons, append_snoc, get_or-append_seam, length-take-le}
use Rattle.base.specs.Calls.{tell, and_then, unless, drain, rest, all, hear, owes_none, hands_none}
use Rattle.base.proofs.Above.{Along, above}
use Rattle.base.proofs.Calls.{none-owed, FitsBy, fits, hear-hand, inv-hear, all_append}
use Rattle.packet_spec.specs.Contents.{raw_limit}
use Rattle.packet_spec.specs.Frame.{Told, judged}
use Rattle.packet_spec.specs.declared.Judged.{Judged}
use Rattle.stream.specs.declared.frame.Read.{Read}
use Rattle.std.specs.Prelude.{None, Some}
use Rattle.stream.specs.Meaning.{Reading, read, reads}
use Rattle.stream.specs.Call.{Held, held, take_byte, read_on, read_call, ReadIs, held_of, answered as frame_answered, Fine as FineFrame}
use Rattle.stream.proofs.Cutting.{read-agrees}
use Rattle.stream.proofs.Fine.{fine-take}
use Rattle.stream.proofs.Shown.{shown-byte, tell-end}
use Rattle.channel_spec.specs.Given.{Event, said, each_byte}
use Rattle.channel.specs.Call.{as_event}

-- ---- what the frame reader gave
fits-within : (o : Option Told) (n : ℕ) (g : Held) (bs : List ℕ) → FitsBy owes_none hands_none take_byte none-owed o n g bs → n ≤ length bs
fits-within none n g bs f = omega (arith, f.0)
fits-within (some a) n g bs f = f

fits-none : (o : Option Told) (n : ℕ) (g : Held) (bs : List ℕ) → FitsBy owes_none hands_none take_byte none-owed o n g bs → o ≡ none → n ≡ length bs
fits-none none n g bs f e = f.0
fits-none (some a) n g bs f e = absurd (let z : ◌≡◌ {A = ℕ} 0 1 = cc in omega arith)

is_none : (o : Option Told) → frame_answered o ≡ None → o ≡ none
is_none none e = refl
is_none (some a) e = absurd (let z : ◌≡◌ {A = ℕ} 0 1 = cc in omega arith)

said-is : (o : Option Told) (j : Judged) → frame_answered o ≡ Some j → (t : Told) × (o ≡ some t) × (j ≡ judged t)
said-is none j e = absurd (let z : ◌≡◌ {A = ℕ} 0 1 = cc in omega arith)
said-is (some t) j e = (t, refl, cc)

tell-said : {S T : Type 0} (o : Option Told) (x : List Told × S) (t : T)
    → tell (as_event o) (map said x.0, t) ≡ (map said (tell o x).0, t)
tell-said none x t = refl
tell-said (some a) x t = refl

-- `at h g` is the receiver where a whole word stands in its word buffer, h of the m message bytes are handed on, and g is the frame reader
module _ {M : Type 0} (owed : M → ℕ) (hand_on : M → Option Event × M) (eat_byte : M → ℕ → Option Event × M)
    (hand-one : (c : M) (n : ℕ) → owed c ≡ suc n → owed (hand_on c).1 ≡ n) (m : ℕ) (word : List ℕ) (at : ℕ → Held → M)
    (owes_at : (h : ℕ) (g : Held) → owed (at h g) ≡ m - h)
    (hands-at : (h : ℕ) (g : Held) → hand_on (at h g) ≡ (as_event (take_byte g (get_or word h 0)).0, at (suc h) (take_byte g (get_or word h 0)).1)) where
  abbrev call : M → List ℕ → Option Event × ℕ × M
  call = hear owed hand_on eat_byte

  -- ---- in one call
  module _ (bs : List ℕ) where
    -- the call with h message bytes handed on, unless the frame reader has answered
    abbrev from : ℕ → Option Told → Held → Option Event × ℕ × M
    from h o g = unless (as_event o) 0 (at h g) (call (at h g) bs)

    -- the same behind what it made of the bytes from the h-th on
    abbrev onward : ℕ → Option Told × ℕ × Held → Option Event × ℕ × M
    onward h r = from (h + r.1) r.0 r.2

    -- this message byte of the word is b
    abbrev Stored : ℕ → ℕ → Type 0
    Stored h b = (h < m) × (get_or word h 0 ≡ b)

    stored : (n h : ℕ) → h + n ≡ m → m ≤ length word → Along (λ i b. suc i) Stored h (take n (drop h word))
    stored zero h e l = tt
    stored (suc n) h e l =
        subst (λ v. Along (λ i b. suc i) Stored h (take (suc n) v)) (sym (drop-cons word h 0 (omega arith)))
        ((omega arith, refl), stored n (suc h) (omega arith) l)

    hand-run : (n h : ℕ) (g : Held) → h + n ≡ m → m ≤ length word → call (at h g) bs ≡ onward h (read_on g (take n (drop h word)))
    hand-run n h g e l =
        above owes_none hands_none take_byte none-owed (λ i b. suc i) Stored (λ i x xs. call (at i x) bs) (λ i xs. onward i) (λ x. x)
        (λ i xs x j. call (at (add-zero i j) x) bs)
        (λ i b xs r. let q : i + suc r.1 ≡ suc i + r.1 = omega arith in ap (λ j. from j r.0 r.2) q) (λ i x q xs z. absurd (omega (arith, z)))
        (λ i x b xs z v.
        hear-hand owed hand_on eat_byte hand-one (at i x) (m - suc i) bs (owes_at i x ∙ omega (arith, v.0))
        ∙ ap (λ (y : Option Event × M). unless y.0 0 y.1 (call y.1 bs)) (hands-at i x)
        ∙ (λ j. from (sym (add-one i) j) (take_byte x (v.1 j)).0 (take_byte x (v.1 j)).1))
        g (take n (drop h word)) h (stored n h e l)

  module _ (h : ℕ) (g : Held) (some_left : h < m) (room : m ≤ length word) (fine : FineFrame g) where
    left : List ℕ
    left = take (m - h) (drop h word)

    got : Option Told × ℕ × Held
    got = read_on g left

    left-length : length left ≡ m - h
    unfolding left
    left-length = length-take-le (m - h) (drop h word) (omega (arith, length-drop h word, room))

    got-fits : FitsBy owes_none hands_none take_byte none-owed got.0 got.1 got.2 left
    unfolding got
    got-fits = fits owes_none hands_none take_byte none-owed g left

    module _ {r : Read} {l' : List ℕ} (e : ReadIs (read_call g (take (m - h) (drop h word))) r l') where
      call-is : read_call g (take (m - h) (drop h word)) ≡ got
      unfolding got left
      call-is = read-agrees g _ fine

      heard-is : r.heard ≡ frame_answered got.0
      heard-is = ap (λ (x : Read). x.heard) e.0 ∙ ap (λ x. frame_answered x.0) call-is

      taken_is : r.taken ≡ got.1
      taken_is = ap (λ (x : Read). x.taken) e.0 ∙ ap (λ x. x.1) call-is

      held-is : held r.frame l' ≡ got.2
      held-is = λ i. held ((ap (λ (x : Read). x.frame) e.0 ∙ ap (λ x. x.2.st) call-is) i) ((e.1 ∙ ap (λ x. x.2.recv) call-is) i)

      pub taken-within : h + r.taken ≤ m
      taken-within = omega (arith, fits-within got.0 got.1 got.2 left got-fits, left-length, taken_is, some_left)

      pub fine-next : FineFrame (held r.frame l')
      unfolding got
      fine-next =
          subst FineFrame (sym held-is)
          (inv-hear owes_none hands_none take_byte none-owed FineFrame (λ x q z i. absurd (omega (arith, z))) (λ x b z i. fine-take x b i) g left fine)

      abbrev next : M
      next = at (h + r.taken) (held r.frame l')

      runs : (bs : List ℕ) {a : Option Told} → got.0 ≡ a → call (at h g) bs ≡ unless (as_event a) 0 next (call next bs)
      unfolding got left
      runs bs q =
          hand-run bs (m - h) h g (omega (arith, some_left)) room
          ∙ (λ i. unless (as_event (q i)) 0 (at (h + sym taken_is i) (sym held-is i)) (call (at (h + sym taken_is i) (sym held-is i)) bs))

      -- the frame reader wants more: all is handed on, and the call goes on
      pub read_more : r.heard ≡ None → (h + r.taken ≡ m) × ((bs : List ℕ) → call (at h g) bs ≡ call next bs)
      read_more w =
          let q : got.0 ≡ none = is_none got.0 (sym heard-is ∙ w) in
          (omega (arith, fits-none got.0 got.1 got.2 left got-fits q, left-length, taken_is, some_left), λ bs. runs bs q)

      -- it has an answer: the call ends with it
      pub read-said : (j : Judged) → r.heard ≡ Some j
          → (t : Told) × (j ≡ judged t) × ((bs : List ℕ) → call (at h g) bs ≡ (some (said t), 0, next))
      read-said j w = let q = said-is got.0 j (sym heard-is ∙ w) in (q.0, q.2, λ bs. runs bs q.1)

  -- ---- all of it, where nothing else comes
  abbrev alone : ℕ → M → List Event × M
  alone n c = drain owed hand_on eat_byte n c (rest owed hand_on eat_byte [])

  -- the message bytes v, behind those handed on, u, are handed on
  drained-from : (v u z : List ℕ) (q : Reading) (j : List ℕ) → word ≡ u ++ (v ++ z) → length u + length v ≡ m → raw_limit ≤ length (held_of q j).recv
      → (i : List ℕ) × (alone (length v) (at (length u) (held_of q j)) ≡ (map said (reads q v).0, at m (held_of (reads q v).1 i)))
      × (raw_limit ≤ length (held_of (reads q v).1 i).recv)
  drained-from [] u z q j w e h = let n : length u ≡ m = omega arith in (j, (λ a. ([], at (n a) (held_of q j))), h)
  drained-from (x ∷ v) u z q j w e h =
      let s = shown-byte q j x h in
      let t = drained-from v (u ++ x ∷ []) z (read q x).1 s.0 (w ∙ sym (append_snoc u x (v ++ z))) (omega (arith, e, length-append u (x ∷ []))) s.2 in
      let n : suc (length u) ≡ length (u ++ x ∷ []) = omega (arith, length-append u (x ∷ [])) in
      let b : get_or word (length u) 0 ≡ x = ap (λ l. get_or l (length u) 0) w ∙ get_or-append_seam u x (v ++ z) 0 in
      let end : (reads q (x ∷ v)).1 ≡ (reads (read q x).1 v).1 = tell-end (read q x).0 (reads (read q x).1 v) in (
        t.0,
        ap (λ (y : Option Event × M). tell y.0 (alone (length v) y.1)) (hands-at (length u) (held_of q j))
            ∙ (λ a. let y : Option Told × Held = (ap (take_byte (held_of q j)) b ∙ s.1) a in tell (as_event y.0) (alone (length v) (at (n a) y.1)))
            ∙ ap (tell (as_event (read q x).0)) t.1
            ∙ tell-said (read q x).0 (reads (read q x).1 v) _
            ∙ (λ a. (map said (reads q (x ∷ v)).0, at m (held_of (sym end a) t.0))),
        subst (λ y. raw_limit ≤ length (held_of y t.0).recv) (sym end) t.2,
      )

  -- the word w stands at the start of the word buffer
  pub drained : (w k : List ℕ) (q : Reading) (j : List ℕ) → word ≡ w ++ k → m ≤ length w → raw_limit ≤ length (held_of q j).recv
      → (i : List ℕ) × (alone (owed (at 0 (held_of q j))) (at 0 (held_of q j)) ≡ (map said (reads q (take m w)).0, at m (held_of (reads q (take m w)).1 i)))
      × (raw_limit ≤ length (held_of (reads q (take m w)).1 i).recv)
  drained w k q j e l h =
      let n : length (take m w) ≡ m = length-take-le m w l in
      let p : word ≡ take m w ++ (drop m w ++ k) = e ∙ ap (λ y. y ++ k) (sym (take-append-drop m w)) ∙ append_assoc (take m w) (drop m w) k in
      let s = drained-from (take m w) [] (drop m w ++ k) q j p (omega arith) h in
      (s.0, ap (λ x. alone x (at 0 (held_of q j))) (owes_at 0 (held_of q j) ∙ sub-zero m ∙ sym n) ∙ s.1, s.2)

-- ---- `memory_of s j k` is the receiver as it is called, in the state s of the one without a limit, with the bytes j and k behind those in use
module _ {S M : Type 0} (memory_of : S → List ℕ → List ℕ → M) (Good : S → Type 0) (Room : S → List ℕ → List ℕ → Type 0) where
  -- what is shown: x are the answers and the memory, y those of the receiver without a limit
  abbrev pub Now : List Event × M → List Event × S → Type 0
  Now x y = (j : List ℕ) × (k : List ℕ) × (x ≡ (y.0, memory_of y.1 j k)) × Good y.1 × Room y.1 j k

  module _ (owed : M → ℕ) (hand_on : M → Option Event × M) (eat_byte : M → ℕ → Option Event × M)
      (hand-one : (c : M) (n : ℕ) → owed c ≡ suc n → owed (hand_on c).1 ≡ n) (step : S → ℕ → List Event × S)
      (settled : (s : S) (j k : List ℕ) → Good s → owed (memory_of s j k) ≡ 0)
      (shown-byte : (s : S) (j k : List ℕ) (b : ℕ) → Good s → Room s j k → Now (rest owed hand_on eat_byte (b ∷ []) (memory_of s j k)) (step s b)) where
    all_rest : (s : S) (j k bs : List ℕ) → Good s → all owed hand_on eat_byte (memory_of s j k) bs ≡ rest owed hand_on eat_byte bs (memory_of s j k)
    all_rest s j k bs g = ap (λ n. drain owed hand_on eat_byte n (memory_of s j k) (rest owed hand_on eat_byte bs)) (settled s j k g)

    pub shown-bytes : (bs : List ℕ) (s : S) (j k : List ℕ) → Good s → Room s j k
        → Now (all owed hand_on eat_byte (memory_of s j k) bs) (each_byte step s bs)
    shown-bytes [] s j k g h = (j, k, all_rest s j k [] g, g, h)
    shown-bytes (b ∷ bs) s j k g h =
        let x = shown-byte s j k b g h in
        let y = shown-bytes bs (step s b).1 x.0 x.1 x.3 x.4 in
        let e : all owed hand_on eat_byte (memory_of s j k) (b ∷ []) ≡ ((step s b).0, memory_of (step s b).1 x.0 x.1) = all_rest s j k (b ∷ []) g ∙ x.2 in (
          y.0,
          y.1,
          all_append owed hand_on eat_byte hand-one (memory_of s j k) (b ∷ []) bs
              ∙ (λ i. and_then (e i) (λ c. all owed hand_on eat_byte c bs))
              ∙ (λ i. ((step s b).0 ++ (y.2 i).0, (y.2 i).1)),
          y.3,
          y.4,
        )
