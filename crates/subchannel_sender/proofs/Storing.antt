-- What the sender's loops and calls leave.
-- message-is                       the next message, in an array of a word
-- word-put                         a word: the message and its parity
-- sets-all, sets-copied            stores one after the other; further: what is left of a stream
-- WordsLeft, words-first, words-next, words-done   the loop over a group's words
-- group-put                        one group: the marker, and its bytes through the interleaver
-- push-placed, group-as            a push stays among the cells; a group of the same bytes
-- groups-long                      so many groups
-- GroupsLeft, groups-first, groups-next, groups-turn, groups-done   the loop over groups
-- send-short, send-fits, sent_is   what the call answers and leaves
use Prim.Native.Nat.{ℕ, zero, suc, ◌+◌, ◌-◌, ◌*◌, ◌/◌, ◌≤◌, ◌<◌, min}
use native.Mathlib.Nat.{mod-lt}
use native.Mathlib.Omega.{arith}
use mathlib.Core.Path.{◌≡◌, refl, sym, ◌∙◌, ap, subst}
use mathlib.Core.Bool.{Bool, false, ◌&&◌}
use mathlib.Core.Option.{Option, some, none}
use mathlib.Core.List.{List, [], ◌∷◌, ◌++◌, append_assoc, append-nil}
use lib.ListN.{length, take, drop, replicate, length-append, length-replicate, length-drop, replicate-append-replicate}
use lib.Seq.{take_all, take_at, drop-drop, length-take-le, sets, sets-eq, length-sets}
use lib.Dec.{leb}
use borrow.Author.Tests.{lt-ltb, le-ltb, eq-eqb, le-leb, lt-leb}
use borrow.Rule.Slice.PartMut.{put_mid}
use Rattle.base.specs.Choice.{pick}
use Rattle.base.specs.Written.{Outcome, outcome, refused, write, copied}
use Rattle.base.specs.Written.{Written}
use Rattle.base.specs.Written.{Wrote}
use Rattle.base.specs.Calls.{joined, run, tell}
use Rattle.base.specs.Private.{Laid}
use Rattle.base.proofs.Laid.{laid_then, laid-copied}
use Rattle.base.proofs.Lists.{over, drop-same}
use Rattle.base.proofs.Parts.{tail-is}
use Rattle.base.proofs.Tests.{by_le, and-false}
use Rattle.base.proofs.Writing.{copied-fits, copied-over, write-fits, write-short}
use Rattle.packet_spec.specs.Escape.{flag}
use Rattle.word_spec.specs.Word.{remainder}
use Rattle.word_spec.proofs.Division.{length-remainder}
use Rattle.parity.specs.Calls.{root_limit, word_bytes, made}
use Rattle.interleaver_spec.specs.Running.{depth_limit, size, fresh, sent, push, beyond, pushing}
use Rattle.interleaver_spec.specs.declared.Matrix.{Matrix}
use Rattle.interleaver_spec.proofs.Calling.{wrote}
use Rattle.channel_spec.specs.Sender.{marker}
use Rattle.base.proofs.Parts.{lent, back}
use Rattle.subchannel_spec.specs.Sender.{message_bytes, group_words, group_bytes, word_of, closing_words, words_of, grouped}
use Rattle.subchannel_spec.specs.Sender.{sent as sent-stream}
use Rattle.subchannel_spec.proofs.Received.{joined-append}
use Rattle.subchannel_sender.specs.Sending.{sending, message_of, words_from}
use Rattle.subchannel_sender.specs.Private.{group_length, groups_from, GroupIs}
use Rattle.subchannel_sender.proofs.Laying.{message-long, word-long, four-long, push-long, group-next}
use Rattle.subchannel_sender.proofs.Laying.{filled_messages, groups-count, all_words}

-- the next message stands at the start of an array of a word
pub message-is : (m n : ℕ) (bs : List ℕ) {x : List ℕ} → m ≤ word_bytes → n ≡ min m (length bs) → x ≡ take n bs
    → take m (x ++ drop n (replicate word_bytes flag)) ≡ copied bs (replicate m flag)
message-is m n bs {x} h e f =
    by_le m (length bs)
    (λ g.
    let z : n ≡ m = omega arith in
    let l : length x ≡ m = ap length f ∙ ap (λ k. length (take k bs)) z ∙ length-take-le m bs g in
    take_at x (drop n (replicate word_bytes flag)) m l ∙ f ∙ ap (λ k. take k bs) z
    ∙ sym (copied-over bs (replicate m flag) (omega (arith, length-replicate m flag)) ∙ ap (λ k. take k bs) (length-replicate m flag)))
    (λ g.
    let z : n ≡ length bs = omega arith in
    let a : length (bs ++ replicate (m - length bs) flag) ≡ m = length-append bs _ ∙ (let y = length-replicate (m - length bs) flag in omega arith) in
    let s : drop n (replicate word_bytes flag) ≡ replicate (m - length bs) flag ++ replicate (word_bytes - m) flag =
    ap (λ k. drop k (replicate word_bytes flag)) z ∙ drop-same flag (length bs) word_bytes
    ∙ sym (replicate-append-replicate (m - length bs) (word_bytes - m) flag ∙ ap (λ k. replicate k flag)
    (let y : m - length bs + (word_bytes - m) ≡ word_bytes - length bs = omega arith in y)) in
    (λ i. take m ((f ∙ take_all n bs (omega arith)) i ++ s i))
    ∙ ap (take m) (sym (append_assoc bs (replicate (m - length bs) flag) (replicate (word_bytes - m) flag)))
    ∙ take_at (bs ++ replicate (m - length bs) flag) (replicate (word_bytes - m) flag) m a
    ∙ sym (copied-fits bs (replicate m flag) (omega (arith, length-replicate m flag)) ∙ ap (λ l. bs ++ l) (drop-same flag (length bs) m)))

-- the message x and its parity, one behind the other
word-laid : (r : ℕ) (x o : List ℕ) {o₁ z : List ℕ} {w : Written} → r ≤ root_limit → length x ≡ message_bytes r → word_bytes ≤ length o
    → o₁ ≡ x ++ drop (length x) o → outcome w z ≡ made r x (take (length o₁ - message_bytes r) (drop (message_bytes r) o₁))
    → put_mid (message_bytes r) (length o₁ - message_bytes r) o₁ z ≡ copied (word_of r x) o
word-laid r x o {o₁} {z} {w} hr l k e f =
    let m : ℕ = message_bytes r in
    let p : List ℕ = remainder r x in
    let lp : length p ≡ r = length-remainder r x in
    let rest : List ℕ = drop (length x) o in
    let lr : length rest ≡ length o - length x = length-drop (length x) o in
    let made-is : outcome w z ≡ outcome (Wrote (length p)) (copied p rest) =
    f ∙ ap (made r x) (lent x rest o₁ m e l)
    ∙ (λ i. pick (le-ltb root_limit r hr i) (refused 30 rest) (pick (eq-eqb (length x) m l i) (write p rest) (refused 31 rest))) ∙ write-fits p rest
    (omega arith) in
    back x rest o₁ m e l z
    ∙ ap (λ y. x ++ y) (ap (λ (y : Outcome). y.output) made-is ∙ copied-fits p rest (omega arith) ∙ ap (λ y. p ++ y) (drop-drop (length p) (length x) o))
    ∙ sym (append_assoc x p (drop (length x + length p) o))
    ∙ (λ i. word_of r x ++ drop (sym (length-append x p) i) o)
    ∙ sym (copied-fits (word_of r x) o (omega (arith, length-append x p)))

-- .. where x is the start of an array that holds the next message, of m bytes
pub word-put : (r m : ℕ) (bs a o : List ℕ) {x z : List ℕ} {w : Written} → r ≤ root_limit → m ≡ message_bytes r → take (message_bytes r) a ≡ message_of r bs
    → word_bytes ≤ length o → x ≡ take m a → outcome w z ≡ made r (take m a) (take (length (x ++ drop m o) - m) (drop m (x ++ drop m o)))
    → put_mid m (length (x ++ drop m o) - m) (x ++ drop m o) z ≡ copied (word_of r (message_of r bs)) o
word-put r m bs a o {x} {z} {w} hr s q k =
    subst
    (λ m. x ≡ take m a → outcome w z ≡ made r (take m a) (take (length (x ++ drop m o) - m) (drop m (x ++ drop m o)))
    → put_mid m (length (x ++ drop m o) - m) (x ++ drop m o) z ≡ copied (word_of r (message_of r bs)) o)
    (sym s)
    (λ e f.
    let l : length (take (message_bytes r) a) ≡ message_bytes r = ap length q ∙ message-long r bs in
    word-laid r (take (message_bytes r) a) o hr l k (λ i. e i ++ drop (sym l i) o) f ∙ ap (λ y. copied (word_of r y) o) q)

-- ---- stores one after the other
pub sets-all : (l xs : List ℕ) → length xs ≡ length l → sets l 0 xs ≡ xs
sets-all l xs h =
    sets-eq xs l 0 (omega arith) ∙ ap (λ y. xs ++ y) (over l (0 + length xs) (omega arith)) ∙ append-nil xs

pub sets-copied : (l xs : List ℕ) → length xs ≤ length l → sets l 0 xs ≡ copied xs l
sets-copied l xs h =
    sets-eq xs l 0 (omega arith) ∙ ap (λ n. xs ++ drop n l) (let z : 0 + length xs ≡ length xs = omega arith in z) ∙ sym (copied-fits xs l h)

-- what is left of a stream behind so many bytes, or behind all
pub further : (bs : List ℕ) (a n : ℕ) → n ≡ min (length bs) a → take (length bs - n) (drop n bs) ≡ drop a bs
further bs a n e =
    tail-is n bs
    ∙ by_le a (length bs) (λ l. ap (λ k. drop k bs) (let z : n ≡ a = omega arith in z)) (λ l. over bs n (omega arith) ∙ sym (over bs a (omega arith)))

-- ---- a group's words
pub record WordsLeft (r : ℕ) (bs rest group : List ℕ) (i : ℕ) : Type 0 where
  pub left : ℕ
  pub many : i + left ≡ 4
  pub long : length group ≡ 4 * word_bytes
  pub laid : sets group (word_bytes * i) (joined (words_from r left rest)) ≡ joined (words_from r 4 bs)

pub words-first : (r : ℕ) → r ≤ root_limit → (bs group : List ℕ) → length group ≡ 4 * word_bytes → WordsLeft r bs bs group 0
words-first r h bs group l =
    record { left = 4; many = refl; long = l; laid = sets-all group (joined (words_from r 4 bs)) (four-long r h bs ∙ sym l) }

pub words-next : (r : ℕ) → r ≤ root_limit → (bs rest group : List ℕ) (i n : ℕ) {y : List ℕ} → WordsLeft r bs rest group i → i < 4
    → n ≡ min (length rest) (message_bytes r)
    → y ≡ copied (word_of r (message_of r rest)) (take (4 * word_bytes - word_bytes * i) (drop (word_bytes * i) group))
    → WordsLeft r bs (take (length rest - n) (drop n rest)) (put_mid (word_bytes * i) (4 * word_bytes - word_bytes * i) group y) (i + 1)
words-next r hr bs rest group i n {y} w h en ey = go w.left refl
  where
    go : (a : ℕ) → w.left ≡ a
        → WordsLeft r bs (take (length rest - n) (drop n rest)) (put_mid (word_bytes * i) (4 * word_bytes - word_bytes * i) group y) (i + 1)
    go zero q = absurd (let z = w.many in omega arith)
    go (suc k) q =
        let at : ℕ = word_bytes * i in
        let x : List ℕ = word_of r (message_of r rest) in
        let lx : length x ≡ word_bytes = word-long r hr rest in
        let lg = w.long in
        let lm = w.many in
        let after : List ℕ = put_mid at (4 * word_bytes - at) group y in
        let v : y ≡ copied x (take (length group - at) (drop at group)) = ey ∙ ap (λ b. copied x (take (b - at) (drop at group))) (sym lg) in
        let p : Laid group at x after (at + length x) =
        subst (λ b. Laid group at x (put_mid at (b - at) group y) (at + length x)) lg (laid-copied (omega arith) v) in
        record {
          left = k;
          many = omega arith;
          long = ap length p.holds ∙ length-sets group at x ∙ lg;
          laid = (λ j. sets after ((let z : word_bytes * (i + 1) ≡ at + length x = omega arith in z) j)
              (joined (words_from r k (further rest (message_bytes r) n en j))))
              ∙ laid_then p (joined (words_from r k (drop (message_bytes r) rest)))
              ∙ ap (λ z. sets group at (joined (words_from r z rest))) (sym q) ∙ w.laid;
        }

pub words-done : (r : ℕ) (bs rest group : List ℕ) (i : ℕ) → WordsLeft r bs rest group i → 4 ≤ i → group ≡ joined (words_from r 4 bs)
words-done r bs rest group i w h =
    let z : w.left ≡ 0 = let y = w.many in omega arith in
    ap (λ a. sets group (word_bytes * i) (joined (words_from r a rest))) (sym z) ∙ w.laid

-- ---- groups
pub push-placed : (d : ℕ) (bs : List ℕ) (m : Matrix) → beyond d m.place ≡ false → beyond d (run (push d) m bs).1.place ≡ false
push-placed d [] m e = e
push-placed d (b ∷ bs) m e =
    ap (λ (x : Matrix). beyond d x.place) (state (push d m b).0 (run (push d) (push d m b).1 bs)) ∙ push-placed d bs (push d m b).1
    (push-by d m b e)
  where
    state : (o : Option ℕ) (x : List ℕ × Matrix) → (tell o x).1 ≡ x.1
    state none x = refl
    state (some y) x = refl

    push-by : (d : ℕ) (m : Matrix) (b : ℕ) → beyond d m.place ≡ false → beyond d (push d m b).1.place ≡ false
    push-by d m b e =
        by_le 2 d
        (λ h.
        let l : (sent d m b).1.place < size d = mod-lt (m.place + 1) (omega arith) in
        ap (λ (t : Bool). beyond d (pick {A = Option ℕ × Matrix} t (some b, m) (sent d m b)).1.place) (le-ltb d 2 h)
        ∙ ap (λ (t : Bool). leb 2 d && t) (lt-leb (size d) (sent d m b).1.place l) ∙ and-false (leb 2 d))
        (λ h. ap (λ (t : Bool). beyond d (pick {A = Option ℕ × Matrix} t (some b, m) (sent d m b)).1.place) (lt-ltb d 2 h) ∙ e)

-- one group, from what its calls leave
pub group-put : (d : ℕ) (m : Matrix) (x out : List ℕ) {o₁ z : List ℕ} {w : Written} {m' : Matrix} → d ≤ depth_limit → beyond d m.place ≡ false
    → length x ≡ group_bytes → group_length ≤ length out → o₁ ≡ marker ++ drop 4 out
    → ◌≡◌ {A = Outcome × Matrix} (outcome w z, m') (pushing d m x (take (length o₁ - 4) (drop 4 o₁)))
    → GroupIs d m x out m' (put_mid 4 (length o₁ - 4) o₁ z)
group-put d m x out {o₁} {z} {w} {m'} hd b l k e f =
    let xs : List ℕ = (run (push d) m x).0 in
    let lx : length xs ≡ group_bytes = push-long d m x ∙ l in
    let rest : List ℕ = drop 4 out in
    let lr : length rest ≡ length out - 4 = length-drop 4 out in
    let is : ◌≡◌ {A = Outcome × Matrix} (outcome w z, m') (outcome (Wrote (length xs)) (copied xs rest), (run (push d) m x).1) =
    f ∙ ap (pushing d m x) (lent marker rest o₁ 4 e refl) ∙ sym (wrote d m.place m (run (push d) m x) rest b hd (omega arith)) in (
      ap (λ (y : Outcome × Matrix). y.1) is,
      back marker rest o₁ 4 e refl z
          ∙ ap (λ y. marker ++ y) (ap (λ (y : Outcome × Matrix). y.0.output) is ∙ copied-fits xs rest (omega arith) ∙ ap (λ y. xs ++ y)
          (drop-drop (length xs) 4 out))
          ∙ sym (append_assoc marker xs (drop (4 + length xs) out)) ∙ (λ i. (marker ++ xs) ++ drop (sym (length-append marker xs) i) out)
          ∙ sym (copied-fits (marker ++ xs) out (omega (arith, length-append marker xs))),
    )

-- .. of other bytes that are the same
pub group-as : (d : ℕ) (m : Matrix) (out : List ℕ) {x y : List ℕ} {m' : Matrix} {out' : List ℕ} → x ≡ y → GroupIs d m x out m' out' → GroupIs d m y out m' out'
group-as d m out {m' = m'} {out' = out'} e g = subst (λ z. GroupIs d m z out m' out') e g

module _ (r d : ℕ) (hr : r ≤ root_limit) where
  abbrev four : List ℕ → List ℕ
  four bs = joined (words_from r 4 bs)

  pub groups-next : (k : ℕ) (m : Matrix) (bs : List ℕ)
      → groups_from r d (suc k) m bs
      ≡ (marker ++ (run (push d) m (four bs)).0) ++ groups_from r d k (run (push d) m (four bs)).1 (drop (4 * message_bytes r) bs)
  groups-next k m bs =
      let a : ℕ = message_bytes r in
      let n : suc k * group_words ≡ suc (suc (suc (suc (k * group_words)))) = omega arith in
      let q : drop a (drop a (drop a (drop a bs))) ≡ drop (4 * a) bs =
      ap (λ x. drop a (drop a x)) (drop-drop a a bs) ∙ ap (drop a) (drop-drop a (a + a) bs) ∙ drop-drop a (a + a + a) bs
      ∙ ap (λ y. drop y bs) (let z : a + a + a + a ≡ 4 * a = omega arith in z) in
      ap (λ x. grouped (suc k) (run (push d) m (joined (words_from r x bs))).0) n
      ∙ ap (λ x. grouped (suc k) (run (push d) m x).0)
      (joined-append (words_from r 4 bs) (words_from r (k * group_words) (drop a (drop a (drop a (drop a bs)))))
      ∙ ap (λ x. four bs ++ joined (words_from r (k * group_words) x)) q)
      ∙ group-next d k m (four bs) (joined (words_from r (k * group_words) (drop (4 * a) bs))) (four-long r hr bs)

  pub groups-long : (g : ℕ) (m : Matrix) (bs : List ℕ) → length (groups_from r d g m bs) ≡ g * group_length
  groups-long zero m bs = refl
  groups-long (suc g) m bs =
      let x : List ℕ = (run (push d) m (four bs)).0 in
      let y : List ℕ = groups_from r d g (run (push d) m (four bs)).1 (drop (4 * message_bytes r) bs) in
      let lx : length x ≡ group_bytes = push-long d m (four bs) ∙ four-long r hr bs in
      let ly : length y ≡ g * group_length = groups-long g (run (push d) m (four bs)).1 (drop (4 * message_bytes r) bs) in
      ap length (groups-next g m bs) ∙ length-append (marker ++ x) y ∙ (let z = length-append marker x in omega arith)

  -- what the loop has left, g groups in all
  pub record GroupsLeft (g : ℕ) (bs out₀ rest : List ℕ) (m : Matrix) (out : List ℕ) (i : ℕ) : Type 0 where
    pub left : ℕ
    pub many : i + left ≡ g
    pub same : length out ≡ length out₀
    pub placed : beyond d m.place ≡ false
    pub laid : sets out (group_length * i) (groups_from r d left m rest) ≡ sets out₀ 0 (groups_from r d g fresh bs)

  pub groups-first : (g : ℕ) (bs out : List ℕ) {m : Matrix} → m ≡ fresh → GroupsLeft g bs out bs m out 0
  groups-first g bs out e =
      subst (λ m. GroupsLeft g bs out bs m out 0) (sym e) (record {
        left = g;
        many = omega arith;
        same = refl;
        placed = by_le 2 d (λ h. rw (le-leb 2 d h, lt-leb (size d) 0 (omega arith)) refl) (λ h. rw (lt-leb 2 d h) refl);
        laid = ap (λ n. sets out n (groups_from r d g fresh bs)) (let z : group_length * 0 ≡ 0 = omega arith in z);
      })

  pub groups-turn : (g : ℕ) (bs out₀ rest out : List ℕ) (i n : ℕ) (m : Matrix) {y : List ℕ} {m' : Matrix} → GroupsLeft g bs out₀ rest m out i → i < g
      → g * group_length ≤ length out₀ → n ≡ min (length rest) (4 * message_bytes r)
      → GroupIs d m (four rest) (take (length out - group_length * i) (drop (group_length * i) out)) m' y
      → GroupsLeft g bs out₀ (take (length rest - n) (drop n rest)) m' (put_mid (group_length * i) (length out - group_length * i) out y) (i + 1)
  groups-turn g bs out₀ rest out i n m {y} {m'} l h k en e = go l.left refl
    where
      go : (a : ℕ) → l.left ≡ a
          → GroupsLeft g bs out₀ (take (length rest - n) (drop n rest)) m' (put_mid (group_length * i) (length out - group_length * i) out y) (i + 1)
      go zero q = absurd (let z = l.many in omega arith)
      go (suc a) q =
          let at : ℕ = group_length * i in
          let fw : List ℕ = four rest in
          let x : List ℕ = marker ++ (run (push d) m fw).0 in
          let lx : length x ≡ group_length = length-append marker (run (push d) m fw).0 ∙
          (let z = push-long d m fw ∙ four-long r hr rest in omega arith) in
          let lm = l.many in
          let p : Laid out at x (put_mid at (length out - at) out y) (at + length x) = laid-copied (let z = l.same in omega arith) e.1 in
          record {
            left = a;
            many = omega arith;
            same = ap length p.holds ∙ length-sets out at x ∙ l.same;
            placed = ap (λ (z : Matrix). beyond d z.place) e.0 ∙ push-placed d fw m l.placed;
            laid = (λ j. sets (put_mid at (length out - at) out y) ((let z : group_length * (i + 1) ≡ at + length x = omega arith in z) j)
                (groups_from r d a (e.0 j) (further rest (4 * message_bytes r) n en j)))
                ∙ laid_then p (groups_from r d a (run (push d) m fw).1 (drop (4 * message_bytes r) rest))
                ∙ ap (sets out at) (sym (groups-next a m rest)) ∙ ap (λ z. sets out at (groups_from r d z m rest)) (sym q) ∙ l.laid;
          }

  pub groups-done : (g : ℕ) (bs out₀ rest out : List ℕ) (i : ℕ) (m : Matrix) → GroupsLeft g bs out₀ rest m out i → g ≤ i → g * group_length ≤ length out₀
      → out ≡ copied (groups_from r d g fresh bs) out₀
  groups-done g bs out₀ rest out i m l h k =
      let z : l.left ≡ 0 = let y = l.many in omega arith in
      ap (λ a. sets out (group_length * i) (groups_from r d a m rest)) (sym z) ∙ l.laid
      ∙ sets-copied out₀ (groups_from r d g fresh bs) (let y = groups-long g fresh bs in omega arith)

-- ---- the call
module _ (r d : ℕ) (hr : r ≤ root_limit) (hd : d ≤ depth_limit) (bs out : List ℕ) {g : ℕ}
    (e : g ≡ (filled_messages r d hr bs + closing_words d + 3) / group_words) where
  pub sent_is : groups_from r d g fresh bs ≡ sent-stream r d bs
  sent_is =
      let c = groups-count r d hr bs in
      let a : length (words_of r d bs) / group_words ≡ g = omega arith in
      sym
      (ap (λ n. grouped n (run (push d) fresh (joined (words_of r d bs))).0) a
      ∙ ap (λ ws. grouped g (run (push d) fresh (joined ws)).0) (all_words r d hr bs)
      ∙ ap (λ n. grouped g (run (push d) fresh (joined (words_from r n bs))).0)
      (let z : group_words * ((filled_messages r d hr bs + closing_words d + 3) / group_words) ≡ g * group_words = omega arith in z))

  long : length (sent-stream r d bs) ≡ g * group_length
  long = ap length (sym sent_is) ∙ groups-long r d hr g fresh bs

  within : write (sent-stream r d bs) out ≡ sending r d bs out
  within =
      λ i. pick (sym (le-ltb root_limit r hr) i) (refused 30 out) (pick (sym (le-ltb depth_limit d hd) i) (refused 32 out) (write (sent-stream r d bs) out))

  pub send-short : length out / group_length < g → refused 23 out ≡ sending r d bs out
  send-short h = sym (write-short (sent-stream r d bs) out (omega (arith, long))) ∙ within

  pub send-fits : {after : List ℕ} → g ≤ length out / group_length → after ≡ copied (groups_from r d g fresh bs) out
      → outcome (Wrote (group_length * g)) after ≡ sending r d bs out
  send-fits h f =
      (λ i. outcome (Wrote ((let z : group_length * g ≡ length (sent-stream r d bs) = omega (arith, long) in z) i)) ((f ∙ ap (λ x. copied x out) sent_is) i))
      ∙ sym (write-fits (sent-stream r d bs) out (omega (arith, long))) ∙ within
