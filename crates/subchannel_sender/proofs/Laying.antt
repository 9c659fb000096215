-- What is sent, word by word and group by group.
-- message-long, word-long, message-full, message-part   a message, a word: their bytes
-- all_words                   the words that are sent are the next ones of the stream, as many as there are
-- filled_messages, groups-count, four-long, push-long   how many messages and groups, and how long
-- group-next                  a group: the marker, and then its bytes through the interleaver
use Prim.Native.Nat.{ℕ, zero, suc, ◌+◌, ◌-◌, ◌*◌, ◌/◌, ◌≤◌}
use native.Mathlib.Nat.{suc-mul, sub-zero, le_of_suc-le-suc}
use native.Mathlib.Omega.{arith}
use mathlib.Core.Path.{◌≡◌, refl, sym, ◌∙◌, ap}
use mathlib.Core.List.{List, [], ◌∷◌, ◌++◌, map, append_assoc, map-append}
use lib.ListN.{length, take, drop, replicate, length-append, length-replicate, length-drop, length-map, take-append-drop, replicate-append-replicate}
use lib.Seq.{take_at, drop_at, take-append-le, drop-append-le, length-take-le}
use Rattle.base.specs.Calls.{joined, run}
use Rattle.base.proofs.Calls.{run-append}
use Rattle.base.proofs.Lists.{over, drop-same, map_same}
use Rattle.base.proofs.Tests.{by_le}
use Rattle.base.proofs.Writing.{copied-fits, copied-over}
use Rattle.packet_spec.specs.Escape.{flag}
use Rattle.word_spec.specs.Word.{remainder}
use Rattle.word_spec.proofs.Division.{length-remainder}
use Rattle.parity.specs.Calls.{root_limit}
use Rattle.interleaver_spec.specs.Running.{sent, push}
use Rattle.interleaver_spec.specs.declared.Matrix.{Matrix}
use Rattle.interleaver_spec.proofs.Calling.{passes, deeper}
use Rattle.interleaver_spec.proofs.Pushing.{sent-length}
use Rattle.channel_spec.specs.Sender.{marker, word_bytes}
use Rattle.subchannel_spec.specs.Sender.{message_bytes, group_words, group_bytes, word_of, missing, filled, cut_up, messages_of}
use Rattle.subchannel_spec.specs.Sender.{flag_word, closing_words, completing, pushed, words_of, grouped}
use Rattle.channel_spec.proofs.Messages.{filled-multiple}
use Rattle.subchannel_sender.specs.Sending.{message_of, words_from}

-- copying that fills all there is
module _ (r : ℕ) where
  abbrev m : ℕ
  m = message_bytes r

  -- enough bytes, or all that are left and flags
  pub message-full : (bs : List ℕ) → m ≤ length bs → message_of r bs ≡ take m bs
  message-full bs h =
      copied-over bs (replicate m flag) (omega (arith, length-replicate m flag)) ∙ ap (λ n. take n bs) (length-replicate m flag)

  pub message-part : (bs : List ℕ) → length bs ≤ m → message_of r bs ≡ bs ++ replicate (m - length bs) flag
  message-part bs h =
      copied-fits bs (replicate m flag) (omega (arith, length-replicate m flag)) ∙ ap (λ l. bs ++ l) (drop-same flag (length bs) m)

  pub message-long : (bs : List ℕ) → length (message_of r bs) ≡ m
  message-long bs =
      by_le m (length bs) (λ h. ap length (message-full bs h) ∙ length-take-le m bs h)
      (λ h. ap length (message-part bs (omega arith)) ∙ length-append bs _ ∙ (let z = length-replicate (m - length bs) flag in omega arith))

  -- ---- the messages of a filled stream
  -- the next n messages
  abbrev messages : ℕ → List ℕ → List (List ℕ)
  messages zero bs = []
  messages (suc n) bs = message_of r bs ∷ messages n (drop m bs)

  words_are : (n : ℕ) (bs : List ℕ) → words_from r n bs ≡ map (word_of r) (messages n bs)
  words_are zero bs = refl
  words_are (suc n) bs = ap (λ l. word_of r (message_of r bs) ∷ l) (words_are n (drop m bs))

  -- behind the last byte, messages of flags
  flags-only : (n : ℕ) → messages n [] ≡ replicate n (replicate m flag)
  flags-only zero = refl
  flags-only (suc n) = λ i. (message-part [] (omega arith) ∙ ap (λ k. replicate k flag) (sub-zero m)) i ∷
      (ap (messages n) (over [] m (omega arith)) ∙ flags-only n) i

  cut-filled : (q f : ℕ) (bs : List ℕ) → length bs + f ≡ q * m → cut_up m q (bs ++ replicate f flag) ≡ messages q bs
  cut-filled zero f bs e = refl
  cut-filled (suc q) f bs e =
      let s : suc q * m ≡ q * m + m = suc-mul q m in
      by_le m (length bs)
      (λ h.
      let a : take m (bs ++ replicate f flag) ≡ message_of r bs = take-append-le m bs (replicate f flag) h ∙ sym (message-full bs h) in
      let b : drop m (bs ++ replicate f flag) ≡ drop m bs ++ replicate f flag = drop-append-le m bs (replicate f flag) h in
      (λ i. a i ∷ cut_up m q (b i)) ∙ ap (λ l. message_of r bs ∷ l) (cut-filled q f (drop m bs) (let z = length-drop m bs in omega arith)))
      (λ h.
      let g : ℕ = m - length bs in
      let p : replicate f flag ≡ replicate g flag ++ replicate (f - g) flag =
      sym (take-append-drop g (replicate f flag)) ∙ (λ i. take-flags g f (omega arith) i ++ drop-same flag g f i) in
      let x : bs ++ replicate f flag ≡ message_of r bs ++ replicate (f - g) flag =
      ap (λ l. bs ++ l) p ∙ sym (append_assoc bs (replicate g flag) (replicate (f - g) flag)) ∙ ap (λ l. l ++ replicate (f - g) flag)
      (sym (message-part bs (omega arith))) in
      let a : take m (bs ++ replicate f flag) ≡ message_of r bs = ap (take m) x ∙ take_at (message_of r bs) (replicate (f - g) flag) m (message-long bs) in
      let b : drop m (bs ++ replicate f flag) ≡ drop m bs ++ replicate (f - g) flag =
      ap (drop m) x ∙ drop_at (message_of r bs) (replicate (f - g) flag) m (message-long bs) ∙ ap (λ l. l ++ replicate (f - g) flag)
      (sym (over bs m (omega arith))) in
      (λ i. a i ∷ cut_up m q (b i)) ∙ ap (λ l. message_of r bs ∷ l) (cut-filled q (f - g) (drop m bs) (let z = length-drop m bs in omega arith)))
    where
      take-flags : (n k : ℕ) → n ≤ k → take n (replicate k flag) ≡ replicate n flag
      take-flags zero k h = refl
      take-flags (suc n) zero h = absurd (omega arith)
      take-flags (suc n) (suc k) h = ap (λ l. flag ∷ l) (take-flags n k (le_of_suc-le-suc h))

  messages-more : (a b : ℕ) (bs : List ℕ) → length bs ≤ a * m → messages (a + b) bs ≡ messages a bs ++ replicate b (replicate m flag)
  messages-more zero b [] h = ap (λ n. messages n []) (let z : 0 + b ≡ b = omega arith in z) ∙ flags-only b
  messages-more zero b (x ∷ bs) h = let z : 0 * m ≡ 0 = omega arith in absurd (omega arith)
  messages-more (suc a) b bs h =
      let s : suc a * m ≡ a * m + m = suc-mul a m in
      ap (λ n. messages n bs) (let z : suc a + b ≡ suc (a + b) = omega arith in z)
      ∙ ap (λ l. message_of r bs ∷ l) (messages-more a b (drop m bs) (let z = length-drop m bs in omega arith))

  words_long : (n : ℕ) (bs : List ℕ) → length (words_from r n bs) ≡ n
  words_long zero bs = refl
  words_long (suc n) bs = ap suc (words_long n (drop m bs))

-- ---- the words that are sent
module _ (r d : ℕ) (hr : r ≤ root_limit) (bs : List ℕ) where
  -- messages of the filled stream
  abbrev pub filled_messages : ℕ
  filled_messages = (length bs + missing (message_bytes r) (length bs)) / message_bytes r

  abbrev q : ℕ
  q = filled_messages

  abbrev more : ℕ
  more = completing (q + closing_words d)

  filled-length : length (filled r bs) ≡ length bs + missing (message_bytes r) (length bs)
  filled-length = length-append bs _ ∙ ap (λ n. length bs + n) (length-replicate (missing (message_bytes r) (length bs)) flag)

  whole : length bs + missing (message_bytes r) (length bs) ≡ q * message_bytes r
  whole = filled-multiple (message_bytes r) (omega arith) (length bs)

  stream-messages : messages_of r bs ≡ messages r q bs
  stream-messages =
      ap (λ n. cut_up (message_bytes r) (n / message_bytes r) (filled r bs)) filled-length
      ∙ cut-filled r q (missing (message_bytes r) (length bs)) bs whole

  messages-count : (n : ℕ) (l : List ℕ) → length (messages r n l) ≡ n
  messages-count zero l = refl
  messages-count (suc n) l = ap suc (messages-count n (drop (message_bytes r) l))

  pushed-count : length (pushed r d bs) ≡ q + closing_words d
  pushed-count =
      length-append (map (word_of r) (messages_of r bs)) _
      ∙ (λ i. (length-map (messages_of r bs) (word_of r) ∙ ap length stream-messages ∙ messages-count q bs) i
      + length-replicate (closing_words d) (flag_word r) i)

  all_are : words_of r d bs ≡ words_from r (q + (closing_words d + more)) bs
  all_are =
      let ws : List (List ℕ) = map (word_of r) (messages r q bs) in
      (λ i. (map (word_of r) (stream-messages i) ++ replicate (closing_words d) (flag_word r)) ++ replicate (completing (pushed-count i)) (flag_word r))
      ∙ append_assoc ws (replicate (closing_words d) (flag_word r)) (replicate more (flag_word r))
      ∙ ap (λ l. ws ++ l) (replicate-append-replicate (closing_words d) more (flag_word r) ∙ sym
      (map_same (word_of r) (closing_words d + more) (replicate (message_bytes r) flag)))
      ∙ sym (map-append (word_of r) (messages r q bs) (replicate (closing_words d + more) (replicate (message_bytes r) flag)))
      ∙ ap (map (word_of r)) (sym (messages-more r q (closing_words d + more) bs (omega (arith, whole))))
      ∙ sym (words_are r (q + (closing_words d + more)) bs)

  -- how many groups they fill
  pub groups-count : length (words_of r d bs) ≡ group_words * ((q + closing_words d + 3) / group_words)
  groups-count = ap length all_are ∙ words_long r (q + (closing_words d + more)) bs ∙
      (let z : q + (closing_words d + more) ≡ group_words * ((q + closing_words d + 3) / group_words) = omega arith in z)

  pub all_words : words_of r d bs ≡ words_from r (group_words * ((q + closing_words d + 3) / group_words)) bs
  all_words = all_are ∙ ap (λ n. words_from r n bs) (let z : q + (closing_words d + more) ≡ group_words *
      ((q + closing_words d + 3) / group_words) = omega arith in z)

-- ---- group by group
pub push-long : (d : ℕ) (m : Matrix) (bs : List ℕ) → length (run (push d) m bs).0 ≡ length bs
push-long d m bs =
    by_le 2 d (λ h. ap (λ (x : List ℕ × Matrix). length x.0) (deeper d (sent d) h m bs) ∙ sent-length d m bs)
    (λ h. ap (λ (x : List ℕ × Matrix). length x.0) (passes d (sent d) h m bs))

pub group-next : (d k : ℕ) (m : Matrix) (x y : List ℕ) → length x ≡ group_bytes
    → grouped (suc k) (run (push d) m (x ++ y)).0 ≡ (marker ++ (run (push d) m x).0) ++ grouped k (run (push d) (run (push d) m x).1 y).0
group-next d k m x y h =
    let a : List ℕ = (run (push d) m x).0 in
    let b : List ℕ = (run (push d) (run (push d) m x).1 y).0 in
    let l : length a ≡ group_bytes = push-long d m x ∙ h in
    ap (λ (z : List ℕ × Matrix). grouped (suc k) z.0) (run-append (push d) m x y)
    ∙ (λ i. marker ++ (take_at a b group_bytes l i ++ grouped k (drop_at a b group_bytes l i)))

pub word-long : (r : ℕ) → r ≤ root_limit → (bs : List ℕ) → length (word_of r (message_of r bs)) ≡ word_bytes
word-long r h bs =
    length-append (message_of r bs) (remainder r (message_of r bs)) ∙ (let z = length-remainder r (message_of r bs) in let y = message-long r bs in omega arith)

pub four-long : (r : ℕ) → r ≤ root_limit → (bs : List ℕ) → length (joined (words_from r 4 bs)) ≡ group_bytes
four-long r h bs = all 4 bs
  where
    all : (n : ℕ) (l : List ℕ) → length (joined (words_from r n l)) ≡ n * word_bytes
    all zero l = refl
    all (suc n) l =
        length-append (word_of r (message_of r l)) (joined (words_from r n (drop (message_bytes r) l)))
        ∙ (let z = word-long r h l in let y = all n (drop (message_bytes r) l) in omega arith)
