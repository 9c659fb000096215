-- A sub-channel's whole sent stream gives its packets, once each, in order, and nothing else, for every r and d to 64.
-- messages, messages-each                     what is sent of any bytes: the messages
-- answered, answered-each, answered-clean     .. the words that are answered: 255 bytes each, and clean
-- closing, closing-each, in-turn              .. the closing push; that they and it are all words sent
-- carries, four, groups                       .. the bytes they carry; that they are whole groups
-- whole-stream                                stray bytes and then a whole sent stream
use Prim.Native.Nat.{ℕ, zero, suc, ◌+◌, ◌-◌, ◌*◌, ◌/◌, ◌≤◌, ◌<◌}
use native.Mathlib.Nat.{suc-mul}
use native.Mathlib.Omega.{arith}
use mathlib.Core.Path.{◌≡◌, refl, sym, ◌∙◌, ap, subst}
use mathlib.Core.List.{List, [], ◌∷◌, ◌++◌, map, append_assoc, map-append}
use lib.ListN.{length, replicate, length-append, length-replicate, replicate-append-replicate}
use lib.Dec.{lit<}
use Rattle.base.specs.Bytes.{Each, IsByte, Bytes}
use Rattle.base.specs.Calls.{joined}
use Rattle.base.proofs.Bytes.{each_append, each-replicate}
use Rattle.base.proofs.Lists.{map_same}
use Rattle.packet_spec.specs.Contents.{Packet}
use Rattle.packet_spec.specs.Escape.{flag}
use Rattle.packet_spec.specs.Sender.{Accepted}
use Rattle.parity.specs.Calls.{root_limit}
use Rattle.stream.specs.Meaning.{waiting, reads}
use Rattle.stream.specs.Sender.{stream, delivered}
use Rattle.stream.proofs.Streaming.{stream-read}
use Rattle.interleaver_spec.specs.Running.{depth_limit}
use Rattle.channel_spec.specs.Word.{message_bytes, word_of, missing, filled, messages_of, carried, IsWord}
use Rattle.channel_spec.specs.Given.{frames, blocks, losses, words_give}
use Rattle.channel_spec.specs.Meaning.{FirstMarker}
use Rattle.channel_spec.specs.declared.Condition.TheVariants.{Clean as clean}
use Rattle.channel_spec.proofs.Messages as over
use Rattle.channel_spec.proofs.Messages.{cut-joined, m-pos, IsMessage, filled-long, sent_word, words-each, words-messages, IsClean, all-clean}
use Rattle.channel_spec.proofs.Messages.{words-clean, stream-bytes}
use Rattle.channel_spec.proofs.Given.{frames-given, blocks-given, losses-given}
use Rattle.subchannel_spec.specs.Sender.{group_words, flag_word, closing_words, completing, pushed, words_of, marked, sent}
use Rattle.subchannel_spec.specs.Meaning.{answers}
use Rattle.subchannel_spec.proofs.Received.{joined-append, received}

-- ---- lists of one and the same
same-append : {A : Type 0} (x : A) (a b : ℕ) → replicate a x ++ replicate b x ≡ replicate b x ++ replicate a x
same-append x a b =
    replicate-append-replicate a b x ∙ ap (λ n. replicate n x) (let z : a + b ≡ b + a = omega arith in z) ∙ sym (replicate-append-replicate b a x)

-- n messages of m flags
joined-flags : (n m : ℕ) → joined (replicate n (replicate m flag)) ≡ replicate (n * m) flag
joined-flags zero m = ap (λ k. replicate k flag) (let z : 0 ≡ 0 * m = omega arith in z)
joined-flags (suc n) m =
    ap (λ l. replicate m flag ++ l) (joined-flags n m) ∙ replicate-append-replicate m (n * m) flag
    ∙ ap (λ k. replicate k flag) (let z : suc n * m ≡ n * m + m = suc-mul n m in let y : m + n * m ≡ suc n * m = omega arith in y)

-- ---- what is sent of any bytes
module _ (r d : ℕ) (hr : r ≤ root_limit) (bs : List ℕ) (h : Bytes bs) where
  abbrev flags : List ℕ
  flags = replicate (message_bytes r) flag

  -- words that complete the last group
  abbrev fill : ℕ
  fill = completing (length (pushed r d bs))

  abbrev pub messages : List (List ℕ)
  messages = messages_of r bs ++ replicate fill flags

  -- the words that are answered
  abbrev pub answered : List (List ℕ)
  answered = map (word_of r) messages

  abbrev pub closing : List (List ℕ)
  closing = replicate (closing_words d) (flag_word r)

  flags-message : IsMessage r flags
  flags-message = (length-replicate (message_bytes r) flag, each-replicate IsByte (message_bytes r) flag (lit< tt))

  pub messages-each : Each (IsMessage r) messages
  messages-each =
      each_append (IsMessage r) (messages_of r bs) (replicate fill flags) (over.messages-each r hr bs h) (each-replicate (IsMessage r) fill flags flags-message)

  pub answered-each : Each IsWord answered
  answered-each = words-each r hr messages messages-each

  pub closing-each : Each IsWord closing
  closing-each = each-replicate IsWord (closing_words d) (flag_word r) (sent_word r hr flags flags-message)

  pub answered-clean : Each (IsClean r) answered
  answered-clean = words-clean r hr messages messages-each

  -- they carry the bytes, and flags behind them
  pub carries : (k : ℕ) × (carried r answered ≡ bs ++ replicate k flag)
  carries =
      let n : ℕ = missing (message_bytes r) (length bs) in (
        n + fill * message_bytes r,
        words-messages r hr messages messages-each ∙ joined-append (messages_of r bs) (replicate fill flags)
            ∙ (λ i. cut-joined (message_bytes r) (m-pos r hr) _ (filled r bs) (filled-long r hr bs) i ++ joined-flags fill (message_bytes r) i)
            ∙ append_assoc bs (replicate n flag) (replicate (fill * message_bytes r) flag)
            ∙ ap (λ l. bs ++ l) (replicate-append-replicate n (fill * message_bytes r) flag),
      )

  -- they, and the closing push behind them, are the words that are sent: a word of flags is one wherever it stands
  pub in-turn : words_of r d bs ≡ answered ++ closing
  in-turn =
      let ws : List (List ℕ) = map (word_of r) (messages_of r bs) in
      append_assoc ws closing (replicate fill (flag_word r)) ∙ ap (λ l. ws ++ l) (same-append (flag_word r) (closing_words d) fill)
      ∙ sym (append_assoc ws (replicate fill (flag_word r)) closing)
      ∙ ap (λ l. l ++ closing)
      (sym (map-append (word_of r) (messages_of r bs) (replicate fill flags) ∙ ap (λ l. ws ++ l) (map_same (word_of r) fill flags)))

  -- whole groups
  pub four : length (words_of r d bs) ≡ length (words_of r d bs) / group_words * group_words
  four =
      let l : length (words_of r d bs) ≡ length (pushed r d bs) + fill =
      length-append (pushed r d bs) _ ∙ ap (λ n. length (pushed r d bs) + n) (length-replicate fill (flag_word r)) in
      omega arith

  -- .. and of some bytes at least one
  pub groups : 0 < length bs → (g : ℕ) × (length (words_of r d bs) ≡ suc g * group_words)
  groups s = go (length (words_of r d bs) / group_words) refl
    where
      go : (n : ℕ) → length (words_of r d bs) / group_words ≡ n → (g : ℕ) × (length (words_of r d bs) ≡ suc g * group_words)
      go zero e =
          let z : length (answered ++ closing) ≡ 0 = ap length (sym in-turn) ∙ four ∙ ap (λ n. n * group_words) e in
          let a : length answered ≡ 0 = let l = length-append answered closing in omega arith in
          let c : length (carried r answered) ≡ 0 = none answered a in
          let l : length (carried r answered) ≡ length bs + carries.0 =
          ap length carries.1 ∙ length-append bs _ ∙ ap (λ n. length bs + n) (length-replicate carries.0 flag) in
          absurd (omega arith)
        where
          none : (ws : List (List ℕ)) → length ws ≡ 0 → length (carried r ws) ≡ 0
          none [] e = refl
          none (w ∷ ws) e = absurd (omega arith)
      go (suc g) e = (g, four ∙ ap (λ n. n * group_words) e)

-- ---- stray bytes and then the whole sent stream of packets that the sender takes, the marker first appearing where that stream begins
module _ (r d : ℕ) (hr : r ≤ root_limit) (hd : d ≤ depth_limit) (stray : List ℕ) (ps : List Packet) (a : Each Accepted ps)
    (first : FirstMarker stray (sent r d (stream ps))) where
  abbrev ws : List (List ℕ)
  ws = answered r d hr (stream ps) (stream-bytes ps a)

  given : answers r d (stray ++ sent r d (stream ps)) ≡ (words_give r ws waiting).0
  given =
      let b : Bytes (stream ps) = stream-bytes ps a in
      let vs : List (List ℕ) = closing r d hr (stream ps) b in
      let t = in-turn r d hr (stream ps) b in
      let g = groups r d hr (stream ps) b (omega arith) in
      ap (λ x. answers r d (stray ++ marked d x)) t
      ∙ received r d stray ws vs g.0 hd (answered-each r d hr (stream ps) b) (closing-each r d hr (stream ps) b)
      (length-replicate (closing_words d) (flag_word r)) (ap length (sym t) ∙ g.1) (subst (λ x. FirstMarker stray (marked d x)) t first)

  -- how many: all words but the closing push
  many : length ws ≡ length (words_of r d (stream ps)) - closing_words d
  many =
      let b : Bytes (stream ps) = stream-bytes ps a in
      let l = ap length (in-turn r d hr (stream ps) b) ∙ length-append ws (closing r d hr (stream ps) b) in
      let c : length (closing r d hr (stream ps) b) ≡ closing_words d = length-replicate (closing_words d) (flag_word r) in
      omega arith

  -- the sent packets are delivered once each, in order, and nothing else; every block is clean, and no lock is lost
  pub whole-stream : (frames (answers r d (stray ++ sent r d (stream ps))) ≡ map delivered ps)
      × (blocks (answers r d (stray ++ sent r d (stream ps))) ≡ replicate (length (words_of r d (stream ps)) - closing_words d) clean)
      × (losses (answers r d (stray ++ sent r d (stream ps))) ≡ 0)
  whole-stream =
      let k = carries r d hr (stream ps) (stream-bytes ps a) in (
        ap frames given ∙ frames-given r ws waiting ∙ ap (λ l. (reads waiting l).0) k.1 ∙ ap (λ x. x.0) (stream-read ps a k.0),
        ap blocks given ∙ blocks-given r ws waiting ∙ all-clean r ws (answered-clean r d hr (stream ps) (stream-bytes ps a)) ∙ ap (λ n. replicate n clean) many,
        ap losses given ∙ losses-given r ws waiting,
      )
