-- What is sent of bytes, sentence by sentence (request W7).
-- messages-whole   the stream, filled with flags to whole messages
-- push-closes      the closing push
-- words-complete   words of flags complete the last group
-- words-each       each word is 255 bytes
-- groups-are       interleaved, and then the marker before every four words
use Prim.Native.Nat.{ℕ, zero, suc, ◌-◌, ◌*◌, ◌/◌, ◌%◌, ◌≤◌, ◌<◌}
use native.Mathlib.Nat.{mod-lt}
use native.Mathlib.Omega.{arith}
use mathlib.Core.Path.{◌≡◌, refl, sym, ◌∙◌, ap, subst}
use mathlib.Core.List.{List, ◌++◌, map, append-nil}
use lib.ListN.{length, take, drop, replicate}
use lib.Dec.{lit<}
use borrow.Author.Tests.{lt-ltb, le-ltb}
use Rattle.base.specs.Bytes.{Each, Bytes}
use Rattle.base.specs.Calls.{joined, run}
use Rattle.base.specs.Choice.{pick}
use Rattle.base.proofs.Bytes.{each_append}
use Rattle.packet_spec.specs.Escape.{flag}
use Rattle.parity.specs.Calls.{root_limit}
use Rattle.interleaver_spec.specs.Running.{fresh, push}
use Rattle.channel_spec.specs.Sender.{marker, word_bytes}
use Rattle.channel_spec.specs.Meaning.{IsWord}
use Rattle.channel_spec.specs.Word.{message_bytes, word_of, missing, filled, cut_up, messages_of}
use Rattle.channel_spec.proofs.Messages.{cut-joined, cut-lengths, m-pos, IsMessage, filled-long, messages-each}
use Rattle.subchannel_spec.specs.Sender.{group_words, group_bytes, flag_word, completing, pushed, words_of, grouped, sent}
use Rattle.subchannel_spec.proofs.Received.{joined_length, pushed-length}
use Rattle.subchannel_spec.proofs.Streaming.{answered, answered-each, closing, closing-each, in-turn, four}

-- groups, each the marker and then its part of the bytes
grouped-is : (q : ℕ) (bs : List ℕ) → grouped q bs ≡ joined (map (λ g. marker ++ g) (cut_up group_bytes q bs))
grouped-is zero bs = refl
grouped-is (suc q) bs = ap (λ l. marker ++ (take group_bytes bs ++ l)) (grouped-is q (drop group_bytes bs))

module _ (r d : ℕ) (hr : r ≤ root_limit) (bs : List ℕ) (b : Bytes bs) where
  -- fewer flags than a message has bytes, none where there are whole messages
  pub messages-whole : (k : ℕ) × (k < message_bytes r) × (joined (messages_of r bs) ≡ bs ++ replicate k flag) × Each (IsMessage r) (messages_of r bs)
  messages-whole =
      let k : ℕ = missing (message_bytes r) (length bs) in (
        k,
        mod-lt (message_bytes r - length bs % message_bytes r) (m-pos r hr),
        cut-joined (message_bytes r) (m-pos r hr) _ (filled r bs) (filled-long r hr bs),
        messages-each r hr bs b,
      )

  -- at depth 2 or more D words of flags, else none
  pub push-closes : (2 ≤ d → pushed r d bs ≡ map (word_of r) (messages_of r bs) ++ replicate d (flag_word r))
      × (d < 2 → pushed r d bs ≡ map (word_of r) (messages_of r bs))
  push-closes =
      let ws : List (List ℕ) = map (word_of r) (messages_of r bs) in (
        λ h. ap (λ t. ws ++ replicate (pick t 0 d) (flag_word r)) (le-ltb d 2 h),
        λ h. ap (λ t. ws ++ replicate (pick t 0 d) (flag_word r)) (lt-ltb d 2 h) ∙ append-nil ws,
      )

  -- fewer than four, behind the closing push
  pub words-complete : (k : ℕ) × (k < group_words) × (words_of r d bs ≡ pushed r d bs ++ replicate k (flag_word r))
      × (length (words_of r d bs) ≡ length (words_of r d bs) / group_words * group_words)
  words-complete = (completing (length (pushed r d bs)), omega arith, refl, four r d hr bs b)

  pub words-each : Each IsWord (words_of r d bs)
  words-each =
      subst (Each IsWord) (sym (in-turn r d hr bs b))
      (each_append IsWord (answered r d hr bs b) (closing r d hr bs b) (answered-each r d hr bs b) (closing-each r d hr bs b))

  -- gs are the groups' bytes: together they are the words' bytes, interleaved
  pub groups-are : (gs : List (List ℕ)) × (sent r d bs ≡ joined (map (λ g. marker ++ g) gs)) × Each (λ (g : List ℕ). length g ≡ group_words * word_bytes) gs
      × (joined gs ≡ (run (push d) fresh (joined (words_of r d bs))).0)
  groups-are =
      let out : List ℕ = (run (push d) fresh (joined (words_of r d bs))).0 in
      let q : ℕ = length (words_of r d bs) / group_words in
      let f = four r d hr bs b in
      let l : length out ≡ q * group_bytes = pushed-length d (joined (words_of r d bs)) ∙ joined_length (words_of r d bs) words-each ∙ omega arith in (
        cut_up group_bytes q out,
        grouped-is q out,
        cut-lengths group_bytes (lit< tt) q out (omega arith),
        cut-joined group_bytes (lit< tt) q out l,
      )
