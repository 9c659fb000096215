-- A fixed sub-channel's sender (request W7), with r parity bytes and depth d: "its own stream, filled with flags to whole messages, the
-- marker before every four words, words interleaved before marking". Words and messages with r parity bytes are those of channel_spec's Word.
-- group_words, group_bytes   words behind a marker, and their bytes
-- flag_word                 a word of flags
-- closing_words, completing   how many of them the closing push is made of, and how many complete the last group
-- pushed, words_of          the words of the stream and the closing push; all words: with those that complete the last group
-- words_back                those of them that come back: the closing push stays in the interleaver
-- grouped, marked, sent    groups, each with the marker before it; words and a stream as they are sent
use Rattle.std.specs.Prelude.{ℕ, zero, suc, ◌*◌, ◌-◌, ◌/◌, List, [], ◌++◌, map, ltb, length, take, drop, replicate}
use Rattle.base.specs.Calls.{joined, run}
use Rattle.base.specs.Choice.{pick}
use Rattle.packet_spec.specs.Escape.{flag}
use Rattle.interleaver_spec.specs.Running.{fresh, push}
use Rattle.channel_spec.specs.Sender.{marker, word_bytes}
pub use Rattle.channel_spec.specs.Word.{message_bytes, word_of, missing, filled, cut_up, messages_of}

-- words behind a marker
abbrev pub group_words : ℕ
group_words = 4

-- bytes behind a marker
abbrev pub group_bytes : ℕ
group_bytes = group_words * word_bytes

-- a word of flags
abbrev pub flag_word : ℕ → List ℕ
flag_word r = word_of r (replicate (message_bytes r) flag)

-- "At depth D of 2 or more the closing push is made of D words of flags"
abbrev pub closing_words : ℕ → ℕ
closing_words d = pick (ltb d 2) 0 d

-- the words of a stream, and the closing push, "before the group is completed" ..
abbrev pub pushed : ℕ → ℕ → List ℕ → List (List ℕ)
pushed r d bs = map (word_of r) (messages_of r bs) ++ replicate (closing_words d) (flag_word r)

-- how many words of flags complete the last group behind n words
abbrev pub completing : ℕ → ℕ
completing n = missing group_words n

-- .. "A group of four is always complete, filled with words of flags"
abbrev pub words_of : ℕ → ℕ → List ℕ → List (List ℕ)
words_of r d bs = pushed r d bs ++ replicate (completing (length (pushed r d bs))) (flag_word r)

-- those that come back at the far end: the closing push stays in the interleaver
abbrev pub words_back : ℕ → ℕ → List ℕ → List (List ℕ)
words_back r d bs = take (length (words_of r d bs) - closing_words d) (words_of r d bs)

-- q groups, the marker before each
abbrev pub grouped : ℕ → List ℕ → List ℕ
grouped zero bs = []
grouped (suc q) bs = marker ++ (take group_bytes bs ++ grouped q (drop group_bytes bs))

-- words as they are sent: interleaved, then marked
abbrev pub marked : ℕ → List (List ℕ) → List ℕ
marked d ws = grouped (length ws / group_words) (run (push d) fresh (joined ws)).0

-- a stream as it is sent
abbrev pub sent : ℕ → ℕ → List ℕ → List ℕ
sent r d bs = marked d (words_of r d bs)
