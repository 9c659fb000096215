-- Words with r parity bytes, for every r: as a stream is cut into them, and as repair leaves them. The opportunistic channel's are these at
-- 32 (Sender, Meaning), a fixed sub-channel's at its own r.
-- message_bytes, word_of          the message bytes of a word, and a word
-- missing, filled               the stream filled with flags to whole messages
-- cut_up, messages_of             .. and cut into messages
-- condition_by, as_mended         a block's answer by what repair finds, and the other way round
-- condition, mend, message      a block's answer, the word that is left, its message: what repair promises (proofs/Words)
-- carried                       the bytes that words hand on
-- IsWord                        255 bytes
use Rattle.std.specs.Prelude.{ℕ, zero, suc, ◌-◌, ◌/◌, ◌%◌, ◌≡◌, List, [], ◌∷◌, ◌++◌, map, length, take, drop, replicate}
use Rattle.base.specs.Calls.{joined}
use Rattle.packet_spec.specs.Escape.{flag}
use Rattle.word_spec.specs.Word.{remainder}
use Rattle.parity.specs.Calls.{word_bytes}
use Rattle.repair.specs.Mended.{Mended}
use Rattle.repair.specs.Mended as repair
use Rattle.repair.specs.Way.{repaired as repaired_word}
use Rattle.channel_spec.specs.declared.Condition.{Condition}
use Rattle.channel_spec.specs.declared.Condition.TheVariants.{Clean, Repaired, Beyond}

-- ---- sent
-- message bytes of a word
abbrev pub message_bytes : ℕ → ℕ
message_bytes r = word_bytes - r

-- a message with its parity behind it
abbrev pub word_of : ℕ → List ℕ → List ℕ
word_of r m = m ++ remainder r m

-- how many are missing to a multiple of m, none where n is one
abbrev pub missing : ℕ → ℕ → ℕ
missing m n = (m - n % m) % m

-- "filled with flags to whole messages"
abbrev pub filled : ℕ → List ℕ → List ℕ
filled r bs = bs ++ replicate (missing (message_bytes r) (length bs)) flag

-- cut into q parts of m bytes
abbrev pub cut_up : ℕ → ℕ → List ℕ → List (List ℕ)
cut_up m zero bs = []
cut_up m (suc q) bs = take m bs ∷ cut_up m q (drop m bs)

-- the messages of a stream
abbrev pub messages_of : ℕ → List ℕ → List (List ℕ)
messages_of r bs = cut_up (message_bytes r) (length (filled r bs) / message_bytes r) (filled r bs)

-- ---- received
-- a block's answer by what repair finds: a word of 255 bytes is not refused
abbrev pub condition_by : Mended → Condition
condition_by repair.Clean = Clean
condition_by (repair.Repaired n) = Repaired n
condition_by repair.Beyond = Beyond
condition_by (repair.Refused n) = Beyond

-- .. and the other way round
abbrev pub as_mended : Condition → Mended
as_mended Clean = repair.Clean
as_mended (Repaired n) = repair.Repaired n
as_mended Beyond = repair.Beyond

-- the answer to a word: what repair finds of it ..
abbrev pub condition : ℕ → List ℕ → Condition
condition r w = condition_by (repaired_word r w).0

-- .. and the word as repair leaves it: repaired, or beyond repair as it came
abbrev pub mend : ℕ → List ℕ → List ℕ
mend r w = (repaired_word r w).1

-- the message of a word, as repair leaves it
abbrev pub message : ℕ → List ℕ → List ℕ
message r w = take (message_bytes r) (mend r w)

-- the bytes that words hand on to the frame reader
abbrev pub carried : ℕ → List (List ℕ) → List ℕ
carried r ws = joined (map (message r) ws)

-- 255 bytes, whatever they are
abbrev pub IsWord : List ℕ → Type 0
IsWord w = length w ≡ word_bytes
