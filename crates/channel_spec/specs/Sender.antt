-- The opportunistic channel's sender (paper 01, "Opportunistic channel"): the stream filled with flags to a multiple of 223 bytes,
-- each 223 bytes a word with 32 parity bytes, the marker before each word.
-- marker, word_bytes, parity_bytes, message_bytes, block_bytes   the marker, and how many bytes there are of each
-- word_of, framed                  a word, and words, each with the marker before it
-- fillers, filled                 the stream filled with flags
-- cut_up, messages_of               .. and cut into messages
-- marked                          a stream as it is sent
-- whole_bytes, wholes, rest_of      the whole messages among stream bytes, and the bytes behind them
-- marking, sending                what the two calls answer and leave
-- sent_words, sent                 the words of some packets' stream, and that stream as it is sent
use Rattle.std.specs.Prelude.{ℕ, ◌+◌, ◌*◌, ◌/◌, List, [], ◌∷◌, ◌++◌, map, eqb, length, take, drop}
use Rattle.base.specs.Choice.{pick}
use Rattle.base.specs.Written.{Outcome, refused, write}
use Rattle.parity.specs.Calls as parity
use Rattle.stream.specs.Sender.{stream}
use Rattle.packet_spec.specs.Contents.{Packet}
use Rattle.channel_spec.specs.Word as over

-- the marker that stands before each word
abbrev pub marker : List ℕ
marker = 0x7D ∷ 0x3A ∷ 0xE2 ∷ 0x42 ∷ []

-- bytes of a word
abbrev pub word_bytes : ℕ
word_bytes = parity.word_bytes

-- its parity bytes
abbrev pub parity_bytes : ℕ
parity_bytes = 32

-- its message bytes
abbrev pub message_bytes : ℕ
message_bytes = over.message_bytes parity_bytes

-- bytes of a block: the marker, and a word behind it
abbrev pub block_bytes : ℕ
block_bytes = 4 + word_bytes

-- a message with its parity behind it
abbrev pub word_of : List ℕ → List ℕ
word_of = over.word_of parity_bytes

-- words, each with the marker before it
abbrev pub framed : List (List ℕ) → List ℕ
framed [] = []
framed (w ∷ ws) = marker ++ (w ++ framed ws)

-- flags to a multiple of 223 bytes, none if it already is one
abbrev pub fillers : ℕ → ℕ
fillers = over.missing message_bytes

-- the stream filled with flags
abbrev pub filled : List ℕ → List ℕ
filled = over.filled parity_bytes

-- cut into so many messages of 223 bytes
abbrev pub cut_up : ℕ → List ℕ → List (List ℕ)
cut_up = over.cut_up message_bytes

-- the messages of a stream ..
abbrev pub messages_of : List ℕ → List (List ℕ)
messages_of = over.messages_of parity_bytes

-- .. and the stream as it is sent
abbrev pub marked : List ℕ → List ℕ
marked bs = framed (map word_of (messages_of bs))

-- bytes of the whole messages among n
abbrev pub whole_bytes : ℕ → ℕ
whole_bytes n = n / message_bytes * message_bytes

-- the whole messages ..
abbrev pub wholes : List ℕ → List ℕ
wholes bs = take (whole_bytes (length bs)) bs

-- .. and the bytes behind them
abbrev pub rest_of : List ℕ → List ℕ
rest_of bs = drop (whole_bytes (length bs)) bs

-- one block. 31: the message is not 223 bytes. Then 23 as for every call that writes
abbrev pub marking : List ℕ → List ℕ → Outcome
marking message out = pick (eqb (length message) message_bytes) (write (marker ++ word_of message) out) (refused 31 out)

-- a whole stream
abbrev pub sending : List ℕ → List ℕ → Outcome
sending bs out = write (marked bs) out

-- the words of some packets' stream ..
abbrev pub sent_words : List Packet → List (List ℕ)
sent_words ps = map word_of (messages_of (stream ps))

-- .. and that stream as it is sent
abbrev pub sent : List Packet → List ℕ
sent ps = framed (sent_words ps)
