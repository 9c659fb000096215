-- What the calls that send on a fixed sub-channel answer and leave (request W7): a whole stream a call, or a group a call.
-- sending                       a whole stream
-- message_of, words_from          the next message of a stream, and its next n words
-- group_next                     the next group of it
-- group_stream, group_written     bytes of four messages; a group written, what is taken for it, and the cells
-- group_sending                  the call that sends one
-- group_count, counting          how many groups a stream has, and the call that says so
-- Counted, Groups, Refused       what it answers: so many groups, or a refusal by its number in the paper
-- as_counted                     the same of what the code answers
-- groups_by                      what so many calls write, one behind the other
use Rattle.std.specs.Prelude.{ℕ, zero, suc, ◌+◌, ◌*◌, ◌/◌, min, List, [], ◌∷◌, ◌++◌, ltb, length, drop, replicate, Result, Ok, Err}
use Rattle.base.specs.declared.Refusal.{Refusal}
use Rattle.base.specs.Refusals.{number}
use Rattle.base.specs.Calls.{joined, run}
use Rattle.base.specs.Choice.{pick}
use Rattle.base.specs.Written.{Outcome, refused, write, copied}
use Rattle.packet_spec.specs.Escape.{flag}
use Rattle.parity.specs.Calls.{root_limit}
use Rattle.interleaver_spec.specs.Running.{depth_limit, push, beyond}
use Rattle.interleaver_spec.specs.declared.Matrix.{Matrix}
use Rattle.channel_spec.specs.Sender.{marker}
use Rattle.subchannel_spec.specs.Sender.{message_bytes, group_words, word_of, missing, closing_words, sent}

-- 30: R above 64. 32: depth above 64. Then 23 as for every call that writes
abbrev pub sending : ℕ → ℕ → List ℕ → List ℕ → Outcome
sending r d bs out = pick (ltb root_limit r) (refused 30 out) (pick (ltb depth_limit d) (refused 32 out) (write (sent r d bs) out))

-- the next message of a stream: its bytes, and flags where it has no more
abbrev pub message_of : ℕ → List ℕ → List ℕ
message_of r bs = copied bs (replicate (message_bytes r) flag)

-- the next n words of it
abbrev pub words_from : ℕ → ℕ → List ℕ → List (List ℕ)
words_from r zero bs = []
words_from r (suc n) bs = word_of r (message_of r bs) ∷ words_from r n (drop (message_bytes r) bs)

-- the next group of it: the marker, and four words through the cells m; and the cells behind them
abbrev pub group_next : ℕ → ℕ → Matrix → List ℕ → List ℕ × Matrix
group_next r d m bs = let x : List ℕ × Matrix = run (push d) m (joined (words_from r group_words bs)) in (marker ++ x.0, x.1)

-- bytes of four messages
abbrev pub group_stream : ℕ → ℕ
group_stream r = group_words * message_bytes r

-- a group written, the bytes of the stream taken for it, and the cells: with 23 none is taken, and the cells stay
abbrev pub group_written : ℕ → Matrix → List ℕ → List ℕ × Matrix → List ℕ → Outcome × ℕ × Matrix
group_written r m bs x out =
    let short = ltb (length out) (length x.0) in (write x.0 out, pick short 0 (min (group_stream r) (length bs)), pick short m x.1)

-- the call that sends the next group. 10: a cell place of N or more. 30: R above 64. 32: depth above 64. Then 23
abbrev pub group_sending : ℕ → ℕ → Matrix → List ℕ → List ℕ → Outcome × ℕ × Matrix
group_sending r d m bs out =
    pick (beyond d m.place) (refused 10 out, 0, m)
    (pick (ltb root_limit r) (refused 30 out, 0, m) (pick (ltb depth_limit d) (refused 32 out, 0, m) (group_written r m bs (group_next r d m bs) out)))

-- the groups of a stream of n bytes: its messages, the closing push, and what completes the last
abbrev pub group_count : ℕ → ℕ → ℕ → ℕ
group_count r d n = ((n + missing (message_bytes r) n) / message_bytes r + closing_words d + 3) / group_words

-- so many groups, or the call is refused, by this number of the paper
pub data Counted : Type 0 where
  Groups : ℕ → Counted
  Refused : ℕ → Counted

-- what the code answers, by the paper's numbers
abbrev pub as_counted : Result ℕ Refusal → Counted
as_counted (Ok n) = Groups n
as_counted (Err r) = Refused (number r)

-- the call that says so: 30, 32
abbrev pub counting : ℕ → ℕ → ℕ → Counted
counting r d n = pick (ltb root_limit r) (Refused 30) (pick (ltb depth_limit d) (Refused 32) (Groups (group_count r d n)))

-- what g calls write, each with the rest of the stream: the cells go from call to call
abbrev pub groups_by : ℕ → ℕ → ℕ → Matrix → List ℕ → List ℕ
groups_by r d zero m bs = []
groups_by r d (suc g) m bs = (group_next r d m bs).0 ++ groups_by r d g (group_next r d m bs).1 (drop (group_stream r) bs)
