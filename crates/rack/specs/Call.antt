-- The two receiving calls, for C: answer and state in numbers, and the lent buffers. A refused call leaves every number and every byte.
-- left               the numbers that a call leaves
-- read_by, reading    on the plain stream: what `read_call` says
-- heard_by, hearing   on the channel: what `hear_call` says
use Rattle.std.specs.Prelude.{ℕ, List}
use Rattle.std.proofs.Math.Option.{Option}
use Rattle.base.specs.Choice.{pick}
use Rattle.packet_spec.specs.Frame as frame
use Rattle.stream.specs.Call as plain
use Rattle.channel_spec.specs.Meaning.{Event}
use Rattle.channel.specs.Call.{Memory, memory, hear_call}
use Rattle.channel_spec.specs.Answer.{answered}
use Rattle.rack.specs.declared.answers.Numbered.{Numbered}
use Rattle.rack.specs.Answers.{of_heard, of_answer, of_call, frame_of, receiver_of, stream_numbers, channel_numbers}

-- the state's numbers behind a call answered by n: the old ones where it is refused
abbrev pub left : ℕ → List ℕ → List ℕ → List ℕ
left n old new = pick (of_call n) old new

-- by what the frame reader makes of the call
abbrev pub read_by : List ℕ → Option frame.Told × ℕ × plain.Held → ℕ × List ℕ × List ℕ
read_by s x =
    let t : Numbered = of_heard (plain.answered x.0) in
    (t.number, left t.number s (stream_numbers x.1 t x.2.st), x.2.recv)

-- of the state's numbers, the receive buffer and a piece: the answer's number, and what the first two then hold
abbrev pub reading : List ℕ → List ℕ → List ℕ → ℕ × List ℕ × List ℕ
reading s recv bs = read_by s (plain.read_call (plain.held (frame_of s) recv) bs)

-- by what the receiver makes of the call
abbrev pub heard_by : List ℕ → Option Event × ℕ × Memory → ℕ × List ℕ × List ℕ × List ℕ
heard_by s x =
    let t : Numbered = of_answer (answered x.0) in
    (t.number, left t.number s (channel_numbers x.1 t x.2.st), x.2.recv, x.2.word)

-- of the state's numbers, the receive buffer, the word buffer and a piece: the answer's number, and what the first three then hold
abbrev pub hearing : List ℕ → List ℕ → List ℕ → List ℕ → ℕ × List ℕ × List ℕ × List ℕ
hearing s recv word bs = heard_by s (hear_call (memory (receiver_of s) recv word) bs)
