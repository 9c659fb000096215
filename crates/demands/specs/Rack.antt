-- Request W14: what the numbers of the rack's functions say.
-- ByWord     that a call on a word refuses by a number
-- ByCalled   that a receiving call does
-- OfReading, OfHearing   the numbers that the two receiving calls give
-- StandsBy   that a packet's payload and key stand where the numbers say
-- saying, said_by, called_by     an answer by its numbers, and a call
-- read_called, told_as, held_by   calls on the plain stream one behind the other
-- channel_by, heard_called, event_as, memory_by   .. on the channel
use Rattle.std.specs.Prelude.{ℕ, ◌≤◌, ◌<◌, ◌≡◌, ◌⊎◌, List, [], ◌∷◌, ◌++◌, eqb, take, drop, get_or}
use Rattle.std.proofs.Math.Option.{Option, some, none}
use Rattle.base.specs.Choice.{pick}
use Rattle.packet_spec.specs.Contents.{Packet}
use Rattle.packet_spec.specs.Frame.{Told, judged}
use Rattle.stream.specs.Call.{Held, held}
use Rattle.channel_spec.specs.Meaning.{Event}
use Rattle.channel.specs.Call.{Memory, memory}
use Rattle.channel_spec.specs.Answer.{answered}
use Rattle.rack.specs.Answers.{of_judged, of_answer, of_call, frame_of, receiver_of, told_numbers}
use Rattle.rack.specs.Call.{reading, hearing}
use Rattle.demands_laws.specs.Refusals.{OfFrame, OfCall}

-- a call on a word: 0 and 1 are no refusals, nor is a number above 255
abbrev pub ByWord : ℕ → ℕ → Type 0
ByWord answer n = (answer ≡ n) × (1 < n) × (n < 256)

-- a receiving call: by a number of calls, and not of frames
abbrev pub ByCalled : ℕ → ℕ → Type 0
ByCalled answer n = OfCall n × (answer ≡ n)

-- the numbers of a call on the plain stream: 0 "more wanted", 256 a packet, those of frames and of calls
abbrev pub OfReading : ℕ → Type 0
OfReading n = (n ≡ 0) ⊎ (n ≡ 256) ⊎ OfFrame n ⊎ OfCall n

-- .. on the channel: also lock lost, and blocks
abbrev pub OfHearing : ℕ → Type 0
OfHearing n = OfReading n ⊎ ((257 ≤ n) × (n ≤ 260))

-- in the receive buffer: as many bytes as number 6 says, from number 7 on, are the payload; as many as number 3 says, from 3 on, are the key
abbrev pub StandsBy : Packet → List ℕ → List ℕ → Type 0
StandsBy p state recv = (take (get_or state 6 0) (drop (get_or state 7 0) recv) ≡ p.payload) × (take (get_or state 3 0) (drop 3 recv) ≡ p.key)

-- ---- calls one behind the other, as C makes them on the plain stream
-- what is told beside a number: format, key number, key length, port, sequence, payload length, place; a refused call tells nothing
abbrev pub saying : ℕ → List ℕ → List ℕ
saying n beside = n ∷ pick (of_call n) [] beside

-- an answer by its numbers; 0 is "more wanted", and no answer
abbrev pub said_by : ℕ → List ℕ → Option (List ℕ)
said_by n beside = pick (eqb n 0) none (some (saying n beside))

-- one call: the answer, how many bytes it has taken, the state's numbers and the receive buffer
abbrev pub called_by : ℕ × List ℕ × List ℕ → Option (List ℕ) × ℕ × (List ℕ × List ℕ)
called_by r = (said_by r.0 (take 7 (drop 1 r.1)), pick (of_call r.0) 0 (get_or r.1 0 0), (r.1, r.2))

abbrev pub read_called : List ℕ × List ℕ → List ℕ → Option (List ℕ) × ℕ × (List ℕ × List ℕ)
read_called x bs = called_by (reading x.0 x.1 bs)

-- a frame's answer by these numbers
abbrev pub told_as : Told → List ℕ
told_as t = let a = of_judged (judged t) in saying a.number (drop 1 (told_numbers 0 a))

-- the state that the numbers are, and the buffer
abbrev pub held_by : List ℕ × List ℕ → Held
held_by x = held (frame_of x.0) x.1

-- ---- on the channel: told is also in how many places a block was repaired
abbrev pub channel_by : ℕ × List ℕ × List ℕ × List ℕ → Option (List ℕ) × ℕ × (List ℕ × List ℕ × List ℕ)
channel_by r = (said_by r.0 (take 7 (drop 1 r.1) ++ (get_or r.1 12 0 ∷ [])), pick (of_call r.0) 0 (get_or r.1 0 0), (r.1, r.2, r.3))

abbrev pub heard_called : List ℕ × List ℕ × List ℕ → List ℕ → Option (List ℕ) × ℕ × (List ℕ × List ℕ × List ℕ)
heard_called x bs = channel_by (hearing x.0 x.1 x.2 bs)

abbrev pub event_as : Event → List ℕ
event_as e = let a = of_answer (answered (some e)) in saying a.number (drop 1 (told_numbers 0 a) ++ (a.repaired ∷ []))

abbrev pub memory_by : List ℕ × List ℕ × List ℕ → Memory
memory_by x = memory (receiver_of x.0) x.1 x.2
