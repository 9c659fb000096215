-- The sender's stream (paper 01, "Packet and frame"): one flag, then each packet's escaped contents with one flag behind it.
-- raw_of, frames_of    a packet's raw bytes; packets, one behind the other
-- stream             the whole stream of packets
-- delivered          what is told of a packet
-- opened_from         the packets that are opened from a flag of it on
-- appending          what the call that appends a packet answers and leaves
use Rattle.std.specs.Prelude.{ℕ, zero, suc, ◌-◌, List, [], ◌∷◌, ◌++◌, length, take, drop}
use Rattle.base.specs.Written.{Outcome, outcome}
use Rattle.packet_spec.specs.Contents.{Packet, contents}
use Rattle.packet_spec.specs.Escape.{flag, escape}
use Rattle.packet_spec.specs.Frame.{Told, packet}
use Rattle.packet_spec.specs.Sender.{writing}

-- a packet's raw bytes: its escaped contents
abbrev pub raw_of : Packet → List ℕ
raw_of p = escape (contents p)

-- each packet's raw bytes with one flag behind them ..
abbrev pub frames_of : List Packet → List ℕ
frames_of [] = []
frames_of (p ∷ ps) = raw_of p ++ flag ∷ frames_of ps

-- .. behind one flag
abbrev pub stream : List Packet → List ℕ
stream ps = flag ∷ frames_of ps

-- a packet as it is delivered
abbrev pub delivered : Packet → Told
delivered p = packet p

-- the packets that are opened by the flag at place n of the stream, or by a later one
abbrev pub opened_from : List Packet → ℕ → List Packet
opened_from [] n = []
opened_from (p ∷ ps) zero = p ∷ ps
opened_from (p ∷ ps) (suc n) = opened_from ps (n - length (raw_of p))

-- a packet written behind the first `at` bytes of the output
abbrev pub appending : ℕ → Packet → List ℕ → Outcome
appending at p out = outcome (writing p (drop at out)).answer (take at out ++ (writing p (drop at out)).output)
