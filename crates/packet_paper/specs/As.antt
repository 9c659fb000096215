-- Our values as the papers' (crate `paper`), part by part.
-- as_packet, as_verdict   a packet, and what a frame is told to be
-- as_result, as_outcome   what a call that writes answers and leaves
use Rattle.std.specs.Prelude.{ℕ}
use Rattle.paper.specs.Calls as paper
use Rattle.paper.specs.Packet.{Packet as PaperPacket}
use Rattle.paper.specs.Frame.{Verdict, delivered, refused as paper_refused, broken as paper_broken}
use Rattle.base.specs.Written.{Outcome}
use Rattle.base.specs.Written.{Written}
use Rattle.base.specs.Written.{Wrote, Refused}
use Rattle.packet_spec.specs.Contents.{Packet}
use Rattle.packet_spec.specs.Frame.{Told, packet, refusal, broken}

-- a packet
abbrev pub as_packet : Packet → PaperPacket
as_packet p =
    record { format = p.format; key_number = p.number; key = p.key; port = p.port; sequence = p.sequence; payload = p.payload }

-- what a frame is told to be
abbrev pub as_verdict : Told → Verdict
as_verdict (packet p) = delivered (as_packet p)
as_verdict (refusal n) = paper_refused n
as_verdict (broken n) = paper_broken n

-- the answer of a call that writes
abbrev pub as_result : Written → paper.Result
as_result (Wrote n) = paper.wrote n
as_result (Refused n) = paper.denied n

-- .. and what it leaves
abbrev pub as_outcome : Outcome → paper.Outcome
as_outcome o = record { answer = as_result o.answer; output = o.output }
