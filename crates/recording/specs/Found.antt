-- What a call for a recording's next packet answers, by the paper's numbers.
-- Found, More, Packet, Refused   that more is wanted, a packet, or the number by which the call is refused
-- Got                 that, the bytes taken and the reader's state
-- as_found, as_got    the same of what the code answers
use Rattle.std.specs.Prelude.{ℕ, Option, Some, None, Result, Ok, Err}
use Rattle.base.specs.declared.Refusal.{Refusal}
use Rattle.base.specs.Refusals.{number}
use Rattle.packet_spec.specs.declared.Delivery.{Delivery}
use Rattle.recording.specs.declared.reader.RecordingReader.{RecordingReader}
use Rattle.recording.specs.declared.reader.NextPacket.{NextPacket}

-- more is wanted, a packet, or the call is refused by this number of the paper
pub data Found : Type 0 where
  More : Found
  Packet : Delivery → Found
  Refused : ℕ → Found

-- what the code answers, by the paper's numbers
abbrev pub as_found : Result (Option Delivery) Refusal → Found
as_found (Ok None) = More
as_found (Ok (Some d)) = Packet d
as_found (Err r) = Refused (number r)

-- what is found, the bytes taken and the reader's state
pub record Got : Type 0 where
  pub found : Found
  pub taken : ℕ
  pub tape : RecordingReader

-- the code's result, by the paper's numbers
abbrev pub as_got : NextPacket → Got
as_got r = record { found = as_found r.found; taken = r.taken; tape = r.tape }
