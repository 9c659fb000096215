-- What private functions alone are promised by.
-- head_of                    a record's head
-- asked                     what the sender says of a packet, asked with no room for its output
-- step_of, StepIs    what a byte gives
use Rattle.std.specs.Prelude.{ℕ, ◌≡◌, List, ◌++◌}
use Rattle.std.proofs.Math.Option.{Option}
use Rattle.packet_spec.specs.Contents.{Packet}
use Rattle.packet_spec.specs.Frame.{Told, packet, refusal}
use Rattle.packet_spec.specs.Sender.{refusing}
use Rattle.stream.specs.Call.{answered}
use Rattle.capture_spec.specs.File.{four}
use Rattle.capture.specs.declared.reader.CaptureReader.{CaptureReader}
use Rattle.capture.specs.declared.reader.Step.{Step}
use Rattle.capture.specs.Call.{Held}

-- seconds, microseconds, twice how many bytes
abbrev pub head_of : ℕ → ℕ → List ℕ
head_of i n = four i ++ (four 0 ++ (four n ++ four n))

-- the packet where the sender would accept it, 62 where it would not
abbrev pub asked : Packet → Told
asked p = refusing p (λ n. refusal 62) (packet p)

-- an answer, if there is one, and the state behind it
abbrev pub step_of : Option Told × CaptureReader → Step
step_of x = record { heard = answered x.0; capture = x.1 }

-- .. with the store
abbrev pub StepIs : Option Told × Held → Step → List ℕ → Type 0
StepIs x r l = (r ≡ step_of (x.0, x.1.st)) × (l ≡ x.1.store)
