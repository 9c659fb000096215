-- What a private function alone is promised by.
-- line_in, NotedIs   a packet's line, and a packet noted
use Rattle.std.specs.Prelude.{ℕ, ◌≡◌, List, ◌++◌, length, drop}
use Rattle.packet_spec.specs.declared.Delivery.{Delivery}
use Rattle.ports.specs.declared.by_value.Ports.{Ports}
use Rattle.missed.specs.declared.notes.Notes.{Notes}
use Rattle.missed.specs.Wants.{Again, Took}
use Rattle.missed.specs.Page.{line_of}

-- its line, and the table behind it
abbrev pub line_in : Notes → Delivery → List ℕ × Ports
line_in s d = line_of s.range s.ports d.port d.sequence

-- r is the result of noting a packet behind so many bytes, out the output then, which held old before
abbrev pub NotedIs : Notes → ℕ → Delivery → Took → List ℕ → List ℕ → Type 0
NotedIs s taken d r old out =
    (r ≡ record {
      wants = Again;
      taken = taken;
      written = length (line_in s d).0;
      next = record { tape = s.tape; ports = (line_in s d).1; range = s.range };
    }) × (out ≡ (line_in s d).0 ++ drop (length (line_in s d).0) old)
