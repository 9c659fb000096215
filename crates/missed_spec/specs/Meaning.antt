-- Which bids a recording misses (request W1): what is printed of it, for a range of ports.
-- lines_of, notes   the lines of packets, each by the table of ports that the packets before it left; one behind the other
-- missed           what is printed of a recording's bytes
use Rattle.std.specs.Prelude.{ℕ, List, [], ◌∷◌}
use Rattle.base.specs.Calls.{joined}
use Rattle.ports_spec.specs.declared.Entry.{Entry}
use Rattle.ports_spec.specs.declared.Range.{Range}
use Rattle.ports_spec.specs.Ports.{fresh_table, noting}
use Rattle.sheet_spec.specs.Meaning.{Mark}
use Rattle.sheet_spec.specs.Recording.{brings}
use Rattle.missed_spec.specs.Line.{noted_line}

-- a line for each packet: what it is to its port, by the table that those before it left
unfoldable pub lines_of : List Entry → List Mark → List (List ℕ)
lines_of es [] = []
lines_of es (m ∷ ms) = noted_line m.0 m.1 (noting es m.0 m.1).0 ∷ lines_of (noting es m.0 m.1).1 ms

-- line after line
abbrev pub notes : List Entry → List Mark → List ℕ
notes es ms = joined (lines_of es ms)

-- of a recording: its delivered packets of the range, from a table on that holds no port
abbrev pub missed : Range → List ℕ → List ℕ
missed r file = notes fresh_table (brings r file).1
