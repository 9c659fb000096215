-- Ports from a first to a last: what a board, a sheet or a list of missed bids is to take.
-- range, every_port   ports from one to another; all of them
-- inside             a port is one of them
use Rattle.std.specs.Prelude.{ℕ, Bool, ◌&&◌, leb}
use Rattle.ports_spec.specs.declared.Range.{Range}

-- .. put together
abbrev pub range : ℕ → ℕ → Range
range first last = record { first = first; last = last }

-- a port has 16 bits
abbrev pub every_port : Range
every_port = range 0 65535

-- not below the first, and not above the last
abbrev pub inside : Range → ℕ → Bool
inside r port = leb r.first port && leb port r.last
