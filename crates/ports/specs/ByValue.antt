-- A table of ports by value (request W1).
-- fresh_ports           one that holds no port
-- sound_ports           whether it is fit: no port is held twice
-- noted_in              what a packet noted in it gives
use Rattle.std.specs.Prelude.{Bool, not, List}
use Rattle.ports_spec.specs.Ports.{fresh_table, unfit}
use Rattle.ports_spec.specs.declared.Entry.{Entry}
use Rattle.ports_spec.specs.declared.Noted.{Noted}
use Rattle.ports.specs.declared.by_value.Ports.{Ports}
use Rattle.ports.specs.declared.by_value.NotedIn.{NotedIn}

-- 16 free places
abbrev pub fresh_ports : Ports
fresh_ports = record { entries = fresh_table }

-- no port is held twice in it: 43 is no answer then
abbrev pub sound_ports : Ports → Bool
sound_ports t = not (unfit t.entries)

-- a packet noted in it
abbrev pub noted_in : Noted × List Entry → NotedIn
noted_in x = record { noted = x.0; ports = record { entries = x.1 } }
