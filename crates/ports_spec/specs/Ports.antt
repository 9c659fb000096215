-- Which bids did we miss (request W1): a small table of ports, up to 16, each with its last sequence number.
-- place_limit               at most so many places
-- freed, entry, unheld     a place that is free, held, or freed again
-- fresh_table               a table that holds no port
-- place_of, free_place       where a port is held, and the first free place; the table's length where there is none
-- last_of, last_at           a port's last number, if it is held; the one at its place
-- twice, unfit             43: more than 16 places, or one port held twice
-- further, taken, without  the table behind a packet, the first of a new port, a port forgotten
-- noting, forgetting       what the two calls answer and leave
use Rattle.std.specs.Prelude.{ℕ, suc, Bool, true, false, ◌&&◌, ◌||◌, List, [], ◌∷◌, eqb, ltb, length, get_or, set, replicate}
use Rattle.std.proofs.Math.Option.{Option, some, none}
use Rattle.base.specs.Choice.{pick}
use Rattle.ports_spec.specs.Distance.{ruled, last_behind}
use Rattle.ports_spec.specs.declared.Entry.{Entry}
use Rattle.ports_spec.specs.declared.Noted.{Noted}
use Rattle.ports_spec.specs.declared.Noted.TheVariants.{First, Refused}
use Rattle.ports_spec.specs.Forgot.{Forgot, Forgotten, Refused as Unforgotten}

-- up to 16 places
abbrev pub place_limit : ℕ
place_limit = 16

-- a free place
abbrev pub freed : Entry
freed = record { held = false; port = 0; last = 0 }

-- 16 free places
abbrev pub fresh_table : List Entry
fresh_table = replicate place_limit freed

-- a place held
abbrev pub entry : ℕ → ℕ → Entry
entry port last = record { held = true; port = port; last = last }

-- .. and one that was: port and last stay as they are, and do not count
abbrev pub unheld : ℕ → ℕ → Entry
unheld port last = record { held = false; port = port; last = last }

-- the place holds this port; what stands in a free place does not count
abbrev pub holds : ℕ → Entry → Bool
holds port e = e.held && eqb e.port port

-- where a port is held, the table's length where it is not
unfoldable pub place_of : ℕ → List Entry → ℕ
place_of port [] = 0
place_of port (e ∷ es) = pick (holds port e) 0 (suc (place_of port es))

-- the first free place, the table's length where there is none
unfoldable pub free_place : List Entry → ℕ
free_place [] = 0
free_place (e ∷ es) = pick e.held (suc (free_place es)) 0

-- a port's last number
unfoldable pub last_of : ℕ → List Entry → Option ℕ
last_of port [] = none
last_of port (e ∷ es) = pick (holds port e) (some e.last) (last_of port es)

-- one port is held twice
unfoldable pub twice : List Entry → Bool
twice [] = false
twice (e ∷ es) = (e.held && ltb (place_of e.port es) (length es)) || twice es

-- 43: more than 16 places, or one port held twice
abbrev pub unfit : List Entry → Bool
unfit es = ltb place_limit (length es) || twice es

-- the last number at the place where a port is held
abbrev pub last_at : List Entry → ℕ → ℕ
last_at es port = (get_or es (place_of port es) freed).last

-- the table behind a further packet of a port that is held: its last number, where the packet is not late
abbrev pub further : List Entry → ℕ → ℕ → List Entry
further es port sequence = set es (place_of port es) (entry port (last_behind (last_at es port) sequence))

-- .. behind the first packet of a new port: it takes the first free place
abbrev pub taken : List Entry → ℕ → ℕ → List Entry
taken es port sequence = set es (free_place es) (entry port sequence)

-- .. and behind a port forgotten: its place is freed, and nothing else changes
abbrev pub without : List Entry → ℕ → List Entry
without es port = set es (place_of port es) (unheld port (last_at es port))

-- a delivered packet: 43 as above; a port that is held, by its last number; a new port takes the first free place, 40 where there is none
unfoldable pub noting : List Entry → ℕ → ℕ → Noted × List Entry
noting es port sequence =
    pick (unfit es) (Refused 43, es)
    (pick (ltb (place_of port es) (length es)) (ruled (last_at es port) sequence, further es port sequence)
    (pick (ltb (free_place es) (length es)) (First, taken es port sequence) (Refused 40, es)))

-- a port forgotten: 43 as above; 41 where it is not held
unfoldable pub forgetting : List Entry → ℕ → Forgot × List Entry
forgetting es port =
    pick (unfit es) (Unforgotten 43, es) (pick (ltb (place_of port es) (length es)) (Forgotten, without es port) (Unforgotten 41, es))
