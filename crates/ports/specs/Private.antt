-- A packet noted, as one decision over a table's first 16 places: what is to be answered, and which entry is to be put where. No contract cites it:
-- proofs/Tables.antt has that it is the meaning of `note` for both forms of a table.
-- Table, gathered, table_of    a lent table as a value; in_table, last_in: its places, and a port's last number
-- Noting, noting_of            the decision; unnoted where it is a refusal
use Rattle.std.specs.Prelude.{ℕ, List, [], ◌∷◌, ltb, length, get_or, take}
use Rattle.base.specs.Choice.{pick}
use Rattle.ports_spec.specs.Distance.{ruled, last_behind}
use Rattle.ports_spec.specs.Ports.{place_limit, freed, entry, place_of, free_place, twice}
use Rattle.ports_spec.specs.declared.Entry.{Entry}
use Rattle.ports_spec.specs.declared.Noted.{Noted}
use Rattle.ports_spec.specs.declared.Noted.TheVariants.{First, Refused}

-- how many places, and the first 16 of them
pub record Table : Type 0 where
  pub places : ℕ
  pub entries : List Entry

-- what to answer and what to put where; a place behind the end puts nothing
pub record Noting : Type 0 where
  pub noted : Noted
  pub place : ℕ
  pub entry : Entry

-- the first 16 places of a table, free ones behind its end
abbrev pub gathered : List Entry → List Entry
gathered es =
    get_or es 0 freed ∷ get_or es 1 freed ∷ get_or es 2 freed ∷ get_or es 3 freed ∷ get_or es 4 freed ∷ get_or es 5 freed ∷
    get_or es 6 freed ∷ get_or es 7 freed ∷ get_or es 8 freed ∷ get_or es 9 freed ∷ get_or es 10 freed ∷ get_or es 11 freed ∷
    get_or es 12 freed ∷ get_or es 13 freed ∷ get_or es 14 freed ∷ get_or es 15 freed ∷ []

-- a lent table, as a value
abbrev pub table_of : List Entry → Table
table_of es = record { places = length es; entries = gathered es }

-- its places, at most 16
abbrev in_table : Table → List Entry
in_table t = take t.places t.entries

-- the last number at the place where a port is held
abbrev last_in : Table → ℕ → ℕ
last_in t port = (get_or t.entries (place_of port (in_table t)) freed).last

-- a refusal puts nothing: its place is behind the end
abbrev pub unnoted : ℕ → ℕ → Noting
unnoted n number = record { noted = Refused number; place = n; entry = freed }

-- what to answer of a packet, and what to put where
unfoldable pub noting_of : Table → ℕ → ℕ → Noting
noting_of t port sequence =
    pick (ltb place_limit t.places) (unnoted t.places 43)
    (pick (twice (in_table t)) (unnoted t.places 43)
    (pick (ltb (place_of port (in_table t)) t.places)
    (record {
      noted = ruled (last_in t port) sequence;
      place = place_of port (in_table t);
      entry = entry port (last_behind (last_in t port) sequence);
    })
    (pick (ltb (free_place (in_table t)) t.places)
    (record { noted = First; place = free_place (in_table t); entry = entry port sequence })
    (unnoted t.places 40))))
