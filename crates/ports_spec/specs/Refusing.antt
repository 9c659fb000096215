-- When the two calls refuse, as the request says it, and a table that is kept by them.
-- HeldAt               a place is held
-- HeldTwice, Unfit     43
-- Full                 40: of a new port
-- Held                 41: where this is not so
-- Call, keeps          packets noted and ports forgotten, one after the other
use Rattle.std.specs.Prelude.{ℕ, ◌<◌, ◌≡◌, true, ◌⊎◌, List, [], ◌∷◌, length, get_or}
use Rattle.ports_spec.specs.Ports.{place_limit, freed, noting, forgetting}
use Rattle.ports_spec.specs.declared.Entry.{Entry}

-- place i is held
abbrev HeldAt : List Entry → ℕ → Type 0
HeldAt es i = (i < length es) × ((get_or es i freed).held ≡ true)

-- one port is held at two places
abbrev pub HeldTwice : List Entry → Type 0
HeldTwice es = (i : ℕ) × (j : ℕ) × (i < j) × HeldAt es i × HeldAt es j × ((get_or es i freed).port ≡ (get_or es j freed).port)

-- more than 16 places, or one port held twice
abbrev pub Unfit : List Entry → Type 0
Unfit es = (place_limit < length es) ⊎ HeldTwice es

-- a port is held
abbrev pub Held : ℕ → List Entry → Type 0
Held port es = (i : ℕ) × HeldAt es i × ((get_or es i freed).port ≡ port)

-- no place is free
abbrev pub Full : List Entry → Type 0
Full es = (i : ℕ) → i < length es → (get_or es i freed).held ≡ true

-- a packet noted, or a port forgotten
pub data Call : Type 0 where
  packet : ℕ → ℕ → Call
  forget : ℕ → Call

-- the table behind such calls
abbrev pub keeps : List Call → List Entry → List Entry
keeps [] es = es
keeps (packet port sequence ∷ cs) es = keeps cs (noting es port sequence).1
keeps (forget port ∷ cs) es = keeps cs (forgetting es port).1
