-- Rows of the refusals of request W1, on a table of ports, and of a call on a recording whose packets are noted.
-- ByNoted, ByForgot, ByNotes      that a call refuses by a number
-- note_rows, forget_rows, take_rows  when, first that applies
use Rattle.std.specs.Prelude.{ℕ, ◌<◌, ◌≡◌, List, [], ◌∷◌}
use Rattle.ports_spec.specs.declared.Entry.{Entry}
use Rattle.ports_spec.specs.declared.Noted.{Noted}
use Rattle.ports_spec.specs.declared.Noted.TheVariants.{Refused}
use Rattle.ports_spec.specs.Forgot.{Forgot, Refused as Unforgotten}
use Rattle.ports_spec.specs.Refusing.{Unfit as UnfitTable, Held, Full}
use Rattle.missed_spec.specs.Line.{longest}
use Rattle.missed.specs.Wants.{Refused as NotesRefused}
use Rattle.missed.specs.Page.{Page}
use Rattle.missed.specs.Call.{Part}
use Rattle.demands_laws.specs.Table.{Row}
use Rattle.demands_laws.specs.Refusals.{NextBeyond, Short}

-- a packet to be noted is refused
abbrev pub ByNoted : Noted × List Entry → ℕ → Type 0
ByNoted x n = x.0 ≡ Refused n

-- a port to be forgotten is
abbrev pub ByForgot : Forgot × List Entry → ℕ → Type 0
ByForgot x n = x.0 ≡ Unforgotten n

-- a call on a recording whose packets are noted is
abbrev pub ByNotes : Part → ℕ → Type 0
ByNotes x n = x.wants ≡ NotesRefused n

-- a packet noted
abbrev pub note_rows : List Entry → ℕ → List Row
note_rows es port =
    (43, UnfitTable es) ∷  -- more than 16 places, or one port held twice
    (40, (Held port es → ⊥) × Full es) ∷  -- a new port finds no free place
    []

-- a port forgotten
abbrev pub forget_rows : List Entry → ℕ → List Row
forget_rows es port =
    (43, UnfitTable es) ∷  -- as above
    (41, Held port es → ⊥) ∷  -- the port is not held
    []

-- .. and a call on a recording whose packets are noted, with so much room and n bytes lent
abbrev pub take_rows : ℕ → Page → ℕ → List Row
take_rows room g n =
    (23, room < longest) ∷  -- output shorter than any line
    (10, NextBeyond g.deck.ear.memory.st g.deck.spot n) ∷  -- a count of the state is beyond its limit
    (11, Short g.deck.ear.memory.recv g.deck.ear.memory.word) ∷  -- receive buffer under 8,272 bytes, word buffer under 255
    []
