-- Computed cases of the request's sentences.
-- rules, lasts          distances 0, 1, 2, 32,767, -32,768 and -1, around 65,536 too
-- notes, late           a packet of a port that is held
-- new-port, first-place, full, no-places, free-port   a new port: its place, or none; what stands in a free place does not count
-- seventeen, held-twice, twice-first   a table that is not fit
-- forgot, not-held      ports forgotten
-- insides               a range's two ends, and the ports beside them
use mathlib.Core.Path.{◌≡◌, refl}
use mathlib.Core.Bool.{true, false}
use mathlib.Core.List.{List, [], ◌∷◌}
use lib.ListN.{replicate}
use Rattle.ports_spec.specs.declared.Entry.{Entry}
use Rattle.ports_spec.specs.declared.Noted.TheVariants.{First, InOrder, Repeated, Missing, Late, Refused}
use Rattle.ports_spec.specs.Forgot.{Forgotten, Refused as Unforgotten}
use Rattle.ports_spec.specs.Distance.{ruled, last_behind}
use Rattle.ports_spec.specs.Range.{range, every_port, inside}
use Rattle.ports_spec.specs.Ports.{freed, entry, place_of, free_place, twice, noting, forgetting}

pub rules : ruled 0 1 ∷ ruled 65535 0 ∷ ruled 7 7 ∷ ruled 65535 1 ∷ ruled 0 32767 ∷ ruled 0 32768 ∷ ruled 1 0 ∷ ruled 40000 7231 ∷ ruled 40000 7232 ∷ []
    ≡ InOrder ∷ InOrder ∷ Repeated ∷ Missing 1 ∷ Missing 32766 ∷ Late ∷ Late ∷ Missing 32766 ∷ Late ∷ []
rules = refl

pub lasts : last_behind 5 5 ∷ last_behind 5 4 ∷ last_behind 5 9 ∷ [] ≡ 5 ∷ 5 ∷ 9 ∷ []
lasts = refl

abbrev two_places : List Entry
two_places = entry 5 1 ∷ freed ∷ []

pub notes : noting two_places 5 4 ≡ (Missing 2, entry 5 4 ∷ freed ∷ [])
unfolding noting place_of free_place twice
notes = refl

new-port : noting two_places 9 4 ≡ (First, entry 5 1 ∷ entry 9 4 ∷ [])
unfolding noting place_of free_place twice
new-port = refl

-- the first of two free places
pub first-place : noting (freed ∷ freed ∷ []) 9 4 ≡ (First, entry 9 4 ∷ freed ∷ [])
unfolding noting place_of free_place twice
first-place = refl

pub full : noting (entry 5 1 ∷ []) 9 4 ≡ (Refused 40, entry 5 1 ∷ [])
unfolding noting place_of free_place twice
full = refl

pub held-twice : noting (entry 5 1 ∷ entry 5 2 ∷ []) 9 4 ≡ (Refused 43, entry 5 1 ∷ entry 5 2 ∷ [])
unfolding noting place_of free_place twice
held-twice = refl

pub forgot : forgetting two_places 5 ≡ (Forgotten, record { held = false; port = 5; last = 1 } ∷ freed ∷ [])
unfolding forgetting place_of twice
forgot = refl

pub not-held : forgetting two_places 6 ≡ (Unforgotten 41, two_places)
unfolding forgetting place_of twice
not-held = refl

-- a table of no places, one of seventeen
no-places : noting [] 5 4 ≡ (Refused 40, [])
unfolding noting place_of free_place twice
no-places = refl

pub seventeen : noting (replicate 17 freed) 5 4 ≡ (Refused 43, replicate 17 freed)
unfolding noting place_of free_place twice
seventeen = refl

-- 43 is found before 40 and 41
twice-first : noting (entry 5 1 ∷ entry 5 2 ∷ []) 7 4 ≡ (Refused 43, entry 5 1 ∷ entry 5 2 ∷ [])
unfolding noting place_of free_place twice
twice-first = refl

-- a late packet leaves the last number, and what stands in a free place does not count
pub late : noting (entry 5 10 ∷ []) 5 9 ≡ (Late, entry 5 10 ∷ [])
unfolding noting place_of free_place twice
late = refl

free-port : noting (record { held = false; port = 5; last = 3 } ∷ []) 5 4 ≡ (First, entry 5 4 ∷ [])
unfolding noting place_of free_place twice
free-port = refl

pub insides : inside (range 1201 1216) 1200 ∷ inside (range 1201 1216) 1201 ∷ inside (range 1201 1216) 1216 ∷ inside (range 1201 1216) 1217
    ∷ inside (range 7 7) 7 ∷ inside (range 8 7) 7 ∷ inside every_port 0 ∷ inside every_port 65535 ∷ []
    ≡ false ∷ true ∷ true ∷ false ∷ true ∷ false ∷ true ∷ true ∷ []
insides = refl
