-- Rows at places, as the code has them: what its private functions are promised by.
-- last_by              a port's last number, by what the packet is
-- place_for, is_old     the first row of a port that is not smaller, and whether it is that port's
-- place_in             the same: where a port's row stands, or else is to stand
-- put_in, PutsIn       the rows with one in a row's stead, or between; that there is a row in whose stead, or room
use Rattle.std.specs.Prelude.{ℕ, suc, ◌<◌, ◌≤◌, Bool, false, List, [], ◌∷◌, ◌++◌, Result, Ok, Err, eqb, ltb, length, take, drop, set}
use Rattle.base.specs.Choice.{pick}
use Rattle.ports_spec.specs.declared.Noted.{Noted}
use Rattle.ports_spec.specs.declared.Noted.TheVariants.{First, InOrder, Repeated, Missing, Late, Refused}
use Rattle.sheet_spec.specs.declared.Row.{Row}
use Rattle.sheet_spec.specs.Meaning.{port_limit}

-- a late packet leaves it
abbrev pub last_by : Noted → ℕ → ℕ → ℕ
last_by First last s = s
last_by InOrder last s = s
last_by Repeated last s = s
last_by (Missing n) last s = s
last_by Late last s = last
last_by (Refused n) last s = s

-- the first row of a port that is not smaller ..
unfoldable pub place_for : ℕ → List Row → ℕ
place_for port [] = 0
place_for port (r ∷ rs) = pick (ltb r.port port) (suc (place_for port rs)) 0

-- .. is there and of that port
unfoldable pub is_old : ℕ → List Row → Bool
is_old port [] = false
is_old port (r ∷ rs) = pick (ltb r.port port) (is_old port rs) (eqb r.port port)

-- where the row of a port stands; else where it is to stand
abbrev pub place_in : ℕ → List Row → Result ℕ ℕ
place_in port rs = pick (is_old port rs) (Ok (place_for port rs)) (Err (place_for port rs))

-- the rows with one in a row's stead, or between
abbrev pub put_in : Result ℕ ℕ → Row → List Row → List Row
put_in (Ok at) x rs = set rs at x
put_in (Err at) x rs = take at rs ++ x ∷ drop at rs

-- there is a row in whose stead, or room for one more
abbrev pub PutsIn : Result ℕ ℕ → List Row → Type 0
PutsIn (Ok at) rs = at < length rs
PutsIn (Err at) rs = (at ≤ length rs) × (length rs < port_limit)
