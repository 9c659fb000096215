-- The distance rule of request W1: what a new sequence number says of a port with this last one.
-- around, half          the numbers go around 65,536; a distance is below 32,768
-- gap                   from last to new, as the code counts it
-- ruled, last_behind     what it says, and the port's last number then
-- Distance, Leads       the request's signed distance
-- meaning, follows      the same two, in the request's words
use Rattle.std.specs.Prelude.{ℕ, zero, suc, ◌+◌, ◌-◌, ◌%◌, ◌≤◌, ◌≡◌, eqb, ltb}
use Rattle.base.specs.Choice.{pick}
use Rattle.ports_spec.specs.declared.Noted.{Noted}
use Rattle.ports_spec.specs.declared.Noted.TheVariants.{InOrder, Repeated, Missing, Late}

-- sequence numbers have 16 bits
abbrev pub around : ℕ
around = 65536

-- distances reach from -32,768 to 32,767
abbrev pub half : ℕ
half = 32768

-- the steps from last to new around 65,536: the distance itself up to 32,767, and 65,536 more than a negative one
abbrev pub gap : ℕ → ℕ → ℕ
gap last new = (new + around - last) % around

-- 0 is repeated, 1 in order, 2 and more means distance less one are missing, negative is late
abbrev pub ruled : ℕ → ℕ → Noted
ruled last new =
    pick (eqb (gap last new) 0) Repeated (pick (eqb (gap last new) 1) InOrder (pick (ltb (gap last new) half) (Missing (gap last new - 1)) Late))

-- a late packet leaves the last number
abbrev pub last_behind : ℕ → ℕ → ℕ
last_behind last new = pick (ltb (gap last new) half) new last

-- a signed distance: so many ahead, or so many behind
pub data Distance : Type 0 where
  ahead : ℕ → Distance
  behind : ℕ → Distance

-- the signed distance from last to new, from -32,768 to 32,767, around 65,536
abbrev pub Leads : ℕ → ℕ → Distance → Type 0
Leads last new (ahead n) = (n ≤ 32767) × ((last + n) % around ≡ new)
Leads last new (behind n) = (1 ≤ n) × (n ≤ 32768) × ((new + n) % around ≡ last)

-- "Distance 1 is in order, 0 is repeated, 2 and more means distance less one are missing, negative is late .."
abbrev pub meaning : Distance → Noted
meaning (ahead zero) = Repeated
meaning (ahead (suc zero)) = InOrder
meaning (ahead (suc (suc n))) = Missing (suc n)
meaning (behind n) = Late

-- ".. and leaves the last number"
abbrev pub follows : Distance → ℕ → ℕ → ℕ
follows (ahead n) last new = new
follows (behind n) last new = last
