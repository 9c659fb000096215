-- A port's numbers on the monthly sheet (request W13), from the sequence numbers that one recording delivered of it.
-- told         what each packet is to its port, by request W1's rule, from the first on
-- one, tally   the numbers of one packet; of all packets of a recording
-- timely_in     how many of them are in order, first or after a gap
-- plus         .. of two recordings together
-- far, wide    44: one of them passes 64 bits
-- told_from     .. and behind a last number
-- tallied, nothing   numbers put together; of no packet
-- missing, timely, repeated, late, sum   of one packet what it adds to each; of one after the other
use Rattle.std.specs.Prelude.{ℕ, ◌+◌, Bool, ◌||◌, List, [], ◌∷◌, ltb}
use Rattle.base.specs.Highest.{highest}
use Rattle.ports_spec.specs.Distance.{ruled, last_behind}
use Rattle.ports_spec.specs.declared.Noted.{Noted}
use Rattle.ports_spec.specs.declared.Noted.TheVariants.{First, InOrder, Repeated, Missing, Late, Refused}
use Rattle.sheet_spec.specs.declared.Tally.{Tally}

-- what each packet is to a port with this last number
unfoldable pub told_from : ℕ → List ℕ → List Noted
told_from last [] = []
told_from last (s ∷ ss) = ruled last s ∷ told_from (last_behind last s) ss

-- .. and afresh: a port's first packet is "first"
unfoldable pub told : List ℕ → List Noted
told [] = []
told (s ∷ ss) = First ∷ told_from s ss

-- packets delivered, repeated, late, missing, and missing plus packets in order, first or after a gap
abbrev pub tallied : ℕ → ℕ → ℕ → ℕ → ℕ → Tally
tallied d r l m t = record { delivered = d; repeated = r; late = l; missing = m; total = t }

-- no packet
abbrev pub nothing : Tally
nothing = tallied 0 0 0 0 0

-- together
abbrev pub plus : Tally → Tally → Tally
plus a b =
    tallied (a.delivered + b.delivered) (a.repeated + b.repeated) (a.late + b.late) (a.missing + b.missing) (a.total + b.total)

-- so many are missing before it
abbrev pub missing : Noted → ℕ
missing First = 0
missing InOrder = 0
missing Repeated = 0
missing (Missing n) = n
missing Late = 0
missing (Refused n) = 0

-- 1 where it is in order, first or after a gap
abbrev pub timely : Noted → ℕ
timely First = 1
timely InOrder = 1
timely Repeated = 0
timely (Missing n) = 1
timely Late = 0
timely (Refused n) = 0

-- 1 where it is repeated
abbrev pub repeated : Noted → ℕ
repeated First = 0
repeated InOrder = 0
repeated Repeated = 1
repeated (Missing n) = 0
repeated Late = 0
repeated (Refused n) = 0

-- 1 where it is late
abbrev pub late : Noted → ℕ
late First = 0
late InOrder = 0
late Repeated = 0
late (Missing n) = 0
late Late = 1
late (Refused n) = 0

-- one packet's numbers
abbrev pub one : Noted → Tally
one n = tallied 1 (repeated n) (late n) (missing n) (missing n + timely n)

-- of one packet after the other
unfoldable pub sum : List Noted → Tally
sum [] = nothing
sum (n ∷ ns) = plus (one n) (sum ns)

-- a port's numbers in one recording
abbrev pub tally : List ℕ → Tally
tally ss = sum (told ss)

-- how many packets are in order, first or after a gap
unfoldable pub timely_in : List Noted → ℕ
timely_in [] = 0
timely_in (n ∷ ns) = timely n + timely_in ns

-- numbers are below 2^64
abbrev pub far : ℕ
far = highest

-- a number passes 64 bits
abbrev pub wide : Tally → Bool
wide t = ltb far t.delivered || ltb far t.repeated || ltb far t.late || ltb far t.missing || ltb far t.total
