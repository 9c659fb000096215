-- A recording taken apart (paper 01, "The listing program"): which of its bytes are stream bytes, and where it ends.
-- next        one byte on
-- apart       the stream bytes, and where the recording ends
-- well        it may end here
-- is_wrong     a wrong byte was met
-- on_channel   which stream it is
-- records     the records of some pieces
-- most        a stream has at most so many bytes
-- fresh_spot, on, wrong, left, through, next_at   before the first byte; where one byte leads, by the place
-- in_stream, keep   the next byte is a stream byte, and stands before the rest then
-- record_of    a piece as a record
use Rattle.std.specs.Prelude.{ℕ, ◌+◌, ◌-◌, ◌*◌, ◌/◌, ◌%◌, Bool, true, false, List, [], ◌∷◌, ◌++◌, eqb, ltb, length}
use Rattle.base.specs.Choice.{pick}
use Rattle.listing_spec.specs.declared.Place.{Place}
use Rattle.listing_spec.specs.declared.Place.TheVariants.{Mode, Mark, Second, Low, High, Inside, Wrong}
use Rattle.listing_spec.specs.declared.Spot.{Spot}

-- a stream has at most so many bytes
abbrev pub most : ℕ
most = 4294967295

-- before the first byte
abbrev pub fresh_spot : Spot
fresh_spot = record { place = Mode; offset = 0; count = 0 }

-- one byte on, at a new place
abbrev pub on : Place → Spot → Spot
on q p = record { place = q; offset = p.offset + 1; count = p.count }

-- the first wrong byte is not passed: the offset stays at it
abbrev pub wrong : Spot → Spot
wrong p = record { place = Wrong; offset = p.offset; count = p.count }

-- so many stream bytes are left in the record
abbrev pub left : ℕ → Place
left n = pick (eqb n 0) Mark (Inside (n - 1))

-- a stream byte, with k more behind it
abbrev pub through : ℕ → Spot → Spot
through k p = record { place = left k; offset = p.offset + 1; count = p.count + 1 }

-- one byte: 0x50 or 0x4F first, then records: mark F5 5F, length low byte first, that many stream bytes
unfoldable pub next_at : Place → Spot → ℕ → Spot
next_at Mode p b = pick (eqb b 0x50) (on Mark p) (pick (eqb b 0x4F) (on Mark p) (wrong p))
next_at Mark p b = pick (eqb b 0xF5) (on Second p) (wrong p)
next_at Second p b = pick (eqb b 0x5F) (on Low p) (wrong p)
next_at Low p b = on (High b) p
next_at (High l) p b = on (left (l + 256 * b)) p
next_at (Inside k) p b = pick (ltb p.count most) (through k p) (wrong p)
next_at Wrong p b = p

-- one byte on
abbrev pub next : Spot → ℕ → Spot
next p b = next_at p.place p b

-- the next byte is a stream byte, by the place and the stream bytes before it
unfoldable pub in_stream : Place → ℕ → Bool
in_stream Mode n = false
in_stream Mark n = false
in_stream Second n = false
in_stream Low n = false
in_stream (High l) n = false
in_stream (Inside k) n = ltb n most
in_stream Wrong n = false

-- a byte before the rest, by: is it a stream byte
abbrev pub keep : Bool → ℕ → List ℕ × Spot → List ℕ × Spot
keep true b r = (b ∷ r.0, r.1)
keep false b r = r

-- the stream bytes, and where the recording ends
unfoldable pub apart : Spot → List ℕ → List ℕ × Spot
apart p [] = ([], p)
apart p (b ∷ bs) = keep (in_stream p.place p.count) b (apart (next p b) bs)

-- a recording may end before a mark, and nowhere else
abbrev pub well : Place → Bool
well Mode = false
well Mark = true
well Second = false
well Low = false
well (High l) = false
well (Inside k) = false
well Wrong = false

-- a wrong byte was met: nothing behind it counts
abbrev pub is_wrong : Place → Bool
is_wrong Mode = false
is_wrong Mark = false
is_wrong Second = false
is_wrong Low = false
is_wrong (High l) = false
is_wrong (Inside k) = false
is_wrong Wrong = true

-- the first byte says which stream it is
abbrev pub on_channel : List ℕ → Bool
on_channel [] = false
on_channel (b ∷ bs) = eqb b 0x4F

-- a piece as a record: mark, length low byte first, the piece
abbrev pub record_of : List ℕ → List ℕ
record_of p = 0xF5 ∷ 0x5F ∷ length p % 256 ∷ length p / 256 ∷ p

-- records one after the other
abbrev pub records : List (List ℕ) → List ℕ
records [] = []
records (p ∷ ps) = record_of p ++ records ps
