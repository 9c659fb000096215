-- Layer 2 units, read (request W10).
-- heard, unwoven         header bits and payload bits of a unit
-- header_of, payload_of    its header as a number, and its payload bytes: all that a reader looks at
-- is_header, named        the sequence that a header names
-- middle                 where the delimiter is sought
-- read_parts, read_unit    what the call answers and leaves
use Rattle.std.specs.Prelude.{Bool, List, [], ◌∷◌, ◌++◌, ℕ, zero, suc, ◌+◌, ◌-◌, eqb, ltb, length, take, drop, get_or}
use Rattle.base.specs.Choice.{pick}
use Rattle.base.specs.Written.{Outcome, refused, write}
use Rattle.unit_spec.specs.Bits.{digits, bits, number, pack}
use Rattle.unit_spec.specs.Tables.{cw0, cw1, cw2, cw3, cw4, sequence, announced, heads, start, step, payload, lent, unfit}
use Rattle.unit_spec.specs.Unit.{opened}

-- the n header bits of a unit
unfoldable pub heard : ℕ → ℕ → ℕ → List ℕ → List ℕ
heard until gap zero u = []
heard until gap (suc n) u = get_or u until 0 ∷ heard gap gap n (drop (suc until) u)

-- the other bits
unfoldable pub unwoven : ℕ → ℕ → ℕ → List ℕ → List ℕ
unwoven until gap zero u = u
unwoven until gap (suc n) u = take until u ++ unwoven gap gap n (drop (suc until) u)

-- the header bits of a unit of l bits, as a number
unfoldable pub header_of : ℕ → List ℕ → ℕ
header_of l u = number 0 (heard (start l) (step l - 1) (heads l) (bits u))

-- its payload bytes: excess bits, and those past the unit, are in none of them
unfoldable pub payload_of : ℕ → List ℕ → List ℕ
payload_of l u = pack (payload l) (unwoven (start l) (step l - 1) (heads l) (bits u))

-- whether the first n bits of a sequence are h
unfoldable pub is_header : ℕ → ℕ → ℕ → Bool
is_header n h cw = eqb h (number 0 (take n (digits 24 cw)))

-- the sequence that a header of n bits names; 0 for "bits that match no sequence or a reserved one"
unfoldable pub named : ℕ → ℕ → ℕ
named n h =
    pick (is_header n h cw0) cw0
    (pick (is_header n h cw1) cw1 (pick (is_header n h cw2) cw2 (pick (is_header n h cw3) cw3 (pick (is_header n h cw4) cw4 0))))

-- what stands between a bytes of audio and f of fixed data
abbrev pub middle : ℕ → ℕ → List ℕ → List ℕ
middle a f p = take (length p - f - a) (drop a p)

-- with the sequence cw that is named and the payload p of n bytes: the parts one behind the other; 52, 53 or 54 in this order, then 23
unfoldable pub read_parts : ℕ → ℕ → List ℕ → ℕ → ℕ → List ℕ → List ℕ → Outcome
read_parts n cw d a f p out =
    pick (eqb cw 0) (refused 52 out)
    (pick (eqb (sequence a f (announced cw)) cw)
    (pick (ltb n (a + f)) (refused 53 out)
    (pick (eqb (announced cw) 0) (write (take a p ++ drop (n - f) p) out)
    (pick (eqb (length (opened d (middle a f p))) 0) (refused 54 out) (write (take a p ++ opened d (middle a f p) ++ drop (n - f) p) out))))
    (refused 53 out))

-- a unit of l bits with the delimiter d: "the reader is told the audio and fixed lengths and takes the first delimiter behind the audio"
unfoldable pub read_unit : ℕ → List ℕ → ℕ → ℕ → List ℕ → List ℕ → Outcome
read_unit l d a f u out =
    pick (unfit l) (refused 50 out)
    (pick (ltb (length u) (lent l)) (refused 50 out) (read_parts (payload l) (named (heads l) (header_of l u)) d a f (payload_of l u) out))
