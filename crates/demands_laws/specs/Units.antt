-- Rows of the refusals of request W10, on Layer 2 units.
-- write_rows, read_rows, part_rows   when, first that applies
use Rattle.std.specs.Prelude.{ℕ, ◌+◌, ◌-◌, ◌<◌, ◌⊎◌, List, [], ◌∷◌, length}
use Rattle.unit_spec.specs.Tables.{heads, payload, lent}
use Rattle.unit_spec.specs.Unit.{filled}
use Rattle.unit_spec.specs.Reading.{header_of, payload_of, named, middle}
use Rattle.unit_spec.specs.Refusing.{Unfit as UnfitLength, NoMix, Early, Unnamed, Disagree, Unmarked, carried}
use Rattle.demands_laws.specs.Table.{Row}

-- of a call that writes a unit of l bits, with r bytes of output
abbrev pub write_rows : ℕ → List ℕ → List ℕ → List ℕ → List ℕ → ℕ → List Row
write_rows l d audio opp fixed r =
    (50, UnfitLength l) ∷  -- length above the limit, a header spacing below zero
    (51, NoMix (length audio) (length fixed) (length opp)) ∷  -- a mix of content that has no sequence
    (53, payload l < filled d audio opp fixed) ∷  -- parts that do not fit
    (54, Early d (payload l - filled d audio opp fixed) opp) ∷  -- the delimiter would be found earlier than written
    (23, r < lent l) ∷  -- then 23
    []

-- of a unit u long enough, with the sequence cw that its header names and the middle xs of its payload
abbrev pub part_rows : ℕ → List ℕ → ℕ → ℕ → List ℕ → ℕ → ℕ → List ℕ → List Row
part_rows l d a f u r cw xs =
    (52, Unnamed l u) ∷  -- bits that match no sequence or a reserved one
    (53, Disagree cw a f ⊎ (payload l < a + f)) ∷  -- parts that do not fit or told lengths that disagree with the sequence
    (54, Unmarked cw d xs) ∷  -- it is announced and not found ahead of at least one opportunistic byte
    (23, r < a + length (carried cw d xs) + f) ∷  -- then 23
    []

-- of a call that reads a unit u of l bits, a and f bytes of audio and fixed data being told, with r bytes of output
abbrev pub read_rows : ℕ → List ℕ → ℕ → ℕ → List ℕ → ℕ → List Row
read_rows l d a f u r =
    (50, UnfitLength l ⊎ (length u < lent l)) ∷  -- .. or too few bytes lent
    part_rows l d a f u r (named (heads l) (header_of l u)) (middle a f (payload_of l u))
