-- Layer 2 units, written (request W10): a payload of audio, opportunistic part and fixed part in that order, around a spread header.
-- weave              header bits put among payload bits
-- begins, opened     the search of a reader: what stands behind the first delimiter
-- marked, filled     opportunistic data with its delimiter; how many bytes the parts take
-- laid_out            the payload
-- unit_bits, unit     a unit as bits, and as bytes
-- hidden, zeros      54 on writing; a delimiter that is zeros, which alone is hidden
-- written            what the call answers and leaves
use Rattle.std.specs.Prelude.{Bool, true, false, ◌&&◌, List, [], ◌∷◌, ◌++◌, ℕ, ◌+◌, ◌-◌, ◌*◌, eqb, ltb, length, take, drop, replicate}
use Rattle.base.specs.Choice.{pick}
use Rattle.base.specs.Written.{Outcome, refused, write}
use Rattle.unit_spec.specs.Bits.{digits, bits, pack}
use Rattle.unit_spec.specs.Tables.{sequence, heads, start, step, payload, lent, unfit}

-- the header bits hs among the bits p: the first behind `until` of them, each other behind `gap` more
unfoldable pub weave : ℕ → ℕ → List ℕ → List ℕ → List ℕ
weave until gap [] p = p
weave until gap (h ∷ hs) p = take until p ++ h ∷ weave gap gap hs (drop until p)

-- whether xs begins with d
unfoldable pub begins : List ℕ → List ℕ → Bool
begins [] xs = true
begins (x ∷ d) [] = false
begins (x ∷ d) (y ∷ xs) = eqb x y && begins d xs

-- what stands behind the first d; nothing where there is none
unfoldable pub opened : List ℕ → List ℕ → List ℕ
opened d [] = []
opened d (x ∷ xs) = pick (begins d (x ∷ xs)) (drop (length d) (x ∷ xs)) (opened d xs)

-- "without opportunistic data none is written"
abbrev pub marked : List ℕ → List ℕ → List ℕ
marked d opp = pick (eqb (length opp) 0) [] (d ++ opp)

-- audio, marked opportunistic data and fixed data
abbrev pub filled : List ℕ → List ℕ → List ℕ → List ℕ → ℕ
filled d audio opp fixed = length audio + length (marked d opp) + length fixed

-- n bytes: "zero bytes fill the gap behind the audio; opportunistic data follows the delimiter and ends where fixed data begins"
unfoldable pub laid_out : ℕ → List ℕ → List ℕ → List ℕ → List ℕ → List ℕ
laid_out n d audio opp fixed = audio ++ replicate (n - filled d audio opp fixed) 0 ++ marked d opp ++ fixed

-- of l bits with the sequence cw and the payload p: "excess bits, and those past the unit in its last byte, are zero when written"
unfoldable pub unit_bits : ℕ → ℕ → List ℕ → List ℕ
unit_bits l cw p =
    weave (start l) (step l - 1) (take (heads l) (digits 24 cw)) (bits p ++ replicate (lent l * 8 - heads l - length p * 8) 0)

-- its bytes
unfoldable pub unit : ℕ → ℕ → List ℕ → List ℕ
unit l cw p = pack (lent l) (unit_bits l cw p)

-- "the delimiter would be found earlier than written": a reader would find more than what stands behind it
unfoldable pub hidden : List ℕ → ℕ → List ℕ → Bool
hidden d gap opp = pick (eqb (length opp) 0) false (ltb (length opp) (length (opened d (replicate gap 0 ++ d ++ opp))))

-- whether every member is 0
unfoldable pub zeros : List ℕ → Bool
zeros [] = true
zeros (x ∷ d) = eqb x 0 && zeros d

-- a unit of l bits with the delimiter d: refused with 50, 51, 53 or 54 in this order; 23 as for every call that writes
unfoldable pub written : ℕ → List ℕ → List ℕ → List ℕ → List ℕ → List ℕ → Outcome
written l d audio opp fixed out =
    pick (unfit l) (refused 50 out)
    (pick (eqb (sequence (length audio) (length fixed) (length opp)) 0) (refused 51 out)
    (pick (ltb (payload l) (filled d audio opp fixed)) (refused 53 out)
    (pick (hidden d (payload l - filled d audio opp fixed) opp) (refused 54 out)
    (write (unit l (sequence (length audio) (length fixed) (length opp)) (laid_out (payload l) d audio opp fixed)) out))))
