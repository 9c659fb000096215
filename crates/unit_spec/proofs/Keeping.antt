-- A refused call leaves the output as it was.
-- written_keeps, read_keeps   each of the two calls
use mathlib.Core.List.{List, ◌++◌}
use Prim.Native.Nat.{ℕ, ◌+◌, ◌-◌}
use lib.Dec.{eqb, ltb}
use lib.ListN.{length, take, drop}
use Rattle.base.specs.Written.{Keeps}
use Rattle.base.proofs.Writing.{refused-keeps, write_keeps, pick-keeps}
use Rattle.unit_spec.specs.Tables.{sequence, heads, payload, lent, unfit, announced}
use Rattle.unit_spec.specs.Unit.{opened, filled, laid_out, unit, hidden, written}
use Rattle.unit_spec.specs.Reading.{header_of, payload_of, named, middle, read_parts, read_unit}

pub written_keeps : (l : ℕ) (d audio opp fixed out : List ℕ) → Keeps out (written l d audio opp fixed out)
unfolding written
written_keeps l d audio opp fixed out =
    pick-keeps (unfit l) out (refused-keeps 50 out)
    (pick-keeps (eqb (sequence (length audio) (length fixed) (length opp)) 0) out (refused-keeps 51 out)
    (pick-keeps (ltb (payload l) (filled d audio opp fixed)) out (refused-keeps 53 out)
    (pick-keeps (hidden d (payload l - filled d audio opp fixed) opp) out (refused-keeps 54 out)
    (write_keeps (unit l (sequence (length audio) (length fixed) (length opp)) (laid_out (payload l) d audio opp fixed)) out))))

pub read_keeps : (l : ℕ) (d : List ℕ) (a f : ℕ) (u out : List ℕ) → Keeps out (read_unit l d a f u out)
unfolding read_unit read_parts
read_keeps l d a f u out =
    let n = payload l in
    let p = payload_of l u in
    let cw = named (heads l) (header_of l u) in
    pick-keeps (unfit l) out (refused-keeps 50 out)
    (pick-keeps (ltb (length u) (lent l)) out (refused-keeps 50 out)
    (pick-keeps (eqb cw 0) out (refused-keeps 52 out)
    (pick-keeps (eqb (sequence a f (announced cw)) cw) out
    (pick-keeps (ltb n (a + f)) out (refused-keeps 53 out)
    (pick-keeps (eqb (announced cw) 0) out (write_keeps (take a p ++ drop (n - f) p) out)
    (pick-keeps (eqb (length (opened d (middle a f p))) 0) out (refused-keeps 54 out)
    (write_keeps (take a p ++ opened d (middle a f p) ++ drop (n - f) p) out))))
    (refused-keeps 53 out))))
