-- The running interleaver (request W3; 001, section 6.4.3): each write is followed at once by a read. The depth is d, and N is 255 d.
-- depth_limit, size, next         rows, at most; N; the place behind a place
-- matrix, fresh, stored          the cells and the place whose turn it is; at first; a byte stored in its turn
-- passing                        depth 0 and 1
-- sent, push                     one byte of the sender: written, and then its output read
-- back, fresh_back, taken, full, gave, pull   one received byte: stored, and then the byte N - 1 before it given back
-- beyond, calling                refusals 10, 32 and 23
-- step, step_at                   a place's cell, and the place behind it, asked for one at a time
-- pushing, closing, pulling      what the three calls answer and leave; closing_bytes, zeros: of the closing push
use Rattle.std.specs.Prelude.{Bool, false, ◌&&◌, ◌||◌, List, ℕ, ◌+◌, ◌-◌, ◌*◌, ◌%◌, eqb, ltb, leb, length, get_or, set, replicate}
use Rattle.std.proofs.Math.Option.{Option, some, none}
use Rattle.base.specs.Calls.{run}
use Rattle.base.specs.Choice.{pick}
use Rattle.base.specs.Written.{Outcome, refused, write}
use Rattle.interleaver_spec.specs.Places.{width, cell}
use Rattle.interleaver_spec.specs.declared.Matrix.{Matrix}
use Rattle.interleaver_spec.specs.declared.Back.{Back}
use Rattle.interleaver_spec.specs.declared.Step.{Step}

-- "Depth 0 to 64"
abbrev pub depth_limit : ℕ
depth_limit = 64

-- N
abbrev pub size : ℕ → ℕ
size d = width * d

-- the place behind p, mod N
abbrev pub next : ℕ → ℕ → ℕ
next d p = (p + 1) % size d

-- place and cells
abbrev pub matrix : ℕ → List ℕ → Matrix
matrix p cs = record { place = p; cells = cs }

-- "cells begin at zero"
abbrev pub fresh : Matrix
fresh = matrix 0 (replicate (depth_limit * width) 0)

-- byte b stored in its turn, in the cell that f has for the place
abbrev pub stored : (ℕ → ℕ) → ℕ → Matrix → ℕ → Matrix
stored f d m b = matrix (next d m.place) (set m.cells (f m.place) b)

-- depth 0 and 1 pass a byte unchanged and touch no state; deeper it goes by e
abbrev pub passing : {S : Type 0} → ℕ → (S → ℕ → Option ℕ × S) → S → ℕ → Option ℕ × S
passing d e s b = pick (ltb d 2) (some b, s) (e s b)

-- "byte t is written to cell t mod N and then output t is read by the equations"
abbrev pub sent : ℕ → Matrix → ℕ → Option ℕ × Matrix
sent d m b = (some (get_or (stored (λ p. p) d m b).cells (cell d m.place) 0), stored (λ p. p) d m b)

-- the sender's byte at any depth
abbrev pub push : ℕ → Matrix → ℕ → Option ℕ × Matrix
push d = passing d (sent d)

-- the receiving side: whether its first pass is over, its place and cells
abbrev pub back : Bool → Matrix → Back
back a m = record { again = a; matrix = m }

-- nothing received yet
abbrev pub fresh_back : Back
fresh_back = back false fresh

-- a received byte goes to the cell that the equations read it from; the cell whose turn is next then has the byte N - 1 before
abbrev pub taken : ℕ → Matrix → ℕ → Option ℕ × Matrix
taken d m b = (some (get_or (stored (cell d) d m b).cells (next d m.place) 0), stored (cell d) d m b)

-- N bytes have been taken in with the one at this place, or more
abbrev pub full : ℕ → Back → Bool
full d k = k.again || eqb (k.matrix.place + 1) (size d)

-- that byte is given back once there is one
abbrev pub gave : ℕ → Back → ℕ → Option ℕ × Back
gave d k b = (pick (full d k) (taken d k.matrix b).0 none, back (full d k) (taken d k.matrix b).1)

-- the received byte at any depth
abbrev pub pull : ℕ → Back → ℕ → Option ℕ × Back
pull d = passing d (gave d)

-- 10: "a cell place of N or more"; depth 0 and 1 have no cell
abbrev pub beyond : ℕ → ℕ → Bool
beyond d p = leb 2 d && leb (size d) p

-- a cell, and the place behind
abbrev pub step : ℕ → ℕ → Step
step k q = record { cell = k; next = q }

-- of the place p; none, which is 0 and 0, where bytes pass, where the depth is above 64, and where p is none of the N cells
abbrev pub step_at : ℕ → ℕ → Step
step_at d p = pick (ltb d 2) (step 0 0) (pick (ltb depth_limit d) (step 0 0) (pick (beyond d p) (step 0 0) (step (cell d p) (next d p))))

-- a call at place p with state s and result r: 10; 32 where the depth is above 64; 23 as for every call that writes, and the state stays too
abbrev pub calling : {S : Type 0} → ℕ → ℕ → S → List ℕ × S → List ℕ → Outcome × S
calling d p s r out =
    pick (beyond d p) (refused 10 out, s) (pick (ltb depth_limit d) (refused 32 out, s) (write r.0 out, pick (ltb (length out) (length r.0)) s r.1))

-- bytes pushed
abbrev pub pushing : ℕ → Matrix → List ℕ → List ℕ → Outcome × Matrix
pushing d m bs out = calling d m.place m (run (push d) m bs) out

-- the closing push has N - 1 bytes, none where bytes pass
abbrev pub closing_bytes : ℕ → ℕ
closing_bytes d = pick (ltb d 2) 0 (size d - 1)

-- "After its last byte the sender pushes N - 1 zeros through"
abbrev pub zeros : ℕ → List ℕ
zeros d = replicate (closing_bytes d) 0

-- the closing push
abbrev pub closing : ℕ → Matrix → List ℕ → Outcome × Matrix
closing d m out = pushing d m (zeros d) out

-- received bytes taken in
abbrev pub pulling : ℕ → Back → List ℕ → List ℕ → Outcome × Back
pulling d k bs out = calling d k.matrix.place k (run (pull d) k bs) out
