-- What private functions alone are promised by.
-- left           what a loop over bytes has left from byte i on: in the output, and in the cells
-- held           how many of n received bytes give none back
-- Ready, given   what the receiving side's bytes at depth 2 or more ask, and what they leave
use Rattle.std.specs.Prelude.{◌≡◌, Bool, List, ℕ, ◌+◌, ◌-◌, ◌≤◌, ◌<◌, min, ltb, length, drop}
use Rattle.std.proofs.Math.Option.{Option}
use Rattle.std.proofs.lemmas.List.Edits.{sets}
use Rattle.base.specs.Calls.{run}
use Rattle.base.specs.Choice.{pick}
use Rattle.base.specs.Written.{copied}
use Rattle.interleaver_spec.specs.Running.{depth_limit, size, gave}
use Rattle.interleaver_spec.specs.declared.Matrix.{Matrix}
use Rattle.interleaver_spec.specs.declared.Back.{Back}

-- each byte by e
abbrev pub left : (Matrix → ℕ → Option ℕ × Matrix) → List ℕ → ℕ → Matrix → List ℕ → List ℕ × Matrix
left e bs i m out = (sets out i (run e m (drop i bs)).0, (run e m (drop i bs)).1)

-- none behind the first pass, nor at depth 0 and 1; else those up to the last place but one
abbrev pub held : ℕ → Bool → ℕ → ℕ → ℕ
held d a p n = pick (ltb d 2) 0 (pick a 0 (min (size d - 1 - p) n))

-- the first n of the bytes give none back, and there is room for what the others give
abbrev pub Ready : ℕ → Back → List ℕ → List ℕ → ℕ → Type 0
Ready d k bs out n =
    (2 ≤ d) × (d ≤ depth_limit) × (k.matrix.place < size d) × (n ≡ held d k.again k.matrix.place (length bs))
    × (n ≤ length bs) × (length bs ≤ length out + n)

-- the output, and the state
abbrev pub given : ℕ → Back → List ℕ → List ℕ → List ℕ × Back
given d k bs out = (copied (run (gave d) k bs).0 out, (run (gave d) k bs).1)
