-- A member of a cycle of calls, with measure μ and requirement P.
-- at      what it is given at the measure t
-- below   what a call of it asks there: a smaller measure
use Prim.Native.Nat.{ℕ, ◌<◌}
use mathlib.Core.List.{List}
use borrow.Fn.Kinds.{ParamKind, In}
use borrow.Fn.PlainCycle.{Measures, is, falls, and}

abbrev pub at : (n : ℕ) (ps : List (ParamKind n)) → Measures n ps ℕ → In n ps → ℕ → In n ps
at n ps μ P t = and n ps (is n ps μ t) P

abbrev pub below : (n : ℕ) (ps : List (ParamKind n)) → Measures n ps ℕ → In n ps → ℕ → In n ps
below n ps μ P t = and n ps (falls n ps ◌<◌ μ t) P
