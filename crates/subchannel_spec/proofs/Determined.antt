-- The public function's promise determines its result.
-- within-determined
-- same-configured   .. and an answer to configuring is told by its number: two that are the same by numbers are the same
use mathlib.Core.Path.{◌≡◌, refl, ap}
use Prim.Native.Nat.{ℕ}
use Rattle.std.specs.Prelude.{Result, Ok, Err}
use Rattle.base.specs.declared.Refusal.{Refusal}
use Rattle.base.specs.Refusals.{number}
use Rattle.base.specs.Written.{Refused}
use Rattle.base.proofs.Writing.{same-written}
use Rattle.subchannel_spec.specs.Settings.{as_configured}
use Rattle.base.specs.Determined.{Determined}
use Rattle.base.proofs.Determining.{same}
use Rattle.subchannel_spec.proofs.Settings.within.Kinds as within-kinds
use Rattle.subchannel_spec.proofs.Settings.within.Reads as within-reads

pub within-determined : Determined within-kinds.ps within-kinds.r within-reads.Asked within-reads.Learnt
within-determined κs a z z' ws ws' pre p q = (same p q, refl)

abbrev answer : Result ℕ Refusal → Result Unit Refusal
answer (Ok n) = Ok tt
answer (Err r) = Err r

pub same-configured : (r s : Result Unit Refusal) → as_configured r ≡ as_configured s → r ≡ s
same-configured (Ok u) (Ok v) e = refl
same-configured (Ok u) (Err s) e = cc
same-configured (Err r) (Ok u) e = cc
same-configured (Err r) (Err s) e = let k : number r ≡ number s = cc in ap answer (same-written (Err r) (Err s) (ap Refused k))
