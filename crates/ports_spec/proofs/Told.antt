-- What becomes of a port to forget is told by its number: two answers that are the same by numbers are the same.
-- same-forgot
use Rattle.std.proofs.Common.{◌≡◌, ℕ, Result, Ok, Err, refl, ap}
use Rattle.base.specs.declared.Refusal.{Refusal}
use Rattle.base.specs.Refusals.{number}
use Rattle.base.specs.Written.{Refused}
use Rattle.base.proofs.Writing.{same-written}
use Rattle.ports_spec.specs.Forgot.{as_forgot}

pub same-forgot : (r s : Result (Unit {0}) Refusal) → as_forgot r ≡ as_forgot s → r ≡ s
same-forgot (Ok a) (Ok b) e = refl
same-forgot (Ok a) (Err s) e = absurd (cc)
same-forgot (Err r) (Ok b) e = absurd (cc)
same-forgot (Err r) (Err s) e =
    let k : number r ≡ number s = cc in
    let l : ◌≡◌ {A = Result ℕ Refusal} (Err r) (Err s) = same-written (Err r) (Err s) (ap Refused k) in
    let m : r ≡ s = cc in ap Err m
