-- What becomes of a recording is told by its number: two answers that are the same by numbers are the same.
-- same-closed   with the sheets then
use Rattle.std.proofs.Common.{◌≡◌, ℕ, Result, Ok, Err, refl, ap}
use Rattle.base.specs.declared.Refusal.{Refusal}
use Rattle.base.specs.Refusals.{number}
use Rattle.base.specs.Written.{Refused as Unwritten}
use Rattle.base.proofs.Writing.{same-written}
use Rattle.sheet.specs.declared.Uncounted.{Uncounted}
use Rattle.sheet.specs.declared.Uncounted.TheVariants as uncounted
use Rattle.sheet.specs.declared.Closed.{Closed as Ended}
use Rattle.sheet.specs.Counted.{Closed, as_counted, as_closed}

same-counted : (r s : Result (Unit {0}) Uncounted) → as_counted r ≡ as_counted s → r ≡ s
same-counted (Ok a) (Ok b) e = refl
same-counted (Ok a) (Err uncounted.Wrong) e = absurd (cc)
same-counted (Ok a) (Err (uncounted.Refused s)) e = absurd (cc)
same-counted (Err uncounted.Wrong) (Ok b) e = absurd (cc)
same-counted (Err uncounted.Wrong) (Err uncounted.Wrong) e = refl
same-counted (Err uncounted.Wrong) (Err (uncounted.Refused s)) e = absurd (cc)
same-counted (Err (uncounted.Refused r)) (Ok b) e = absurd (cc)
same-counted (Err (uncounted.Refused r)) (Err uncounted.Wrong) e = absurd (cc)
same-counted (Err (uncounted.Refused r)) (Err (uncounted.Refused s)) e =
    let k : number r ≡ number s = cc in
    let l : ◌≡◌ {A = Result ℕ Refusal} (Err r) (Err s) = same-written (Err r) (Err s) (ap Unwritten k) in
    let m : r ≡ s = cc in ap (λ (x : Refusal). Err (uncounted.Refused x)) m

pub same-closed : (x y : Ended) → as_closed x ≡ as_closed y → x ≡ y
same-closed x y e =
    let c : x.counted ≡ y.counted = same-counted x.counted y.counted (ap (λ (z : Closed). z.counted) e) in
    let t : x.sheet ≡ y.sheet = ap (λ (z : Closed). z.sheet) e in
    λ i. record { counted = c i; sheet = t i }
