-- What a call answers is told by its number: two answers that are the same by numbers are the same.
-- same-took   with the bytes taken and written, and the states then
use Rattle.std.proofs.Common.{◌≡◌, ℕ, Result, Ok, Err, refl, ap}
use Rattle.base.specs.declared.Refusal.{Refusal}
use Rattle.base.specs.Refusals.{number}
use Rattle.base.specs.Written.{Refused as Unwritten}
use Rattle.base.proofs.Writing.{same-written}
use Rattle.missed.specs.declared.notes.Wants.{Wants as Wanted}
use Rattle.missed.specs.declared.notes.Wants.TheVariants as wanted
use Rattle.missed.specs.declared.notes.Took.{Took as Taken}
use Rattle.missed.specs.Wants.{Took, as_wants, as_took}

same-wants : (r s : Result Wanted Refusal) → as_wants r ≡ as_wants s → r ≡ s
same-wants (Ok wanted.More) (Ok wanted.More) e = refl
same-wants (Ok wanted.More) (Ok wanted.Again) e = absurd (cc)
same-wants (Ok wanted.More) (Err s) e = absurd (cc)
same-wants (Ok wanted.Again) (Ok wanted.More) e = absurd (cc)
same-wants (Ok wanted.Again) (Ok wanted.Again) e = refl
same-wants (Ok wanted.Again) (Err s) e = absurd (cc)
same-wants (Err r) (Ok wanted.More) e = absurd (cc)
same-wants (Err r) (Ok wanted.Again) e = absurd (cc)
same-wants (Err r) (Err s) e =
    let k : number r ≡ number s = cc in
    let l : ◌≡◌ {A = Result ℕ Refusal} (Err r) (Err s) = same-written (Err r) (Err s) (ap Unwritten k) in
    let m : r ≡ s = cc in ap Err m

pub same-took : (x y : Taken) → as_took x ≡ as_took y → x ≡ y
same-took x y e =
    let w : x.wants ≡ y.wants = same-wants x.wants y.wants (ap (λ (z : Took). z.wants) e) in
    let t : x.taken ≡ y.taken = ap (λ (z : Took). z.taken) e in
    let n : x.written ≡ y.written = ap (λ (z : Took). z.written) e in
    let s : x.next ≡ y.next = ap (λ (z : Took). z.next) e in
    λ i. record { wants = w i; taken = t i; written = n i; next = s i }
