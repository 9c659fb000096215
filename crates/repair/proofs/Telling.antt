-- same-mended, mended-found   an answer of `repair` is told by its number: two that are the same by numbers are the same; and by what it found
use mathlib.Core.Path.{◌≡◌, refl, ap, ◌∙◌}
use Prim.Native.Nat.{ℕ}
use Rattle.std.specs.Prelude.{Result, Ok, Err}
use Rattle.base.specs.declared.Refusal.{Refusal}
use Rattle.base.specs.Refusals.{number}
use Rattle.base.specs.Written.{Refused}
use Rattle.base.proofs.Writing.{same-written}
use Rattle.repair.specs.declared.Mended as answer
use Rattle.repair.specs.declared.Mended.TheVariants as found
use Rattle.repair.specs.Mended.{as_mended}

pub same-mended : (r s : Result answer.Mended Refusal) → as_mended r ≡ as_mended s → r ≡ s
same-mended (Ok found.Clean) (Ok found.Clean) e = refl
same-mended (Ok found.Clean) (Ok (found.Repaired n)) e = cc
same-mended (Ok found.Clean) (Ok found.Beyond) e = cc
same-mended (Ok found.Clean) (Err s) e = cc
same-mended (Ok (found.Repaired n)) (Ok found.Clean) e = cc
same-mended (Ok (found.Repaired n)) (Ok (found.Repaired m)) e = cc
same-mended (Ok (found.Repaired n)) (Ok found.Beyond) e = cc
same-mended (Ok (found.Repaired n)) (Err s) e = cc
same-mended (Ok found.Beyond) (Ok found.Clean) e = cc
same-mended (Ok found.Beyond) (Ok (found.Repaired m)) e = cc
same-mended (Ok found.Beyond) (Ok found.Beyond) e = refl
same-mended (Ok found.Beyond) (Err s) e = cc
same-mended (Err r) (Ok found.Clean) e = cc
same-mended (Err r) (Ok (found.Repaired m)) e = cc
same-mended (Err r) (Ok found.Beyond) e = cc
same-mended (Err r) (Err s) e =
    let k : number r ≡ number s = cc in
    let h : ◌≡◌ {A = Result ℕ Refusal} (Err r) (Err s) = same-written (Err r) (Err s) (ap Refused k) in
    cc

-- .. and so by what it found
pub mended-found : {z : Result answer.Mended Refusal} {f g : answer.Mended} → z ≡ Ok f → f ≡ g → as_mended z ≡ as_mended (Ok g)
mended-found e h = ap as_mended e ∙ ap (λ (x : answer.Mended). as_mended (Ok x)) h
