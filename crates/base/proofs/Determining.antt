-- What proves a function's promise determined (specs/Determined): two things that one definition gives are one.
-- same                       two results
-- same_answer, same-output   .. of one outcome: the answers, and what the outputs hold
-- buffer                     what a lent buffer then holds, and the parameters behind it
-- skip                       a parameter that no callee can change, and those behind it
use mathlib.Core.Path.{◌≡◌, sym, ap, ◌∙◌}
use mathlib.Core.List.{List}
use Prim.Native.Nat.{ℕ}
use Rattle.std.specs.Prelude.{Result}
use Rattle.base.specs.declared.Refusal.{Refusal}
use Rattle.base.specs.Written.{Written, as_written, Outcome, outcome}
use Rattle.base.proofs.Writing.{same-written}

pub same : {A : Type 0} {x y f : A} → x ≡ f → y ≡ f → x ≡ y
same p q = p ∙ sym q

pub buffer : {A B : Type 0} {x y : A} {u v : B} → x ≡ y → u ≡ v → ◌≡◌ {A = A × B} (x, u) (y, v)
buffer p e i = (p i, e i)

pub skip : {B : Type 0} {u v : B} → u ≡ v → ◌≡◌ {A = Unit {0} × B} (tt, u) (tt, v)
skip e i = (tt, e i)

-- two outcomes of a call that writes
pub same_answer : {z z' : Result ℕ Refusal} {x y : List ℕ} {o : Outcome} → outcome (as_written z) x ≡ o → outcome (as_written z') y ≡ o → z ≡ z'
same_answer {z} {z'} p q = same-written z z' (ap (λ (o : Outcome). o.answer) (same p q))

pub same-output : {z z' : Written} {x y : List ℕ} {o : Outcome} → outcome z x ≡ o → outcome z' y ≡ o → x ≡ y
same-output p q = ap (λ (o : Outcome). o.output) (same p q)
