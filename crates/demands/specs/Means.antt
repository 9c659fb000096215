-- Means   what a public function is bound to, said of what Rattle makes of its contract: it ends, it asks nothing of its caller, and its promise
--         is exactly this statement of its arguments, its result and what each lent buffer then holds. A law of this form is refused when
--         the promise in src/ says more, less or other, whether or not the body keeps it
-- MeansByHand   the same of a function that is proved by hand
-- Follows   what holds of every result of a public function and of what each lent buffer then holds, said of the same contract
-- Named, Given  how a statement names the parameters
use Rattle.std.specs.Prelude.{ℕ, ◌↔◌, List, [], ◌∷◌}
use contract.Lifetimes.{Lfts}
use borrow.Fn.Kinds.{ParamKind, ResultKind, In, Out, Den, Dens, slot_of, slots, kepts, res_t, ended_of}
use denote.Exit.{Exit, unchanged, leaves, Last}
use denote.Triple.Both.{Both}
use denote.Triple.End.{Fins}
use denote.Triple.Clauses.{Ended, Lasts, at_exit}
use Rattle.base.specs.ByHand.{Contract, Statement, Promises}

-- a parameter as a promise names it: one that the call cannot change as it was passed, a lent buffer by its .entry and its .exit
abbrev pub Named : {D : Type 0} → Exit D → Type 0
Named {D} unchanged = D
Named {D} (leaves L l S s r₀) = Both D S

-- .. of a parameter passed as x, with what it holds at the end
abbrev named : {D : Type 0} (e : Exit D) (x : D) → Last e x → Named e
named unchanged x w = x
named (leaves L l S s r₀) x w = record { entry = x; exit = s x w }

module _ {n : ℕ} (κs : Lfts n) where
  -- how a parameter ends
  abbrev ends : (k : ParamKind n) → Exit (Den κs k)
  ends k = ((slot_of k).row κs).exit k.is.keeps

  -- a statement of all parameters, one after the other, and then B
  abbrev pub Given : List (ParamKind n) → Type 1 → Type 1
  Given [] B = B
  Given (k ∷ ps) B = Named (ends k) → Given ps B

  -- .. said of the parameters a, and of what they hold at the end
  abbrev given : (ps : List (ParamKind n)) {B : Type 1} → Given ps B → (a : Dens κs ps) → Fins κs (slots ps) (kepts ps) a → B
  given [] f a ws = f
  given (k ∷ ps) f a ws = given ps (f (named (ends k) a.0 ws.0)) a.1 ws.1

-- it meets its contract, and what meets a contract ends; the contract asks nothing of the arguments a; and z is a result at a, with ws what
-- the parameters then hold, exactly when `says` holds of them (κs are lifetimes)
abbrev pub Means : (Type 1 → Type 2) → {n : ℕ} (ps : List (ParamKind n)) (r : ResultKind n) → In n ps → Out n ps r
    → ((κs : Lfts n) → Given κs ps ((res_t r κs).Denot → Type 0)) → Type 2
Means statement {n} ps r Asked Learnt says =
    ((M : Type 1) → statement M)
    × ((κs : Lfts n) (a : Dens κs ps) → Asked κs a)
    × ((κs : Lfts n) (a : Dens κs ps) (z : (res_t r κs).Denot) (ws : Lasts (ended_of n ps r) κs a) →
    Learnt κs a z (at_exit (ended_of n ps r) κs a ws) ↔ given κs ps (says κs) a ws z)

-- of a function proved by hand Rattle makes no reading: its clauses ask nothing and ensure exactly what is said
abbrev pub MeansByHand : (Type 1 → Type 2) → (T : Ended) → Contract T → Statement T → Type 2
MeansByHand statement T contract says = ((M : Type 1) → statement M) × Promises T contract says

-- whatever is a result at a, with ws what the parameters then hold, `says` holds of them
abbrev pub Follows : {n : ℕ} (ps : List (ParamKind n)) (r : ResultKind n) → Out n ps r → ((κs : Lfts n) → Given κs ps ((res_t r κs).Denot → Type 0)) → Type 0
Follows {n} ps r Learnt says =
    (κs : Lfts n) (a : Dens κs ps) (z : (res_t r κs).Denot) (ws : Lasts (ended_of n ps r) κs a) →
    Learnt κs a z (at_exit (ended_of n ps r) κs a ws) →
    given κs ps (says κs) a ws z
