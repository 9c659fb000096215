-- What a function promises that is proved by hand: Rattle makes no reading of its contract, so it is said of the contract's clauses.
-- Contract, Statement   its clauses, and what they ensure
-- Promises              they ask nothing of the arguments, and ensure exactly this of them, the result and what they hold at the end
-- Determines            what is ensured leaves nothing open: neither the result nor what a lent slice then holds
use Rattle.std.specs.Prelude.{◌≡◌}
use seplogic.Ra.Ura.{Ura}
use base.Logic.{SProp, emp}
use prog.Memory.{Memory}
use prog.Routine.{Routine}
use types.Logic.{Logic}
use contract.Lifetimes.{Lfts}
use contract.Monad.{Fun, fact}
use denote.Triple.Entry.{Args, Res}
use denote.Triple.Clauses.{Ended, Lasts, AtExit, at_exit, ClausesAt, Clauses}

-- a contract's clauses, in every model of the logic
abbrev pub Contract : Ended → Type 2
Contract T = (M : Type 1) (𝓤 : Ura M) → (𝓛 : Logic 𝓤) → (Memory → SProp 𝓤) → (Routine → Fun 𝓤) → Clauses 𝓤 T

-- a statement of the arguments, the result, and the arguments at the end
abbrev pub Statement : Ended → Type 1
Statement T = (κs : Lfts T.signature.lifetimes) → Args T.signature κs → Res T.signature κs → AtExit T κs → Type 0

abbrev pub Promises : (T : Ended) → Contract T → Statement T → Type 2
Promises T contract says =
    (M : Type 1) (𝓤 : Ura M) (𝓛 : Logic 𝓤) (mem : Memory → SProp 𝓤) (run : Routine → Fun 𝓤)
    (κs : Lfts T.signature.lifetimes) (a : Args T.signature κs)
    → ◌≡◌ {A = ClausesAt 𝓤 T κs} (contract M 𝓤 𝓛 mem run κs a) (record { ghost = Unit {0}; requires = λ g. emp 𝓤; ensures = λ g r e. fact 𝓤 (says κs a r e) })

abbrev pub Determines : (T : Ended) → Statement T → Type 0
Determines T says =
    (κs : Lfts T.signature.lifetimes) (a : Args T.signature κs) (r r' : Res T.signature κs) (ws ws' : Lasts T κs a)
    → says κs a r (at_exit T κs a ws) → says κs a r' (at_exit T κs a ws') → (r ≡ r') × (ws ≡ ws')
