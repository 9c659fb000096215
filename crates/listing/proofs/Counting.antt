-- Lines put, and answers counted.
-- put_is                    a line is put where any has room
-- one-most                   an answer counts once at most
use Prim.Native.Nat.{ℕ, ◌≤◌}
use native.Mathlib.Omega.{arith}
use mathlib.Core.Path.{◌≡◌, refl}
use mathlib.Core.Bool.{Bool, true, false}
use mathlib.Core.List.{List, ◌++◌}
use lib.ListN.{length, drop}
use Rattle.std.specs.Prelude.{Result, Ok, Err}
use Rattle.std.specs.Result.{result_unwrap_or}
use Rattle.base.specs.declared.Refusal.{Refusal}
use Rattle.base.specs.Written.{as_written, outcome, write}
use Rattle.base.proofs.Writing.{room-wrote, room-never}
use Rattle.channel_spec.specs.declared.Answer.{Answer}
use Rattle.listing_spec.specs.Lines.{line, one, longest}
use Rattle.listing_lines.proofs.Short.{line-short}

pub put_is : (a : Answer) (out : List ℕ) (r : Result ℕ Refusal) {out' : List ℕ} → longest ≤ length out → outcome (as_written r) out' ≡ write (line a) out
    → (result_unwrap_or r 0 ≡ length (line a)) × (out' ≡ line a ++ drop (length (line a)) out)
put_is a out (Ok n) room e = room-wrote (line a) out (omega (arith, line-short a)) e refl
put_is a out (Err x) room e = absurd (room-never (line a) out (omega (arith, line-short a)) e refl)

pub one-most : (t : Bool) → one t ≤ 1
one-most true = omega arith
one-most false = omega arith
