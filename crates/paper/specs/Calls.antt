-- Calls: what a call that writes answers, and what it leaves in the output lent to it.
-- Defined here: Result, Outcome, keeps, unless.
use Rattle.std.specs.Prelude.{ℕ, ◌++◌, length, drop, ltb}
use Rattle.std.proofs.Math.Option.{Option, none, some}
use Rattle.paper.specs.Base.{Bytes, ◌⇒◌, ◌else◌}

-- how many bytes were written, or the number of the refusal
pub data Result : Type 0 where
  wrote : ℕ → Result
  denied : ℕ → Result

-- the answer, and the output's bytes then
pub record Outcome : Type 0 where
  pub answer : Result
  pub output : Bytes

-- refused: the output keeps its old contents
unfoldable pub keeps : ℕ → Bytes → Outcome
keeps n out = record { answer = denied n; output = out }

-- the result stands at the start of the output, and what is behind it stays; 23: the output is shorter than the result
unfoldable pub writes : Bytes → Bytes → Outcome
writes result out =
    ltb (length out) (length result) ⇒ keeps 23 out
    else record { answer = wrote (length result); output = result ++ drop (length result) out }

-- a call that may be refused before its output is looked at
unfoldable pub unless : Option ℕ → Bytes → Bytes → Outcome
unless none result out = writes result out
unless (some n) result out = keeps n out
