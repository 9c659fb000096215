-- Written, Wrote, Refused   what a call that writes answers: so many bytes, or a refusal by its number in the paper
-- as_written         the same of what the code answers
-- Outcome, outcome   what a call that writes answers (answer), and what it leaves in the output lent to it (output)
-- Keeps              that a refused call leaves the output as it was
-- refused, write     the two outcomes: every call that writes is promised by them
-- copied             what copying leaves
use Rattle.std.specs.Prelude.{ℕ, ◌≡◌, List, ◌++◌, ltb, length, take, drop, Result, Ok, Err}
use Rattle.base.specs.Choice.{pick}
use Rattle.base.specs.declared.Refusal.{Refusal}
use Rattle.base.specs.Refusals.{number}

-- so many bytes are written, or the call is refused, by this number of the paper
pub data Written : Type 0 where
  Wrote : ℕ → Written
  Refused : ℕ → Written

-- what the code answers, by the paper's numbers
abbrev pub as_written : Result ℕ Refusal → Written
as_written (Ok n) = Wrote n
as_written (Err r) = Refused (number r)

-- the answer, and the output's bytes
pub record Outcome : Type 0 where
  pub answer : Written
  pub output : List ℕ

-- the outcome of an answer and bytes
abbrev pub outcome : Written → List ℕ → Outcome
outcome answer output = record { answer = answer; output = output }

-- refused by number n: the output keeps its old contents
abbrev pub refused : ℕ → List ℕ → Outcome
refused n out = outcome (Refused n) out

-- a refused call leaves the output as it was
abbrev pub Keeps : List ℕ → Outcome → Type 0
Keeps out o = (n : ℕ) → o.answer ≡ Refused n → o.output ≡ out

-- the result bs stands at the start of the output, and the bytes behind it stay. 23: the output is shorter than the result
abbrev pub write : List ℕ → List ℕ → Outcome
write bs out = pick (ltb (length out) (length bs)) (refused 23 out) (outcome (Wrote (length bs)) (bs ++ drop (length bs) out))

-- the bytes bs from the start of dst on, as many as there is room for
unfoldable pub copied : List ℕ → List ℕ → List ℕ
copied bs dst = take (length dst) bs ++ drop (length bs) dst
