-- What the office answers to a call, by the paper's numbers.
-- Answer, More, Sent, NoBid, Refused   more is wanted; so many bytes of a line are sent; it is no bid; it, or the call, is refused by this number
-- Got, Told             that, with the bytes taken and the state; with the stream bytes held
-- as_answer, as_got, as_told   the same of what the code answers
use Rattle.std.specs.Prelude.{ℕ, Result, Ok, Err}
use Rattle.base.specs.declared.Refusal.{Refusal}
use Rattle.base.specs.Refusals.{number}
use Rattle.office.specs.declared.Office.{Office}
use Rattle.office.specs.declared.Hearing.{Hearing}
use Rattle.office.specs.declared.Ended.{Ended}
use Rattle.office.specs.declared.Answer.{Answer as Said}
use Rattle.office.specs.declared.Answer.TheVariants as said

-- more is wanted, a line is accepted or no bid, or it, or the call, is refused by this number of the paper
pub data Answer : Type 0 where
  More : Answer
  Sent : ℕ → Answer
  NoBid : Answer
  Refused : ℕ → Answer

-- what the code answers, by the paper's numbers
abbrev pub as_answer : Result Said Refusal → Answer
as_answer (Ok said.More) = More
as_answer (Ok (said.Sent n)) = Sent n
as_answer (Ok said.NoBid) = NoBid
as_answer (Err r) = Refused (number r)

-- the answer, the bytes taken and the state then
pub record Got : Type 0 where
  pub answer : Answer
  pub taken : ℕ
  pub office : Office

-- the code's result of a call, by the paper's numbers
abbrev pub as_got : Hearing → Got
as_got r = record { answer = as_answer r.answer; taken = r.taken; office = r.office }

-- the answer, and the stream bytes held then
pub record Told : Type 0 where
  pub answer : Answer
  pub held : ℕ

-- what the code makes of a line's end, by the paper's numbers
abbrev pub as_told : Ended → Told
as_told r = record { answer = as_answer r.answer; held = r.held }
