-- What a call on the board answers, by the paper's numbers.
-- Wants, More, Again, Refused   that more bytes or another call is wanted, or the number by which the call is refused
-- Got                   that, the bytes taken and written, and the state then
-- as_wants, as_got       the same of what the code answers
use Rattle.std.specs.Prelude.{ℕ, Result, Ok, Err}
use Rattle.base.specs.declared.Refusal.{Refusal}
use Rattle.base.specs.Refusals.{number}
use Rattle.board.specs.declared.readout.Readout.{Readout}
use Rattle.board.specs.declared.readout.Took.{Took}
use Rattle.board.specs.declared.readout.Wants.{Wants as Asked}
use Rattle.board.specs.declared.readout.Wants.TheVariants as asked

-- more bytes, another call, or the call is refused by this number of the paper
pub data Wants : Type 0 where
  More : Wants
  Again : Wants
  Refused : ℕ → Wants

-- what the code answers, by the paper's numbers
abbrev pub as_wants : Result Asked Refusal → Wants
as_wants (Ok asked.More) = More
as_wants (Ok asked.Again) = Again
as_wants (Err r) = Refused (number r)

-- what is wanted, the bytes taken and written, and the state then
pub record Got : Type 0 where
  pub wants : Wants
  pub taken : ℕ
  pub written : ℕ
  pub next : Readout

-- the code's result, by the paper's numbers
abbrev pub as_got : Took → Got
as_got r = record { wants = as_wants r.wants; taken = r.taken; written = r.written; next = r.next }
