-- What a call on a recording that is listed answers, by the paper's numbers.
-- Wants, More, Room, Refused   that more bytes or more room is wanted, or the number by which the call is refused
-- Got                   that, the bytes taken and written, and the state then
-- as_wants, as_got       the same of what the code answers
use Rattle.std.specs.Prelude.{ℕ, Result, Ok, Err}
use Rattle.base.specs.declared.Refusal.{Refusal}
use Rattle.base.specs.Refusals.{number}
use Rattle.listing.specs.declared.lister.Lister.{Lister}
use Rattle.listing.specs.declared.lister.Took.{Took}
use Rattle.listing.specs.declared.lister.Wants.{Wants as Asked}
use Rattle.listing.specs.declared.lister.Wants.TheVariants as asked

-- more bytes, more room, or the call is refused by this number of the paper
pub data Wants : Type 0 where
  More : Wants
  Room : Wants
  Refused : ℕ → Wants

-- what the code answers, by the paper's numbers
abbrev pub as_wants : Result Asked Refusal → Wants
as_wants (Ok asked.More) = More
as_wants (Ok asked.Room) = Room
as_wants (Err r) = Refused (number r)

-- what is wanted, the bytes taken and written, and the state then
pub record Got : Type 0 where
  pub wants : Wants
  pub taken : ℕ
  pub written : ℕ
  pub next : Lister

-- the code's result, by the paper's numbers
abbrev pub as_got : Took → Got
as_got r = record { wants = as_wants r.wants; taken = r.taken; written = r.written; next = r.next }
