-- What a call on a recording whose packets are noted answers, by the paper's numbers.
-- Wants, More, Again, Refused   more bytes are wanted, the rest of the bytes again, or the number by which the call is refused
-- Took                          that, the bytes taken and written, and the state then
-- as_wants, as_took             the same of what the code answers
use Rattle.std.specs.Prelude.{ℕ, Result, Ok, Err}
use Rattle.base.specs.declared.Refusal.{Refusal}
use Rattle.base.specs.Refusals.{number}
use Rattle.missed.specs.declared.notes.Notes.{Notes}
use Rattle.missed.specs.declared.notes.Wants.{Wants as Wanted}
use Rattle.missed.specs.declared.notes.Wants.TheVariants as wanted
use Rattle.missed.specs.declared.notes.Took.{Took as Taken}

-- what a call wants next, or the number by which it is refused
pub data Wants : Type 0 where
  More : Wants
  Again : Wants
  Refused : ℕ → Wants

-- that, the bytes taken and written, and the state then
pub record Took : Type 0 where
  pub wants : Wants
  pub taken : ℕ
  pub written : ℕ
  pub next : Notes

-- what the code answers, by the paper's numbers
abbrev pub as_wants : Result Wanted Refusal → Wants
as_wants (Ok wanted.More) = More
as_wants (Ok wanted.Again) = Again
as_wants (Err r) = Refused (number r)

-- the code's result, by the paper's numbers
abbrev pub as_took : Taken → Took
as_took r = record { wants = as_wants r.wants; taken = r.taken; written = r.written; next = r.next }
