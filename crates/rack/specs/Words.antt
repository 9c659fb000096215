-- Words, for C: what the crates `parity` and `repair` answer, each case by its number. Refusals have the paper's numbers.
-- written_number, by_number, making    parity made: the number, and the output
-- checked_number, checking            a word checked: the number
-- mended_number, mending              a word repaired: the number, and the word
use Rattle.std.specs.Prelude.{ℕ, ◌+◌, List}
use Rattle.base.specs.Written.{Outcome}
use Rattle.base.specs.Written.{Written}
use Rattle.base.specs.Written as written
use Rattle.parity.specs.Calls.{made, checked}
use Rattle.parity.specs.Checked.{Checked}
use Rattle.parity.specs.Checked as check
use Rattle.repair.specs.Way.{repaired}
use Rattle.repair.specs.Mended.{Mended}
use Rattle.repair.specs.Mended as repair

-- written: 0
abbrev pub written_number : Written → ℕ
written_number (written.Wrote k) = 0
written_number (written.Refused n) = n

-- clean 0, damaged 1
abbrev pub checked_number : Checked → ℕ
checked_number check.Clean = 0
checked_number check.Damaged = 1
checked_number (check.Refused n) = n

-- clean 0, beyond repair 1; repaired in k places 256 + k, above every number of the paper
abbrev pub mended_number : Mended → ℕ
mended_number repair.Clean = 0
mended_number (repair.Repaired k) = 256 + k
mended_number repair.Beyond = 1
mended_number (repair.Refused n) = n

-- an outcome by its number
abbrev pub by_number : Outcome → ℕ × List ℕ
by_number o = (written_number o.answer, o.output)

-- parity made of a message
abbrev pub making : ℕ → List ℕ → List ℕ → ℕ × List ℕ
making r message out = by_number (made r message out)

-- a word checked
abbrev pub checking : ℕ → List ℕ → ℕ
checking r word = checked_number (checked r word)

-- a word repaired
abbrev pub mending : ℕ → List ℕ → ℕ × List ℕ
mending r word = (mended_number (repaired r word).0, (repaired r word).1)
