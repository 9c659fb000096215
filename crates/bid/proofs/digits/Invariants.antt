use Rattle.std.proofs.Common.{◌≡◌, ◌<◌, drop}
use Rattle.bid.specs.Line.{no_number, number_from}
use Rattle.bid.proofs.digits.Given as goal

-- the number so far, and what the rest makes of it, are the whole
abbrev pub invariant-loop-b : goal.invariant-loop-b
invariant-loop-b l = record { small : l.n < no_number; whole : number_from 0 l.word ≡ number_from l.n (drop l.b-index l.word) }
