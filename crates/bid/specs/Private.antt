-- What private functions alone are promised by.
-- as_number   a number that may be missing, as the definitions say it
use Rattle.std.specs.Prelude.{ℕ, Option, Some, None}
use Rattle.bid.specs.Line.{no_number}

-- no number is 65,536
abbrev pub as_number : Option ℕ → ℕ
as_number (Some n) = n
as_number None = no_number
