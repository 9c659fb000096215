-- What follows of a call that took bytes of a piece.
-- passed   how many bytes of the piece the next call goes on behind
use Rattle.std.specs.Prelude.{ℕ}
use Rattle.console.specs.declared.Next.{Next}
use Rattle.console.specs.declared.Next.TheVariants.{Again, More, Stop}

-- none where no other call comes with it
abbrev pub passed : Next → ℕ
passed (Again n) = n
passed More = 0
passed Stop = 0
