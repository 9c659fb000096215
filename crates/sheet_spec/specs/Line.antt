-- The line of a port on the monthly sheet (request W13): `PORT DELIVERED REPEATED LATE MISSING MISSING TOTAL`.
-- row_line      the line
-- row_longest   none is longer
use Rattle.std.specs.Prelude.{ℕ, List, ◌++◌}
use Rattle.text.specs.Text.{number}

-- "port, packets delivered, repeated, late, missing .., and loss as two whole numbers", missing over the total
unfoldable pub row_line : ℕ → ℕ → ℕ → ℕ → ℕ → ℕ → List ℕ
row_line port delivered repeated late missing total =
    number port " " ++ number delivered " " ++ number repeated " " ++ number late " " ++ number missing " " ++ number missing " " ++ number total "\n"

-- seven numbers of at most 20 digits, a byte behind each
abbrev pub row_longest : ℕ
row_longest = 147
