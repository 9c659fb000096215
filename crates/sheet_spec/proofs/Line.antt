-- How long the line of a port is.
-- row-short   147 bytes at most
use Prim.Native.Nat.{ℕ, ◌≤◌}
use native.Mathlib.Omega.{arith}
use mathlib.Core.List.{List, ◌++◌}
use lib.ListN.{length, length-append}
use Rattle.text.specs.Text.{number}
use Rattle.text.proofs.Digits.{number_short}
use Rattle.sheet_spec.specs.Line.{row_line, row_longest}

-- the first three numbers
three : (a b c : ℕ) → length (number a " " ++ number b " " ++ number c " ") ≤ 63
three a b c =
    omega (
      arith,
      length-append (number a " ") (number b " "),
      length-append (number a " " ++ number b " ") (number c " "),
      number_short a " ",
      number_short b " ",
      number_short c " ",
    )

pub row-short : (p d r l m t : ℕ) → length (row_line p d r l m t) ≤ row_longest
unfolding row_line
row-short p d r l m t =
    let xs : List ℕ = number p " " ++ number d " " ++ number r " " in
    omega (
      arith,
      three p d r,
      length-append xs (number l " "),
      length-append (xs ++ number l " ") (number m " "),
      length-append (xs ++ number l " " ++ number m " ") (number m " "),
      length-append (xs ++ number l " " ++ number m " " ++ number m " ") (number t "\n"),
      number_short l " ",
      number_short m " ",
      number_short t "\n",
    )
