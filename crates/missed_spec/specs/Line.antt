-- The line of a packet noted in a table of ports (request W1), as ASCII: `PORT SEQUENCE` and what it is to its port.
-- noted_text   what it is
-- noted_line   the line
-- longest     no line is longer
use Rattle.std.specs.Prelude.{ℕ, List, ◌++◌}
use Rattle.text.specs.Text.{ascii, number}
use Rattle.ports_spec.specs.declared.Noted.{Noted}
use Rattle.ports_spec.specs.declared.Noted.TheVariants.{First, InOrder, Repeated, Missing, Late, Refused}

-- what a packet is to its port
abbrev pub noted_text : Noted → List ℕ
noted_text First = ascii "first\n"
noted_text InOrder = ascii "in order\n"
noted_text Repeated = ascii "repeated\n"
noted_text (Missing n) = ascii "missing " ++ number n "\n"
noted_text Late = ascii "late\n"
noted_text (Refused n) = ascii "refused " ++ number n "\n"

-- `PORT SEQUENCE` before it
unfoldable pub noted_line : ℕ → ℕ → Noted → List ℕ
noted_line port sequence noted = number port " " ++ number sequence " " ++ noted_text noted

-- no line is longer: two numbers and a space behind each, and what the packet is
abbrev pub longest : ℕ
longest = 71
