-- Laws of what is printed of the bids that a recording misses.
-- line-short      no line has more than 71 bytes
-- line-each       there is a line for each packet
-- others-out      of a range, what is printed is what is printed of every port, of the recording without the other packets
-- wrong-missed    nothing that comes behind a wrong byte changes what is printed
use Prim.Native.Nat.{ℕ, suc, ◌+◌, ◌≤◌}
use native.Mathlib.Omega.{arith}
use mathlib.Core.Path.{◌≡◌, refl, sym, ap, ◌∙◌}
use mathlib.Core.Bool.{true}
use mathlib.Core.List.{List, [], ◌∷◌, ◌++◌}
use lib.ListN.{length, length-append}
use Rattle.text.specs.Text.{ascii, number}
use Rattle.text.proofs.Digits.{number_short}
use Rattle.listing_spec.specs.Apart.{fresh_spot, apart, is_wrong, on_channel}
use Rattle.listing_spec.specs.Meaning.{heard}
use Rattle.listing_spec.proofs.Wrong.{wrong-rest}
use Rattle.ports_spec.specs.declared.Entry.{Entry}
use Rattle.ports_spec.specs.declared.Noted.{Noted}
use Rattle.ports_spec.specs.declared.Noted.TheVariants.{First, InOrder, Repeated, Missing, Late, Refused}
use Rattle.ports_spec.specs.declared.Range.{Range}
use Rattle.ports_spec.specs.Range.{every_port}
use Rattle.ports_spec.specs.Ports.{fresh_table, noting}
use Rattle.sheet_spec.specs.Meaning.{Mark, within}
use Rattle.sheet_spec.specs.Recording.{marks, brings}
use Rattle.sheet_spec.proofs.Within.{within-every, within-ported}
use Rattle.missed_spec.specs.Line.{noted_text, noted_line, longest}
use Rattle.missed_spec.specs.Meaning.{lines_of, notes, missed}

text-short : (n : Noted) → length (noted_text n) ≤ 29
text-short First = omega arith
text-short InOrder = omega arith
text-short Repeated = omega arith
text-short (Missing n) = omega (arith, length-append (ascii "missing ") (number n "\n"), number_short n "\n")
text-short Late = omega arith
text-short (Refused n) = omega (arith, length-append (ascii "refused ") (number n "\n"), number_short n "\n")

pub line-short : (port sequence : ℕ) (n : Noted) → length (noted_line port sequence n) ≤ longest
unfolding noted_line
line-short port sequence n =
    omega (
      arith,
      text-short n,
      number_short port " ",
      number_short sequence " ",
      length-append (number port " ") (number sequence " "),
      length-append (number port " " ++ number sequence " ") (noted_text n),
    )

pub line-each : (es : List Entry) (ms : List Mark) → length (lines_of es ms) ≡ length ms
unfolding lines_of
line-each es [] = refl
line-each es (m ∷ ms) = ap suc (line-each (noting es m.0 m.1).1 ms)

-- a range of ports of 16 bits
pub others-out : (r : Range) → r.last ≤ 65535 → (es : List Entry) (ms : List Mark) → notes es (within r ms) ≡ notes es (within every_port (within r ms))
others-out r h es ms = ap (notes es) (sym (within-every (within r ms) (within-ported r h ms)))

pub wrong-missed : (r : Range) (file more : List ℕ) → is_wrong (apart fresh_spot file).1.place ≡ true → missed r (file ++ more) ≡ missed r file
wrong-missed r file more e =
    let x = wrong-rest file more e in
    λ i. notes fresh_table (within r (marks (heard (x.1 i) (x.0 i).0)))
