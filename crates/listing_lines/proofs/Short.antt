-- How long lines are.
-- line-short, end_short, wrong-short   no line has more than 128 bytes
-- line-some                            each but that of "more wanted" has a byte at least
use Prim.Native.Nat.{ℕ, ◌+◌, ◌≤◌, ◌<◌}
use native.Mathlib.Omega.{arith}
use mathlib.Core.List.{List, ◌∷◌, ◌++◌}
use lib.ListN.{length, length-append}
use Rattle.text.specs.Text.{ascii, number}
use Rattle.text.proofs.Digits.{number_short}
use Rattle.packet_spec.specs.Port.{class}
use Rattle.packet_spec.specs.declared.Judged.{Judged}
use Rattle.packet_spec.specs.declared.Judged.TheVariants.{Packet, Refused, Broken}
use Rattle.packet_spec.specs.Frame.{packet, refusal, broken, delivery}
use Rattle.channel_spec.specs.Meaning.{Event, said, block, lost}
use Rattle.channel_spec.specs.declared.Condition.TheVariants.{Clean, Repaired, Beyond}
use Rattle.channel_spec.specs.declared.Answer.{Answer}
use Rattle.channel_spec.specs.declared.Answer.TheVariants.{More, Said, Block, LockLost}
use Rattle.listing_spec.specs.Lines.{letter, told, line, given, end_line, wrong_line, longest}

-- a text and a number, and a number more
item-short : (xs : List ℕ) (n k : ℕ) → length xs ≤ k → length (xs ++ number n " ") ≤ k + 21
item-short xs n k h = omega (arith, length-append xs (number n " "), number_short n " ")

-- .. the last of the line
last-short : (xs : List ℕ) (n k : ℕ) → length xs ≤ k → length (xs ++ number n "\n") ≤ k + 21
last-short xs n k h = omega (arith, length-append xs (number n "\n"), number_short n "\n")

told-short : (j : Judged) → length (told j) ≤ longest
unfolding told
told-short (Packet d) =
    let a = item-short (ascii "P ") d.port 2 (omega arith) in
    let b = item-short (ascii "P " ++ number d.port " ") d.sequence 23 a in
    let c = item-short (ascii "P " ++ number d.port " " ++ number d.sequence " ") d.length 44 b in
    let xs : List ℕ = ascii "P " ++ number d.port " " ++ number d.sequence " " ++ number d.length " " in
    omega (arith, c, length-append xs (letter (class d.port) ∷ ascii "\n"))
told-short (Refused n) = omega (arith, last-short (ascii "R ") n 2 (omega arith))
told-short (Broken n) = omega (arith, last-short (ascii "R " ++ number 3 " ") n 23 (item-short (ascii "R ") 3 2 (omega arith)))

pub line-short : (a : Answer) → length (line a) ≤ longest
line-short More = omega arith
line-short (Said j) = told-short j
line-short (Block Clean) = omega arith
line-short (Block (Repaired n)) = omega (arith, last-short (ascii "B ") n 2 (omega arith))
line-short (Block Beyond) = omega arith
line-short LockLost = omega arith

told-some : (j : Judged) → 0 < length (told j)
unfolding told
told-some (Packet d) = omega arith
told-some (Refused n) = omega arith
told-some (Broken n) = omega arith

pub line-some : (e : Event) → 0 < length (line (given e))
line-some (said (packet p)) = told-some (Packet (delivery p))
line-some (said (refusal n)) = told-some (Refused n)
line-some (said (broken n)) = told-some (Broken n)
line-some (block Clean) = omega arith
line-some (block (Repaired n)) = omega arith
line-some (block Beyond) = omega arith
line-some lost = omega arith

-- nor has the last line
pub end_short : (n p r d l : ℕ) → length (end_line n p r d l) ≤ longest
unfolding end_line
end_short n p r d l =
    let a = item-short (ascii "E ") n 2 (omega arith) in
    let b = item-short (ascii "E " ++ number n " ") p 23 a in
    let c = item-short (ascii "E " ++ number n " " ++ number p " ") r 44 b in
    let e = item-short (ascii "E " ++ number n " " ++ number p " " ++ number r " ") d 65 c in
    omega (arith, last-short (ascii "E " ++ number n " " ++ number p " " ++ number r " " ++ number d " ") l 86 e)

pub wrong-short : (n : ℕ) → length (wrong_line n) ≤ longest
unfolding wrong_line
wrong-short n = omega (arith, last-short (ascii "X ") n 2 (omega arith))
