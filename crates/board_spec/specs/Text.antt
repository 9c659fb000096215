-- The text of a packet as the board shows it.
-- backslash, printable   bytes that are shown otherwise, and as they are
-- sixteenth, by_number    a digit of base 16, and a byte by its number
-- shown_byte, shown_text   a payload's bytes: each printable one as it is, the others by number
-- heading, bid_text       `PORT SEQUENCE ` and the text behind it
use Rattle.std.specs.Prelude.{ℕ, ◌+◌, ◌/◌, ◌%◌, Bool, ◌&&◌, List, [], ◌∷◌, ◌++◌, eqb, leb, ltb}
use Prim.Native.Char.{code}
use Rattle.base.specs.Choice.{pick}
use Rattle.bid.specs.Line.{space}
use Rattle.text.specs.Text.{decimal}

-- a backslash
abbrev pub backslash : ℕ
backslash = code "\\"

-- from the space to the tilde
abbrev pub printable : ℕ → Bool
printable b = leb (code " ") b && leb b (code "~")

-- a digit of base 16: 0 to 9, A to F
abbrev pub sixteenth : ℕ → ℕ
sixteenth n = pick (ltb n 10) (48 + n) (55 + n)

-- a byte by its number: a backslash, x and two such digits
abbrev pub by_number : ℕ → List ℕ
by_number b = backslash ∷ code "x" ∷ sixteenth (b / 16) ∷ sixteenth (b % 16) ∷ []

-- a byte: a backslash doubled, a printable one as it is, any other by its number
unfoldable pub shown_byte : ℕ → List ℕ
shown_byte b =
    pick (eqb b backslash) (backslash ∷ backslash ∷ [])
    (pick (printable b) (b ∷ []) (by_number b))

-- bytes, one after the other
unfoldable pub shown_text : List ℕ → List ℕ
shown_text [] = []
shown_text (b ∷ bs) = shown_byte b ++ shown_text bs

-- `PORT SEQUENCE `
abbrev pub heading : ℕ → ℕ → List ℕ
heading port sequence = decimal port ++ (space ∷ []) ++ decimal sequence ++ (space ∷ [])

-- `PORT SEQUENCE TEXT`
unfoldable pub bid_text : ℕ → ℕ → List ℕ → List ℕ
bid_text port sequence payload = heading port sequence ++ shown_text payload
