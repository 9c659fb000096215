-- The line of a port, from its parts.
-- row_put   as they are put one behind the other
use Prim.Native.Nat.{ℕ}
use mathlib.Core.List.{List}
use Rattle.text.specs.Text.{number}
use Rattle.text.specs.Put.{Puts}
use Rattle.text.proofs.Putting.{put_then}
use Rattle.sheet_spec.specs.Line.{row_line}

pub row_put : {l l₁ l₂ l₃ l₄ l₅ l₆ l₇ : List ℕ} {a b c d e f g : ℕ} (p x r y m t : ℕ) → Puts l 0 (number p " ") l₁ a → Puts l₁ a (number x " ") l₂ b
    → Puts l₂ b (number r " ") l₃ c → Puts l₃ c (number y " ") l₄ d → Puts l₄ d (number m " ") l₅ e → Puts l₅ e (number m " ") l₆ f
    → Puts l₆ f (number t "\n") l₇ g → Puts l 0 (row_line p x r y m t) l₇ g
unfolding row_line
row_put p x r y m t h i j k n o q = put_then (put_then (put_then (put_then (put_then (put_then h i) j) k) n) o) q
