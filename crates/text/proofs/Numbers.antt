-- Texts and numbers computed.
-- texts    texts as bytes: the first and the last printable character, a line feed, a quotation mark and a backslash
-- digits   numbers at the edges of their widths
-- puts     a buffer that has room, one that has not, and a place behind its end
use Prim.Native.Nat.{ℕ}
use mathlib.Core.Path.{◌≡◌, refl}
use mathlib.Core.List.{List, [], ◌∷◌}
use Rattle.text.specs.Text.{ascii, decimal_by, decimal, number}
use Rattle.text.specs.Put.{Place, put}

pub texts : ◌≡◌ {A = List (List ℕ)} (ascii "" ∷ ascii " ~\n" ∷ ascii "\"\\" ∷ ascii "P 5121 A" ∷ [])
    ([] ∷ (32 ∷ 126 ∷ 10 ∷ []) ∷ (34 ∷ 92 ∷ []) ∷ (80 ∷ 32 ∷ 53 ∷ 49 ∷ 50 ∷ 49 ∷ 32 ∷ 65 ∷ []) ∷ [])
texts = refl

pub digits : ◌≡◌ {A = List (List ℕ)} (decimal 0 ∷ decimal 10 ∷ number 4294967295 " " ∷ number 18446744073709551615 "\n" ∷ [])
    (ascii "0" ∷ ascii "10" ∷ ascii "4294967295 " ∷ ascii "18446744073709551615\n" ∷ [])
unfolding decimal decimal_by
digits = refl

pub puts : ◌≡◌ {A = List Place} (put (ascii "....", 1) (ascii "ab") ∷ put (ascii "....", 3) (ascii "ab") ∷ put (ascii "....", 5) (ascii "ab") ∷ [])
    ((ascii ".ab.", 3) ∷ (ascii "...a", 4) ∷ (ascii "....", 5) ∷ [])
unfolding put
puts = refl
