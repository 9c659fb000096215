-- Texts and numbers as the bytes that are printed of them.
-- ascii                the bytes of a text
-- decimal, decimal_by   the digits of a number, without leading zeros
-- number               a number, and a character behind it
use Rattle.std.specs.Prelude.{ℕ, zero, suc, ◌+◌, ◌/◌, ◌%◌, List, [], ◌∷◌, ◌++◌, ltb}
use Prim.Native.Char.{Char, code}
use Prim.Native.String.{String, [] as nothing, ◌∷◌ as ◌before◌}
use Rattle.base.specs.Choice.{pick}

-- a text's characters, by their numbers
abbrev pub ascii : String → List ℕ
ascii nothing = []
ascii (c before s) = code c ∷ ascii s

-- the digits of n, at most k + 1 of them
unfoldable pub decimal_by : ℕ → ℕ → List ℕ
decimal_by zero n = (48 + n) ∷ []
decimal_by (suc k) n = pick (ltb n 10) ((48 + n) ∷ []) (decimal_by k (n / 10) ++ ((48 + n % 10) ∷ []))

-- a number below 2^64 has at most 20 digits
unfoldable pub decimal : ℕ → List ℕ
decimal n = decimal_by 19 n

-- a number, and the space or the line feed behind it
abbrev pub number : ℕ → Char → List ℕ
number n c = decimal n ++ (code c ∷ [])
