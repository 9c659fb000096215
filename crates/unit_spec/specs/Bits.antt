-- Bytes as bits, the high bit first (request W10: "bit 0 being the high bit of the first byte").
-- digits   the n low bits of a number, the highest of them first
-- bits     the bits of bytes
-- number   bits as a number, behind v
-- pack     the first n bytes of bits
use Rattle.std.specs.Prelude.{List, [], ◌∷◌, ◌++◌, ℕ, zero, suc, ◌+◌, ◌*◌, ◌/◌, ◌%◌, take, drop}

-- the n low bits of v
unfoldable pub digits : ℕ → ℕ → List ℕ
digits zero v = []
digits (suc n) v = digits n (v / 2) ++ v % 2 ∷ []

-- eight of each byte
unfoldable pub bits : List ℕ → List ℕ
bits [] = []
bits (b ∷ bs) = digits 8 b ++ bits bs

-- each bit doubles what stands before it
unfoldable pub number : ℕ → List ℕ → ℕ
number v [] = v
number v (x ∷ xs) = number (v * 2 + x) xs

-- n bytes, of eight bits each
unfoldable pub pack : ℕ → List ℕ → List ℕ
pack zero us = []
pack (suc n) us = number 0 (take 8 us) ∷ pack n (drop 8 us)
