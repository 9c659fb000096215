-- highest   the highest number of 64 bits
use Rattle.std.specs.Prelude.{ℕ}

-- 2^64 - 1
abbrev pub highest : ℕ
highest = 18446744073709551615
