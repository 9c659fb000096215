-- Numbers that the code's steps make of others, each held against the definitions by computed cases.
-- spread      what the bits of a byte add to the register
-- left        a number of 64 bits shifted
-- low, high   the parts in which the first of four eights is added to those behind it; low_by, high_by: so far shifted
use Prim.Native.Nat.{ℕ, ◌*◌, ◌/◌, ◌%◌, ◌^◌}
use lib.Bits.{bit_xor}

-- the polynomial for each bit, moved down by the bits behind it
abbrev pub spread : ℕ → ℕ
spread y = bit_xor (bit_xor (y * 256) (y * 8)) (y / 16)

abbrev pub left : ℕ → ℕ → ℕ
left k w = w * 2 ^ k % 2 ^ 64

-- 176 bits behind: its low 16 bits reach the third as the highest, the others the fourth
abbrev pub low_by : ℕ
low_by = 48

abbrev pub high_by : ℕ
high_by = 16

abbrev pub low : ℕ → ℕ
low a = left low_by a

abbrev pub high : ℕ → ℕ
high a = a / 2 ^ high_by
