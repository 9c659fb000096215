-- The check of a frame (paper 01, "Packet and frame"): RFC 1662's 16-bit FCS. The register starts at 0xFFFF, low bit first,
-- reversed polynomial 0x8408, complemented at the end.
-- polynomial, ones, complement   the paper's numbers: the polynomial, the register's start; a complement
-- shifted, entered   a bit falls out of the register; the bits of a number enter it, and as many fall out
-- register           the register after bytes
-- fcs                the check of bytes
-- fresh, fed         the same of the code's `Register`
use Rattle.std.specs.Prelude.{ℕ, zero, suc, ◌-◌, ◌/◌, ◌%◌, List, [], ◌∷◌, eqb}
use Rattle.std.specs.Int.Bits.{bit_xor}
use Rattle.base.specs.Choice.{pick}
use Rattle.fcs.specs.declared.Register.{Register}

-- x^16 + x^12 + x^5 + 1, the low bit first
abbrev pub polynomial : ℕ
polynomial = 0x8408

-- sixteen bits, each 1
abbrev pub ones : ℕ
ones = 0xFFFF

-- one bit d: the register moves right, and where the bit that falls out is not d, the polynomial is added
abbrev pub shifted : ℕ → ℕ → ℕ
shifted r d = pick (eqb (r % 2) d) (r / 2) (bit_xor (r / 2) polynomial)

-- n bits of b, the low bit first
unfoldable pub entered : ℕ → ℕ → ℕ → ℕ
entered zero r b = r
entered (suc n) r b = entered n (shifted r (b % 2)) (b / 2)

-- the register after bytes, eight bits each
unfoldable pub register : ℕ → List ℕ → ℕ
register r [] = r
register r (b ∷ bs) = register (entered 8 r b) bs

-- each bit the other
abbrev pub complement : ℕ → ℕ
complement r = ones - r

-- the check
unfoldable pub fcs : List ℕ → ℕ
fcs bs = complement (register ones bs)

-- the register before the first byte
abbrev pub fresh : Register
fresh = record { bits = ones }

-- the register after further bytes
abbrev pub fed : Register → List ℕ → Register
fed r bs = record { bits = register r.bits bs }
