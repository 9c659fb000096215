-- What private functions alone are promised by.
-- hidden_in                      54 on writing, in a payload of n bytes
-- bits_in, unit_in                the unit of a sequence and of parts, as bits and as bytes
-- delivered                     what is read, with o opportunistic bytes
-- bits_of, code                  a header sequence as a number; 0 where there is none
-- headers, begun                 all of them; whether one is h but for its last bits
use Rattle.std.specs.Prelude.{Bool, List, [], ◌∷◌, ◌++◌, ℕ, ◌-◌, ◌/◌, ◌^◌, eqb, take, drop, Option, None, Some}
use Rattle.base.specs.Written.{Outcome, write}
use Rattle.unit_spec.specs.Tables.{cw0, cw1, cw2, cw3, cw4, payload}
use Rattle.unit_spec.specs.Unit.{filled, laid_out, unit_bits, unit, hidden}
use Rattle.unit.specs.declared.table.Header.{Header}
use Rattle.unit.specs.declared.table.Header.TheVariants as header

-- the gap of n bytes' payload is what the parts leave
abbrev pub hidden_in : ℕ → List ℕ → List ℕ → List ℕ → List ℕ → Bool
hidden_in n d audio opp fixed = hidden d (n - filled d audio opp fixed) opp

-- with all parts
abbrev pub bits_in : ℕ → ℕ → List ℕ → List ℕ → List ℕ → List ℕ → List ℕ
bits_in l cw d audio opp fixed = unit_bits l cw (laid_out (payload l) d audio opp fixed)

-- .. in bytes
abbrev pub unit_in : ℕ → ℕ → List ℕ → List ℕ → List ℕ → List ℕ → List ℕ
unit_in l cw d audio opp fixed = unit l cw (laid_out (payload l) d audio opp fixed)

-- audio, o bytes before the fixed data, and fixed data of a payload p of n bytes
abbrev pub delivered : ℕ → List ℕ → ℕ → ℕ → ℕ → List ℕ → Outcome
delivered n p a o f out = write (take a p ++ take o (drop (n - f - o) p) ++ drop (n - f) p) out

-- the 24 bits of a sequence
abbrev pub bits_of : Header → ℕ
bits_of header.Cw0 = cw0
bits_of header.Cw1 = cw1
bits_of header.Cw2 = cw2
bits_of header.Cw3 = cw3
bits_of header.Cw4 = cw4

-- .. of a mix of content, by the table
abbrev pub code : Option Header → ℕ
code None = 0
code (Some h) = bits_of h

-- in the table's order
abbrev pub headers : List Header
headers = header.Cw0 ∷ header.Cw1 ∷ header.Cw2 ∷ header.Cw3 ∷ header.Cw4 ∷ []

-- h is the sequence without its last `behind` bits
abbrev pub begun : ℕ → ℕ → Header → Bool
begun behind h cw = eqb h (bits_of cw / 2 ^ behind)
