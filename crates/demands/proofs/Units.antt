-- Request W10, "Layer 2 frames", each sentence over its theorem. A unit has l bits; `written` and `read_unit` are what the two calls answer and leave
-- (proofs/Promises), `bits` are those of bytes, `unit l cw p` is the unit of l bits with the sequence cw and the payload p.
-- lengths, high-bit-first                  how long a unit is, and its bits
-- sequences, table-5-4, header-bits        the tables of source document 003
-- around, laid-with, laid-without          the payload, and what it is made of
-- written_is, read_is, first-delimiter     what the calls give that refuse nothing
-- excess-zero, excess-ignored              excess bits
-- round_trip                               there and back
-- write-refusals, read-refusals            the tables, each number exactly when its row applies and none above it
-- reserved, early-short                    52 of reserved sequences; 54 on writing, shortly
-- write-accepts, read-accepts              a call that no row refuses writes
-- write-keeps-out, read-keeps-out          a refused call changes nothing
use Prim.Native.Nat.{ℕ, suc, ◌+◌, ◌-◌, ◌*◌, ◌/◌, ◌%◌, ◌^◌, ◌≤◌, ◌<◌}
use native.Mathlib.Omega.{arith}
use mathlib.Core.Path.{◌≡◌, refl, sym, ap, ◌∙◌}
use mathlib.Core.Bool.{true, false}
use mathlib.Core.Logic.{◌↔◌}
use mathlib.Core.List.{List, [], ◌∷◌, ◌++◌, map}
use lib.Dec.{eqb, eqb-suc-zero}
use lib.ListN.{length, take, drop, get_or, replicate}
use borrow.Author.Tests.{ne_eqb, lt-ltb, le-ltb}
use Rattle.base.specs.Bytes.{Bytes}
use Rattle.base.specs.Written.{write, Keeps}
use Rattle.base.specs.Written.{Wrote}
use Rattle.unit_spec.specs.Bits.{digits, number, bits}
use Rattle.unit_spec.specs.Tables.{sequence, heads, start, step, payload, lent, unfit}
use Rattle.unit_spec.specs.Unit.{begins, opened, laid_out, unit, written}
use Rattle.unit_spec.specs.Reading.{heard, unwoven, header_of, payload_of, named, middle, read_unit}
use Rattle.unit_spec.specs.Refusing.{Early, EarlyShort, carried}
use Rattle.unit.proofs.Digits.{digit_at, bits_at}
use Rattle.unit_spec.proofs.Rows.{by_row, accepted, least, spaced}
use Rattle.unit_spec.proofs.Sequences as by_sequence
use Rattle.unit_spec.proofs.Carrying.{unwoven-unit}
use Rattle.unit.proofs.Placing.{header_at}
use Rattle.unit.proofs.Finding.{opened-is}
use Rattle.unit_spec.proofs.Ignored as ignored
use Rattle.unit_spec.proofs.Round as round
use Rattle.unit_spec.proofs.Keeping.{written_keeps, read_keeps}
use Rattle.unit_spec.proofs.Refusing as refusing
use Rattle.demands_laws.specs.Table.{First, Exact}
use Rattle.demands_laws.specs.Refusals.{ByCall}
use Rattle.demands_laws.specs.Units.{write_rows, read_rows}
use Rattle.demands_laws.proofs.UnitRows.{unit-write-exact, unit-read-exact, accepts, unit-written, unit-read}

-- neither 0 nor 7
abbrev Other : ℕ → Type 0
Other l = (l % 8 ≡ 0 → ⊥) × (l % 8 ≡ 7 → ⊥)

-- from how many bits on a length has a header spacing
abbrev Long : ℕ → Type 0
Long l = (l % 8 ≡ 0 → 144 ≤ l) × (l % 8 ≡ 7 → 303 ≤ l) × (Other l → 289 ≤ l)

long-least : (l : ℕ) → least (heads l) ≤ l ↔ Long l
long-least l = by_row (λ h _ _. least h ≤ l ↔ Long l) l (λ _ e. zero e) (λ _ e. seven e) (λ _ e f. rest e f) (λ _ e. zero e) (λ _ e. seven e)
    (λ _ e f. rest e f)
  where
    zero : l % 8 ≡ 0 → 144 ≤ l ↔ Long l
    zero e = (λ h. (λ _. h, λ f. absurd (omega (arith, e, f)), λ o. absurd (o.0 e)), λ h. h.0 e)

    seven : l % 8 ≡ 7 → 303 ≤ l ↔ Long l
    seven e = (λ h. (λ f. absurd (omega (arith, e, f)), λ _. h, λ o. absurd (o.1 e)), λ h. h.1 e)

    rest : (l % 8 ≡ 0 → ⊥) → (l % 8 ≡ 7 → ⊥) → 289 ≤ l ↔ Long l
    rest e f = (λ h. (λ g. absurd (e g), λ g. absurd (f g), λ _. h), λ h. h.2 (e, f))

-- ---- "build and read Layer 2 units of up to 146,176 bits": all lengths to there that have a header spacing, by their bits in the last byte
pub lengths : (l : ℕ) → unfit l ≡ false ↔ (l ≤ 146176) × (l % 8 ≡ 0 → 144 ≤ l) × (l % 8 ≡ 7 → 303 ≤ l) × (Other l → 289 ≤ l)
unfolding unfit
lengths l = (
  λ e. let g : Long l = (long-least l).0 ((spaced l).0 (accepted l e).1) in ((accepted l e).0, g.0, g.1, g.2),
  λ h. simp (le-ltb 146176 l h.0, ne_eqb (step l) 0 (λ z. let k : 0 < step l = (spaced l).1 ((long-least l).1 (h.1, h.2, h.3)) in omega arith)),
)

-- "bit 0 being the high bit of the first byte"
pub high-bit-first : (bs : List ℕ) (t : ℕ) → t / 8 < length bs → get_or (bits bs) t 0 ≡ get_or bs (t / 8) 0 / 2 ^ (7 - t % 8) % 2
high-bit-first bs t h = sym (digit_at 8 (get_or bs (t / 8) 0) (t % 8) (omega arith) ∙ bits_at bs t h)

-- ---- "the header sequences of table 5-3": audio, fixed and opportunistic data, of lengths. "Content is present when its length is above zero." Zero
-- stands for a mix that has none
pub sequences : (a f o : ℕ)
    → (sequence (suc a) 0 0 ≡ 0x38D8D3)
    × (sequence (suc a) 0 (suc o) ≡ 0xCE3634)
    × (sequence (suc a) (suc f) 0 ≡ 0xE3634C)
    × (sequence (suc a) (suc f) (suc o) ≡ 0x8D8D33)
    × (sequence 0 (suc f) 0 ≡ 0x3634CE)
    × (sequence 0 (suc f) (suc o) ≡ 0)
    × (sequence 0 0 (suc o) ≡ 0)
    × (sequence 0 0 0 ≡ 0)
unfolding sequence
sequences a f o =
    (simp eqb-suc-zero, simp eqb-suc-zero, simp eqb-suc-zero, simp eqb-suc-zero, simp eqb-suc-zero, simp eqb-suc-zero, simp eqb-suc-zero, refl)

-- N start, one more than N offset, header length
abbrev Spread : ℕ → ℕ → ℕ → ℕ → Type 0
Spread l s n h = (start l ≡ s) × (step l ≡ n) × (heads l ≡ h)

-- "spread by table 5-4": its six rows. A spacing is below zero where `step` is 0
pub table-5-4 : (l : ℕ)
    → (l < 72000 → l % 8 ≡ 0 → Spread l 120 ((l - 120) / 24) 24)
    × (l < 72000 → l % 8 ≡ 7 → Spread l 120 ((l / 8 - 14) / 23 * 8) 23)
    × (l < 72000 → Other l → Spread l 120 ((l / 8 - 14) / 22 * 8) 22)
    × (72000 ≤ l → l % 8 ≡ 0 → Spread l (l - 30000) 1248 24)
    × (72000 ≤ l → l % 8 ≡ 7 → Spread l (8 * (l / 8) - 29999) 1304 23)
    × (72000 ≤ l → Other l → Spread l (8 * (l / 8) - 29999) 1360 22)
unfolding start step heads
table-5-4 l = (
  λ h e. (simp (lt-ltb l 72000 h), simp (lt-ltb l 72000 h, e), simp e),
  λ h e. (simp (lt-ltb l 72000 h), simp (lt-ltb l 72000 h, e), simp e),
  λ h o. (simp (lt-ltb l 72000 h), simp (lt-ltb l 72000 h, no o, not-7 o), simp (no o, not-7 o)),
  λ h e. (simp (le-ltb l 72000 h, e), simp (le-ltb l 72000 h, e), simp e),
  λ h e. (simp (le-ltb l 72000 h, e) (omega arith), simp (le-ltb l 72000 h, e), simp e),
  λ h o. (simp (le-ltb l 72000 h, no o, not-7 o) (omega arith), simp (le-ltb l 72000 h, no o, not-7 o), simp (no o, not-7 o)),
)
  where
    no : Other l → eqb (l % 8) 0 ≡ false
    no o = ne_eqb (l % 8) 0 o.0

    not-7 : Other l → eqb (l % 8) 7 ≡ false
    not-7 o = ne_eqb (l % 8) 7 o.1

-- header bit i of a unit stands at N start + i (N offset + 1) ..
pub header-bits : (l cw : ℕ) (p : List ℕ) → 0 < step l → length p ≡ payload l → (i : ℕ) → i < heads l
    → get_or (bits (unit l cw p)) (start l + i * step l) 0 ≡ get_or (digits 24 cw) i 0
header-bits l cw p k e = header_at l cw p k e

-- .. "around a payload": its other bits are those of the payload, and behind them zeros
pub around : (l cw : ℕ) (p : List ℕ) → 0 < step l → length p ≡ payload l
    → unwoven (start l) (step l - 1) (heads l) (bits (unit l cw p)) ≡ bits p ++ replicate (lent l * 8 - heads l - length p * 8) 0
around = unwoven-unit

-- ---- "a payload of audio (opaque), opportunistic part and fixed part in that order. [..] Zero bytes fill the gap behind the audio; opportunistic data
-- follows the delimiter and ends where fixed data begins."
pub laid-with : (n : ℕ) (d audio : List ℕ) (x : ℕ) (opp fixed : List ℕ)
    → laid_out n d audio (x ∷ opp) fixed
    ≡ audio ++ replicate (n - (length audio + length (d ++ x ∷ opp) + length fixed)) 0 ++ (d ++ x ∷ opp) ++ fixed
unfolding laid_out
laid-with n d audio x opp fixed = simp eqb-suc-zero

-- "without opportunistic data none is written"
pub laid-without : (n : ℕ) (d audio fixed : List ℕ) → laid_out n d audio [] fixed ≡ audio ++ replicate (n - (length audio + 0 + length fixed)) 0 ++ [] ++ fixed
unfolding laid_out
laid-without n d audio fixed = refl

-- where it is not refused, a unit is written
pub written_is : (l : ℕ) (d audio opp fixed out : List ℕ) (m : ℕ) → (written l d audio opp fixed out).answer ≡ Wrote m
    → written l d audio opp fixed out ≡ write (unit l (sequence (length audio) (length fixed) (length opp)) (laid_out (payload l) d audio opp fixed)) out
written_is = unit-written

-- ---- "The reader is told the audio and fixed lengths": they are the first a and the last f bytes of the payload, and between them is sought what is
-- announced ..
pub read_is : (l : ℕ) (d : List ℕ) (a f : ℕ) (u out : List ℕ) (m : ℕ) → (read_unit l d a f u out).answer ≡ Wrote m
    → read_unit l d a f u out
    ≡ write
    (take a (payload_of l u) ++ carried (named (heads l) (header_of l u)) d (middle a f (payload_of l u)) ++ drop (payload l - f) (payload_of l u)) out
read_is = unit-read

-- .. "and takes the first delimiter behind the audio"
pub first-delimiter : (d xs : List ℕ) → 0 < length (opened d xs)
    → (j : ℕ) × (begins d (drop j xs) ≡ true) × ((i : ℕ) → i < j → begins d (drop i xs) ≡ true → ⊥) × (opened d xs ≡ drop (j + length d) xs)
first-delimiter d xs h =
    let r = refusing.opens-found d xs h in
    let n : length xs - length (opened d xs) ≡ r.0 + length d = omega (arith, r.2) in (
      r.0,
      r.1,
      λ i k b. omega (arith, refusing.found-opens d xs i b, r.2),
      opened-is d xs ∙ ap (λ (x : ℕ). drop x xs) n,
    )

-- ---- "Excess bits, and those past the unit in its last byte, are zero when written .."
pub excess-zero : (l cw : ℕ) (p : List ℕ) → 0 < step l → length p ≡ payload l
    → drop (payload l * 8) (unwoven (start l) (step l - 1) (heads l) (bits (unit l cw p))) ≡ replicate (lent l * 8 - heads l - length p * 8) 0
excess-zero = ignored.excess-zero

-- ".. and ignored when read": units with the same header bits and the same bits of payload bytes are read alike
pub excess-ignored : (l : ℕ) (d : List ℕ) (a f : ℕ) (u v out : List ℕ) → lent l ≤ length u → lent l ≤ length v
    → heard (start l) (step l - 1) (heads l) (bits u) ≡ heard (start l) (step l - 1) (heads l) (bits v)
    → take (payload l * 8) (unwoven (start l) (step l - 1) (heads l) (bits u)) ≡ take (payload l * 8) (unwoven (start l) (step l - 1) (heads l) (bits v))
    → read_unit l d a f u out ≡ read_unit l d a f v out
excess-ignored = ignored.read_alike

-- ---- "Reading returns what was written", for every length, content and "five delimiter bytes" that writing accepts: the parts, one behind the other
pub round_trip : (l : ℕ) (d audio opp fixed : List ℕ) → length d ≡ 5 → Bytes d → Bytes audio → Bytes opp → Bytes fixed
    → (m : ℕ) (out out' : List ℕ) → (written l d audio opp fixed out).answer ≡ Wrote m
    → read_unit l d (length audio) (length fixed) (take m (written l d audio opp fixed out).output) out' ≡ write (audio ++ opp ++ fixed) out'
round_trip = round.round_trip

-- ---- "Refusals, in order: 50 length above the limit, a header spacing below zero or, on reading, too few bytes lent; 51 on writing, a mix of content
-- that has no sequence; 52 on reading, bits that match no sequence or a reserved one; 53 parts that do not fit or, on reading, told lengths that
-- disagree with the sequence; 54 on writing, the delimiter would be found earlier than written, and on reading, it is announced and not found ahead of
-- at least one opportunistic byte; then 23."
pub write-refusals : (l : ℕ) (d audio opp fixed out : List ℕ) → Exact ByCall (written l d audio opp fixed out) (write_rows l d audio opp fixed (length out))
write-refusals = unit-write-exact

pub read-refusals : (l : ℕ) (d : List ℕ) (a f : ℕ) (u out : List ℕ) → Exact ByCall (read_unit l d a f u out) (read_rows l d a f u (length out))
read-refusals = unit-read-exact

-- 52: the reserved sequences, CW5 to CW7, are named by none of their first 24, 23 or 22 bits
pub reserved : map (λ (cw : ℕ). map (λ (n : ℕ). named n (number 0 (take n (digits 24 cw)))) (24 ∷ 23 ∷ 22 ∷ [])) (0x8D338D ∷ 0xD8D338 ∷ 0x634CE3 ∷ [])
    ≡ replicate 3 (replicate 3 0)
reserved = by_sequence.reserved

-- 54 on writing: exactly where the delimiter is five zeros and a gap stands before it
pub early-short : (d : List ℕ) (gap : ℕ) (opp : List ℕ) → length d ≡ 5 → Early d gap opp ↔ EarlyShort d gap opp
early-short = refusing.early-short

-- a call that no row refuses writes
pub write-accepts : (l : ℕ) (d audio opp fixed out : List ℕ) → ((n : ℕ) → First (write_rows l d audio opp fixed (length out)) n → ⊥)
    → (m : ℕ) × ((written l d audio opp fixed out).answer ≡ Wrote m)
write-accepts l d audio opp fixed out = accepts (written l d audio opp fixed out) (unit-write-exact l d audio opp fixed out)

pub read-accepts : (l : ℕ) (d : List ℕ) (a f : ℕ) (u out : List ℕ) → ((n : ℕ) → First (read_rows l d a f u (length out)) n → ⊥)
    → (m : ℕ) × ((read_unit l d a f u out).answer ≡ Wrote m)
read-accepts l d a f u out = accepts (read_unit l d a f u out) (unit-read-exact l d a f u out)

-- a refused call changes nothing
pub write-keeps-out : (l : ℕ) (d audio opp fixed out : List ℕ) → Keeps out (written l d audio opp fixed out)
write-keeps-out = written_keeps

pub read-keeps-out : (l : ℕ) (d : List ℕ) (a f : ℕ) (u out : List ℕ) → Keeps out (read_unit l d a f u out)
read-keeps-out = read_keeps
