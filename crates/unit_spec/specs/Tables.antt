-- Tables 5-3 and 5-4 of source document 003. A unit has L bits.
-- most, most_bytes    the longest unit, in bits, and its bytes
-- cw0, cw1, cw2, cw3, cw4   the header sequences of table 5-3 that are not reserved, h0 being the highest of their 24 bits
-- sequence           the sequence of a mix of content, by the lengths of its parts; 0 where the table has none
-- announced          whether a sequence announces opportunistic data
-- by_row, heads       by the length's remainder of 8; how many header bits a unit has
-- start, step        bits before the first header bit; from one header bit to the next. Step 0 is a spacing below zero
-- payload, lent      bytes of payload; bytes that a unit takes
-- unfit              50: the length, or its header spacing
use Rattle.std.specs.Prelude.{Bool, true, ℕ, ◌+◌, ◌-◌, ◌*◌, ◌/◌, ◌%◌, eqb, ltb}
use Rattle.base.specs.Choice.{pick}

-- "units of up to 146,176 bits"
abbrev pub most : ℕ
most = 146176

-- .. in 18,272 bytes
abbrev pub most_bytes : ℕ
most_bytes = 18272

-- audio alone
abbrev pub cw0 : ℕ
cw0 = 0x38D8D3

-- audio and opportunistic data
abbrev pub cw1 : ℕ
cw1 = 0xCE3634

-- audio and fixed data
abbrev pub cw2 : ℕ
cw2 = 0xE3634C

-- all three
abbrev pub cw3 : ℕ
cw3 = 0x8D8D33

-- fixed data alone
abbrev pub cw4 : ℕ
cw4 = 0x3634CE

-- a bytes of audio, f of fixed and o of opportunistic data: "content is present when its length is above zero"
unfoldable pub sequence : ℕ → ℕ → ℕ → ℕ
sequence a f o =
    pick (eqb a 0) (pick (eqb o 0) (pick (eqb f 0) 0 cw4) 0)
    (pick (eqb f 0) (pick (eqb o 0) cw0 cw1) (pick (eqb o 0) cw2 cw3))

-- 1 where it does, else 0
unfoldable pub announced : ℕ → ℕ
announced cw = pick (eqb cw cw1) 1 (pick (eqb cw cw3) 1 0)

-- by L mod 8: 0, 7, or 1 to 6
abbrev pub by_row : {A : Type 0} → ℕ → A → A → A → A
by_row l whole seven other = pick (eqb (l % 8) 0) whole (pick (eqb (l % 8) 7) seven other)

-- "header length"
unfoldable pub heads : ℕ → ℕ
heads l = by_row l 24 23 22

-- "N start"
unfoldable pub start : ℕ → ℕ
start l = pick (ltb l 72000) 120 (by_row l (l - 30000) (l / 8 * 8 - 29999) (l / 8 * 8 - 29999))

-- one more than "N offset", the bits between two header bits
unfoldable pub step : ℕ → ℕ
step l = pick (ltb l 72000) (by_row l ((l - 120) / 24) ((l / 8 - 14) / 23 * 8) ((l / 8 - 14) / 22 * 8)) (by_row l 1248 1304 1360)

-- the whole bytes of the other bits; what is left of them are the excess bits
unfoldable pub payload : ℕ → ℕ
payload l = (l - heads l) / 8

-- the last of them may be begun only
unfoldable pub lent : ℕ → ℕ
lent l = (l + 7) / 8

-- "length above the limit, a header spacing below zero"
unfoldable pub unfit : ℕ → Bool
unfit l = pick (ltb most l) true (eqb (step l) 0)
