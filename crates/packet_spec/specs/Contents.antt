-- The contents of a frame (paper 01, "Packet and frame"; request W8), before escaping.
-- Packet, packet_of, plain_packet, key_packet   a packet, of its parts, and one of each format
-- plain_format, key_format                     the two format bytes
-- key_least, key_most, key_sized, rest_least     how long a key may be, and what stands behind it at least
-- payload_limit, plain_limit, raw_limit         the papers' limits
-- two, pair, pair_at                          a number as two bytes, low first, and back
-- head, opening             format byte and, in format 0x26, key length, key number and key; then port and sequence
-- packed, with_check, contents   format byte to last payload byte, and the check behind it
-- unpacked, key_length, plainly, keyed, body   the same taken apart; key_at, payload_at, where key and payload stand
use Rattle.std.specs.Prelude.{ℕ, ◌+◌, ◌*◌, ◌-◌, ◌/◌, ◌%◌, Bool, ◌&&◌, List, [], ◌∷◌, ◌++◌, eqb, leb, length, get_or, take, drop}
use Rattle.base.specs.Choice.{pick}
use Rattle.fcs.specs.Fcs.{fcs}

-- format, key number, key, port, sequence, payload
pub record Packet : Type 0 where
  pub format : ℕ
  pub number : ℕ
  pub key : List ℕ
  pub port : ℕ
  pub sequence : ℕ
  pub payload : List ℕ

-- the format byte of a packet that everybody may read
abbrev pub plain_format : ℕ
plain_format = 0x21

-- .. and of one for subscribers: it carries a key
abbrev pub key_format : ℕ
key_format = 0x26

-- a packet of these parts
abbrev pub packet_of : ℕ → ℕ → List ℕ → ℕ → ℕ → List ℕ → Packet
packet_of format number key port sequence payload =
    record { format = format; number = number; key = key; port = port; sequence = sequence; payload = payload }

-- a packet of format 0x21: key number zero, no key
abbrev pub plain_packet : ℕ → ℕ → List ℕ → Packet
plain_packet = packet_of plain_format 0 []

-- a packet of format 0x26
abbrev pub key_packet : ℕ → List ℕ → ℕ → ℕ → List ℕ → Packet
key_packet = packet_of key_format

-- key bytes in format 0x26, at least
abbrev pub key_least : ℕ
key_least = 2

-- .. and at most
abbrev pub key_most : ℕ
key_most = 32

-- so many key bytes may stand in format 0x26
abbrev pub key_sized : ℕ → Bool
key_sized k = leb key_least k && leb k key_most

-- bytes behind the key, at least, before the two of the check: port, sequence, one of payload
abbrev pub rest_least : ℕ
rest_least = 5

-- bytes of a payload as escaped, at most
abbrev pub payload_limit : ℕ
payload_limit = 8192

-- raw bytes of a packet of format 0x21, at most: port, sequence and check may be twice as long as escaped
abbrev pub plain_limit : ℕ
plain_limit = 8205

-- raw bytes of a frame, at most, in either format: key length, and key number and key twice as long as escaped, are 67 more
abbrev pub raw_limit : ℕ
raw_limit = 8272

-- a number as two bytes, low first
abbrev pub two : ℕ → List ℕ
two n = n % 256 ∷ n / 256 ∷ []

-- two bytes as a number, low first
abbrev pub pair : ℕ → ℕ → ℕ
pair low high = low + 256 * high

-- the number at i
abbrev pub pair_at : List ℕ → ℕ → ℕ
pair_at cs i = pair (get_or cs i 0) (get_or cs (i + 1) 0)

-- format byte; in format 0x26 key length, key number and key behind it
abbrev pub head : ℕ → ℕ → List ℕ → List ℕ
head format number key = pick (eqb format key_format) (format ∷ length key ∷ number ∷ key) (format ∷ [])

-- .. port, sequence
abbrev pub opening : Packet → List ℕ
opening p = head p.format p.number p.key ++ (two p.port ++ two p.sequence)

-- format byte to last payload byte
abbrev pub packed : Packet → List ℕ
packed p = opening p ++ p.payload

-- what stands behind the head, taken apart: port, sequence, payload
abbrev pub unpacked : ℕ → ℕ → List ℕ → List ℕ → Packet
unpacked format number key bs = packet_of format number key (pair_at bs 0) (pair_at bs 2) (drop 4 bs)

-- where the key stands in format 0x26: behind format byte, key length, key number
abbrev pub key_at : ℕ
key_at = 3

-- .. and how long it is
abbrev pub key_length : List ℕ → ℕ
key_length bs = get_or bs 1 0

-- format byte to last payload byte in format 0x21, taken apart
abbrev pub plainly : List ℕ → Packet
plainly bs = unpacked plain_format 0 [] (drop 1 bs)

-- .. in format 0x26
abbrev pub keyed : List ℕ → Packet
keyed bs = unpacked key_format (get_or bs 2 0) (take (key_length bs) (drop key_at bs)) (drop (key_at + key_length bs) bs)

-- where the payload stands, behind port and sequence, by the key's length: none is format 0x21
abbrev pub payload_at : ℕ → ℕ
payload_at k = pick (eqb k 0) 5 (key_at + k + 4)

-- bytes, and their check behind them
unfoldable pub with_check : List ℕ → List ℕ
with_check bs = bs ++ two (fcs bs)

-- head, port, sequence, payload, check
unfoldable pub contents : Packet → List ℕ
contents p = with_check (packed p)

-- before the two bytes of the check
abbrev pub body : List ℕ → List ℕ
body cs = take (length cs - 2) cs
