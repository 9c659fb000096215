-- A closed frame (paper 01, "Numbered refusals"; request W8): the first refusal that applies of 1 to 6, 12, 7, 8, or the packet.
-- Told                 what a frame is told to be: packet, refusal, broken
-- delivery, no_delivery, judged, number   a packet as it is told of; the answer that the code gives of it, and the paper's number of it
-- judge_packet, key_fits, judge_body, judge_contents   what is told of a packet, of format byte to last payload byte, and of these with their check
-- Closed, kept, closed_by, closed   what it is told to be (told), and what the receive buffer then holds (recv)
-- judging              the same by a call, behind refusals 10 and 11
-- judge                the same of raw bytes alone
-- part, There          a part of the receive buffer, and that a delivered payload and its key are such parts
use Rattle.std.specs.Prelude.{ℕ, suc, ◌+◌, ◌-◌, ◌≡◌, List, [], ◌++◌, Bool, ◌&&◌, eqb, ltb, leb, length, get_or, take, drop}
use Rattle.std.proofs.Math.Option.{Option, none, some}
use Rattle.base.specs.Choice.{pick}
use Rattle.fcs.specs.Fcs.{fcs}
use Rattle.packet_spec.specs.Port.{barred}
use Rattle.packet_spec.specs.Contents.{Packet, plain_format, key_format, key_sized, rest_least, payload_limit, raw_limit}
use Rattle.packet_spec.specs.Contents.{pair_at, key_length, key_at, payload_at, plainly, keyed, body}
use Rattle.packet_spec.specs.Escape.{escape, plain, scan}
use Rattle.packet_spec.specs.declared.Escapes.{Escapes}
use Rattle.packet_spec.specs.declared.Escapes.TheVariants.{Right, Unfinished, Wrong}
use Rattle.packet_spec.specs.declared.Delivery.{Delivery}
use Rattle.packet_spec.specs.declared.Judged.{Judged}
use Rattle.packet_spec.specs.declared.Judged.TheVariants.{Packet as Delivered, Refused, Broken}

-- a packet, or refused by its number; refused with 3, by the place of the first wrong byte behind 7D
pub data Told : Type 0 where
  packet : Packet → Told
  refusal : ℕ → Told
  broken : ℕ → Told

-- a packet as the code's answer tells of it: of key and payload the lengths
abbrev pub delivery : Packet → Delivery
delivery p = record {
  format = p.format;
  number = p.number;
  key = length p.key;
  port = p.port;
  sequence = p.sequence;
  length = length p.payload;
}

-- no packet is told of
abbrev pub no_delivery : Delivery
no_delivery = record { format = 0; number = 0; key = 0; port = 0; sequence = 0; length = 0 }

-- the code's answer
abbrev pub judged : Told → Judged
judged (packet p) = Delivered (delivery p)
judged (refusal n) = Refused n
judged (broken n) = Broken n

-- the paper's number of an answer; a packet has none
abbrev pub number : Told → Option ℕ
number (packet p) = none
number (refusal n) = some n
number (broken n) = some 3

-- what a frame is told to be, and the receive buffer then
pub record Closed : Type 0 where
  pub told : Told
  pub recv : List ℕ

-- a packet, taken apart: 7 port, 8 payload too long as escaped
abbrev pub judge_packet : Packet → Told
judge_packet p = pick (barred p.port) (refusal 7) (pick (ltb payload_limit (length (escape p.payload))) (refusal 8) (packet p))

-- a key length of 2 to 32, and behind the key seven bytes at least, the two of the check among them
abbrev pub key_fits : List ℕ → Bool
key_fits bs = key_sized (key_length bs) && leb (key_at + key_length bs + rest_least) (length bs)

-- format byte to last payload byte: 6 neither format, 12 the key of format 0x26, then as above
unfoldable pub judge_body : List ℕ → Told
judge_body bs =
    pick (eqb (get_or bs 0 0) plain_format) (judge_packet (plainly bs))
    (pick (eqb (get_or bs 0 0) key_format) (pick (key_fits bs) (judge_packet (keyed bs)) (refusal 12))
    (refusal 6))

-- contents: 4 fewer than 8 bytes, 5 check differs, then as above
unfoldable pub judge_contents : List ℕ → Told
judge_contents cs =
    pick (ltb (length cs) 8) (refusal 4)
    (pick (eqb (fcs (body cs)) (pair_at cs (length cs - 2))) (judge_body (body cs)) (refusal 5))

-- refused with the raw bytes left as they are
abbrev pub kept : ℕ → List ℕ → Closed
kept n recv = record { told = refusal n; recv = recv }

-- 2 last raw byte is 7D, 3 7D followed by other than 5E and 5D, with the place of the first such; else escapes are undone from the start, and bytes behind stay
unfoldable pub closed_by : Escapes → List ℕ → List ℕ → Closed
closed_by Unfinished raw recv = kept 2 recv
closed_by (Wrong n) raw recv = record { told = broken n; recv = recv }
closed_by Right raw recv = record { told = judge_contents (plain raw); recv = plain raw ++ drop (length (plain raw)) recv }

-- n raw bytes from the start of the receive buffer: 1 more than 8,272 of them
unfoldable pub closed : List ℕ → ℕ → Closed
closed recv n = pick (ltb raw_limit n) (kept 1 recv) (closed_by (scan (take n recv)) (take n recv) recv)

-- the call that judges, behind its refusals. 10: raw count above 8,273. 11: receive buffer under 8,272 bytes
abbrev pub judging : List ℕ → ℕ → Closed
judging recv n = pick (ltb (suc raw_limit) n) (kept 10 recv) (pick (ltb (length recv) raw_limit) (kept 11 recv) (closed recv n))

-- raw bytes in a buffer that just holds them
unfoldable pub judge : List ℕ → Told
judge raw = (closed raw (length raw)).told

-- n bytes of the receive buffer from `at` on, as a call of its own hands them out; empty where it is too short
abbrev pub part : ℕ → ℕ → List ℕ → List ℕ
part at n recv = pick (ltb (length recv) (at + n)) [] (take n (drop at recv))

-- a delivered payload is such a part, without format, key, port, sequence and check, and so is its key
abbrev pub There : Told → List ℕ → Type 0
There (packet p) recv =
    (part (payload_at (length p.key)) (length p.payload) recv ≡ p.payload) × (part key_at (length p.key) recv ≡ p.key)
There (refusal n) recv = Unit {0}
There (broken n) recv = Unit {0}
