-- Rows of the paper's tables ("Numbered refusals") that several calls share, or that take more than a line.
-- frame_rows, contents_rows, body_rows   2 to 6, 12, 7 and 8, of the raw bytes of a frame
-- Unusable, KeyBeyond, KeyWrong, port_at, payload_of   what their rows ask of the contents
-- UnfitHead             24: a head that is not to be sent
-- PlaceBeyond           10: a place of the interleaver
-- FrameBeyond, Beyond   10: a count of the state is beyond its limit
-- NextBeyond            .. of a call on a recording's bytes, for an answer or for a packet
-- TapeBeyond            .. of a listing
-- BoardBeyond           .. and of a board
-- Short                 11: a lent buffer is too short
-- OfFrame, OfCall       the numbers of frames, and those of receiving calls
-- ByFrame, By..         that an answer refuses by a number
use Rattle.std.specs.Prelude.{ℕ, suc, ◌+◌, ◌-◌, ◌*◌, ◌≤◌, ◌<◌, min, ◌≡◌, false, ◌⊎◌, ◌≢◌, List, [], ◌∷◌, eqb, length, take, drop, get_or}
use Rattle.std.proofs.Math.Option.{Option, some}
use Rattle.base.specs.Choice.{pick}
use Rattle.base.specs.Written.{Outcome}
use Rattle.base.specs.Written.{Refused}
use Rattle.fcs.specs.Fcs.{fcs}
use Rattle.packet_spec.specs.Contents.{Packet, plain_format, key_format, key_least, key_most, key_at, key_length, payload_limit, raw_limit, pair_at}
use Rattle.packet_spec.specs.Escape.{escape, plain, last, Followed}
use Rattle.packet_spec.specs.Frame.{Told, refusal, number}
use Rattle.interleaver_spec.specs.declared.Matrix.{Matrix}
use Rattle.subchannel_sender.specs.Sending.{Counted, Refused as CountRefused}
use Rattle.parity.specs.Checked.{Checked}
use Rattle.parity.specs.Checked.{Refused as WordRefused}
use Rattle.repair.specs.Mended.{Mended}
use Rattle.repair.specs.Mended.{Refused as RepairRefused}
use Rattle.stream.specs.Call.{place_limit}
use Rattle.stream.specs.declared.frame.FrameReader.{FrameReader}
use Rattle.channel_spec.specs.Meaning.{Event, said}
use Rattle.channel_spec.specs.Sender.{message_bytes, word_bytes}
use Rattle.channel.specs.declared.receiver.Receiver.{Receiver}
use Rattle.listing_spec.specs.declared.Spot.{Spot}
use Rattle.listing_spec.specs.Lines.{longest}
use Rattle.ports_spec.specs.Refusing.{Unfit as UnfitTable}
use Rattle.recording.specs.Deck.{Deck}
use Rattle.recording.specs.Call.{far}
use Rattle.recording.specs.Packets.{Item, refused}
use Rattle.listing.specs.Call.{Printed}
use Rattle.listing_lines.specs.declared.totals.Totals.{Totals}
use Rattle.listing.specs.Wants.{Refused as TakeRefused}
use Rattle.board.specs.Call.{Part}
use Rattle.board.specs.declared.readout.Readout.{Readout}
use Rattle.board.specs.Wants.{Refused as ShowRefused}
use Rattle.demands_laws.specs.Table.{Row}

-- 10 of the interleaver: a cell place of N or more, at depth 2 or more
abbrev pub PlaceBeyond : ℕ → ℕ → Type 0
PlaceBeyond d p = (2 ≤ d) × (255 * d ≤ p)

-- 7D00-7EFF
abbrev pub Unusable : ℕ → Type 0
Unusable port = (0x7D00 ≤ port) × (port ≤ 0x7EFF)

-- a key length outside 2 to 32
abbrev pub KeyBeyond : ℕ → Type 0
KeyBeyond k = (k < key_least) ⊎ (key_most < k)

-- .. or fewer than seven bytes behind the key
abbrev pub KeyWrong : List ℕ → Type 0
KeyWrong cs = KeyBeyond (key_length cs) ⊎ (length cs < key_at + key_length cs + 7)

-- where the port stands in contents: behind the format byte or, in format 0x26, behind the key
abbrev pub port_at : List ℕ → ℕ
port_at cs = pick (eqb (get_or cs 0 0) key_format) (key_at + key_length cs) 1

-- what stands between the sequence and the check
abbrev pub payload_of : List ℕ → List ℕ
payload_of cs = take (length cs - 2 - (port_at cs + 4)) (drop (port_at cs + 4) cs)

-- of contents cs whose check agrees
abbrev pub body_rows : List ℕ → List Row
body_rows cs =
    (6, (get_or cs 0 0 ≢ plain_format) × (get_or cs 0 0 ≢ key_format)) ∷  -- neither format
    (12, (get_or cs 0 0 ≡ key_format) × KeyWrong cs) ∷  -- a 0x26 key length outside 2 to 32 or fewer than seven bytes behind the key
    (7, Unusable (pair_at cs (port_at cs))) ∷  -- port 7D00-7EFF
    (8, payload_limit < length (escape (payload_of cs))) ∷  -- payload above 8,192 bytes as escaped
    []

-- of contents cs, the bytes after undoing escapes
abbrev pub contents_rows : List ℕ → List Row
contents_rows cs =
    (4, length cs < 8) ∷  -- fewer than 8 bytes after undoing escapes
    (5, fcs (take (length cs - 2) cs) ≢ pair_at cs (length cs - 2)) ∷  -- check differs
    body_rows cs

-- of raw bytes
abbrev pub frame_rows : List ℕ → List Row
frame_rows raw =
    (2, last 0 raw ≡ 0x7D) ∷  -- last raw byte is 7D
    (3, Followed raw) ∷  -- 7D followed by other than 5E, 5D
    contents_rows (plain raw)

-- 24: a 0x26 key length outside 2 to 32, another format, or a key length or number above zero in format 0x21
abbrev pub UnfitHead : Packet → Type 0
UnfitHead p =
    ((p.format ≡ key_format) × KeyBeyond (length p.key))
    ⊎ ((p.format ≢ plain_format) × (p.format ≢ key_format))
    ⊎ ((p.format ≡ plain_format) × ((0 < length p.key) ⊎ (0 < p.number)))

-- 10 of the frame reader: stored bytes other than the raw count or 8,272, whichever is less; raw count above 8,273; remembered place above 8,271
abbrev pub FrameBeyond : FrameReader → Type 0
FrameBeyond f = (f.stored ≢ min f.raw raw_limit) ⊎ (suc raw_limit < f.raw) ⊎ (place_limit < f.place)

-- 10 of the channel's receiver: the same; bytes of a word above 255, marker bytes above 3, message bytes handed on above 223
abbrev pub Beyond : Receiver → Type 0
Beyond s = FrameBeyond s.frame ⊎ (word_bytes < s.lock.word) ⊎ (3 < s.lock.marker) ⊎ (message_bytes < s.lock.handed)

-- 11 on the channel: receive buffer under 8,272 bytes, word buffer under 255
abbrev pub Short : List ℕ → List ℕ → Type 0
Short recv word = (length recv < raw_limit) ⊎ (length word < word_bytes)

-- 10 of a call on a recording's bytes: that of its receiver; on n bytes lent the offset could pass 64 bits
abbrev pub NextBeyond : Receiver → Spot → ℕ → Type 0
NextBeyond s p n = Beyond s ⊎ (far - n < p.offset)

-- 10 of a listing: that of its receiver; on n bytes lent the offset could pass 64 bits, or a total in the room lent
abbrev pub TapeBeyond : Receiver → Spot → Totals → ℕ → ℕ → Type 0
TapeBeyond s p t n room =
    Beyond s ⊎ (far - n < p.offset) ⊎ (far - room < t.packets) ⊎ (far - room < t.refused) ⊎ (far - room < t.damaged) ⊎ (far - room < t.lost)

-- 10 of a board: that of its receiver; on n bytes lent the offset of a recording could pass 64 bits; a port is held twice in the table; the
-- piece to be written is above 128 bytes
abbrev pub BoardBeyond : Readout → ℕ → Type 0
BoardBeyond r n =
    Beyond r.tape.receiver ⊎ ((r.bare ≡ false) × (far - n < r.tape.spot.offset)) ⊎ UnfitTable r.ports.entries ⊎ (longest < r.owed.piece.length)

-- the numbers that frames are refused by
abbrev pub OfFrame : ℕ → Type 0
OfFrame n = ((1 ≤ n) × (n ≤ 8)) ⊎ (n ≡ 12)

-- .. and receiving calls
abbrev pub OfCall : ℕ → Type 0
OfCall n = (n ≡ 10) ⊎ (n ≡ 11)

-- a frame is refused by its number, with a place or without
abbrev pub ByFrame : Told → ℕ → Type 0
ByFrame t n = number t ≡ some n

-- a call that writes is
abbrev pub ByCall : Outcome → ℕ → Type 0
ByCall o n = o.answer ≡ Refused n

-- a call that writes and has a state is
abbrev pub ByState : {S : Type 0} → Outcome × S → ℕ → Type 0
ByState x n = ByCall x.0 n

-- the check of a word is
abbrev pub ByCheck : Checked → ℕ → Type 0
ByCheck c n = c ≡ WordRefused n

-- the repair of a word is
abbrev pub ByRepair : Mended → ℕ → Type 0
ByRepair a n = a ≡ RepairRefused n

-- a receiving call on the plain stream is, or one on a capture's bytes: by a number of calls, and not of frames or captures
abbrev pub ByRead : {B : Type 0} → Option Told × ℕ × B → ℕ → Type 0
ByRead r n = OfCall n × (r.0 ≡ some (refusal n))

-- a receiving call on the channel is, the opportunistic or a fixed one
abbrev pub ByHear : {B : Type 0} → Option Event × ℕ × B → ℕ → Type 0
ByHear r n = OfCall n × (r.0 ≡ some (said (refusal n)))

-- a call on a recording's bytes is
abbrev pub ByNext : Option Event × ℕ × Deck → ℕ → Type 0
ByNext r n = OfCall n × (r.0 ≡ some (said (refusal n)))

-- a call for a recording's next packet is: a frame that is refused is no packet
abbrev pub ByPacket : Option Item × ℕ × Deck → ℕ → Type 0
ByPacket r n = r.0 ≡ some (refused n)

-- a call on a recording that is listed is
abbrev pub ByTake : Printed → ℕ → Type 0
ByTake x n = x.wants ≡ TakeRefused n

-- a board's call is
abbrev pub ByShow : Part → ℕ → Type 0
ByShow x n = x.wants ≡ ShowRefused n

-- a sub-channel's call that sends a group is
abbrev pub ByGroup : Outcome × ℕ × Matrix → ℕ → Type 0
ByGroup x n = ByCall x.0 n

-- the count of a sub-channel's groups is
abbrev pub ByCount : Counted → ℕ → Type 0
ByCount c n = c ≡ CountRefused n
