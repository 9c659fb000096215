-- What is imported of a capture (request W11), byte by byte, to a reader whose memory has no limit.
-- or_none, entry               what a record's bytes are: a packet that the sender would accept, or 62
-- entry_limit                  how many bytes such a packet has, at most
-- Reading, fresh              the reader's state, and the one before the first byte
-- four_at, record_by, headed    a number of four bytes; what a whole head gives
-- read, reads                 one byte, and a byte string
-- ends                        what the end of the file says
-- imported                    of a whole file
use Rattle.std.specs.Prelude.{ℕ, ◌+◌, ◌*◌, Bool, true, false, List, [], ◌∷◌, ◌++◌, eqb, ltb, length, get_or}
use Rattle.std.proofs.Math.Option.{Option, some, none}
use Rattle.base.specs.Choice.{pick}
use Rattle.base.specs.Calls.{run}
use Rattle.packet_spec.specs.Contents.{key_at, key_most, payload_limit}
use Rattle.packet_spec.specs.Frame.{Told, packet, refusal, broken, judge_body}
use Rattle.capture_spec.specs.File.{header}

-- a packet, or 62
abbrev pub or_none : Told → Told
or_none (packet p) = packet p
or_none (refusal n) = refusal 62
or_none (broken n) = refusal 62

-- format byte to last payload byte: with the check behind them, fewer than 8 bytes, or judged as contents are
unfoldable pub entry : List ℕ → Told
entry bs = pick (ltb (length bs) 6) (refusal 62) (or_none (judge_body bs))

-- bytes of a packet, format byte to last payload byte, at most: 3 + 32 + 4 + 8,192
abbrev pub entry_limit : ℕ
entry_limit = key_at + key_most + 4 + payload_limit

-- so many bytes of the header are right; the bytes of a record's head so far; of a record of so many bytes those so far; behind a fault
pub data Reading : Type 0 where
  in_header : ℕ → Reading
  in_head : List ℕ → Reading
  in_record : ℕ → List ℕ → Reading
  behind : ℕ → Reading

-- before the first byte
abbrev pub fresh : Reading
fresh = in_header 0

-- four bytes at i as a number, low first
abbrev pub four_at : List ℕ → ℕ → ℕ
four_at bs i = get_or bs i 0 + 256 * (get_or bs (i + 1) 0 + 256 * (get_or bs (i + 2) 0 + 256 * get_or bs (i + 3) 0))

-- behind a packet the next head; behind a fault all further bytes are taken and have no effect
abbrev pub says : Told → Option Told × Reading
says (packet p) = (some (packet p), in_head [])
says (refusal n) = (some (refusal n), behind n)
says (broken n) = (some (broken n), behind 3)

-- a record of n bytes, by: are they all there
abbrev pub record_by : Bool → ℕ → List ℕ → Option Told × Reading
record_by true n bs = says (entry bs)
record_by false n bs = (none, in_record n bs)

-- a whole head, its times not looked at: 61 lengths unequal
abbrev pub headed : List ℕ → Option Told × Reading
headed h = pick (eqb (four_at h 8) (four_at h 12)) (record_by (eqb (four_at h 8) 0) (four_at h 8) []) (says (refusal 61))

-- one byte: 60 not the header's
unfoldable pub read : Reading → ℕ → Option Told × Reading
read (in_header k) b = pick (eqb b (get_or header k 0)) (none, pick (eqb (k + 1) 24) (in_head []) (in_header (k + 1))) (says (refusal 60))
read (in_head h) b = pick (eqb (length h + 1) 16) (headed (h ++ b ∷ [])) (none, in_head (h ++ b ∷ []))
read (in_record n bs) b = record_by (eqb (length bs + 1) n) n (bs ++ b ∷ [])
read (behind n) b = (none, behind n)

-- a byte string: its packets and its fault, and the state behind it
abbrev pub reads : Reading → List ℕ → List Told × Reading
reads s bs = run read s bs

-- the end of the file: 60 the header is not whole, 61 a record cut short, the fault before it; 0 none
abbrev pub ends : Reading → ℕ
ends (in_header k) = 60
ends (in_head []) = 0
ends (in_head (b ∷ h)) = 61
ends (in_record n bs) = 61
ends (behind n) = n

-- a whole file: its packets and its fault, and what its end says
abbrev pub imported : List ℕ → List Told × ℕ
imported bs = ((reads fresh bs).0, ends (reads fresh bs).1)
