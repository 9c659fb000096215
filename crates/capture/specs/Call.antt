-- A capture as it is read by calls (request W11): the state and the lent store go in and come back, and one call gives at most one answer.
-- Held, held                state (st) and store
-- next, says, with          the state behind an answer; an answer; an answer and the store
-- header_by, headed_by, head_by, whole_by, record_by, take_by, take_byte   one byte, by the state's phase
-- read_all                   what a byte string means: its answers, and state and store behind it
-- sound                     whether no count of a state is beyond its limit
-- read_on, read_by, read_call, read_of, ReadIs   one call, behind refusals 10 and 11, and that the code's results are those
-- Ended, Whole, Refused, as_ended   what the end of the file says, and the same of what the code answers
-- ending, finishing, ended_as   the end of the file, and its number
-- EveryCut                  a file, cut in every way
-- Fine                      states and stores that pass 10 and 11 (counts, room)
-- Stands                    that a delivered packet's bytes stand in the store
use Rattle.std.specs.Prelude.{ℕ, ◌+◌, ◌≤◌, ◌≡◌, Bool, true, false, ◌&&◌, List, eqb, ltb, leb, length, get_or, take, set, Result, Ok, Err}
use Rattle.std.proofs.Math.Option.{Option, some, none}
use Rattle.base.specs.Bytes.{Bytes}
use Rattle.base.specs.Calls.{joined, owes_none, hands_none, all, hear, Yields}
use Rattle.base.specs.Choice.{pick}
use Rattle.packet_spec.specs.Frame.{Told, packet, refusal, broken, judged, There}
use Rattle.packet_spec.specs.declared.Judged.{Judged}
use Rattle.packet_spec.specs.declared.Judged.TheVariants as judges
use Rattle.stream.specs.Call.{answered}
use Rattle.capture_spec.specs.File.{header}
use Rattle.capture_spec.specs.Meaning.{entry, entry_limit, four_at}
use Rattle.capture.specs.Export.{Fetched}
use Rattle.capture.specs.declared.reader.CaptureReader.{CaptureReader}
use Rattle.capture.specs.declared.reader.CaptureReader.TheVariants.{Header, Head, Record, Behind}
use Rattle.capture.specs.declared.reader.Read.{Read}
use Rattle.base.specs.Refusals.{number}
use Rattle.base.specs.declared.Refusal.{Refusal}

-- state and store
pub record Held : Type 0 where
  pub st : CaptureReader
  pub store : List ℕ

-- the two together
abbrev pub held : CaptureReader → List ℕ → Held
held c st = record { st = c; store = st }

-- the state behind an answer: the next head, or all further bytes taken without effect
abbrev pub next : Judged → CaptureReader
next (judges.Packet d) = Head 0
next (judges.Refused n) = Behind n
next (judges.Broken n) = Behind 3

-- an answer, and the state behind it
abbrev pub says : Told → Option Told × CaptureReader
says t = (some t, next (judged t))

-- a byte of the header at k: 60 not the header's
abbrev pub header_by : ℕ → ℕ → Option Told × CaptureReader
header_by k b = pick (eqb b (get_or header k 0)) (none, pick (eqb (k + 1) 24) (Head 0) (Header (k + 1))) (says (refusal 60))

-- a whole head, which the store begins with: 61 lengths unequal; a record of no byte is none
abbrev pub headed_by : List ℕ → Option Told × CaptureReader
headed_by st = pick (eqb (four_at st 8) (four_at st 12)) (pick (eqb (four_at st 8) 0) (says (refusal 62)) (none, Record (four_at st 8) 0)) (says (refusal 61))

-- a byte of a head at k, stored
abbrev pub head_by : ℕ → List ℕ → Option Told × CaptureReader
head_by k st = pick (eqb (k + 1) 16) (headed_by st) (none, Head (k + 1))

-- a whole record of n bytes: longer than any packet's it is none; else the store begins with it
abbrev pub whole_by : ℕ → List ℕ → Option Told × CaptureReader
whole_by n st = says (pick (ltb entry_limit n) (refusal 62) (entry (take n st)))

-- a byte of a record at d, stored
abbrev pub record_by : ℕ → ℕ → List ℕ → Option Told × CaptureReader
record_by n d st = pick (eqb (d + 1) n) (whole_by n st) (none, Record n (d + 1))

-- an answer and a state, with the store
abbrev pub with : Option Told × CaptureReader → List ℕ → Option Told × Held
with r st = (r.0, held r.1 st)

-- one byte, by the state; the bytes of a head and of a record are stored, as far as there is room
abbrev pub take_by : CaptureReader → List ℕ → ℕ → Option Told × Held
take_by (Header k) st b = with (header_by k b) st
take_by (Head k) st b = with (head_by k (set st k b)) (set st k b)
take_by (Record n d) st b = with (record_by n d (set st d b)) (set st d b)
take_by (Behind f) st b = (none, held (Behind f) st)

-- one byte
abbrev pub take_byte : Held → ℕ → Option Told × Held
take_byte h b = take_by h.st h.store b

-- a byte string: its answers, and state and store behind it
abbrev pub read_all : Held → List ℕ → List Told × Held
read_all = all owes_none hands_none take_byte

-- one call behind refusals 10 and 11: the answer (none: "more wanted"), the bytes taken, state and store
abbrev pub read_on : Held → List ℕ → Option Told × ℕ × Held
read_on = hear owes_none hands_none take_byte

-- 10: 24 bytes of the header or more, 16 of a head or more, all of a record or more, or a fault that is none
abbrev pub sound : CaptureReader → Bool
sound (Header k) = ltb k 24
sound (Head k) = ltb k 16
sound (Record n d) = ltb d n
sound (Behind f) = leb 60 f && leb f 62

-- state and store pass 10 and 11
pub record Fine (h : Held) : Type 0 where
  pub counts : sound h.st ≡ true
  pub room : entry_limit ≤ length h.store

-- by: does it pass 10, does it pass 11 (store under 8,231 bytes)
abbrev pub read_by : Bool → Bool → Held → List ℕ → Option Told × ℕ × Held
read_by false roomy h bs = (some (refusal 10), 0, h)
read_by true false h bs = (some (refusal 11), 0, h)
read_by true true h bs = read_on h bs

-- one call
abbrev pub read_call : Held → List ℕ → Option Told × ℕ × Held
read_call h bs = read_by (sound h.st) (leb entry_limit (length h.store)) h bs

-- a delivered packet's bytes stand in the store that comes back: its payload, its key, and format byte to last payload byte
abbrev pub Stands : Told → Held → Type 0
Stands (packet p) h = (Bytes h.store → There (packet p) h.store) × Fetched (packet p) h.store
Stands (refusal n) h = Unit {0}
Stands (broken n) h = Unit {0}

-- the code's result of a call
abbrev pub read_of : Option Told × ℕ × Held → Read
read_of x = record { heard = answered x.0; taken = x.1; capture = x.2.st }

-- r is the result, and l the store, of a call
abbrev pub ReadIs : Option Told × ℕ × Held → Read → List ℕ → Type 0
ReadIs x r l = (r ≡ read_of x) × (l ≡ x.2.store)

-- the file ends behind its header or behind a record, or it is refused, by this number of the paper
pub data Ended : Type 0 where
  Whole : Ended
  Refused : ℕ → Ended

-- what the code answers, by the paper's numbers
abbrev pub as_ended : Result (Unit {0}) Refusal → Ended
as_ended (Ok x) = Whole
as_ended (Err r) = Refused (number r)

-- the end of the file: 60 the header is not whole, 61 a record cut short, the fault before it
abbrev pub ending : CaptureReader → Ended
ending (Header k) = Refused 60
ending (Head k) = pick (eqb k 0) Whole (Refused 61)
ending (Record n d) = Refused 61
ending (Behind f) = Refused f

-- the call at the end of the file, behind 10
abbrev pub finishing : CaptureReader → Ended
finishing c = pick (sound c) (ending c) (Refused 10)

-- the paper's number of it; 0 none
abbrev pub ended_as : Ended → ℕ
ended_as Whole = 0
ended_as (Refused n) = n

-- a file is read from its first byte on, cut in every way, with every store that passes 11: the calls come to their end, and P holds of
-- their answers, and of state and store behind them
abbrev pub EveryCut : List ℕ → (List Told → Held → Type 0) → Type 0
EveryCut bs P =
    (st : List ℕ) → entry_limit ≤ length st → (pieces : List (List ℕ)) → joined pieces ≡ bs → Yields read_call (held (Header 0) st) pieces P
