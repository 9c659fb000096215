-- The reader as it is called (paper 01, "Opportunistic channel" on the receive buffer and on calls): its state and the lent receive
-- buffer go in and come back, and one call gives at most one answer.
-- Held, held             state (st) and receive buffer (recv)
-- fresh, begun           waiting for a flag, and behind one
-- place_limit, last_raw, noticed   the place of the first wrong byte behind 7D, remembered
-- store, shut, take_by, take_byte  one byte: stored, or a flag that closes a frame
-- read_all                what a byte string means: its answers, and state and buffer behind it
-- sound                  whether no count of a state is beyond its limit
-- read_on, read_by, read_call   one call, behind refusals 10 and 11
-- answered, read_of, ReadIs   that the code's results are those
-- EveryCut               a byte string, cut in every way
-- Fine                   states and buffers that pass 10 and 11 (stored, raw, place, room)
-- ThereHeld              that a delivered payload stands in the buffer, and its key
-- in_use                  the final state that counts
-- held_of                 the state of the reader without a limit, in numbers and the buffer
use Rattle.std.specs.Prelude.{ℕ, suc, ◌-◌, ◌≤◌, min, ◌≡◌, Bool, true, false, ◌&&◌, List, [], ◌∷◌, ◌++◌, length, take, set, eqb, ltb, leb}
use Rattle.std.proofs.Math.Option.{Option, some, none}
use Rattle.base.specs.Calls.{joined, owes_none, hands_none, all, hear, Yields}
use Rattle.base.specs.Choice.{pick}
use Rattle.packet_spec.specs.Contents.{raw_limit}
use Rattle.packet_spec.specs.Escape.{flag, wrong_from, wrong_at, byte_before}
use Rattle.packet_spec.specs.Frame.{Told, refusal, judged, closed, There}
use Rattle.stream.specs.Meaning.{Reading, waiting, inside}
use Rattle.stream.specs.declared.frame.FrameReader.{FrameReader}
use Rattle.stream.specs.declared.frame.Read.{Read}
use Rattle.packet_spec.specs.declared.Judged.{Judged}
use Rattle.std.specs.Prelude.{Option as Answer, None, Some}

-- state and receive buffer
pub record Held : Type 0 where
  pub st : FrameReader
  pub recv : List ℕ

-- the two together
abbrev pub held : FrameReader → List ℕ → Held
held f recv = record { st = f; recv = recv }

-- fresh: waiting for a flag, counts zero, no place remembered
abbrev pub fresh : FrameReader
fresh = record { opened = false; raw = 0; stored = 0; place = 0 }

-- behind a flag: counts zero, no place remembered
abbrev pub begun : FrameReader
begun = record { opened = true; raw = 0; stored = 0; place = 0 }

-- the place of the last raw byte that is stored
abbrev pub place_limit : ℕ
place_limit = raw_limit - 1

-- the place remembered behind more raw bytes, the first of them at `at` and the byte p before it: the first one stays
abbrev pub noticed : ℕ → ℕ → ℕ → List ℕ → ℕ
noticed place p at bs = pick (eqb place 0) (wrong_from p at bs) place

-- the last raw byte, 0 where there is none
abbrev pub last_raw : Held → ℕ
last_raw h = byte_before h.st.raw h.recv

-- a raw byte of a frame is stored and looked at, 8,272 of them at most; a raw count of 8,273 means "over"
abbrev pub store : Bool → Held → ℕ → Held
store true h b =
    held (record { opened = true; raw = suc h.st.raw; stored = suc h.st.raw; place = noticed h.st.place (last_raw h) h.st.raw (b ∷ []) })
    (set h.recv h.st.raw b)
store false h b = held (record { opened = true; raw = suc raw_limit; stored = raw_limit; place = h.st.place }) h.recv

-- the closing flag, by: is there nothing between two flags
abbrev pub shut : Bool → Held → Option Told × Held
shut true h = (none, held begun h.recv)
shut false h = (some (closed h.recv h.st.raw).told, held begun (closed h.recv h.st.raw).recv)

-- one byte, by: is it a flag, was there one before
abbrev pub take_by : Bool → Bool → Held → ℕ → Option Told × Held
take_by false false h b = (none, h)
take_by true false h b = (none, held begun h.recv)
take_by false true h b = (none, store (ltb h.st.raw raw_limit) h b)
take_by true true h b = shut (eqb h.st.raw 0) h

-- one byte
abbrev pub take_byte : Held → ℕ → Option Told × Held
take_byte h b = take_by (eqb b flag) h.st.opened h b

-- a byte string: its answers, and state and buffer behind it
abbrev pub read_all : Held → List ℕ → List Told × Held
read_all = all owes_none hands_none take_byte

-- one call behind refusals 10 and 11: the answer (none: "more wanted"), the bytes taken, state and buffer
abbrev pub read_on : Held → List ℕ → Option Told × ℕ × Held
read_on = hear owes_none hands_none take_byte

-- 10: stored bytes other than the raw count or 8,272, whichever is less; raw count above 8,273; remembered place above 8,271
abbrev pub sound : FrameReader → Bool
sound f = eqb f.stored (min f.raw raw_limit) && (leb f.raw (suc raw_limit) && leb f.place place_limit)

-- state and buffer pass 10 and 11
pub record Fine (h : Held) : Type 0 where
  pub stored : h.st.stored ≡ min h.st.raw raw_limit
  pub raw : h.st.raw ≤ suc raw_limit
  pub place : h.st.place ≤ place_limit
  pub room : raw_limit ≤ length h.recv

-- by: does it pass 10, does it pass 11 (receive buffer under 8,272 bytes)
abbrev pub read_by : Bool → Bool → Held → List ℕ → Option Told × ℕ × Held
read_by false roomy h bs = (some (refusal 10), 0, h)
read_by true false h bs = (some (refusal 11), 0, h)
read_by true true h bs = read_on h bs

-- one call
abbrev pub read_call : Held → List ℕ → Option Told × ℕ × Held
read_call h bs = read_by (sound h.st) (leb raw_limit (length h.recv)) h bs

-- bs is read by a fresh reader, cut in every way, with every receive buffer that passes 11: the calls come to their end, and P holds of
-- their answers, and of state and buffer behind them
abbrev pub EveryCut : List ℕ → (List Told → Held → Type 0) → Type 0
EveryCut bs P =
    (recv : List ℕ) → raw_limit ≤ length recv → (pieces : List (List ℕ)) → joined pieces ≡ bs → Yields read_call (held fresh recv) pieces P

-- a delivered payload stands in the buffer that comes back, and its key
abbrev pub ThereHeld : Told → Held → Type 0
ThereHeld a h = There a h.recv

-- the code's answer
abbrev pub answered : Option Told → Answer Judged
answered none = None
answered (some t) = Some (judged t)

-- the code's result of a call
abbrev pub read_of : Option Told × ℕ × Held → Read
read_of x = record { heard = answered x.0; taken = x.1; frame = x.2.st }

-- r is the result, and l the receive buffer, of a call
abbrev pub ReadIs : Option Told × ℕ × Held → Read → List ℕ → Type 0
ReadIs x r l = (r ≡ read_of x) × (l ≡ x.2.recv)

-- the state's numbers, and the bytes in use: as many as the count says, from the start
abbrev pub in_use : Held → FrameReader × List ℕ
in_use h = (h.st, take h.st.stored h.recv)

-- the raw bytes of the reader without a limit stand at the start of the buffer, up to 8,272 of them, and the place is theirs; behind them
-- stand the bytes j
abbrev pub held_of : Reading → List ℕ → Held
held_of waiting j = held fresh j
held_of (inside rs) j =
    held (record { opened = true; raw = min (length rs) (suc raw_limit); stored = min (length rs) raw_limit; place = wrong_at (take raw_limit rs) })
    (take raw_limit rs ++ j)
