-- What private functions alone are promised by: what the code does run by run, from flag to flag.
-- before                 the bytes before the first flag
-- counted_by, counted     the state's counts after n raw bytes more
-- placed, looked         the state after the stored bytes from a place on are looked at
-- gathered_by, gathered   the receive buffer after raw bytes more
-- closes                 whether a flag closes a frame here
-- TurnBy, TurnIs         what a run and its flag give (means), the bytes taken, some and within those lent, and a state that is sound again
use Rattle.std.specs.Prelude.{ℕ, suc, ◌+◌, ◌-◌, ◌≤◌, ◌<◌, min, ◌≡◌, Bool, true, false, not, ◌&&◌, List, length, take, drop, eqb, Option, Some, None}
use Rattle.std.proofs.lemmas.List.Edits.{sets}
use Rattle.base.specs.UpTo.{up_to}
use Rattle.base.specs.Calls.{after}
use Rattle.packet_spec.specs.Contents.{raw_limit}
use Rattle.packet_spec.specs.Escape.{flag, byte_before}
use Rattle.stream.specs.Call.{Held, held, noticed, read_on, sound, ReadIs}
use Rattle.stream.specs.declared.frame.FrameReader.{FrameReader}
use Rattle.packet_spec.specs.declared.Judged.{Judged}
use Rattle.stream.specs.declared.frame.Read.{Read}

-- the bytes before the first flag, all where there is none
abbrev pub before : List ℕ → List ℕ
before bs = up_to flag bs

-- the raw count stops at 8,273; by: is a frame open
abbrev pub counted_by : Bool → FrameReader → ℕ → FrameReader
counted_by false f n = f
counted_by true f n = record { opened = true; raw = min (f.raw + n) (suc raw_limit); stored = min (f.raw + n) raw_limit; place = f.place }

-- the state's counts after n raw bytes more
abbrev pub counted : FrameReader → ℕ → FrameReader
counted f n = counted_by f.opened f n

-- .. with another place
abbrev pub placed : FrameReader → ℕ → FrameReader
placed f place = record { opened = f.opened; raw = f.raw; stored = f.stored; place = place }

-- the stored bytes from a place on are looked at
abbrev pub looked : FrameReader → List ℕ → ℕ → FrameReader
looked f recv from = placed f (noticed f.place (byte_before from (take f.stored recv)) from (drop from (take f.stored recv)))

-- as many as the limit leaves are stored; by: is a frame open
abbrev pub gathered_by : Bool → ℕ → List ℕ → List ℕ → List ℕ
gathered_by false raw run recv = recv
gathered_by true raw run recv = sets recv (min raw raw_limit) (take (raw_limit - min raw raw_limit) run)

-- the receive buffer after the bytes of a run
abbrev pub gathered : FrameReader → List ℕ → List ℕ → List ℕ
gathered f run recv = gathered_by f.opened f.raw run recv

-- whether a flag closes a frame here
abbrev pub closes : FrameReader → Bool
closes f = f.opened && not (eqb f.raw 0)

-- the answer of a call, or where the call goes on
abbrev pub TurnBy : Option Judged → Held → List ℕ → Read → List ℕ → Type 0
TurnBy (Some j) h bs t l = ReadIs (read_on h bs) t l
TurnBy None h bs t l = read_on h bs ≡ after t.taken (read_on (held t.frame l) (drop t.taken bs))

-- some bytes are taken, and the state is sound again
pub record TurnIs (h : Held) (bs : List ℕ) (t : Read) (l : List ℕ) : Type 0 where
  pub means : TurnBy t.heard h bs t l
  pub some : 0 < t.taken
  pub within : t.taken ≤ length bs
  pub again : sound t.frame ≡ true
