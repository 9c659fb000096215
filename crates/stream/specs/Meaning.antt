-- What a byte stream means (paper 01, "Packet and frame"), byte by byte, to a reader whose memory has no limit: the frames that
-- its flags cut out of it.
-- Reading                its state
-- closing, read_at, read  one byte: a flag closes a frame
-- reads                  a byte string
use Rattle.std.specs.Prelude.{ℕ, Bool, true, false, List, [], ◌∷◌, ◌++◌, eqb}
use Rattle.std.proofs.Math.Option.{Option, some, none}
use Rattle.base.specs.Calls.{run}
use Rattle.packet_spec.specs.Escape.{flag}
use Rattle.packet_spec.specs.Frame.{Told, judge}

-- waiting for a flag; or behind one, with the raw bytes since
pub data Reading : Type 0 where
  waiting : Reading
  inside : List ℕ → Reading

-- a flag closes the frame before it; nothing between two flags: no answer
abbrev pub closing : List ℕ → Option Told
closing [] = none
closing (r ∷ rs) = some (judge (r ∷ rs))

-- one byte, by: is it a flag
abbrev pub read_at : Bool → Reading → ℕ → Option Told × Reading
read_at true waiting b = (none, inside [])
read_at true (inside rs) b = (closing rs, inside [])
read_at false waiting b = (none, waiting)
read_at false (inside rs) b = (none, inside (rs ++ b ∷ []))

-- one byte
abbrev pub read : Reading → ℕ → Option Told × Reading
read s b = read_at (eqb b flag) s b

-- a byte string: its answers, and the state behind it
abbrev pub reads : Reading → List ℕ → List Told × Reading
reads s bs = run read s bs
