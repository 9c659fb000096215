-- ThereIf, there-byte   a delivered payload is there, behind the byte that tells it
-- payload-held          a delivered payload is the part of the receive buffer that a call of its own hands out
use Prim.Native.Nat.{ℕ}
use mathlib.Core.Bool.{Bool, true, false}
use mathlib.Core.List.{List}
use mathlib.Core.Option.{Option, some, none}
use lib.ListN.{length}
use lib.Dec.{eqb, leb}
use Rattle.base.specs.Calls.{With, owes_none, hands_none}
use Rattle.base.proofs.Calls.{none-owed, with-hear}
use Rattle.packet_spec.specs.Escape.{flag}
use Rattle.packet_spec.specs.Contents.{raw_limit}
use Rattle.packet_spec.specs.Frame.{Told, There}
use Rattle.packet_spec.proofs.Judging.{payload-there}
use Rattle.stream.specs.Call.{Held, shut, take_by, take_byte, sound, read_by, read_call, ThereHeld}

-- of an answer, if there is one, and the buffer that comes with it
abbrev pub ThereIf : Option Told → List ℕ → Type 0
ThereIf none recv = Unit {0}
ThereIf (some a) recv = There a recv

there-shut : (z : Bool) (h : Held) → ThereIf (shut z h).0 (shut z h).1.recv
there-shut true h = tt
there-shut false h = payload-there h.recv h.st.raw

there-by : (t o : Bool) (h : Held) (b : ℕ) → ThereIf (take_by t o h b).0 (take_by t o h b).1.recv
there-by false false h b = tt
there-by true false h b = tt
there-by false true h b = tt
there-by true true h b = there-shut (eqb h.st.raw 0) h

pub there-byte : (h : Held) (b : ℕ) → ThereIf (take_byte h b).0 (take_byte h b).1.recv
there-byte h b = there-by (eqb b flag) h.st.opened h b

there-with : (o : Option Told) (h : Held) → ThereIf o h.recv → With ThereHeld o h
there-with none h t = tt
there-with (some a) h t = t

there-call : (s r : Bool) (h : Held) (bs : List ℕ) → With ThereHeld (read_by s r h bs).0 (read_by s r h bs).2
there-call false r h bs = tt
there-call true false h bs = tt
there-call true true h bs =
    with-hear owes_none hands_none take_byte none-owed ThereHeld (λ g. tt) (λ g b. there-with (take_byte g b).0 (take_byte g b).1 (there-byte g b)) h bs

pub payload-held : (h : Held) (bs : List ℕ) → With ThereHeld (read_call h bs).0 (read_call h bs).2
payload-held h bs = there-call (sound h.st) (leb raw_limit (length h.recv)) h bs
