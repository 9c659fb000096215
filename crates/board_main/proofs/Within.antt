-- A call stays within what it is lent.
-- took-within     no more bytes are taken than the piece has
-- call-within     nor written than the output has room for
use Prim.Native.Nat.{ℕ, ◌≤◌, zero-le}
use native.Mathlib.Omega.{arith}
use mathlib.Core.Path.{ap}
use mathlib.Core.Bool.{Bool, true, false}
use mathlib.Core.List.{List}
use mathlib.Core.Option.{Option, some, none}
use lib.Dec.{ltb}
use lib.ListN.{length, drop, length-append}
use Rattle.base.specs.Choice.{pick}
use Rattle.base.proofs.Calls.{FitsBy, fits}
use Rattle.channel_spec.specs.Meaning.{Event}
use Rattle.channel.specs.Call.{roomy}
use Rattle.board.specs.declared.readout.Took.{Took}
use Rattle.board.specs.Wants.{Got}
use Rattle.board.specs.Source.{Source, memory_in, source_owes, source_hand, source_eat, source_hear}
use Rattle.board.specs.Call.{Screen, readout_of, recv_on, owed_on, Part, partly, heard_by, takes_on, sound_state, takes_by, takes, TookIs}
use Rattle.board.proofs.Sources.{source-hand-one}

by_answer : (o : Option Event) (n : ℕ) (s : Source) (bs : List ℕ) → FitsBy source_owes source_hand source_eat source-hand-one o n s bs → n ≤ length bs
by_answer none n s bs h = omega (arith, h.0)
by_answer (some e) n s bs h = h

hear-within : (s : Source) (bs : List ℕ) → (source_hear s bs).1 ≤ length bs
hear-within s bs =
    by_answer (source_hear s bs).0 (source_hear s bs).1 (source_hear s bs).2 bs (fits source_owes source_hand source_eat source-hand-one s bs)

heard-within : (s : Screen) (k : ℕ) (h : Option Event × ℕ × Source) → h.1 ≤ k → (heard_by s h).taken ≤ k
heard-within s k (none, n, x) h = h
heard-within s k (some e, n, x) h = h

chosen : (c : Bool) (x y : Part) (k : ℕ) → x.taken ≤ k → y.taken ≤ k → (pick c x y).taken ≤ k
chosen true x y k h g = h
chosen false x y k h g = g

takes-on-within : (room : ℕ) (s : Screen) (bs : List ℕ) → (takes_on room s bs).taken ≤ length bs
unfolding takes_on
takes-on-within room s bs =
    chosen (ltb room (length (owed_on s))) (partly room s) (heard_by s (source_hear s.source bs)) (length bs) zero-le
    (heard-within s (length bs) (source_hear s.source bs) (hear-within s.source bs))

by_tests : (sound roomy : Bool) (room : ℕ) (s : Screen) (bs : List ℕ) → (takes_by sound roomy room s bs).taken ≤ length bs
by_tests false b room s bs = zero-le
by_tests true false room s bs = zero-le
by_tests true true room s bs = takes-on-within room s bs

pub took-within : (room : ℕ) (s : Screen) (bs : List ℕ) → (takes room s bs).taken ≤ length bs
took-within room s bs = by_tests (sound_state (readout_of s) (length bs)) (roomy (recv_on s) (memory_in s.source.deck).word) room s bs

-- a call's result, and the output then
pub call-within : (s : Screen) (bs old : List ℕ) (r : Took) {l k out : List ℕ}
    → TookIs (takes (length old) s bs) r l k old out → (r.taken ≤ length bs) × (r.written ≤ length out)
call-within s bs old r h =
    let x : Part = takes (length old) s bs in (
      omega (arith, ap (λ (y : Got). y.taken) h.0, took-within (length old) s bs),
      omega (arith, ap (λ (y : Got). y.written) h.0, ap length h.3, length-append x.text (drop (length x.text) old)),
    )
