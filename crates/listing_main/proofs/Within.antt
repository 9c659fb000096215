-- A call stays within what it is lent.
-- took-within     no more bytes are taken than the piece has
-- call-within     nor printed than the output has room for
use Prim.Native.Nat.{ℕ, zero, suc, ◌-◌, ◌≤◌, zero-le}
use native.Mathlib.Omega.{arith}
use mathlib.Core.Path.{ap}
use mathlib.Core.Bool.{Bool, true, false}
use mathlib.Core.List.{List}
use mathlib.Core.Option.{Option, some, none}
use lib.Dec.{ltb}
use lib.ListN.{length, drop, length-append, length-drop}
use Rattle.base.specs.Choice.{pick}
use Rattle.base.proofs.Calls.{FitsBy, fits}
use Rattle.channel_spec.specs.Meaning.{Event}
use Rattle.channel.specs.Call.{sound, roomy}
use Rattle.channel_spec.specs.declared.Answer.{Answer}
use Rattle.listing_spec.specs.Lines.{line, longest}
use Rattle.recording.specs.Deck.{Deck, deck_owes, deck_hand, deck_eat, deck_hear}
use Rattle.recording.proofs.Ears.{deck-hand-one}
use Rattle.listing_lines.specs.declared.totals.Totals.{Totals}
use Rattle.listing.specs.declared.lister.Took.{Took}
use Rattle.listing.specs.Wants.{Got}
use Rattle.listing.specs.Call.{Printed, print, counted, on_answer, near, takes_by, takes, TookIs}

by_answer : (o : Option Event) (n : ℕ) (m : Deck) (bs : List ℕ) → FitsBy deck_owes deck_hand deck_eat deck-hand-one o n m bs → n ≤ length bs
by_answer none n m bs h = omega (arith, h.0)
by_answer (some e) n m bs h = h

hear-within : (m : Deck) (bs : List ℕ) → (deck_hear m bs).1 ≤ length bs
hear-within m bs = by_answer (deck_hear m bs).0 (deck_hear m bs).1 (deck_hear m bs).2 bs (fits deck_owes deck_hand deck_eat deck-hand-one m bs)

chosen : (c : Bool) (x y : Printed) (k : ℕ) → x.taken ≤ k → y.taken ≤ k → (pick c x y).taken ≤ k
chosen true x y k h g = h
chosen false x y k h g = g

answered : (o : Option Event) (x : Printed) (f : Answer → Printed) (k : ℕ) → x.taken ≤ k → ((a : Answer) → (f a).taken ≤ k) → (on_answer o x f).taken ≤ k
answered none x f k h g = h
answered (some e) x f k h g = g _

print-within : (f room : ℕ) (m : Deck) (t : Totals) (bs : List ℕ) → (print f room m t bs).taken ≤ length bs
unfolding print
print-within zero room m t bs = zero-le
print-within (suc f) room m t bs =
    chosen (ltb room longest) _ _ (length bs) zero-le
    (answered (deck_hear m bs).0 _ _ (length bs) (omega (arith, hear-within m bs)) λ a.
    omega (
      arith,
      hear-within m bs,
      length-drop (deck_hear m bs).1 bs,
      print-within f (room - length (line a)) (deck_hear m bs).2 (counted t a) (drop (deck_hear m bs).1 bs),
    ))

by_tests : (s n b : Bool) (m : Deck) (t : Totals) (room : ℕ) (bs : List ℕ) → (takes_by s n b m t room bs).taken ≤ length bs
by_tests false n b m t room bs = zero-le
by_tests true false b m t room bs = zero-le
by_tests true true false m t room bs = zero-le
by_tests true true true m t room bs = print-within room room m t bs

pub took-within : (m : Deck) (t : Totals) (room : ℕ) (bs : List ℕ) → (takes m t room bs).taken ≤ length bs
took-within m t room bs =
    by_tests (sound m.ear.memory.st) (near m.spot t (length bs) room) (roomy m.ear.memory.recv m.ear.memory.word) m t room bs

-- a call's result, and the output then
pub call-within : (m : Deck) (t : Totals) (bs old : List ℕ) (r : Took) {l k out : List ℕ}
    → TookIs (takes m t (length old) bs) r l k old out → (r.taken ≤ length bs) × (r.written ≤ length out)
call-within m t bs old r h =
    let x : Printed = takes m t (length old) bs in (
      omega (arith, ap (λ (y : Got). y.taken) h.0, took-within m t (length old) bs),
      omega (arith, ap (λ (y : Got). y.written) h.0, ap length h.3, length-append x.text (drop (length x.text) old)),
    )
