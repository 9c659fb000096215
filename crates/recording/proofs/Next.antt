-- One call: refused with 10, with 11, or let on.
-- near-is, near_of                                10 of the offset, as a fact
-- next-asks                                       what hearing asks
-- let-on                                          behind 10 and 11 a call hears
-- tape-agrees                                     .. by facts
-- next-heard                                      .. and what it then keeps
use Prim.Native.Nat.{ℕ, ◌+◌, ◌-◌, ◌≤◌}
use native.Mathlib.Omega.{arith}
use mathlib.Core.Path.{◌≡◌, sym, ap, subst}
use mathlib.Core.Bool.{Bool, true}
use mathlib.Core.List.{List}
use mathlib.Core.Option.{Option}
use lib.ListN.{length}
use borrow.Author.Tests.{le-leb, leb-true}
use Rattle.channel_spec.specs.Meaning.{Event}
use Rattle.channel.specs.Call.{sound, roomy, Fine}
use Rattle.channel.proofs.Fine.{fine_of, fine-is, fine-roomy}
use Rattle.listing_spec.specs.declared.Spot.{Spot}
use Rattle.recording.specs.declared.reader.RecordingReader.{RecordingReader}
use Rattle.recording.specs.declared.reader.Hearing.{Hearing}
use Rattle.recording.specs.Deck.{Deck, deck_hear}
use Rattle.recording.specs.Call.{far, deck_of, tape_of, near_spot, tape_by, tape_call, NextIs}
use Rattle.recording.specs.Private.{HeardIs}
use Rattle.recording.proofs.Kept.{Kept, hear-kept}

-- on n bytes the offset stays below 2^64
pub near-is : (p : Spot) (n : ℕ) → p.offset + n ≤ far → near_spot p n ≡ true
near-is p n h = le-leb p.offset (far - n) (omega arith)

near_of : (p : Spot) (n : ℕ) → n ≤ far → near_spot p n ≡ true → p.offset + n ≤ far
near_of p n wide e = let h : p.offset ≤ far - n = leb-true p.offset (far - n) e in omega arith

module _ (t : RecordingReader) (l k bs : List ℕ) where
  abbrev m : Deck
  m = deck_of t l k

  by : (s n b : Bool) → sound t.receiver ≡ s → near_spot t.spot (length bs) ≡ n → roomy l k ≡ b → tape_call m bs ≡ tape_by s n b m bs
  by s n b e f g = λ i. tape_by (e i) (f i) (g i) m bs

  module _ (e : sound t.receiver ≡ true) (n : near_spot t.spot (length bs) ≡ true) (b : roomy l k ≡ true) where
    -- behind 10 and 11 a call hears
    pub let-on : tape_call m bs ≡ deck_hear m bs
    let-on = by true true true e n b

    -- what hearing asks
    pub next-asks : length bs ≤ far → (sound t.receiver ≡ true) × (roomy l k ≡ true) × (t.spot.offset + length bs ≤ far)
    next-asks wide = (e, b, near_of t.spot (length bs) wide n)

    -- what is then kept
    pub next-heard : {r : Hearing} {l' k' : List ℕ} → NextIs (tape_call m bs) r l' k' → HeardIs m bs r l' k'
    next-heard {r} {l'} {k'} h =
        let x : Option Event × ℕ × Deck = deck_hear m bs in
        let g : NextIs x r l' k' = subst (λ y. NextIs y r l' k') let-on h in
        let f : x ≡ (x.0, r.taken, deck_of r.tape l' k') = λ i. (x.0, (sym g.0 i).taken, deck_of (sym g.0 i).tape (sym g.1 i) (sym g.2 i)) in
        let c : Kept m bs r.taken (deck_of r.tape l' k') =
        subst (λ (y : Option Event × ℕ × Deck). Kept m bs y.1 y.2) f (hear-kept m bs (fine_of m.ear.memory e b)) in (
          (ap (λ y. y.answer) g.0, f),
          record {
            within = c.within;
            near = c.near;
            sound = fine-is (deck_of r.tape l' k').ear.memory c.fine;
            roomy = fine-roomy (deck_of r.tape l' k').ear.memory c.fine;
          },
        )

-- behind 10 and 11, as facts, a call hears
pub tape-agrees : (m : Deck) (bs : List ℕ) → Fine m.ear.memory → m.spot.offset + length bs ≤ far → tape_call m bs ≡ deck_hear m bs
tape-agrees m bs f o =
    let-on (tape_of m) m.ear.memory.recv m.ear.memory.word bs (fine-is m.ear.memory f) (near-is m.spot (length bs) o)
    (fine-roomy m.ear.memory f)
