-- What a call on a recording's bytes keeps: the deck behind it passes refusals 10 and 11 as before, and the offset has grown by no more than the
-- bytes taken.
-- FineDeck          the ear passes 10 and 11
-- Kept              that, of so many bytes taken and the deck behind them
-- any-kept          .. of a call of any reader that moves the deck so: hear-kept, packet-kept, of a call for an answer and of one for a packet
-- within-kept       no more bytes are taken than are lent, whatever the state
use Prim.Native.Nat.{ℕ, ◌+◌, ◌≤◌}
use native.Mathlib.Omega.{arith}
use mathlib.Core.Path.{◌≡◌}
use mathlib.Core.Bool.{Bool, true, false}
use mathlib.Core.List.{List}
use mathlib.Core.Option.{Option, some, none}
use lib.ListN.{length}
use Rattle.base.specs.Calls.{unless, one_more, hear}
use Rattle.base.proofs.Calls.{hear-by, FitsBy, fits, inv-hear}
use Rattle.listing_spec.specs.Apart.{in_stream}
use Rattle.recording.specs.Deck.{Deck, deck_owes, deck_hand, byte_by, deck_eat, deck_hear}
use Rattle.recording.specs.Packets.{packet_hand, packet_eat, packet_hear}
use Rattle.recording.proofs.Ears.{deck-hand-one}
use Rattle.recording.proofs.Spots.{next-near}
use Rattle.recording.proofs.Turn.{FineEar, fine-ear-hand, fine-ear-eat}

-- the ear passes refusals 10 and 11
abbrev pub FineDeck : Deck → Type 0
FineDeck m = FineEar m.ear

byte-fine : (t : Bool) (m : Deck) (b : ℕ) → deck_owes m ≡ 0 → FineDeck m → FineDeck (byte_by t m b).1
byte-fine true m b e i = fine-ear-eat m.ear b e i
byte-fine false m b e i = i

-- n bytes are taken, and the deck stands so then
pub record Kept (m : Deck) (bs : List ℕ) (n : ℕ) (m' : Deck) : Type 0 where
  pub fine : FineDeck m'
  pub within : n ≤ length bs
  pub near : m'.spot.offset ≤ m.spot.offset + n

byte-near : (t : Bool) (m : Deck) (b : ℕ) → (byte_by t m b).1.spot.offset ≤ m.spot.offset + 1
byte-near true m b = next-near m.spot b
byte-near false m b = next-near m.spot b

-- of any reader that moves the deck as its answers' own reader does, whatever it tells of the moves
module _ {A : Type 0} (on_hand : Deck → Option A) (on_eat : Deck → ℕ → Option A) where
  abbrev hands : Deck → Option A × Deck
  hands m = (on_hand m, (deck_hand m).1)

  abbrev eats : Deck → ℕ → Option A × Deck
  eats m b = (on_eat m b, (deck_eat m b).1)

  abbrev hears : Deck → List ℕ → Option A × ℕ × Deck
  hears = hear deck_owes hands eats

  abbrev NearBy : Deck → Option A × ℕ × Deck → Type 0
  NearBy m r = r.2.spot.offset ≤ m.spot.offset + r.1

  unless-near : (o : Option A) (n : ℕ) (k m : Deck) (r : Option A × ℕ × Deck) → k.spot.offset ≤ m.spot.offset + n → NearBy m r → NearBy m (unless o n k r)
  unless-near none n k m r h j = j
  unless-near (some a) n k m r h j = h

  near-kept : (m : Deck) (bs : List ℕ) → NearBy m (hears m bs)
  near-kept =
      hear-by deck_owes hands eats deck-hand-one (λ m bs r. NearBy m r) (λ m e. omega arith)
      (λ m n bs r e h. unless-near (on_hand m) 0 (deck_hand m).1 m r (omega arith) h)
      (λ m b bs r e h.
      let g : (deck_eat m b).1.spot.offset ≤ m.spot.offset + 1 = byte-near (in_stream m.spot.place m.spot.count) m b in
      unless-near (on_eat m b) 1 (deck_eat m b).1 m (one_more r) g (omega arith))

  most-fits : (o : Option A) (n : ℕ) (m : Deck) (bs : List ℕ) → FitsBy deck_owes hands eats deck-hand-one o n m bs → n ≤ length bs
  most-fits none n m bs h = omega (arith, h.0)
  most-fits (some a) n m bs h = h

  pub within-kept : (m : Deck) (bs : List ℕ) → (hears m bs).1 ≤ length bs
  within-kept m bs = most-fits (hears m bs).0 (hears m bs).1 (hears m bs).2 bs (fits deck_owes hands eats deck-hand-one m bs)

  pub any-kept : (m : Deck) (bs : List ℕ) → FineDeck m → Kept m bs (hears m bs).1 (hears m bs).2
  any-kept m bs i = record {
    fine =
        inv-hear deck_owes hands eats deck-hand-one FineDeck (λ k n e j. fine-ear-hand k.ear n e j)
        (λ k b e j. byte-fine (in_stream k.spot.place k.spot.count) k b e j) m bs i;
    within = within-kept m bs;
    near = near-kept m bs;
  }

pub hear-kept : (m : Deck) (bs : List ℕ) → FineDeck m → Kept m bs (deck_hear m bs).1 (deck_hear m bs).2
hear-kept = any-kept (λ m. (deck_hand m).0) (λ m b. (deck_eat m b).0)

pub packet-kept : (m : Deck) (bs : List ℕ) → FineDeck m → Kept m bs (packet_hear m bs).1 (packet_hear m bs).2
packet-kept = any-kept (λ m. (packet_hand m).0) (λ m b. (packet_eat m b).0)
