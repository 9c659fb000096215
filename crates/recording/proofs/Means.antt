-- A recording's bytes, taken one by one, mean what the two steps mean: taken apart, and then heard.
-- ear_all, fresh-owes   all that the ear hears; a fresh one owes nothing
-- means, means-start   the deck's answers are those of the stream bytes
-- heard_all            which are those of a fresh receiver, whatever its buffers hold
-- deck-means           so are those of a whole recording, and where it ends is where taking it apart ends
use Prim.Native.Nat.{ℕ, zero, suc, ◌+◌, ◌-◌, ◌*◌, ◌≤◌}
use mathlib.Core.Path.{◌≡◌, refl, ◌∙◌, ap}
use mathlib.Core.Bool.{Bool, true, false}
use mathlib.Core.List.{List, [], ◌∷◌, map}
use mathlib.Core.Option.{Option, some, none}
use lib.Dec.{eqb, ltb}
use lib.ListN.{length}
use Rattle.base.specs.Choice.{pick}
use Rattle.base.specs.Calls.{tell, drain, rest, all}
use Rattle.packet_spec.specs.Contents.{raw_limit}
use Rattle.stream.specs.Meaning.{waiting}
use Rattle.stream.proofs.Shown.{shown-plain}
use Rattle.channel_spec.specs.Sender.{word_bytes}
use Rattle.channel_spec.specs.Meaning.{Event, said, fresh_channel as hunts}
use Rattle.channel.specs.Call.{memory, fresh_receiver}
use Rattle.channel.proofs.Shown.{shown-all}
use Rattle.listing_spec.specs.declared.Place.{Place}
use Rattle.listing_spec.specs.declared.Place.TheVariants.{Mode, Mark, Second, Low, High, Inside, Wrong}
use Rattle.listing_spec.specs.declared.Spot.{Spot}
use Rattle.listing_spec.specs.Apart.{most, fresh_spot, on, wrong, through, next_at, next, in_stream, keep, apart, on_channel}
use Rattle.listing_spec.specs.Meaning.{heard}
use Rattle.recording.specs.Deck.{Ear, ear, ear_owes, ear_hand, ear_eat, begun, Deck, deck, fresh, deck_owes, deck_hand, byte_by, deck_eat, deck_all}
use Rattle.recording.proofs.Ears.{ear-hand-one, channel-all, plain-all}

-- the first byte is behind
abbrev Begun : Place → Type 0
Begun Mode = ⊥
Begun Mark = Unit {0}
Begun Second = Unit {0}
Begun Low = Unit {0}
Begun (High l) = Unit {0}
Begun (Inside k) = Unit {0}
Begun Wrong = Unit {0}

pick-begun : (t : Bool) (p q : Spot) → Begun p.place → Begun q.place → Begun (pick t p q).place
pick-begun true p q h k = h
pick-begun false p q h k = k

left-begun : (t : Bool) (n : ℕ) → Begun (pick t Mark (Inside n))
left-begun true n = tt
left-begun false n = tt

begun-at : (q : Place) (p : Spot) (b : ℕ) → p.place ≡ q → Begun (next_at q p b).place
unfolding next_at
begun-at Mode p b e = pick-begun (eqb b 0x50) (on Mark p) (pick (eqb b 0x4F) (on Mark p) (wrong p)) tt (pick-begun (eqb b 0x4F) (on Mark p) (wrong p) tt tt)
begun-at Mark p b e = pick-begun (eqb b 0xF5) (on Second p) (wrong p) tt tt
begun-at Second p b e = pick-begun (eqb b 0x5F) (on Low p) (wrong p) tt tt
begun-at Low p b e = tt
begun-at (High l) p b e = left-begun (eqb (l + 256 * b) 0) (l + 256 * b - 1)
begun-at (Inside k) p b e = pick-begun (ltb p.count most) (through k p) (wrong p) (left-begun (eqb k 0) (k - 1)) tt
begun-at Wrong p b e = rw e tt

begun-next : (p : Spot) (b : ℕ) → Begun (next p b).place
begun-next p b = begun-at p.place p b refl

-- behind the first byte, no byte changes which stream it is
same-stream : (q : Place) (b : ℕ) (d : Ear) → Begun q → begun q b d ≡ d
same-stream Mode b d h = absurd h
same-stream Mark b d h = refl
same-stream Second b d h = refl
same-stream Low b d h = refl
same-stream (High l) b d h = refl
same-stream (Inside k) b d h = refl
same-stream Wrong b d h = refl

abbrev deck_rest : List ℕ → Deck → List Event × Deck
deck_rest = rest deck_owes deck_hand deck_eat

abbrev deck_drain : ℕ → Deck → (Deck → List Event × Deck) → List Event × Deck
deck_drain = drain deck_owes deck_hand deck_eat

abbrev ear_rest : List ℕ → Ear → List Event × Ear
ear_rest = rest ear_owes ear_hand ear_eat

abbrev pub ear_all : Ear → List ℕ → List Event × Ear
ear_all = all ear_owes ear_hand ear_eat

-- what the ear makes of a stream, with where the recording stands behind it
abbrev placed : Spot → List Event × Ear → List Event × Deck
placed q r = (r.0, deck q r.1)

tell-placed : (q : Spot) (o : Option Event) (r : List Event × Ear) → tell o (placed q r) ≡ placed q (tell o r)
tell-placed q none r = refl
tell-placed q (some a) r = refl

drain-means : (p q : Spot) (bs ss : List ℕ) (k : (d : Ear) → ear_owes d ≡ 0 → deck_rest bs (deck p d) ≡ placed q (ear_rest ss d))
    (n : ℕ) (d : Ear) → ear_owes d ≡ n → deck_drain n (deck p d) (deck_rest bs) ≡ placed q (drain ear_owes ear_hand ear_eat n d (ear_rest ss))
drain-means p q bs ss k zero d h = k d h
drain-means p q bs ss k (suc n) d h =
    ap (tell (ear_hand d).0) (drain-means p q bs ss k n (ear_hand d).1 (ear-hand-one d n h))
    ∙ tell-placed q (ear_hand d).0 (drain ear_owes ear_hand ear_eat n (ear_hand d).1 (ear_rest ss))

byte-means : (p : Spot) (b : ℕ) (bs : List ℕ) (q : List ℕ × Spot)
    (k : (d : Ear) → ear_owes d ≡ 0 → deck_rest bs (deck (next p b) d) ≡ placed q.1 (ear_rest q.0 d))
    (c : Bool) → Begun p.place → (d : Ear) → ear_owes d ≡ 0
    → tell (byte_by c (deck p d) b).0 (deck_drain (deck_owes (byte_by c (deck p d) b).1) (byte_by c (deck p d) b).1 (deck_rest bs))
    ≡ placed (keep c b q).1 (ear_rest (keep c b q).0 d)
byte-means p b bs q k false g d h =
    ap (λ (e : Ear). deck_drain (ear_owes e) (deck (next p b) e) (deck_rest bs)) (same-stream p.place b d g)
    ∙ ap (λ n. deck_drain n (deck (next p b) d) (deck_rest bs)) h ∙ k d h
byte-means p b bs q k true g d h =
    ap (tell (ear_eat d b).0) (drain-means (next p b) q.1 bs q.0 k (ear_owes (ear_eat d b).1) (ear_eat d b).1 refl)
    ∙ tell-placed q.1 (ear_eat d b).0 (ear_all (ear_eat d b).1 q.0)

rest-means : (bs : List ℕ) (p : Spot) → Begun p.place → (d : Ear) → ear_owes d ≡ 0
    → deck_rest bs (deck p d) ≡ placed (apart p bs).1 (ear_rest (apart p bs).0 d)
unfolding apart
rest-means [] p g d h = refl
rest-means (b ∷ bs) p g d h = byte-means p b bs (apart (next p b) bs) (rest-means bs (next p b) (begun-next p b)) (in_stream p.place p.count) g d h

-- behind the first byte
means : (bs : List ℕ) (p : Spot) → Begun p.place → (d : Ear) → deck_all (deck p d) bs ≡ placed (apart p bs).1 (ear_all d (apart p bs).0)
means bs p g d = drain-means p (apart p bs).1 bs (apart p bs).0 (rest-means bs p g) (ear_owes d) d refl

-- from the start: the first byte says which stream it is
pub means-start : (b : ℕ) (bs : List ℕ) (d : Ear) → ear_owes d ≡ 0
    → deck_all (deck fresh_spot d) (b ∷ bs) ≡ placed (apart (next fresh_spot b) bs).1 (ear_all (ear (eqb b 0x4F) d.memory) (apart (next fresh_spot b) bs).0)
unfolding in_stream
means-start b bs d h =
    ap (λ n. deck_drain n (deck fresh_spot d) (deck_rest (b ∷ bs))) h ∙ means bs (next fresh_spot b) (begun-next fresh_spot b) (ear (eqb b 0x4F) d.memory)

-- a fresh receiver's answers, whatever its buffers hold
pub heard_all : (t : Bool) (recv word ss : List ℕ) → raw_limit ≤ length recv → word_bytes ≤ length word
    → (ear_all (ear t (memory fresh_receiver recv word)) ss).0 ≡ heard t ss
unfolding heard
heard_all true recv word ss a b =
    let s = shown-all ss hunts recv word tt (a, b) in
    ap (λ x. x.0) (channel-all (memory fresh_receiver recv word) ss) ∙ ap (λ x. x.0) s.2
heard_all false recv word ss a b =
    let s = shown-plain ss waiting recv a in
    ap (λ x. x.0) (plain-all (memory fresh_receiver recv word) ss) ∙ ap (λ x. map said x.0) s.1

module _ (recv word : List ℕ) (recv-room : raw_limit ≤ length recv) (word_room : word_bytes ≤ length word) where
  -- a fresh receiver owes nothing
  pub fresh-owes : (t : Bool) → ear_owes (ear t (memory fresh_receiver recv word)) ≡ 0
  unfolding ear_owes
  fresh-owes true = refl
  fresh-owes false = refl

  -- a whole recording: the answers of its stream bytes, and where it ends
  pub deck-means : (file : List ℕ)
      → ((deck_all (fresh recv word) file).0 ≡ heard (on_channel file) (apart fresh_spot file).0)
      × ((deck_all (fresh recv word) file).1.spot ≡ (apart fresh_spot file).1)
  unfolding apart in_stream heard
  deck-means [] = none-heard (fresh-owes false)
    where
      none-heard : deck_owes (fresh recv word) ≡ 0
          → ((deck_all (fresh recv word) []).0 ≡ heard false (apart fresh_spot []).0) × ((deck_all (fresh recv word) []).1.spot ≡ (apart fresh_spot []).1)
      none-heard e = rw e (refl, refl)
  deck-means (b ∷ bs) =
      let q : List ℕ × Spot = apart (next fresh_spot b) bs in
      let e = means-start b bs (ear false (memory fresh_receiver recv word)) (fresh-owes false) in
      (ap (λ x. x.0) e ∙ heard_all (eqb b 0x4F) recv word q.0 recv-room word_room, ap (λ x. x.1.spot) e)
