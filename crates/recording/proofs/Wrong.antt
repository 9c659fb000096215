-- A recording that stands at a wrong byte, and owes no answer, hears nothing more.
-- wrong-eats    a byte gives no answer, and leaves all as it is
-- wrong-hears   so does a call: it takes all its bytes and wants more
use Prim.Native.Nat.{ℕ}
use mathlib.Core.Path.{◌≡◌, refl, ap, ◌∙◌}
use mathlib.Core.Bool.{true}
use mathlib.Core.List.{List, [], ◌∷◌}
use mathlib.Core.Option.{Option, none}
use lib.ListN.{length}
use Rattle.base.specs.Calls.{unless, one_more, first, wait}
use Rattle.channel_spec.specs.Meaning.{Event}
use Rattle.listing_spec.specs.declared.Place.{Place}
use Rattle.listing_spec.specs.declared.Place.TheVariants.{Wrong}
use Rattle.listing_spec.specs.Apart.{next_at, in_stream, is_wrong}
use Rattle.listing_spec.proofs.Offsets.{is-wrong}
use Rattle.recording.specs.Deck.{Deck, deck, begun, deck_owes, deck_hand, byte_by, deck_eat, deck_hear}

pub wrong-eats : (m : Deck) (b : ℕ) → is_wrong m.spot.place ≡ true → deck_eat m b ≡ (none, m)
unfolding next_at in_stream
wrong-eats m b e =
    ap (λ (q : Place). byte_by (in_stream q m.spot.count) m b) at
    ∙ (λ i. (none, deck (next_at (at i) m.spot b) (begun (at i) b m.ear)))
  where
    at : m.spot.place ≡ Wrong
    at = is-wrong m.spot.place e

abbrev waits : List ℕ → Deck → Option Event × ℕ × Deck
waits = wait deck_owes deck_hand deck_eat

module _ (m : Deck) (e : is_wrong m.spot.place ≡ true) (owes : deck_owes m ≡ 0) where
  wrong-waits : (bs : List ℕ) → waits bs m ≡ (none, length bs, m)
  wrong-waits [] = refl
  wrong-waits (b ∷ bs) =
      ap (λ (x : Option Event × Deck). unless x.0 1 x.1 (one_more (first deck_owes deck_hand deck_eat (deck_owes x.1) x.1 (waits bs))))
      (wrong-eats m b e)
      ∙ ap (λ (n : ℕ). one_more (first deck_owes deck_hand deck_eat n m (waits bs))) owes
      ∙ ap one_more (wrong-waits bs)

  pub wrong-hears : (bs : List ℕ) → deck_hear m bs ≡ (none, length bs, m)
  wrong-hears bs = ap (λ (n : ℕ). first deck_owes deck_hand deck_eat n m (waits bs)) owes ∙ wrong-waits bs
