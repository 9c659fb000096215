-- Behind a wrong byte nothing counts.
-- wrong-apart     no byte is a stream byte, and the recording stands where it stood
-- wrong-rest      so bytes behind it change neither the stream bytes, nor where the recording ends, nor which stream it is
-- wrong-listing   nor what is printed
-- wrong-next, wrong-out   one byte there, and that it is no stream byte
use Prim.Native.Nat.{ℕ}
use mathlib.Core.Path.{◌≡◌, refl, sym, ap, ◌∙◌}
use mathlib.Core.Bool.{Bool, true, false, false≢true}
use mathlib.Core.List.{List, [], ◌∷◌, ◌++◌}
use Rattle.listing_spec.specs.declared.Place.{Place}
use Rattle.listing_spec.specs.declared.Spot.{Spot}
use Rattle.listing_spec.specs.Apart.{fresh_spot, next_at, next, in_stream, keep, apart, is_wrong, on_channel}
use Rattle.listing_spec.specs.Meaning.{heard, listed, listing}
use Rattle.listing_spec.proofs.Offsets.{is-wrong}

-- one byte
pub wrong-next : (p : Spot) (b : ℕ) → is_wrong p.place ≡ true → next p b ≡ p
unfolding next_at
wrong-next p b e = ap (λ (q : Place). next_at q p b) (is-wrong p.place e)

pub wrong-out : (p : Spot) → is_wrong p.place ≡ true → in_stream p.place p.count ≡ false
unfolding in_stream
wrong-out p e = ap (λ (q : Place). in_stream q p.count) (is-wrong p.place e)

pub wrong-apart : (bs : List ℕ) (p : Spot) → is_wrong p.place ≡ true → apart p bs ≡ ([], p)
unfolding apart
wrong-apart [] p e = refl
wrong-apart (b ∷ bs) p e = (λ i. keep (wrong-out p e i) b (apart (wrong-next p b e i) bs)) ∙ wrong-apart bs p e

keep-spot : (t : Bool) (b : ℕ) (x : List ℕ × Spot) → (keep t b x).1 ≡ x.1
keep-spot true b x = refl
keep-spot false b x = refl

more-apart : (bs more : List ℕ) (p : Spot) → is_wrong (apart p bs).1.place ≡ true → apart p (bs ++ more) ≡ apart p bs
unfolding apart
more-apart [] more p e = wrong-apart more p e
more-apart (b ∷ bs) more p e =
    let f = ap (λ (q : Spot). is_wrong q.place) (keep-spot (in_stream p.place p.count) b (apart (next p b) bs)) in
    ap (keep (in_stream p.place p.count) b) (more-apart bs more (next p b) (sym f ∙ e))

pub wrong-rest : (file more : List ℕ) → is_wrong (apart fresh_spot file).1.place ≡ true
    → (apart fresh_spot (file ++ more) ≡ apart fresh_spot file) × (on_channel (file ++ more) ≡ on_channel file)
unfolding apart
wrong-rest file more e = (more-apart file more fresh_spot e, channel file e)
  where
    channel : (bs : List ℕ) → is_wrong (apart fresh_spot bs).1.place ≡ true → on_channel (bs ++ more) ≡ on_channel bs
    channel [] e = absurd (false≢true e)
    channel (b ∷ bs) e = refl

pub wrong-listing : (file more : List ℕ) → is_wrong (apart fresh_spot file).1.place ≡ true → listing (file ++ more) ≡ listing file
unfolding listing
wrong-listing file more e =
    let x = wrong-rest file more e in
    λ i. listed (x.0 i) (heard (x.1 i) (x.0 i).0)
