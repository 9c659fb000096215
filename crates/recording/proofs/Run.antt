-- A run of stream bytes that lies in a recording is heard as one piece.
-- Bodies, skips, with_rest, skip-none   every one of these bytes is a stream byte; where it stands behind them
-- run-first       a call on a recording's bytes begins with the ear's call on the run that lies there
-- run_fits        the run that the code takes is one
-- run_none        where there is none, the byte is no stream byte
use Prim.Native.Nat.{ℕ, zero, suc, ◌+◌, ◌-◌, ◌≤◌, ◌<◌, min}
use native.Mathlib.Omega.{arith}
use native.Mathlib.Nat.{add-zero}
use mathlib.Core.Path.{◌≡◌, refl, sym, ◌∙◌, ap, subst}
use mathlib.Core.Bool.{Bool, true, false}
use mathlib.Core.List.{List, [], ◌∷◌, ◌++◌}
use mathlib.Core.Option.{Option, some, none}
use lib.ListN.{length, take, drop}
use borrow.Author.Tests.{lt-ltb, le-ltb, ne_eqb}
use Rattle.base.specs.Choice.{pick}
use Rattle.base.specs.Calls.{unless, one_more, after}
use Rattle.base.proofs.Calls.{after_none, after_one, one-after, hear-hand, hear-eat}
use Rattle.base.proofs.Above.{Along, above}
use Rattle.base.proofs.Tests.{by_le}
use Rattle.channel_spec.specs.Meaning.{Event}
use Rattle.listing_spec.specs.declared.Place.{Place}
use Rattle.listing_spec.specs.declared.Place.TheVariants.{Mode, Mark, Second, Low, High, Inside, Wrong}
use Rattle.listing_spec.specs.declared.Spot.{Spot}
use Rattle.listing_spec.specs.Apart.{most, next_at, next, wrong, in_stream}
use Rattle.recording.specs.Deck.{Ear, ear_owes, ear_hand, ear_eat, Deck, deck, deck_owes, deck_hand, byte_by, deck_eat, deck_hear}
use Rattle.recording.specs.Private.{ear_hear, left_at, run_of, on_to, skipped}
use Rattle.recording.proofs.Ears.{ear-hand-one, deck-hand-one}

-- every one of these bytes is a stream byte
abbrev pub Bodies : Spot → List ℕ → Type 0
Bodies = Along next (λ p b. in_stream p.place p.count ≡ true)

-- where the recording stands behind them
abbrev pub skips : Spot → List ℕ → Spot
skips p [] = p
skips p (b ∷ bs) = skips (next p b) bs

-- the ear's call on a run, and what follows it in the recording
abbrev pub with_rest : Spot → List ℕ → List ℕ → Option Event × ℕ × Ear → Option Event × ℕ × Deck
with_rest p xs ys r =
    unless r.0 r.1 (deck (skips p (take r.1 xs)) r.2) (after r.1 (deck_hear (deck (skips p (take r.1 xs)) r.2) (drop r.1 xs ++ ys)))

module _ (ys : List ℕ) where
  more-rest : (p : Spot) (b : ℕ) (xs : List ℕ) (r : Option Event × ℕ × Ear) → with_rest p (b ∷ xs) ys (one_more r) ≡ one_more (with_rest (next p b) xs ys r)
  more-rest p b xs (some a, n, d) = refl
  more-rest p b xs (none, n, d) = sym (after_one n (deck_hear (deck (skips (next p b) (take n xs)) d) (drop n xs ++ ys)))

  hand-rest : (p : Spot) (d : Ear) (n : ℕ) (xs : List ℕ) → ear_owes d ≡ suc n
      → deck_hear (deck p d) (xs ++ ys) ≡ with_rest p xs ys ((ear_hand d).0, 0, (ear_hand d).1)
  hand-rest p d n xs e =
      hear-hand deck_owes deck_hand deck_eat deck-hand-one (deck p d) n (xs ++ ys) e
      ∙ ap (unless (ear_hand d).0 0 (deck p (ear_hand d).1)) (after_none (deck_hear (deck p (ear_hand d).1) (xs ++ ys)))

  byte-rest : (p : Spot) (d : Ear) (b : ℕ) (xs : List ℕ) → ear_owes d ≡ 0 → in_stream p.place p.count ≡ true
      → deck_hear (deck p d) (b ∷ xs ++ ys) ≡ with_rest p (b ∷ xs) ys ((ear_eat d b).0, 1, (ear_eat d b).1)
  byte-rest p d b xs e h =
      hear-eat deck_owes deck_hand deck_eat deck-hand-one (deck p d) b (xs ++ ys) e
      ∙ ap (λ (c : Bool). let r = byte_by c (deck p d) b in unless r.0 1 r.1 (one_more (deck_hear r.1 (xs ++ ys)))) h
      ∙ ap (unless (ear_eat d b).0 1 (deck (next p b) (ear_eat d b).1)) (one-after (deck_hear (deck (next p b) (ear_eat d b).1) (xs ++ ys)))

-- a call on a recording's bytes begins with a call on the run of stream bytes that lies there
pub run-first : (xs ys : List ℕ) (p : Spot) (d : Ear) → Bodies p xs → deck_hear (deck p d) (xs ++ ys) ≡ with_rest p xs ys (ear_hear d xs)
run-first xs ys p d =
    above ear_owes ear_hand ear_eat ear-hand-one next (λ q b. in_stream q.place q.count ≡ true) (λ q c bs. deck_hear (deck q c) (bs ++ ys))
    (λ q bs. with_rest q bs ys) one_more (λ q bs c. sym (after_none (deck_hear (deck q c) (bs ++ ys)))) (more-rest ys) (hand-rest ys) (byte-rest ys) d xs p

-- ---- the run that the code takes
abbrev inside : ℕ → ℕ → ℕ → Spot
inside k o c = record { place = Inside k; offset = o; count = c }

-- n bytes further in a record: inside it, or at its end
on-less : (q : Place) (n : ℕ) → suc n < left_at q → on_to q (suc n) ≡ Inside (left_at q - suc n - 1)
on-less q n h = rw (ne_eqb (suc n) 0 (λ z. omega arith), lt-ltb (suc n) (left_at q) h)

on-last : (q : Place) (n : ℕ) → left_at q ≤ suc n → on_to q (suc n) ≡ Mark
on-last q n h = rw (ne_eqb (suc n) 0 (λ z. omega arith), le-ltb (suc n) (left_at q) h)

-- one byte, and then n more
on-more : (n k : ℕ) → n ≤ k + 1 → on_to (Inside k) n ≡ on_to (Inside (suc k)) (suc n)
on-more zero k h = let e : k ≡ suc k + 1 - 1 - 1 = omega arith in ap Inside e ∙ sym (on-less (Inside (suc k)) 0 (omega arith))
on-more (suc n) k h =
    let e : k + 1 - suc n - 1 ≡ suc k + 1 - suc (suc n) - 1 = omega arith in
    by_le (k + 1) (suc n) (λ l. on-last (Inside k) n l ∙ sym (on-last (Inside (suc k)) (suc n) (omega arith)))
    (λ l. on-less (Inside k) n l ∙ ap Inside e ∙ sym (on-less (Inside (suc k)) (suc n) (omega arith)))

next-end : (o c b : ℕ) → c < most → next (inside 0 o c) b ≡ skipped (inside 0 o c) 1
unfolding next_at
next-end o c b h =
    ap (λ (t : Bool). pick t (record { place = Mark; offset = o + 1; count = c + 1 }) (wrong (inside 0 o c))) (lt-ltb c most h)
    ∙ (λ i. record { place = sym (on-last (Inside 0) 0 (omega arith)) i; offset = o + 1; count = c + 1 })

next-inside : (k o c b : ℕ) → c < most → next (inside (suc k) o c) b ≡ inside k (o + 1) (c + 1)
unfolding next_at
next-inside k o c b h =
    let e : suc k - 1 ≡ k = omega arith in
    λ i. pick (lt-ltb c most h i) (record { place = pick (ne_eqb (suc k) 0 (λ z. omega arith) i) Mark (Inside (e i)); offset = o + 1; count = c + 1 })
    (wrong (inside (suc k) o c))

pub skip-none : (p : Spot) → p ≡ skipped p 0
skip-none p = λ i. record { place = p.place; offset = sym (add-zero p.offset) i; count = sym (add-zero p.count) i }

skip-more : (n k o c : ℕ) → n ≤ k + 1 → skipped (inside k (o + 1) (c + 1)) n ≡ skipped (inside (suc k) o c) (suc n)
skip-more n k o c h =
    let f : o + 1 + n ≡ o + suc n = omega arith in
    let g : c + 1 + n ≡ c + suc n = omega arith in
    λ i. record { place = on-more n k h i; offset = f i; count = g i }

abbrev Runs : Spot → List ℕ → Type 0
Runs p xs = Bodies p xs × (skips p xs ≡ skipped p (length xs))

run_inside : (xs : List ℕ) (k o c : ℕ) → length xs ≤ k + 1 → length xs ≤ most - c → Runs (inside k o c) xs
unfolding in_stream
run_inside [] k o c l m = (tt, skip-none (inside k o c))
run_inside (b ∷ []) zero o c l m = ((lt-ltb c most (omega arith), tt), next-end o c b (omega arith))
run_inside (b ∷ x ∷ xs) zero o c l m = absurd (omega arith)
run_inside (b ∷ xs) (suc k) o c l m =
    let e = next-inside k o c b (omega arith) in
    let r = run_inside xs k (o + 1) (c + 1) (omega arith) (omega arith) in (
      (lt-ltb c most (omega arith), subst (λ (q : Spot). Bodies q xs) (sym e) r.0),
      ap (λ (q : Spot). skips q xs) e ∙ r.1
          ∙ skip-more (length xs) k o c (omega arith),
    )

abbrev spot_at : Place → Spot → Spot
spot_at q p = record { place = q; offset = p.offset; count = p.count }

none_runs : (q : Place) (p : Spot) (xs : List ℕ) → length xs ≤ 0 → Runs (spot_at q p) xs
none_runs q p [] h = (tt, skip-none (spot_at q p))
none_runs q p (b ∷ xs) h = absurd (omega arith)

run_at : (q : Place) (p : Spot) (xs : List ℕ) → length xs ≤ left_at q → length xs ≤ most - p.count → Runs (spot_at q p) xs
run_at Mode p xs l m = none_runs Mode p xs l
run_at Mark p xs l m = none_runs Mark p xs l
run_at Second p xs l m = none_runs Second p xs l
run_at Low p xs l m = none_runs Low p xs l
run_at (High x) p xs l m = none_runs (High x) p xs l
run_at (Inside k) p xs l m = run_inside xs k p.offset p.count l m
run_at Wrong p xs l m = none_runs Wrong p xs l

-- bytes of a run are stream bytes, and behind them the recording stands as far
pub run_fits : (p : Spot) (xs : List ℕ) (n : ℕ) → length xs ≤ run_of p n → Bodies p xs × (skips p xs ≡ skipped p (length xs))
run_fits p xs n h = run_at p.place p xs (omega arith) (omega arith)

head_at : (q : Place) (c n : ℕ) → 0 < n → min n (min (left_at q) (most - c)) ≡ 0 → in_stream q c ≡ false
unfolding in_stream
head_at Mode c n l h = refl
head_at Mark c n l h = refl
head_at Second c n l h = refl
head_at Low c n l h = refl
head_at (High x) c n l h = refl
head_at (Inside k) c n l h = le-ltb c most (omega arith)
head_at Wrong c n l h = refl

-- where no run lies there, the byte is no stream byte
pub run_none : (p : Spot) (n : ℕ) → 0 < n → run_of p n ≡ 0 → in_stream p.place p.count ≡ false
run_none p n l h = head_at p.place p.count n l h
