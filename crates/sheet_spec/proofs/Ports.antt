-- The ports of a month, in rising order.
-- In                     a port in a list
-- all-rises              a list that rises does so when the ports of packets are added
-- added-own, added-old, added-from   a list to which a port is added has that port, the old ones, and no other
-- Among, ports-are       the ports of a month are those of its packets; ports-rise: and rise
-- ports-with             those of a month with one recording more
-- absent-before, absent-now  a port that is not among them has no numbers
-- above-out, rising-out  what is below all of them is not among them
-- all_append, all_snoc   packets one behind the other, and one more
use Prim.Native.Nat.{ℕ, ◌<◌}
use native.Mathlib.Omega.{arith}
use mathlib.Core.Path.{◌≡◌, refl, sym, ap, subst, ◌∙◌}
use mathlib.Core.Bool.{Bool, true, false}
use mathlib.Core.Logic.{◌⊎◌, inl, inr, ⊎_elim, ◌↔◌}
use mathlib.Core.List.{List, [], ◌∷◌, ◌++◌, append-nil, append_assoc}
use borrow.Author.Tests.{ne_eqb, eqb-true}
use lib.Dec.{eqb, ltb}
use Rattle.base.specs.Choice.{pick}
use Rattle.base.specs.Calls.{joined}
use Rattle.sheet_spec.specs.Tally.{nothing, plus, told, sum}
use Rattle.sheet_spec.specs.Meaning.{Mark, Month, numbers_of, numbers, added, added_all, ports_of, with}
use Rattle.sheet_spec.proofs.Rises.{Above, Rising, above_on, added-rises}

-- a port in a list
unfoldable pub In : ℕ → List ℕ → Type 0
In q [] = ⊥
In q (p ∷ ps) = (p ≡ q) ⊎ In q ps

-- ---- one port more
pub added-own : (q : ℕ) (ps : List ℕ) → In q (added q ps)
unfolding In added
added-own q [] = inl refl
added-own q (p ∷ ps) = go (eqb p q) refl (ltb q p) (added-own q ps)
  where
    go : (a : Bool) → eqb p q ≡ a → (b : Bool) → In q (added q ps) → In q (pick a (p ∷ ps) (pick b (q ∷ p ∷ ps) (p ∷ added q ps)))
    go true e b x = inl (eqb-true p q e)
    go false e true x = inl refl
    go false e false x = inr x

pub added-old : (r q : ℕ) (ps : List ℕ) → In r ps → In r (added q ps)
unfolding In added
added-old r q [] h = absurd h
added-old r q (p ∷ ps) h = go (eqb p q) (ltb q p) (added-old r q ps)
  where
    go : (a b : Bool) → (In r ps → In r (added q ps)) → In r (pick a (p ∷ ps) (pick b (q ∷ p ∷ ps) (p ∷ added q ps)))
    go true b x = h
    go false true x = inr h
    go false false x = ⊎_elim (λ (e : p ≡ r). inl e) (λ (i : In r ps). inr (x i)) h

pub added-from : (r q : ℕ) (ps : List ℕ) → In r (added q ps) → (q ≡ r) ⊎ In r ps
unfolding In added
added-from r q [] h = ⊎_elim (λ (e : q ≡ r). inl e) (λ (z : ⊥). absurd z) h
added-from r q (p ∷ ps) h = go (eqb p q) (ltb q p) (added-from r q ps) h
  where
    go : (a b : Bool) → (In r (added q ps) → (q ≡ r) ⊎ In r ps) → In r (pick a (p ∷ ps) (pick b (q ∷ p ∷ ps) (p ∷ added q ps)))
        → (q ≡ r) ⊎ ((p ≡ r) ⊎ In r ps)
    go true b x h = inr h
    go false true x h = h
    go false false x h = ⊎_elim (λ (e : p ≡ r). inr (inl e)) (λ (i : In r (added q ps)). ⊎_elim (λ (e : q ≡ r). inl e) (λ (j : In r ps). inr (inr j)) (x i)) h

-- a port below all of them is not among them
pub above-out : (q : ℕ) (ps : List ℕ) → Above q ps → In q ps → ⊥
unfolding In Above
above-out q [] h i = i
above-out q (p ∷ ps) h i = ⊎_elim (λ (e : p ≡ q). omega (arith, h.0, e)) (λ (j : In q ps). above-out q ps h.1 j) i

pub rising-out : (q p : ℕ) (ps : List ℕ) → q < p → Above p ps → In q (p ∷ ps) → ⊥
unfolding Above
rising-out q p ps h k = above-out q (p ∷ ps) (h, above_on q p ps h k)

-- ---- those of packets
pub all-rises : (ms : List Mark) (ps : List ℕ) → Rising ps → Rising (added_all ps ms)
unfolding added_all
all-rises [] ps h = h
all-rises (m ∷ ms) ps h = all-rises ms (added m.0 ps) (added-rises m.0 ps h)

pub all_append : (ms ns : List Mark) (ps : List ℕ) → added_all ps (ms ++ ns) ≡ added_all (added_all ps ms) ns
unfolding added_all
all_append [] ns ps = refl
all_append (m ∷ ms) ns ps = all_append ms ns (added m.0 ps)

pub all_snoc : (ms : List Mark) (m : Mark) (ps : List ℕ) → added_all ps (ms ++ (m ∷ [])) ≡ added m.0 (added_all ps ms)
unfolding added_all
all_snoc ms m ps = all_append ms (m ∷ []) ps

all_old : (ms : List Mark) (ps : List ℕ) (q : ℕ) → In q ps → In q (added_all ps ms)
unfolding added_all
all_old [] ps q i = i
all_old (m ∷ ms) ps q i = all_old ms (added m.0 ps) q (added-old q m.0 ps i)

-- a packet of this port is among them
unfoldable pub Among : ℕ → List Mark → Type 0
Among q [] = ⊥
Among q (m ∷ ms) = (m.0 ≡ q) ⊎ Among q ms

all_own : (ms : List Mark) (ps : List ℕ) (q : ℕ) → Among q ms → In q (added_all ps ms)
unfolding added_all Among
all_own [] ps q h = absurd h
all_own (m ∷ ms) ps q h =
    ⊎_elim (λ (e : m.0 ≡ q). all_old ms (added m.0 ps) q (subst (λ (r : ℕ). In r (added m.0 ps)) e (added-own m.0 ps)))
    (λ (i : Among q ms). all_own ms (added m.0 ps) q i) h

all_from : (ms : List Mark) (ps : List ℕ) (q : ℕ) → In q (added_all ps ms) → In q ps ⊎ Among q ms
unfolding added_all Among
all_from [] ps q h = inl h
all_from (m ∷ ms) ps q h =
    ⊎_elim (λ (i : In q (added m.0 ps)). ⊎_elim (λ (e : m.0 ≡ q). inr (inl e)) (λ (j : In q ps). inl j) (added-from q m.0 ps i))
    (λ (i : Among q ms). inr (inr i)) (all_from ms (added m.0 ps) q h)

-- the month's ports rise, and are those of its packets
pub ports-rise : (month : Month) → Rising (ports_of month)
unfolding Rising
ports-rise month = all-rises (joined month) [] tt

pub ports-are : (month : Month) (q : ℕ) → In q (ports_of month) ↔ Among q (joined month)
unfolding In
ports-are month q = (λ i. ⊎_elim (λ (z : ⊥). absurd z) (λ (a : Among q (joined month)). a) (all_from (joined month) [] q i), all_own (joined month) [] q)

joined-with : (month : Month) (ms : List Mark) → joined (with month ms) ≡ joined month ++ ms
joined-with [] ms = append-nil ms
joined-with (ns ∷ month) ms = ap (λ (xs : List Mark). ns ++ xs) (joined-with month ms) ∙ sym (append_assoc ns (joined month) ms)

pub ports-with : (month : Month) (ms : List Mark) → ports_of (with month ms) ≡ added_all (ports_of month) ms
ports-with month ms = ap (added_all []) (joined-with month ms) ∙ all_append (joined month) ms []

-- ---- a port that is not among them
none_of : (ms : List Mark) (q : ℕ) → (Among q ms → ⊥) → numbers_of q ms ≡ []
unfolding numbers_of Among
none_of [] q n = refl
none_of (m ∷ ms) q n = rw (ne_eqb m.0 q (λ e. n (inl e))) (none_of ms q (λ i. n (inr i)))

among-left : (ms ns : List Mark) (q : ℕ) → Among q ms → Among q (ms ++ ns)
unfolding Among
among-left [] ns q h = absurd h
among-left (m ∷ ms) ns q h = ⊎_elim (λ (e : m.0 ≡ q). inl e) (λ (i : Among q ms). inr (among-left ms ns q i)) h

among-right : (ms ns : List Mark) (q : ℕ) → Among q ns → Among q (ms ++ ns)
unfolding Among
among-right [] ns q h = h
among-right (m ∷ ms) ns q h = inr (among-right ms ns q h)

none_in : (month : Month) (q : ℕ) → (Among q (joined month) → ⊥) → numbers q month ≡ nothing
unfolding numbers told sum
none_in [] q n = refl
none_in (ms ∷ month) q n =
    (λ i. plus (sum (told (none_of ms q (λ a. n (among-left ms (joined month) q a)) i))) (none_in month q (λ a. n (among-right ms (joined month) q a)) i))

pub absent-before : (month : Month) (ms : List Mark) (q : ℕ) → (In q (added_all (ports_of month) ms) → ⊥) → numbers q month ≡ nothing
absent-before month ms q n = none_in month q (λ a. n (all_old ms (ports_of month) q ((ports-are month q).1 a)))

pub absent-now : (month : Month) (ms : List Mark) (q : ℕ) → (In q (added_all (ports_of month) ms) → ⊥) → numbers_of q ms ≡ []
absent-now month ms q n = none_of ms q (λ a. n (all_own ms (ports_of month) q a))
