-- A list of ports that rises does so when a port is added.
-- Above, Rising   all are above a number; each is above those before it
-- above_on        what is above a number is above a smaller one
-- added-rises     one port more
use Prim.Native.Nat.{ℕ, ◌<◌, ◌≤◌}
use native.Mathlib.Omega.{arith}
use mathlib.Core.Path.{◌≡◌, refl}
use mathlib.Core.Bool.{Bool, true, false}
use mathlib.Core.Logic.{◌≢◌}
use mathlib.Core.List.{List, [], ◌∷◌}
use borrow.Author.Tests.{eqb-false, ltb-true, ltb-false}
use lib.Dec.{eqb, ltb}
use Rattle.base.specs.Choice.{pick}
use Rattle.base.proofs.Tests.{by_le}
use Rattle.sheet_spec.specs.Meaning.{added}

-- all are above a number
unfoldable pub Above : ℕ → List ℕ → Type 0
Above p [] = Unit {0}
Above p (q ∷ qs) = (p < q) × Above p qs

-- each is above those before it
unfoldable pub Rising : List ℕ → Type 0
Rising [] = Unit {0}
Rising (p ∷ ps) = Above p ps × Rising ps

pub above_on : (p q : ℕ) (ps : List ℕ) → p < q → Above q ps → Above p ps
unfolding Above
above_on p q [] h k = tt
above_on p q (r ∷ ps) h k = (omega (arith, h, k.0), above_on p q ps h k.1)

above-added : (p q : ℕ) (ps : List ℕ) → p < q → Above p ps → Above p (added q ps)
unfolding Above added
above-added p q [] h k = (h, tt)
above-added p q (r ∷ ps) h k = go (eqb r q) (ltb q r) (above-added p q ps h k.1)
  where
    go : (a b : Bool) → Above p (added q ps) → Above p (pick a (r ∷ ps) (pick b (q ∷ r ∷ ps) (r ∷ added q ps)))
    go true b x = k
    go false true x = (h, k)
    go false false x = (k.0, x)

strict : (a b : ℕ) → a ≤ b → a ≢ b → a < b
strict a b k n = by_le b a (λ l. absurd (n (omega arith))) (λ l. l)

pub added-rises : (q : ℕ) (ps : List ℕ) → Rising ps → Rising (added q ps)
unfolding Rising Above added
added-rises q [] h = (tt, tt)
added-rises q (p ∷ ps) h = go (eqb p q) refl (ltb q p) refl (added-rises q ps h.1)
  where
    go : (a : Bool) → eqb p q ≡ a → (b : Bool) → ltb q p ≡ b → Rising (added q ps) → Rising (pick a (p ∷ ps) (pick b (q ∷ p ∷ ps) (p ∷ added q ps)))
    go true e b f x = h
    go false e true f x = ((ltb-true q p f, above_on q p ps (ltb-true q p f) h.0), h)
    go false e false f x =
        let n : p ≢ q = eqb-false p q e in
        let k : p ≤ q = ltb-false q p f in
        (above-added p q ps (strict p q k n) h.0, x)
