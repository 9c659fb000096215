-- Laws of the place of the first wrong byte behind 7D (`wrong_from`): p is the byte before the bytes, `at` the place of the first of them.
-- wrong-here     a wrong byte behind 7D is told by its own place
-- wrong-append   over two lists one after the other: what a piece adds to what is known
-- wrong-within   it lies within the bytes looked at
-- FirstWrong, wrong-there, wrong-found   a place told is that of a wrong byte (b) behind 7D, and before it (xs) there is none, whatever stands behind
--                (ys); where there is one, a place is told
-- wrong-before   a byte before them that is no 7D is as none
use mathlib.Core.Path.{◌≡◌, refl, sym, ap, ◌∙◌}
use mathlib.Core.Bool.{Bool, true, false, not, ◌&&◌, false≢true}
use mathlib.Core.Logic.{◌≢◌}
use mathlib.Core.List.{List, [], ◌∷◌, ◌++◌}
use Prim.Native.Nat.{ℕ, suc, ◌+◌, ◌≤◌, ◌<◌}
use native.Mathlib.Omega.{arith}
use native.Mathlib.Nat.{add-zero}
use lib.Dec.{eqb}
use lib.ListN.{length}
use borrow.Author.Tests.{eq-eqb, ne_eqb, eqb-true, eqb-false}
use Rattle.base.specs.Choice.{pick}
use Rattle.base.proofs.Tests.{and_parts}
use Rattle.packet_spec.specs.Escape.{right, wrong_from, last}

-- a wrong byte behind 7D is told, whatever stands behind it
pub wrong-here : (p at b : ℕ) (ys : List ℕ) → p ≡ 0x7D → right b ≡ false → wrong_from p at (b ∷ ys) ≡ at
unfolding wrong_from
wrong-here p at b ys e r = rw (eq-eqb p 0x7D e, r) refl

pub wrong-append : (xs ys : List ℕ) (p at : ℕ) → (p ≡ 0x7D → at ≢ 0)
    → wrong_from p at (xs ++ ys) ≡ pick (eqb (wrong_from p at xs) 0) (wrong_from (last p xs) (at + length xs) ys) (wrong_from p at xs)
unfolding wrong_from last
wrong-append [] ys p at h = ap (λ (n : ℕ). wrong_from p n ys) (sym (add-zero at))
wrong-append (b ∷ xs) ys p at h = go (eqb p 0x7D && not (right b)) refl (wrong-append xs ys b (suc at) (λ e z. omega (arith, z)))
  where
    go : (t : Bool) → eqb p 0x7D && not (right b) ≡ t
        → wrong_from b (suc at) (xs ++ ys) ≡ pick (eqb (wrong_from b (suc at) xs) 0) (wrong_from (last b xs) (suc at + length xs) ys) (wrong_from b (suc at) xs)
        → pick t at (wrong_from b (suc at) (xs ++ ys))
        ≡ pick (eqb (pick t at (wrong_from b (suc at) xs)) 0) (wrong_from (last b xs) (at + suc (length xs)) ys) (pick t at (wrong_from b (suc at) xs))
    go true e r = let n : at ≢ 0 = h (eqb-true _ _ (and_parts (eqb p 0x7D) (not (right b)) e).0) in simp (ne_eqb at 0 n)
    go false e r =
        let m : suc at + length xs ≡ at + suc (length xs) = omega arith in
        r ∙ ap (λ (n : ℕ). pick (eqb (wrong_from b (suc at) xs) 0) (wrong_from (last b xs) n ys) (wrong_from b (suc at) xs)) m

pub wrong-within : (bs : List ℕ) (p at : ℕ) → wrong_from p at bs ≢ 0 → (at ≤ wrong_from p at bs) × (wrong_from p at bs < at + length bs)
unfolding wrong_from
wrong-within [] p at h = absurd (h refl)
wrong-within (b ∷ bs) p at h = go (eqb p 0x7D && not (right b)) (wrong-within bs b (suc at)) h
  where
    go : (t : Bool) → (wrong_from b (suc at) bs ≢ 0 → (suc at ≤ wrong_from b (suc at) bs) × (wrong_from b (suc at) bs < suc at + length bs))
        → pick t at (wrong_from b (suc at) bs) ≢ 0
        → (at ≤ pick t at (wrong_from b (suc at) bs)) × (pick t at (wrong_from b (suc at) bs) < at + suc (length bs))
    go true r n = (omega arith, omega arith)
    go false r n = (omega (arith, (r n).0), omega (arith, (r n).1))

-- ---- a place told is one
test-is : (p b : ℕ) → eqb p 0x7D && not (right b) ≡ true → (p ≡ 0x7D) × (right b ≡ false)
test-is p b e = let q = and_parts (eqb p 0x7D) (not (right b)) e in (eqb-true _ _ q.0, flip (right b) q.1)
  where
    flip : (t : Bool) → not t ≡ true → t ≡ false
    flip false e = refl
    flip true e = absurd (false≢true e)

-- the bytes bs are xs, b and ys; the byte before b is 7D, b is wrong, and n is its place
pub record FirstWrong (p at : ℕ) (bs : List ℕ) (n : ℕ) : Type 0 where
  pub xs : List ℕ
  pub b : ℕ
  pub ys : List ℕ
  pub is : bs ≡ xs ++ b ∷ ys
  pub behind : last p xs ≡ 0x7D
  pub wrong : right b ≡ false
  pub place : n ≡ at + length xs
  pub first : wrong_from p at xs ≡ 0

pub wrong-there : (bs : List ℕ) (p at : ℕ) → wrong_from p at bs ≢ 0 → FirstWrong p at bs (wrong_from p at bs)
unfolding wrong_from last
wrong-there [] p at h = absurd (h refl)
wrong-there (b ∷ bs) p at h = go (eqb p 0x7D && not (right b)) refl (wrong-there bs b (suc at)) h
  where
    go : (t : Bool) → eqb p 0x7D && not (right b) ≡ t → (wrong_from b (suc at) bs ≢ 0 → FirstWrong b (suc at) bs (wrong_from b (suc at) bs))
        → pick t at (wrong_from b (suc at) bs) ≢ 0 → FirstWrong p at (b ∷ bs) (pick t at (wrong_from b (suc at) bs))
    go true e r n = record {
      xs = [];
      b = b;
      ys = bs;
      is = refl;
      behind = (test-is p b e).0;
      wrong = (test-is p b e).1;
      place = sym (add-zero at);
      first = refl;
    }
    go false e r n =
        let w = r n in
        record {
          xs = b ∷ w.xs;
          b = w.b;
          ys = w.ys;
          is = ap (λ (l : List ℕ). b ∷ l) w.is;
          behind = w.behind;
          wrong = w.wrong;
          place = w.place ∙ omega arith;
          first = rw e w.first;
        }

-- ---- and the other way round
nothing-last : {p : ℕ} → last p [] ≡ 0x7D → p ≡ 0x7D
unfolding last
nothing-last e = e

pub wrong-found : (xs ys : List ℕ) (b p at : ℕ) → (p ≡ 0x7D → at ≢ 0) → last p xs ≡ 0x7D → right b ≡ false → wrong_from p at (xs ++ b ∷ ys) ≢ 0
wrong-found xs ys b p at h l r z = go (eqb (wrong_from p at xs) 0) refl (sym (wrong-append xs (b ∷ ys) p at h) ∙ z)
  where
    some-place : (xs : List ℕ) → last p xs ≡ 0x7D → at + length xs ≢ 0
    some-place [] e z = h (nothing-last e) (omega (arith, z))
    some-place (x ∷ xs) e z = absurd (omega (arith, z))

    go : (t : Bool) → eqb (wrong_from p at xs) 0 ≡ t → pick t (wrong_from (last p xs) (at + length xs) (b ∷ ys)) (wrong_from p at xs) ≡ 0 → ⊥
    go true e k = some-place xs l (sym (wrong-here (last p xs) (at + length xs) b ys l r) ∙ k)
    go false e k = eqb-false _ _ e k

pub wrong-before : (bs : List ℕ) (p at : ℕ) → p ≢ 0x7D → wrong_from 0 at bs ≡ wrong_from p at bs
unfolding wrong_from
wrong-before [] p at n = refl
wrong-before (b ∷ bs) p at n = rw (ne_eqb p 0x7D n) refl
