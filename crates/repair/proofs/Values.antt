-- found-errors   a least solution of the equations gives what was altered, place by place
use mathlib.Core.Path.{◌≡◌, refl, sym, ap, ap₂, ◌∙◌}
use mathlib.Core.List.{List, [], ◌∷◌}
use Prim.Native.Nat.{ℕ, suc, ◌+◌, ◌≤◌, ◌<◌}
use native.Mathlib.Nat.{pos_of_ne-zero}
use native.Mathlib.Omega.{arith}
use borrow.Author.Tests.{eq-eqb, ne_eqb}
use lib.ListN.{length}
use Rattle.base.specs.Bytes.{Bytes}
use Rattle.base.proofs.Tests.{by-eq}
use Rattle.field.specs.Field.{alpha, add, mul, pow, inverse}
use Rattle.field.proofs.Sum.{add-zero, zero-add, add-byte}
use Rattle.field.proofs.Product.{mul-zero, mul-one, mul-lt, mul_comm, mul_assoc, mul_left_comm}
use Rattle.field.proofs.Powers.{pow-lt, pow-suc, pow-zero, cancel, mul-inverse}
use Rattle.repair.specs.Way.{low, tails, dot, sums, windows, error_at, errors}
use Rattle.repair.proofs.Weigh.{weigh, weigh-zero, row-weigh, AtEach, at-each-map}
use Rattle.repair.proofs.Few.{weight, point-pos, points-differ, apart}
use Rattle.repair.proofs.Locate.{AllZero, Locates, locates, located, division, length-tails, low-lt, bytes-tails, zero-first, zero-tails}
use Rattle.repair.proofs.Eliminate.{Least}

-- f is zero at the altered places other than a
abbrev Elsewhere : ℕ → (ℕ → ℕ) → List ℕ → Type 0
Elsewhere a f e = AtEach (λ x c. (x ≡ a → ⊥) → mul c (f x) ≡ 0) e

-- the sum of such a function has one term
picks : (e : List ℕ) → length e ≤ 255 → AtEach (λ a d. (f : ℕ → ℕ) → Elsewhere a f e → weigh f e ≡ mul d (f a)) e
unfolding weigh
picks [] l = tt
picks (c ∷ cs) l = (
  λ f o.
      ap (add (mul c (f (pow alpha (length cs)))))
      (weigh-zero f cs
      (at-each-map (λ x d. (x ≡ pow alpha (length cs) → ⊥) → mul d (f x) ≡ 0) (λ x d. mul d (f x) ≡ 0) cs
      (λ k h d y. y (points-differ k (length cs) h (omega arith))) o.1))
      ∙ add-zero _,
  at-each-map (λ a d. (f : ℕ → ℕ) → Elsewhere a f cs → weigh f cs ≡ mul d (f a)) (λ a d. (f : ℕ → ℕ) → Elsewhere a f (c ∷ cs) → weigh f (c ∷ cs) ≡ mul d (f a))
      cs
      (λ k h d y f o. ap₂ add (o.0 (λ z. points-differ k (length cs) h (omega arith) (sym z))) (y f o.1) ∙ zero-add _) (picks cs (omega arith)),
)

each-errors : (v s e : List ℕ) → AtEach (λ x c. c ≡ error_at v s x) e → e ≡ errors v s (length e)
unfolding errors
each-errors v s [] h = refl
each-errors v s (c ∷ cs) h = ap₂ ◌∷◌ h.0 (each-errors v s cs h.1)

module _ (e : List ℕ) (b : Bytes e) (l : length e ≤ 255) (r m n : ℕ) (fits : n + m ≤ suc r) (small : n ≤ 33) (few : weight e ≤ m)
    (c : ℕ) (cs : List ℕ) (hv : length (c ∷ cs) ≤ n) (least : Least (windows 0 m (sums r e)) (c ∷ cs)) where
  zeros : Locates e (c ∷ cs)
  zeros = locates e b l r m n fits small few (c ∷ cs) hv least.kills

  -- at a root a of the locator the quotient by x - a is zero at the other altered places ..
  quotient : (i j d : ℕ) → low (c ∷ cs) (pow alpha i) ≡ 0 → (pow alpha j ≡ pow alpha i → ⊥) → mul d (low (c ∷ cs) (pow alpha j)) ≡ 0
      → mul d (low (tails cs (pow alpha i)) (pow alpha j)) ≡ 0
  quotient i j d root other z =
      cancel (add x a) _ (apart j i other) (add-byte _ _ (pow-lt alpha j) (pow-lt alpha i)) (mul-lt d _)
      (sym (mul_left_comm d (add x a) (low (tails cs a) x)) ∙ ap (mul d) (sym (division x a c cs) ∙ ap (add (low (c ∷ cs) x)) root ∙ add-zero _) ∙ z)
    where
      a : ℕ
      a = pow alpha i

      x : ℕ
      x = pow alpha j

  -- .. and not zero at a, since it would be a shorter solution
  simple : (i : ℕ) → low (c ∷ cs) (pow alpha i) ≡ 0 → low (tails cs (pow alpha i)) (pow alpha i) ≡ 0 → ⊥
  simple i root z =
      let shorter : AllZero (tails cs a) =
      least.least (tails cs a) (omega (arith, length-tails cs a)) (bytes-tails cs a least.bytes.1)
      (located e b l r m n fits small (tails cs a) (omega (arith, length-tails cs a))
      (at-each-map (λ x d. mul d (low (c ∷ cs) x) ≡ 0) (λ x d. mul d (low (tails cs a) x) ≡ 0) e
      (λ j hj d y.
      by-eq (pow alpha j) a (λ q. ap (λ (x : ℕ). mul d (low (tails cs a) x)) q ∙ ap (mul d) z ∙ mul-zero d) (λ q. quotient i j d root q y)) zeros)) in
      let rest : AllZero cs = zero-tails cs a shorter in
      least.nonzero (zero-first c a cs rest root, rest)
    where
      a : ℕ
      a = pow alpha i

  -- the byte d at the place of the point a
  module _ (i : ℕ) (hi : i < 255) (d : ℕ) (hd : d < 256) (root : low (c ∷ cs) (pow alpha i) ≡ 0)
      (picked : (f : ℕ → ℕ) → Elsewhere (pow alpha i) f e → weigh f e ≡ mul d (f (pow alpha i))) where
    a : ℕ
    a = pow alpha i

    slope : ℕ
    slope = mul a (low (tails cs a) a)

    slope-pos : 0 < slope
    unfolding slope a
    slope-pos =
        pos_of_ne-zero λ y.
        simple i root (cancel a _ (point-pos i hi) (pow-lt alpha i) (low-lt (tails cs a) a (bytes-tails cs a least.bytes.1)) y)

    one_power : pow a 1 ≡ a
    unfolding a
    one_power = pow-suc a 0 ∙ ap (mul a) (pow-zero a) ∙ mul-one a (pow-lt alpha i)

    sum : dot (tails cs a) (sums r e) ≡ mul d slope
    unfolding slope sums a
    sum =
        row-weigh e _ b (tails cs a) 0 1 r (omega (arith, length-tails cs a))
        ∙ picked (λ x. mul (pow x 1) (low (tails cs a) x))
        (at-each-map (λ x y. mul y (low (c ∷ cs) x) ≡ 0) (λ x y. (x ≡ a → ⊥) → mul y (mul (pow x 1) (low (tails cs a) x)) ≡ 0) e
        (λ j hj y z other. mul_left_comm y (pow (pow alpha j) 1) (low (tails cs a) (pow alpha j))
        ∙ ap (mul (pow (pow alpha j) 1)) (quotient i j y root other z) ∙ mul-zero _) zeros)
        ∙ ap (λ (t : ℕ). mul d (mul t (low (tails cs a) a))) one_power

    byte : d ≡ mul (dot (tails cs (pow alpha i)) (sums r e)) (inverse (mul (pow alpha i) (low (tails cs (pow alpha i)) (pow alpha i))))
    unfolding a slope
    byte = sym (ap (λ (t : ℕ). mul t (inverse slope)) sum ∙ mul_assoc d slope (inverse slope) ∙ ap (mul d) (mul-inverse slope slope-pos (mul-lt a _))
        ∙ mul-one d hd)

  at : (i : ℕ) → i < 255 → (d : ℕ) → (mul d (low (c ∷ cs) (pow alpha i)) ≡ 0) × (d < 256)
      × ((f : ℕ → ℕ) → Elsewhere (pow alpha i) f e → weigh f e ≡ mul d (f (pow alpha i)))
      → d ≡ error_at (c ∷ cs) (sums r e) (pow alpha i)
  unfolding error_at tails
  at i hi d y =
      by-eq (low (c ∷ cs) (pow alpha i)) 0 (λ z. rw (eq-eqb (low (c ∷ cs) (pow alpha i)) 0 z) (byte i hi d y.1 z y.2))
      (λ z. rw (ne_eqb (low (c ∷ cs) (pow alpha i)) 0 z)
      (cancel (low (c ∷ cs) (pow alpha i)) d (pos_of_ne-zero z) (low-lt (c ∷ cs) (pow alpha i) least.bytes) y.1 (mul_comm _ d ∙ y.0)))

three : (Q P R : ℕ → ℕ → Type 0) (e : List ℕ) → AtEach Q e → AtEach P e → AtEach R e → AtEach (λ x c. Q x c × P x c × R x c) e
three Q P R [] q p r = tt
three Q P R (c ∷ cs) q p r = ((q.0, p.0, r.0), three Q P R cs q.1 p.1 r.1)

each-byte : (e : List ℕ) → Bytes e → AtEach (λ x c. c < 256) e
each-byte [] b = tt
each-byte (c ∷ cs) b = (b.0, each-byte cs b.1)

pub found-errors : (e : List ℕ) → Bytes e → length e ≤ 255 → (r m n : ℕ) → n + m ≤ suc r → n ≤ 33 → weight e ≤ m
    → (v : List ℕ) → length v ≤ n → Least (windows 0 m (sums r e)) v → e ≡ errors v (sums r e) (length e)
found-errors e b l r m n fits small few [] hv least = absurd (least.nonzero tt)
found-errors e b l r m n fits small few (c ∷ cs) hv least =
    each-errors (c ∷ cs) (sums r e) e
    (at-each-map (λ a d. (mul d (low (c ∷ cs) a) ≡ 0) × (d < 256) × ((f : ℕ → ℕ) → Elsewhere a f e → weigh f e ≡ mul d (f a)))
    (λ a d. d ≡ error_at (c ∷ cs) (sums r e) a) e
    (λ i hi d y. at e b l r m n fits small few c cs hv least i (omega arith) d y)
    (three (λ a d. mul d (low (c ∷ cs) a) ≡ 0) (λ a d. d < 256) (λ a d. (f : ℕ → ℕ) → Elsewhere a f e → weigh f e ≡ mul d (f a)) e
    (zeros e b l r m n fits small few c cs hv least) (each-byte e b) (picks e l)))
