-- Refusal 54 on writing, said shortly: the delimiter is zeros, and a gap of zeros stands before it.
-- hidden-is       exactly then would the reader find it earlier than written
-- zeros-are       zeros are zeros
-- Seen, seen_of, opened-seen     else the reader finds what was written
use mathlib.Core.Path.{◌≡◌, refl, sym, ap, ◌∙◌}
use mathlib.Core.Bool.{Bool, true, false, false≢true}
use mathlib.Core.List.{List, [], ◌∷◌, ◌++◌, append_assoc}
use Prim.Native.Nat.{ℕ, zero, suc, ◌+◌, ◌-◌, ◌<◌}
use native.Mathlib.Nat.{suc-add, add_comm}
use native.Mathlib.Omega.{arith}
use lib.Dec.{eqb, ltb, eqb-suc-zero}
use lib.ListN.{length, drop, replicate, length-append, length-drop, length-replicate, replicate-append-replicate}
use borrow.Author.Tests.{eq-eqb, eqb-true, lt-ltb, le-ltb}
use Rattle.base.specs.Choice.{pick}
use Rattle.base.proofs.Tests.{and_parts, by-test}
use Rattle.unit_spec.specs.Unit.{begins, opened, hidden, zeros}
use Rattle.unit_spec.proofs.Delimiter.{opened-first, opened-here}

-- zeros are zeros
pub zeros-are : (d : List ℕ) → zeros d ≡ true → d ≡ replicate (length d) 0
unfolding zeros
zeros-are [] e = refl
zeros-are (x ∷ d) e =
    let p = and_parts (eqb x 0) (zeros d) e in
    ap (λ (y : ℕ). y ∷ d) (eqb-true x 0 p.0) ∙ ap (λ (l : List ℕ). 0 ∷ l) (zeros-are d p.1)

-- zeros begin with fewer zeros
zeros-begin : (n k : ℕ) (o : List ℕ) → begins (replicate n 0) (replicate (n + k) 0 ++ o) ≡ true
unfolding begins
zeros-begin zero k o = refl
zeros-begin (suc n) k o = ap (λ (m : ℕ). begins (replicate (suc n) 0) (replicate m 0 ++ o)) (suc-add n k) ∙ rw (eq-eqb 0 0 refl) (zeros-begin n k o)

-- a delimiter of n + 1 zeros behind g + 1 of them is found at once
module _ (n g : ℕ) (o : List ℕ) where
  early : replicate (suc g) 0 ++ (replicate (suc n) 0 ++ o) ≡ replicate (suc n + suc g) 0 ++ o
  early =
      sym (append_assoc (replicate (suc g) 0) (replicate (suc n) 0) o)
      ∙ ap (λ (l : List ℕ). l ++ o) (replicate-append-replicate (suc g) (suc n) 0)
      ∙ ap (λ (m : ℕ). replicate m 0 ++ o) (add_comm (suc g) (suc n))

  opened-early : opened (replicate (suc n) 0) (replicate (suc n + suc g) 0 ++ o) ≡ drop (suc n) (replicate (suc n + suc g) 0 ++ o)
  unfolding opened
  opened-early =
      ap (λ (m : ℕ). opened (replicate (suc n) 0) (replicate m 0 ++ o)) (suc-add n (suc g))
      ∙ ap (λ (t : Bool). pick t (drop (length {A = ℕ} (replicate (suc n) 0)) (replicate (suc (n + suc g)) 0 ++ o))
      (opened (replicate (suc n) 0) (replicate (n + suc g) 0 ++ o)))
      (ap (λ (m : ℕ). begins (replicate (suc n) 0) (replicate m 0 ++ o)) (sym (suc-add n (suc g))) ∙ zeros-begin (suc n) (suc g) o)
      ∙ ap (λ (m : ℕ). drop m (replicate (suc (n + suc g)) 0 ++ o)) (length-replicate {A = ℕ} (suc n) 0)
      ∙ ap (λ (m : ℕ). drop (suc n) (replicate m 0 ++ o)) (sym (suc-add n (suc g)))

  long : length o < length (opened (replicate (suc n) 0) (replicate (suc g) 0 ++ (replicate (suc n) 0 ++ o)))
  long =
      let e = ap (opened (replicate (suc n) 0)) early ∙ opened-early in
      let f : length (drop (suc n) (replicate (suc n + suc g) 0 ++ o)) ≡ suc g + length o =
      length-drop (suc n) (replicate (suc n + suc g) 0 ++ o)
      ∙ ap (λ (m : ℕ). m - suc n) (length-append (replicate (suc n + suc g) 0) o ∙ ap (λ (m : ℕ). m + length o) (length-replicate {A = ℕ} (suc n + suc g) 0))
      ∙ omega arith in
      omega (arith, ap length e ∙ f)

not_zeros : (a b c d e : ℕ) → zeros (a ∷ b ∷ c ∷ d ∷ e ∷ []) ≡ false → (a ≡ 0) × (b ≡ 0) × (c ≡ 0) × (d ≡ 0) × (e ≡ 0) → ⊥
unfolding zeros
not_zeros a b c d e t z = false≢true (sym t ∙ simp (eq-eqb a 0 z.0, eq-eqb b 0 z.1, eq-eqb c 0 z.2, eq-eqb d 0 z.3, eq-eqb e 0 z.4))

-- the delimiter is not hidden
abbrev pub Seen : List ℕ → ℕ → Type 0
Seen d gap = pick (eqb gap 0) false (zeros d) ≡ false

pub opened-seen : (d o : List ℕ) (gap : ℕ) → length d ≡ 5 → Seen d gap → opened d (replicate gap 0 ++ (d ++ o)) ≡ o
opened-seen (a ∷ b ∷ c ∷ d ∷ e ∷ []) o zero l s = opened-first a b c d e o
opened-seen (a ∷ b ∷ c ∷ d ∷ e ∷ []) o (suc gap) l s = opened-here a b c d e o (suc gap) (not_zeros a b c d e (rw eqb-suc-zero at s))
opened-seen [] o gap l s = absurd (omega arith)
opened-seen (_ ∷ []) o gap l s = absurd (omega arith)
opened-seen (_ ∷ _ ∷ []) o gap l s = absurd (omega arith)
opened-seen (_ ∷ _ ∷ _ ∷ []) o gap l s = absurd (omega arith)
opened-seen (_ ∷ _ ∷ _ ∷ _ ∷ []) o gap l s = absurd (omega arith)
opened-seen (_ ∷ _ ∷ _ ∷ _ ∷ _ ∷ _ ∷ _) o gap l s = absurd (omega arith)

module _ (d o : List ℕ) (gap : ℕ) (l : length d ≡ 5) where
  found : ltb (length o) (length (opened d (replicate gap 0 ++ (d ++ o)))) ≡ pick (eqb gap 0) false (zeros d)
  found =
      by-test (pick (eqb gap 0) false (zeros d)) (λ t. early-found gap t ∙ sym t)
      (λ s. rw (opened-seen d o gap l s) (le-ltb (length o) (length o) (omega arith)) ∙ sym s)
    where
      early-found : (gap : ℕ) → pick (eqb gap 0) false (zeros d) ≡ true → ltb (length o) (length (opened d (replicate gap 0 ++ (d ++ o)))) ≡ true
      early-found zero t = absurd (false≢true t)
      early-found (suc g) t =
          let z : d ≡ replicate 5 0 = zeros-are d (rw eqb-suc-zero at t) ∙ ap (λ (n : ℕ). replicate n 0) l in
          rw z (lt-ltb _ _ (long 4 g o))

  pub hidden-is : hidden d gap o ≡ pick (eqb (length o) 0) false (pick (eqb gap 0) false (zeros d))
  unfolding hidden
  hidden-is =
      ap (λ (t : Bool). pick (eqb (length o) 0) false t)
      (ap (λ (x : List ℕ). ltb (length o) (length (opened d x))) (append_assoc (replicate gap 0) d o) ∙ found)

-- a delimiter that a written unit has is not hidden
pub seen_of : (d o : List ℕ) (x gap : ℕ) → length d ≡ 5 → hidden d gap (x ∷ o) ≡ false → Seen d gap
seen_of d o x gap l e = sym (hidden-is d (x ∷ o) gap l ∙ ap (λ (t : Bool). pick t false (pick (eqb gap 0) false (zeros d))) (eqb-suc-zero (length o))) ∙ e
