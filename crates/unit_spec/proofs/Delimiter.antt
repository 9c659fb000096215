-- The delimiter behind a gap of zeros is found where it is written, unless it is zeros itself.
-- opened-here, opened-first   behind a gap, and without one
use mathlib.Core.Path.{◌≡◌, refl, ap, ◌∙◌}
use mathlib.Core.Bool.{Bool, true}
use mathlib.Core.List.{List, [], ◌∷◌, ◌++◌}
use Prim.Native.Nat.{ℕ, zero, suc, ◌+◌}
use lib.Dec.{eqb}
use lib.ListN.{replicate}
use borrow.Author.Tests.{eq-eqb, eqb-true}
use Rattle.base.specs.Choice.{pick}
use Rattle.base.proofs.Tests.{and_parts, by-test}
use Rattle.unit_spec.specs.Unit.{begins, opened}

begins-self : (d o : List ℕ) → begins d (d ++ o) ≡ true
unfolding begins
begins-self [] o = refl
begins-self (x ∷ d) o = rw (eq-eqb x x refl) (begins-self d o)

-- begins, taken apart: the first n numbers of ys are those of d
same : (x y : ℕ) (d ys : List ℕ) → begins (x ∷ d) (y ∷ ys) ≡ true → (x ≡ y) × (begins d ys ≡ true)
unfolding begins
same x y d ys e = let p = and_parts (eqb x y) (begins d ys) e in (eqb-true x y p.0, p.1)

module _ (a b c d e : ℕ) (o : List ℕ) where
  D : List ℕ
  D = a ∷ b ∷ c ∷ d ∷ e ∷ []

  Zeros : Type 0
  Zeros = (a ≡ 0) × (b ≡ 0) × (c ≡ 0) × (d ≡ 0) × (e ≡ 0)

  -- found before its place, it is zeros
  early : (gap : ℕ) → begins (a ∷ b ∷ c ∷ d ∷ e ∷ []) (0 ∷ (replicate gap 0 ++ (a ∷ b ∷ c ∷ d ∷ e ∷ o))) ≡ true → Zeros
  unfolding Zeros
  early zero h =
      let p1 = same a 0 (b ∷ c ∷ d ∷ e ∷ []) (a ∷ b ∷ c ∷ d ∷ e ∷ o) h in
      let p2 = same b a (c ∷ d ∷ e ∷ []) (b ∷ c ∷ d ∷ e ∷ o) p1.1 in
      let p3 = same c b (d ∷ e ∷ []) (c ∷ d ∷ e ∷ o) p2.1 in
      let p4 = same d c (e ∷ []) (d ∷ e ∷ o) p3.1 in
      let p5 = same e d [] (e ∷ o) p4.1 in
      (p1.0, p2.0 ∙ p1.0, p3.0 ∙ p2.0 ∙ p1.0, p4.0 ∙ p3.0 ∙ p2.0 ∙ p1.0, p5.0 ∙ p4.0 ∙ p3.0 ∙ p2.0 ∙ p1.0)
  early (suc zero) h =
      let p1 = same a 0 (b ∷ c ∷ d ∷ e ∷ []) (0 ∷ a ∷ b ∷ c ∷ d ∷ e ∷ o) h in
      let p2 = same b 0 (c ∷ d ∷ e ∷ []) (a ∷ b ∷ c ∷ d ∷ e ∷ o) p1.1 in
      let p3 = same c a (d ∷ e ∷ []) (b ∷ c ∷ d ∷ e ∷ o) p2.1 in
      let p4 = same d b (e ∷ []) (c ∷ d ∷ e ∷ o) p3.1 in
      let p5 = same e c [] (d ∷ e ∷ o) p4.1 in
      (p1.0, p2.0, p3.0 ∙ p1.0, p4.0 ∙ p2.0, p5.0 ∙ p3.0 ∙ p1.0)
  early (suc (suc zero)) h =
      let p1 = same a 0 (b ∷ c ∷ d ∷ e ∷ []) (0 ∷ 0 ∷ a ∷ b ∷ c ∷ d ∷ e ∷ o) h in
      let p2 = same b 0 (c ∷ d ∷ e ∷ []) (0 ∷ a ∷ b ∷ c ∷ d ∷ e ∷ o) p1.1 in
      let p3 = same c 0 (d ∷ e ∷ []) (a ∷ b ∷ c ∷ d ∷ e ∷ o) p2.1 in
      let p4 = same d a (e ∷ []) (b ∷ c ∷ d ∷ e ∷ o) p3.1 in
      let p5 = same e b [] (c ∷ d ∷ e ∷ o) p4.1 in
      (p1.0, p2.0, p3.0, p4.0 ∙ p1.0, p5.0 ∙ p2.0)
  early (suc (suc (suc zero))) h =
      let p1 = same a 0 (b ∷ c ∷ d ∷ e ∷ []) (0 ∷ 0 ∷ 0 ∷ a ∷ b ∷ c ∷ d ∷ e ∷ o) h in
      let p2 = same b 0 (c ∷ d ∷ e ∷ []) (0 ∷ 0 ∷ a ∷ b ∷ c ∷ d ∷ e ∷ o) p1.1 in
      let p3 = same c 0 (d ∷ e ∷ []) (0 ∷ a ∷ b ∷ c ∷ d ∷ e ∷ o) p2.1 in
      let p4 = same d 0 (e ∷ []) (a ∷ b ∷ c ∷ d ∷ e ∷ o) p3.1 in
      let p5 = same e a [] (b ∷ c ∷ d ∷ e ∷ o) p4.1 in
      (p1.0, p2.0, p3.0, p4.0, p5.0 ∙ p1.0)
  early (suc (suc (suc (suc gap)))) h =
      let p1 = same a 0 (b ∷ c ∷ d ∷ e ∷ []) (0 ∷ 0 ∷ 0 ∷ 0 ∷ (replicate gap 0 ++ (a ∷ b ∷ c ∷ d ∷ e ∷ o))) h in
      let p2 = same b 0 (c ∷ d ∷ e ∷ []) (0 ∷ 0 ∷ 0 ∷ (replicate gap 0 ++ (a ∷ b ∷ c ∷ d ∷ e ∷ o))) p1.1 in
      let p3 = same c 0 (d ∷ e ∷ []) (0 ∷ 0 ∷ (replicate gap 0 ++ (a ∷ b ∷ c ∷ d ∷ e ∷ o))) p2.1 in
      let p4 = same d 0 (e ∷ []) (0 ∷ (replicate gap 0 ++ (a ∷ b ∷ c ∷ d ∷ e ∷ o))) p3.1 in
      let p5 = same e 0 [] (replicate gap 0 ++ (a ∷ b ∷ c ∷ d ∷ e ∷ o)) p4.1 in
      (p1.0, p2.0, p3.0, p4.0, p5.0)

  pub opened-here : (gap : ℕ) → ((a ≡ 0) × (b ≡ 0) × (c ≡ 0) × (d ≡ 0) × (e ≡ 0) → ⊥)
      → opened (a ∷ b ∷ c ∷ d ∷ e ∷ []) (replicate gap 0 ++ (a ∷ b ∷ c ∷ d ∷ e ∷ o)) ≡ o
  unfolding opened Zeros
  opened-here zero n =
      ap (λ (t : Bool). pick t o (opened (a ∷ b ∷ c ∷ d ∷ e ∷ []) (b ∷ c ∷ d ∷ e ∷ o))) (begins-self (a ∷ b ∷ c ∷ d ∷ e ∷ []) o)
  opened-here (suc gap) n =
      by-test {P = opened (a ∷ b ∷ c ∷ d ∷ e ∷ []) (0 ∷ (replicate gap 0 ++ (a ∷ b ∷ c ∷ d ∷ e ∷ o))) ≡ o}
      (begins (a ∷ b ∷ c ∷ d ∷ e ∷ []) (0 ∷ (replicate gap 0 ++ (a ∷ b ∷ c ∷ d ∷ e ∷ o))))
      (λ h. absurd (n (early gap h)))
      (λ h. rw h (opened-here gap n))

-- at its place, it is found whatever it is
pub opened-first : (a b c d e : ℕ) (o : List ℕ) → opened (a ∷ b ∷ c ∷ d ∷ e ∷ []) (a ∷ b ∷ c ∷ d ∷ e ∷ o) ≡ o
unfolding opened
opened-first a b c d e o =
    ap (λ (t : Bool). pick t o (opened (a ∷ b ∷ c ∷ d ∷ e ∷ []) (b ∷ c ∷ d ∷ e ∷ o))) (begins-self (a ∷ b ∷ c ∷ d ∷ e ∷ []) o)
