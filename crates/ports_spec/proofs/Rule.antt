-- The distance rule, way by way.
-- rule-zero, rule-one, rule-missing, rule-late   what it says
-- last-new, last-late         the port's last number then
use mathlib.Core.Path.{◌≡◌, refl, sym, ap, subst, ◌∙◌}
use mathlib.Core.Logic.{◌≢◌}
use Prim.Native.Nat.{ℕ, ◌-◌, ◌≤◌, ◌<◌}
use borrow.Author.Tests.{eq-eqb, ne_eqb, lt-ltb, le-ltb}
use Rattle.ports_spec.specs.declared.Noted.TheVariants.{InOrder, Repeated, Missing, Late}
use Rattle.ports_spec.specs.Distance.{half, gap, ruled, last_behind}

module _ (last new : ℕ) {d : ℕ} (e : d ≡ gap last new) where
  pub rule-zero : d ≡ 0 → Repeated ≡ ruled last new
  rule-zero h = rw (eq-eqb _ _ (sym e ∙ h)) refl

  module _ (n : d ≢ 0) where
    pub rule-one : d ≡ 1 → InOrder ≡ ruled last new
    rule-one h = rw (ne_eqb _ _ (λ z. n (e ∙ z)), eq-eqb _ _ (sym e ∙ h)) refl

    module _ (m : d ≢ 1) where
      pub rule-missing : d < half → Missing (d - 1) ≡ ruled last new
      rule-missing h =
          rw (ne_eqb _ _ (λ z. n (e ∙ z)), ne_eqb _ _ (λ z. m (e ∙ z)), lt-ltb (gap last new) half (subst (λ (k : ℕ). k < half) e h))
          (ap (λ (k : ℕ). Missing (k - 1)) e)

      pub rule-late : half ≤ d → Late ≡ ruled last new
      rule-late h =
          rw (ne_eqb _ _ (λ z. n (e ∙ z)), ne_eqb _ _ (λ z. m (e ∙ z)), le-ltb (gap last new) half (subst (λ (k : ℕ). half ≤ k) e h)) refl

  pub last-new : d < half → new ≡ last_behind last new
  last-new h = rw (lt-ltb (gap last new) half (subst (λ (k : ℕ). k < half) e h)) refl

  pub last-late : half ≤ d → last ≡ last_behind last new
  last-late h = rw (le-ltb (gap last new) half (subst (λ (k : ℕ). half ≤ k) e h)) refl
