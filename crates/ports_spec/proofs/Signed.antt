-- The code's count of steps is the request's signed distance.
-- distance_is, distance-only     from each number to each there is a signed distance, and one alone
-- rule-means                     what the rule says, and the last number then, are what that distance means
-- missing-between                so many are missing as numbers stand between last and new
use mathlib.Core.Path.{◌≡◌, refl, sym, ap, ◌∙◌}
use Prim.Native.Nat.{ℕ, zero, suc, ◌+◌, ◌-◌, ◌%◌, ◌≤◌, ◌<◌}
use native.Mathlib.Omega.{arith}
use Rattle.base.proofs.Tests.{by_le}
use Rattle.ports_spec.specs.declared.Noted.TheVariants.{Missing}
use Rattle.ports_spec.specs.Distance.{around, gap, ruled, last_behind, Distance, ahead, behind, Leads, meaning, follows}
use Rattle.ports_spec.proofs.Rule.{rule-zero, rule-one, rule-missing, rule-late, last-new, last-late}

-- gap is the number below 65,536 that leads from last to new, and the only one
gap_leads : (last new : ℕ) → last < around → new < around → (gap last new < around) × ((last + gap last new) % around ≡ new)
gap_leads last new h k = (omega arith, omega arith)

gap-only : (last new n : ℕ) → last < around → new < around → n < around → (last + n) % around ≡ new → n ≡ gap last new
gap-only last new n h k l e = omega arith

-- as a signed distance
abbrev steps : Distance → ℕ
steps (ahead n) = n
steps (behind n) = around - n

leads-steps : (last new : ℕ) (d : Distance) → last < around → new < around → Leads last new d → steps d ≡ gap last new
leads-steps last new (ahead n) h k d = gap-only last new n h k (omega (arith, d.0)) d.1
leads-steps last new (behind n) h k d = omega (arith, d.0, d.1, d.2)

pub distance_is : (last new : ℕ) → last < around → new < around → (d : Distance) × Leads last new d
distance_is last new h k =
    let g = gap_leads last new h k in
    by_le 32768 (gap last new) (λ l. (behind (around - gap last new), (omega (arith, g.0), omega (arith, l), omega (arith, l, g.0, g.1))))
    (λ l. (ahead (gap last new), (omega (arith, l), g.1)))

same-steps : (d e : Distance) (last new : ℕ) → Leads last new d → Leads last new e → steps d ≡ steps e → d ≡ e
same-steps (ahead m) (ahead n) last new p q e = ap ahead e
same-steps (ahead m) (behind n) last new p q e = absurd (omega (arith, p.0, q.0, q.1, e))
same-steps (behind m) (ahead n) last new p q e = absurd (omega (arith, q.0, p.0, p.1, e))
same-steps (behind m) (behind n) last new p q e = ap behind (omega (arith, p.0, p.1, q.0, q.1, e))

pub distance-only : (last new : ℕ) (d e : Distance) → last < around → new < around → Leads last new d → Leads last new e → d ≡ e
distance-only last new d e h k p q = same-steps d e last new p q (leads-steps last new d h k p ∙ sym (leads-steps last new e h k q))

-- the rule, by a distance that leads from last to new
ahead-means : (last new n : ℕ) → n ≤ 32767 → n ≡ gap last new → (ruled last new ≡ meaning (ahead n)) × (last_behind last new ≡ new)
ahead-means last new zero l e = (sym (rule-zero last new e refl), sym (last-new last new e (omega arith)))
ahead-means last new (suc zero) l e = (sym (rule-one last new e (λ z. omega (arith, z)) refl), sym (last-new last new e (omega arith)))
ahead-means last new (suc (suc n)) l e =
    let less : suc (suc n) - 1 ≡ suc n = omega arith in (
      sym (rule-missing last new e (λ z. omega (arith, z)) (λ z. omega (arith, z)) (omega (arith, l))) ∙ ap Missing less,
      sym (last-new last new e (omega (arith, l))),
    )

pub rule-means : (last new : ℕ) (d : Distance) → last < around → new < around → Leads last new d
    → (ruled last new ≡ meaning d) × (last_behind last new ≡ follows d last new)
rule-means last new (ahead n) h k d = ahead-means last new n d.0 (leads-steps last new (ahead n) h k d)
rule-means last new (behind n) h k d =
    let e : around - n ≡ gap last new = leads-steps last new (behind n) h k d in (
      sym (rule-late last new e (λ z. omega (arith, z, d.1)) (λ z. omega (arith, z, d.1)) (omega (arith, d.1))),
      sym (last-late last new e (omega (arith, d.1))),
    )

-- the missing numbers are those behind last and before new
pub missing-between : (last new n : ℕ) → last < around → new < around → ruled last new ≡ Missing n → (1 ≤ n) × (n ≤ 32766) × ((last + n + 1) % around ≡ new)
missing-between last new n h k e = go (distance_is last new h k)
  where
    by : (d : Distance) → Leads last new d → meaning d ≡ Missing n → (1 ≤ n) × (n ≤ 32766) × ((last + n + 1) % around ≡ new)
    by (ahead zero) p m = let z : ◌≡◌ {A = ℕ} 0 1 = cc in absurd (omega arith)
    by (ahead (suc zero)) p m = let z : ◌≡◌ {A = ℕ} 0 1 = cc in absurd (omega arith)
    by (ahead (suc (suc i))) p m = let z : suc i ≡ n = cc in (omega (arith, z), omega (arith, z, p.0), omega (arith, z, p.1))
    by (behind i) p m = let z : ◌≡◌ {A = ℕ} 0 1 = cc in absurd (omega arith)

    go : (d : Distance) × Leads last new d → (1 ≤ n) × (n ≤ 32766) × ((last + n + 1) % around ≡ new)
    go d = by d.0 d.1 (sym (rule-means last new d.0 h k d.1).0 ∙ e)
