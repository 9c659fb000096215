-- The header sequences of table 5-3.
-- mix, sequence-mix   the sequence by what there is none of: audio, fixed, opportunistic data
-- Named, mix-told     its first 24, 23 or 22 bits name it, and it announces what it was chosen for
-- told, announces, same-mix   the same of the sequence of three lengths
-- reserved        CW5 to CW7 are named by none of their first 24, 23 or 22 bits
use mathlib.Core.Path.{◌≡◌, refl, sym, ap, ◌∙◌}
use mathlib.Core.Bool.{Bool, true, false}
use mathlib.Core.List.{List, [], ◌∷◌, map}
use Prim.Native.Nat.{ℕ}
use lib.Dec.{eqb}
use lib.ListN.{take, replicate}
use Rattle.base.specs.Choice.{pick}
use Rattle.unit_spec.specs.Bits.{digits, number}
use Rattle.unit_spec.specs.Tables.{cw0, cw1, cw2, cw3, cw4, sequence, heads, announced}
use Rattle.unit_spec.specs.Reading.{is_header, named}
use Rattle.unit_spec.proofs.Rows.{by_row}

abbrev pub mix : Bool → Bool → Bool → ℕ
mix a f o = pick a (pick o (pick f 0 cw4) 0) (pick f (pick o cw0 cw1) (pick o cw2 cw3))

pub sequence-mix : (a f o : ℕ) → sequence a f o ≡ mix (eqb a 0) (eqb f 0) (eqb o 0)
unfolding sequence
sequence-mix a f o = refl

-- the first n bits of a sequence name it
abbrev pub Named : ℕ → ℕ → Type 0
Named n cw = named n (number 0 (take n (digits 24 cw))) ≡ cw

mix-told : (a f o : Bool) → (mix a f o ≡ 0 → ⊥) → (Named 24 (mix a f o)) × (Named 23 (mix a f o)) × (Named 22 (mix a f o)) × (announced (mix a f o) ≡ pick o
    0 1)
unfolding named is_header number digits announced
mix-told true true true n = absurd (n refl)
mix-told true true false n = absurd (n refl)
mix-told true false true n = (refl, refl, refl, refl)
mix-told true false false n = absurd (n refl)
mix-told false true true n = (refl, refl, refl, refl)
mix-told false true false n = (refl, refl, refl, refl)
mix-told false false true n = (refl, refl, refl, refl)
mix-told false false false n = (refl, refl, refl, refl)

module _ (a f o : ℕ) (n : sequence a f o ≡ 0 → ⊥) where
  parts : (Named 24 (sequence a f o)) × (Named 23 (sequence a f o)) × (Named 22 (sequence a f o)) × (announced (sequence a f o) ≡ pick (eqb o 0) 0 1)
  parts = rw (sequence-mix a f o) (mix-told (eqb a 0) (eqb f 0) (eqb o 0) (λ e. n (sequence-mix a f o ∙ e)))

  pub told : (l : ℕ) → Named (heads l) (sequence a f o)
  told l =
      by_row (λ h s t. Named h (sequence a f o)) l (λ _ _. parts.0) (λ _ _. parts.1) (λ _ _ _. parts.2) (λ _ _. parts.0) (λ _ _. parts.1)
      (λ _ _ _. parts.2)

  pub announces : announced (sequence a f o) ≡ pick (eqb o 0) 0 1
  announces = parts.3

  -- from what it announces, the reader has the same sequence
  pub same-mix : sequence a f (announced (sequence a f o)) ≡ sequence a f o
  same-mix =
      sequence-mix a f (announced (sequence a f o))
      ∙ ap (λ (t : ℕ). mix (eqb a 0) (eqb f 0) (eqb t 0)) announces
      ∙ ap (mix (eqb a 0) (eqb f 0)) (again (eqb o 0))
      ∙ sym (sequence-mix a f o)
    where
      again : (t : Bool) → eqb (pick t 0 1) 0 ≡ t
      again true = refl
      again false = refl

-- what the first 24, 23 and 22 bits of a sequence name
abbrev names : ℕ → List ℕ
names cw = map (λ n. named n (number 0 (take n (digits 24 cw)))) (24 ∷ 23 ∷ 22 ∷ [])

pub reserved : map names (0x8D338D ∷ 0xD8D338 ∷ 0x634CE3 ∷ []) ≡ replicate 3 (replicate 3 0)
unfolding named is_header number digits
reserved = refl
