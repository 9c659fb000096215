-- Bytes as bits, and as bytes again.
-- pack-bits   the bytes come back, whatever bits stand behind theirs
use mathlib.Core.Path.{◌≡◌, refl, ap, ap₂, ◌∙◌}
use mathlib.Core.List.{List, [], ◌∷◌, ◌++◌}
use Prim.Native.Nat.{ℕ, ◌+◌, ◌<◌}
use lib.Dec.{eqb, eqb→eq}
use lib.ListN.{length, take, drop}
use Rattle.base.specs.Bytes.{Bytes}
use Rattle.base.proofs.Tests.{all-at}
use Rattle.unit_spec.specs.Bits.{digits, bits, number, pack}

byte-test : (b : ℕ) → b < 256 → number 0 (digits 8 b) ≡ b
unfolding number digits
byte-test b h = eqb→eq _ _ (all-at 256 (λ (x : ℕ). eqb (number 0 (digits 8 x)) x) tt b h)

eight : (b : ℕ) (r : List ℕ) → (take 8 (digits 8 b ++ r) ≡ digits 8 b) × (drop 8 (digits 8 b ++ r) ≡ r)
unfolding digits
eight b r = (refl, refl)

pub pack-bits : (p r : List ℕ) → Bytes p → pack (length p) (bits p ++ r) ≡ p
unfolding pack bits
pack-bits [] r b = refl
pack-bits (x ∷ p) r b =
    ap (λ (u : List ℕ). number 0 (take 8 u) ∷ pack (length p) (drop 8 u)) (assoc (digits 8 x) (bits p) r)
    ∙ ap₂ (λ (u v : List ℕ). number 0 u ∷ pack (length p) v) (eight x (bits p ++ r)).0 (eight x (bits p ++ r)).1
    ∙ ap₂ ◌∷◌ (byte-test x b.0) (pack-bits p r b.1)
  where
    assoc : (a b c : List ℕ) → a ++ b ++ c ≡ a ++ (b ++ c)
    assoc [] b c = refl
    assoc (x ∷ a) b c = ap (λ (l : List ℕ). x ∷ l) (assoc a b c)
