-- Laws of the check.
-- fcs-lt                 it has sixteen bits
-- register-append        feeding in parts is feeding the whole
-- check-parts            and so is the check of two parts, by the code's `Register`
-- byte_next, byte-done   a turn and the end of the loop over bytes
use Prim.Native.Nat.{ℕ, ◌+◌, ◌<◌, ◌≤◌}
use mathlib.Core.List.{List, [], ◌∷◌, ◌++◌}
use mathlib.Core.Path.{◌≡◌, refl, sym, ap, ◌∙◌}
use native.Mathlib.Omega.{arith}
use lib.ListN.{length, drop, get_or}
use Rattle.base.proofs.Lists.{next, over}
use Rattle.fcs.specs.Fcs.{ones, complement, fcs, register, entered, fresh, fed}
use Rattle.fcs.specs.declared.Register.{Register}

pub fcs-lt : (bs : List ℕ) → fcs bs < 65536
unfolding fcs
fcs-lt bs = omega arith

pub register-append : (r : ℕ) (a b : List ℕ) → register r (a ++ b) ≡ register (register r a) b
unfolding register
register-append r [] b = refl
register-append r (x ∷ a) b = register-append (entered 8 r x) a b

pub check-parts : (a b : List ℕ) {r₀ r₁ r₂ : Register} {k : ℕ} → r₀ ≡ fresh → r₁ ≡ fed r₀ a → r₂ ≡ fed r₁ b → k ≡ complement r₂.bits → k ≡ fcs (a ++ b)
unfolding fcs
check-parts a b e₀ e₁ e₂ e =
    e ∙ ap (λ (r : Register). complement r.bits) (e₂ ∙ ap (λ (r : Register). fed r b) (e₁ ∙ ap (λ (r : Register). fed r a) e₀))
    ∙ ap complement (sym (register-append ones a b))

pub byte_next : (i r : ℕ) (bs : List ℕ) {s t : ℕ} → i < length bs → s ≡ entered 8 r (get_or bs i 0) → register r (drop i bs) ≡ t
    → register s (drop (i + 1) bs) ≡ t
unfolding register
byte_next i r bs h e p = rw e (rw (next bs i h) at p)

pub byte-done : (i r : ℕ) (bs : List ℕ) {t : ℕ} → length bs ≤ i → register r (drop i bs) ≡ t → r ≡ t
unfolding register
byte-done i r bs h p = rw (over bs i h) at p
