-- Bytes that are escaped, counted and stored.
-- escape-yes, escape-no   a byte that is escaped, and one that is not
-- escape-some             either is stored
-- width-is                how many bytes it is then
use Rattle.std.proofs.Common.{◌≡◌, refl, ℕ, ◌+◌, ◌-◌, ◌≤◌, Bool, true, false, cond, [], ◌∷◌, length, arith}
use Rattle.packet_spec.specs.Escape.{escape_byte}
use Rattle.packet_spec.proofs.Escaping.{Kind, flag, esc, other, kind, escape-other}
use borrow.Author.Tests.{ne_eqb}
use Rattle.packet.specs.Private.{escapes}

pub escape-yes : (b : ℕ) → escapes b ≡ true → escape_byte b ≡ 0x7D ∷ (b - 0x20) ∷ []
unfolding escape_byte
escape-yes b e = go (kind b) e
  where
    go : {b : ℕ} → Kind b → escapes b ≡ true → escape_byte b ≡ 0x7D ∷ (b - 0x20) ∷ []
    go flag e = refl
    go esc e = refl
    go (other n m) e = absurd (let z = simp (ne_eqb _ _ n, ne_eqb _ _ m) at e in cc)

pub escape-no : (b : ℕ) → escapes b ≡ false → escape_byte b ≡ b ∷ []
escape-no b e = go (kind b) e
  where
    go : {b : ℕ} → Kind b → escapes b ≡ false → escape_byte b ≡ b ∷ []
    go flag e = absurd cc
    go esc e = absurd cc
    go (other n m) e = escape-other _ n m

pub width-is : (b : ℕ) → length (escape_byte b) ≡ 1 + cond (escapes b) 1 0
width-is b = go (escapes b) refl
  where
    go : (t : Bool) → escapes b ≡ t → length (escape_byte b) ≡ 1 + cond t 1 0
    go true e = rw (escape-yes b e) refl
    go false e = rw (escape-no b e) refl

pub escape-some : (b : ℕ) → 1 ≤ length (escape_byte b)
escape-some b = omega (arith, width-is b)
