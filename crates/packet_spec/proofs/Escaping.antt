-- Laws of escapes.
-- Kind, kind, right-in, right-low, right-high, last-at         the kinds of bytes; a byte that is right behind 7D; the last byte
-- escape-flag, escape-escape, escape-other, width-most         a byte as it is escaped
-- escape-cons, escape-next, escape-append, escape-most         parts and lengths
-- plain-short                                                  undoing makes no bytes
use mathlib.Core.Path.{◌≡◌, refl, sym}
use mathlib.Core.Bool.{true, false}
use Prim.Native.Nat.{ℕ, suc, ◌+◌, ◌-◌, ◌*◌, ◌<◌, ◌≤◌}
use mathlib.Core.List.{List, [], ◌∷◌, ◌++◌, append_assoc}
use native.Mathlib.Omega.{arith}
use borrow.Author.Tests.{eq-eqb, ne_eqb}
use lib.ListN.{length, drop, get_or, length-append}
use Rattle.base.proofs.Lists.{next}
use Rattle.base.proofs.Tests.{by-eq}
use Rattle.packet_spec.specs.Escape.{right, last, escape, escape_byte, plain, escaped}

pub right-in : (b : ℕ) → 0x5D ≤ b → b < 0x5F → right b ≡ true
unfolding right
right-in b lo hi = by-eq b 0x5E (λ e. simp (eq-eqb _ _ e)) (λ n. simp (ne_eqb _ _ n, eq-eqb b 0x5D (omega arith)))

pub right-low : (b : ℕ) → b < 0x5D → right b ≡ false
unfolding right
right-low b h = simp (ne_eqb b 0x5E (omega arith), ne_eqb b 0x5D (omega arith))

pub right-high : (b : ℕ) → 0x5F ≤ b → right b ≡ false
unfolding right
right-high b h = simp (ne_eqb b 0x5E (omega arith), ne_eqb b 0x5D (omega arith))

last_cons : (d b : ℕ) (bs : List ℕ) → last d (b ∷ bs) ≡ get_or (b ∷ bs) (length bs) 0
unfolding last
last_cons d b [] = refl
last_cons d b (c ∷ cs) = last_cons b c cs

pub last-at : (d : ℕ) (l : List ℕ) → 0 < length l → last d l ≡ get_or l (length l - 1) 0
last-at d [] h = absurd (omega arith)
last-at d (b ∷ bs) h = let e : suc (length bs) - 1 ≡ length bs = omega arith in rw e (last_cons d b bs)

-- a byte, escaped, by cases
pub escape-flag : (b : ℕ) → b ≡ 0x7E → escape_byte b ≡ 0x7D ∷ 0x5E ∷ []
unfolding escape_byte
escape-flag b e = simp (eq-eqb _ _ e)

pub escape-escape : (b : ℕ) → b ≡ 0x7D → escape_byte b ≡ 0x7D ∷ 0x5D ∷ []
unfolding escape_byte
escape-escape b e = simp (ne_eqb b 0x7E (omega arith), eq-eqb _ _ e)

pub escape-other : (b : ℕ) → (b ≡ 0x7E → ⊥) → (b ≡ 0x7D → ⊥) → escape_byte b ≡ b ∷ []
unfolding escape_byte
escape-other b n m = simp (ne_eqb _ _ n, ne_eqb _ _ m)

-- the three kinds of byte: to go by cases is to match on `kind b`, and with a flag or a 0x7D everything computes
pub data Kind : ℕ → Type 0 where
  flag : Kind 0x7E
  esc : Kind 0x7D
  other : {b : ℕ} → (b ≡ 0x7E → ⊥) → (b ≡ 0x7D → ⊥) → Kind b

pub kind : (b : ℕ) → Kind b
kind b = by-eq b 0x7E (λ e. rw e flag) (λ n. by-eq b 0x7D (λ e. rw e esc) (λ m. other n m))

-- one byte or two
width-kind : {b : ℕ} → Kind b → length (escape_byte b) ≤ 2
unfolding escape_byte
width-kind flag = omega arith
width-kind esc = omega arith
width-kind (other n m) = rw (escape-other _ n m) (omega arith)

pub width-most : (b : ℕ) → length (escape_byte b) ≤ 2
width-most b = width-kind (kind b)

pub escape-cons : (l : List ℕ) (i : ℕ) → i < length l → escape (drop i l) ≡ escape_byte (get_or l i 0) ++ escape (drop (i + 1) l)
unfolding escape
escape-cons l i h = rw (next l i h)

pub escape-next : (l : List ℕ) (i : ℕ) → i < length l → length (escape (drop i l)) ≡ length (escape_byte (get_or l i 0)) + length (escape (drop (i + 1) l))
escape-next l i h = rw (escape-cons l i h) (length-append (escape_byte (get_or l i 0)) (escape (drop (i + 1) l)))

pub escape-append : (a b : List ℕ) → escape (a ++ b) ≡ escape a ++ escape b
unfolding escape
escape-append [] b = refl
escape-append (x ∷ a) b = rw (escape-append a b) (sym (append_assoc (escape_byte x) (escape a) (escape b)))

pub escape-most : (bs : List ℕ) → length (escape bs) ≤ 2 * length bs
unfolding escape
escape-most [] = omega arith
escape-most (b ∷ bs) = omega (arith, width-most b, escape-most bs, length-append (escape_byte b) (escape bs))

-- undoing escapes makes no bytes
mutual
  unfolding plain escaped

  pub plain-short : (bs : List ℕ) → length (plain bs) ≤ length bs
  plain-short [] = omega arith
  plain-short (b ∷ bs) =
      by-eq b 0x7D (λ e. simp (eq-eqb _ _ e) (omega (arith, escaped-short bs))) (λ n. simp (ne_eqb _ _ n) (omega (arith, plain-short bs)))

  escaped-short : (bs : List ℕ) → length (escaped bs) ≤ length bs
  escaped-short [] = omega arith
  escaped-short (b ∷ bs) = omega (arith, plain-short bs)
