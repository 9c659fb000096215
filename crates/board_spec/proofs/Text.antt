-- The text of a packet: two different payloads are never shown alike.
-- byte-back        a byte is told from what is shown of it, whatever follows
-- text-apart       payloads shown alike are the same
-- text-printable   only printable bytes are shown
-- text-plain       printable bytes without a backslash are shown as they are
-- Printable, all_printable, all-printable   a byte, and bytes, that are printable; the test of it
use Prim.Native.Nat.{ℕ, ◌+◌, ◌-◌, ◌*◌, ◌≤◌, ◌<◌}
use native.Mathlib.Omega.{arith}
use mathlib.Core.Path.{◌≡◌, refl, sym, ◌∙◌, ap}
use mathlib.Core.Bool.{Bool, true, ◌&&◌}
use mathlib.Core.List.{List, [], ◌∷◌, ◌++◌}
use lib.Dec.{T, eqb, leb, ltb, eqb→eq, leb→le}
use lib.ListN.{length, get_or, drop, length-append}
use lib.Seq.{drop_at}
use borrow.Author.Tests.{ne_eqb}
use Rattle.base.specs.Bytes.{Each, Bytes}
use Rattle.base.specs.Choice.{pick}
use Rattle.base.proofs.Bytes.{each_append}
use Rattle.base.proofs.Tests.{and_l, and_r, all-at}
use Rattle.board_spec.specs.Text.{shown_byte, shown_text}
use Rattle.board_spec.specs.Typed.{Plain}

-- ---- a shown text read back
-- the value of a digit of base 16
abbrev from_sixteenth : ℕ → ℕ
from_sixteenth d = pick (ltb d 58) (d - 48) (d - 55)

-- the byte that is shown first: a backslash stands before another, or before x and two digits
abbrev first_of : List ℕ → ℕ
first_of xs =
    pick (eqb (get_or xs 0 0) 92) (pick (eqb (get_or xs 1 0) 92) 92 (from_sixteenth (get_or xs 2 0) * 16 + from_sixteenth (get_or xs 3 0))) (get_or xs 0 0)

-- .. and by how many bytes
abbrev width_of : List ℕ → ℕ
width_of xs = pick (eqb (get_or xs 0 0) 92) (pick (eqb (get_or xs 1 0) 92) 2 4) 1

-- a byte is told from what is shown of it, whatever follows: all 256, computed
abbrev is_back : List ℕ → ℕ → Bool
is_back x b = eqb (first_of (shown_byte b ++ x)) b && (eqb (length (shown_byte b)) (width_of (shown_byte b ++ x)) && leb 1 (length (shown_byte b)))

module _ (b : ℕ) (x : List ℕ) (h : b < 256) where
  pub byte-back : (first_of (shown_byte b ++ x) ≡ b) × (drop (width_of (shown_byte b ++ x)) (shown_byte b ++ x) ≡ x) × (1 ≤ length (shown_byte b))
  unfolding shown_byte
  byte-back =
      let s : T (is_back x b) = all-at 256 (is_back x) tt b h in
      let t = and_r (eqb (first_of (shown_byte b ++ x)) b) _ s in (
        eqb→eq _ _ (and_l (eqb (first_of (shown_byte b ++ x)) b) _ s),
        drop_at (shown_byte b) x _ (eqb→eq _ _ (and_l (eqb (length (shown_byte b)) (width_of (shown_byte b ++ x))) _ t)),
        leb→le _ _ (and_r (eqb (length (shown_byte b)) (width_of (shown_byte b ++ x))) _ t),
      )

  something : [] ≡ shown_byte b ++ x → ⊥
  something e = omega (arith, ap length e, length-append (shown_byte b) x, byte-back.2)

-- payloads shown alike are the same
pub text-apart : (bs cs : List ℕ) → Bytes bs → Bytes cs → shown_text bs ≡ shown_text cs → bs ≡ cs
unfolding shown_text
text-apart [] [] h k e = refl
text-apart [] (c ∷ cs) h k e = absurd (something c (shown_text cs) k.0 e)
text-apart (b ∷ bs) [] h k e = absurd (something b (shown_text bs) h.0 (sym e))
text-apart (b ∷ bs) (c ∷ cs) h k e =
    let p = byte-back b (shown_text bs) h.0 in
    let q = byte-back c (shown_text cs) k.0 in
    let f : b ≡ c = sym p.0 ∙ ap first_of e ∙ q.0 in
    let r : bs ≡ cs = text-apart bs cs h.1 k.1 (sym p.1 ∙ ap (λ (l : List ℕ). drop (width_of l) l) e ∙ q.1) in
    λ i. f i ∷ r i

-- ---- only printable bytes are shown, from the space to the tilde, whatever the payload: all 256, computed
abbrev pub Printable : ℕ → Type 0
Printable b = (32 ≤ b) × (b ≤ 126)

abbrev pub all_printable : List ℕ → Bool
all_printable [] = true
all_printable (b ∷ bs) = leb 32 b && (leb b 126 && all_printable bs)

pub all-printable : (bs : List ℕ) → T (all_printable bs) → Each Printable bs
all-printable [] t = tt
all-printable (b ∷ bs) t =
    let u = and_r (leb 32 b) _ t in
    ((leb→le 32 b (and_l (leb 32 b) _ t), leb→le b 126 (and_l (leb b 126) _ u)), all-printable bs (and_r (leb b 126) _ u))

byte-printable : (b : ℕ) → b < 256 → T (all_printable (shown_byte b))
unfolding shown_byte
byte-printable b h = all-at 256 (λ c. all_printable (shown_byte c)) tt b h

pub text-printable : (bs : List ℕ) → Bytes bs → Each Printable (shown_text bs)
unfolding shown_text
text-printable [] h = tt
text-printable (b ∷ bs) h =
    each_append Printable (shown_byte b) (shown_text bs) (all-printable (shown_byte b) (byte-printable b h.0)) (text-printable bs h.1)

-- ---- printable bytes without a backslash are shown as they are
byte-plain : (b : ℕ) → Plain b → shown_byte b ≡ b ∷ []
unfolding shown_byte
byte-plain b h = rw (ne_eqb b 92 h.1, h.0) refl

pub text-plain : (bs : List ℕ) → Each Plain bs → shown_text bs ≡ bs
unfolding shown_text
text-plain [] h = refl
text-plain (b ∷ bs) h = λ i. byte-plain b h.0 i ++ text-plain bs h.1 i
