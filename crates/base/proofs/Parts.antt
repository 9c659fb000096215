-- A part of a list that was lent and came back as y: `&mut w[s..]` lends `take (length w - s) (drop s w)`, and w is then
-- `put_mid s (length w - s) w y`.
-- tail-is       what is lent is the tail
-- tail-put      w is then its head, and what came back
-- tail-back     what came back is the tail then
-- tail-length   the length stays
-- lent, back    the same where the head is known
use mathlib.Core.Path.{◌≡◌, sym, ap, ◌∙◌}
use mathlib.Core.List.{List, ◌++◌, append-nil}
use Prim.Native.Nat.{ℕ, ◌-◌, ◌≤◌}
use native.Mathlib.Omega.{arith}
use lib.ListN.{length, take, drop, length-drop}
use lib.Seq.{take_all, take_at, drop_at, length-take-le}
use borrow.Rule.Slice.PartMut.{put_mid, same_len_mid}
use Rattle.base.proofs.Lists.{over}

pub tail-is : (s : ℕ) (w : List ℕ) → take (length w - s) (drop s w) ≡ drop s w
tail-is s w = take_all (length w - s) (drop s w) (omega (arith, length-drop s w))

pub tail-put : (s : ℕ) (w y : List ℕ) → put_mid s (length w - s) w y ≡ take s w ++ y
tail-put s w y =
    ap (λ (z : List ℕ). take s w ++ (y ++ z)) (over (drop s w) (length w - s) (omega (arith, length-drop s w)))
    ∙ ap (λ (z : List ℕ). take s w ++ z) (append-nil y)

pub tail-back : (s : ℕ) (w y : List ℕ) → s ≤ length w → drop s (put_mid s (length w - s) w y) ≡ y
tail-back s w y h = ap (drop s) (tail-put s w y) ∙ drop_at (take s w) y s (length-take-le s w h)

pub tail-length : (s : ℕ) (w y : List ℕ) → length y ≡ length (drop s w) → length (put_mid s (length w - s) w y) ≡ length w
tail-length s w y h = same_len_mid s (length w - s) w y (h ∙ ap length (sym (tail-is s w)))

-- ---- the list p ++ rest, whose rest is lent and comes back as y
module _ (p rest o : List ℕ) (s : ℕ) (e : o ≡ p ++ rest) (l : length p ≡ s) where
  pub lent : take (length o - s) (drop s o) ≡ rest
  lent = tail-is s o ∙ ap (drop s) e ∙ drop_at p rest s l

  pub back : (y : List ℕ) → put_mid s (length o - s) o y ≡ p ++ y
  back y = tail-put s o y ∙ ap (λ (a : List ℕ). a ++ y) (ap (take s) e ∙ take_at p rest s l)
