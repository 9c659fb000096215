-- A payload bit of a unit, by its place; and the header bits one by one.
-- Reach                      the n header bits stand within m bits
-- reaches                    .. from where the last of them stands
-- at-start, at_once, at_gap  a payload bit before the first header bit; behind them where they stand side by side; and else
-- length-unwoven             how many payload bits there are
-- heard-next, heard-from     a header bit, and those behind it
use mathlib.Core.Path.{◌≡◌, refl, sym, ap, ap₂, ◌∙◌}
use mathlib.Core.List.{List, ◌∷◌, ◌++◌}
use Prim.Native.Nat.{ℕ, zero, suc, ◌+◌, ◌-◌, ◌*◌, ◌/◌, ◌≤◌, ◌<◌, min}
use native.Mathlib.Nat.{suc-mul, div-eq_of_lt, add-div_left, zero-min}
use native.Mathlib.Omega.{arith}
use lib.ListN.{length, take, drop, get_or, get_or-append, length-append, length-drop}
use lib.Seq.{get_or-append-add, get_or-take, get_or-drop, drop-drop, length-take-le}
use Rattle.base.proofs.Tests.{by_le}
use Rattle.unit_spec.specs.Reading.{heard, unwoven}

abbrev pub Reach : ℕ → ℕ → ℕ → ℕ → Type 0
Reach until gap zero m = Unit {0}
Reach until gap (suc n) m = (until < m) × Reach gap gap n (m - suc until)

pub reaches : (until gap k m : ℕ) → until + k * suc gap < m → Reach until gap (suc k) m
reaches until gap zero m h = (omega arith, tt)
reaches until gap (suc k) m h = (omega arith, reaches gap gap k (m - suc until) (shrink until gap (k * suc gap) m (rw suc-mul at h)))
  where
    shrink : (u g x m : ℕ) → u + (x + suc g) < m → g + x < m - suc u
    shrink u g x m h = omega arith

module _ (until : ℕ) (u r : List ℕ) (h : until < length u) where
  left : (i : ℕ) → i < until → get_or (take until u ++ r) i 0 ≡ get_or u i 0
  left i l = get_or-append (take until u) r 0 i (omega (arith, length-take-le until u (omega arith))) ∙ get_or-take until u i 0 l

  right : (i : ℕ) → get_or (take until u ++ r) (until + i) 0 ≡ get_or r i 0
  right i =
      ap (λ (n : ℕ). get_or (take until u ++ r) (n + i) 0) (sym (length-take-le until u (omega arith)))
      ∙ get_or-append-add (take until u) r i 0

less : (until : ℕ) (u : List ℕ) (gap n : ℕ) → Reach gap gap n (length u - suc until) → Reach gap gap n (length (drop (suc until) u))
less until u gap n r = rw (length-drop (suc until) u) r

pub length-unwoven : (until gap n : ℕ) (u : List ℕ) → Reach until gap n (length u) → length (unwoven until gap n u) + n ≡ length u
unfolding unwoven
length-unwoven until gap zero u r = omega arith
length-unwoven until gap (suc n) u r =
    let e = length-unwoven gap gap n (drop (suc until) u) (less until u gap n r.1) in
    ap (λ (k : ℕ). k + suc n) (length-append (take until u) (unwoven gap gap n (drop (suc until) u)))
    ∙ sum (length (take until u)) (length (unwoven gap gap n (drop (suc until) u))) n until (length u) (length-take-le until u (omega (arith, r.0)))
    (e ∙ length-drop (suc until) u) r.0
  where
    sum : (t x n u m : ℕ) → t ≡ u → x + n ≡ m - suc u → u < m → t + x + suc n ≡ m
    sum t x n u m e f h = omega arith

pub at-start : (until gap n : ℕ) (u : List ℕ) (t : ℕ) → Reach until gap n (length u) → t < until → get_or (unwoven until gap n u) t 0 ≡ get_or u t 0
unfolding unwoven
at-start until gap zero u t r h = refl
at-start until gap (suc n) u t r h = left until u (unwoven gap gap n (drop (suc until) u)) r.0 t h

-- side by side: no gap
pub at_once : (until n : ℕ) (u : List ℕ) (x : ℕ) → Reach until 0 n (length u) → get_or (unwoven until 0 n u) (until + x) 0 ≡ get_or u (until + x + n) 0
unfolding unwoven
at_once until zero u x r = ap (λ (i : ℕ). get_or u i 0) (omega arith)
at_once until (suc n) u x r =
    let e : suc until + (0 + x + n) ≡ until + x + suc n = omega arith in
    let z : x ≡ 0 + x = omega arith in
    right until u (unwoven 0 0 n (drop (suc until) u)) r.0 x
    ∙ ap (λ (i : ℕ). get_or (unwoven 0 0 n (drop (suc until) u)) i 0) z
    ∙ at_once 0 n (drop (suc until) u) x (less until u 0 n r.1)
    ∙ get_or-drop (suc until) u (0 + x + n) 0 ∙ ap (λ (i : ℕ). get_or u i 0) e

-- with a gap: behind as many header bits as there are gaps, and one
pub at_gap : (gap : ℕ) → 0 < gap → (until n : ℕ) (u : List ℕ) (x : ℕ) → Reach until gap n (length u)
    → get_or (unwoven until gap n u) (until + x) 0 ≡ get_or u (until + x + min n (x / gap + 1)) 0
unfolding unwoven
at_gap gap k until zero u x r = ap (λ (i : ℕ). get_or u i 0) (omega (arith, zero-min (x / gap + 1)))
at_gap gap k until (suc n) u x r =
    right until u (unwoven gap gap n (drop (suc until) u)) r.0 x
    ∙ by_le gap x (λ h. far h (at_gap gap k gap n (drop (suc until) u) (x - gap) (less until u gap n r.1))) near
  where
    near : x < gap → get_or (unwoven gap gap n (drop (suc until) u)) x 0 ≡ get_or u (until + x + min (suc n) (x / gap + 1)) 0
    near h =
        let q : x / gap ≡ 0 = div-eq_of_lt h in
        let m : min (suc n) (x / gap + 1) ≡ 1 = omega arith in
        let e : suc until + x ≡ until + x + min (suc n) (x / gap + 1) = omega arith in
        at-start gap gap n (drop (suc until) u) x (less until u gap n r.1) h ∙ get_or-drop (suc until) u x 0 ∙ ap (λ (i : ℕ). get_or u i 0) e

    far : gap ≤ x → get_or (unwoven gap gap n (drop (suc until) u)) (gap + (x - gap)) 0 ≡ get_or (drop (suc until) u)
        (gap + (x - gap) + min n ((x - gap) / gap + 1)) 0
        → get_or (unwoven gap gap n (drop (suc until) u)) x 0 ≡ get_or u (until + x + min (suc n) (x / gap + 1)) 0
    far h again =
        let g : gap + (x - gap) ≡ x = omega arith in
        let q : x / gap ≡ (x - gap) / gap + 1 = ap (λ (i : ℕ). i / gap) (sym g) ∙ add-div_left (x - gap) {k = gap} k in
        let m : min (suc n) (x / gap + 1) ≡ suc (min n ((x - gap) / gap + 1)) = omega arith in
        let e : suc until + (gap + (x - gap) + min n ((x - gap) / gap + 1)) ≡ until + x + min (suc n) (x / gap + 1) = omega arith in
        ap (λ (i : ℕ). get_or (unwoven gap gap n (drop (suc until) u)) i 0) (sym g) ∙ again
        ∙ get_or-drop (suc until) u (gap + (x - gap) + min n ((x - gap) / gap + 1)) 0 ∙ ap (λ (i : ℕ). get_or u i 0) e

pub heard-from : (until gap n : ℕ) (u : List ℕ) → heard until gap n u ≡ heard 0 gap n (drop until u)
unfolding heard
heard-from until gap zero u = refl
heard-from until gap (suc n) u =
    let e : until + 0 ≡ until = omega arith in
    let f : until + 1 ≡ suc until = omega arith in
    sym (ap₂ (λ (x : ℕ) (y : List ℕ). x ∷ heard gap gap n y) (get_or-drop until u 0 0 ∙ ap (λ (i : ℕ). get_or u i 0) e)
    (drop-drop 1 until u ∙ ap (λ (i : ℕ). drop i u) f))

pub heard-next : (at gap n : ℕ) (u : List ℕ) → heard 0 gap (suc n) (drop at u) ≡ get_or u at 0 ∷ heard 0 gap n (drop (at + suc gap) u)
unfolding heard
heard-next at gap n u =
    let e : at + 0 ≡ at = omega arith in
    let f : at + 1 + gap ≡ at + suc gap = omega arith in
    ap₂ ◌∷◌ (get_or-drop at u 0 0 ∙ ap (λ (i : ℕ). get_or u i 0) e)
    (heard-from gap gap n (drop 1 (drop at u)) ∙ ap (heard 0 gap n) (ap (drop gap) (drop-drop 1 at u) ∙ drop-drop gap (at + 1) u ∙ ap (λ (i : ℕ). drop i u) f))
