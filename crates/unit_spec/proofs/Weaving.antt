-- Header bits among payload bits, there and back.
-- Room, room_fits              there is room for header bits, and when
-- heard-weave, unwoven-weave   header bits and payload bits are read as they were put
use mathlib.Core.Path.{◌≡◌, refl, sym, ap, ap₂, ◌∙◌}
use mathlib.Core.List.{List, [], ◌∷◌, ◌++◌}
use Prim.Native.Nat.{ℕ, zero, suc, ◌+◌, ◌-◌, ◌*◌, ◌≤◌}
use native.Mathlib.Nat.{suc-mul}
use native.Mathlib.Omega.{arith}
use lib.ListN.{length, take, drop, get_or, length-drop, take-append-drop}
use lib.Seq.{length-take-le}
use Rattle.unit_spec.specs.Unit.{weave}
use Rattle.unit_spec.specs.Reading.{heard, unwoven}

-- there is room for n header bits: the first behind `until` bits, each other behind `gap` more
abbrev pub Room : ℕ → ℕ → ℕ → ℕ → Type 0
Room until gap zero n = Unit {0}
Room until gap (suc k) n = (until ≤ n) × Room gap gap k (n - until)

at_front : (xs : List ℕ) (h : ℕ) (r : List ℕ) → (get_or (xs ++ h ∷ r) (length xs) 0 ≡ h) × (drop (suc (length xs)) (xs ++ h ∷ r) ≡ r) × (take (length xs)
    (xs ++ h ∷ r) ≡ xs)
at_front [] h r = (refl, refl, refl)
at_front (x ∷ xs) h r = let e = at_front xs h r in (e.0, e.1, ap (λ (l : List ℕ). x ∷ l) e.2)

module _ (until h : ℕ) (p r : List ℕ) (k : until ≤ length p) where
  long : length (take until p) ≡ until
  long = length-take-le until p k

  front : (get_or (take until p ++ h ∷ r) until 0 ≡ h) × (drop (suc until) (take until p ++ h ∷ r) ≡ r) × (take until (take until p ++ h ∷ r) ≡ take until p)
  front =
      let e = at_front (take until p) h r in (
        ap (λ (n : ℕ). get_or (take until p ++ h ∷ r) n 0) (sym long) ∙ e.0,
        ap (λ (n : ℕ). drop (suc n) (take until p ++ h ∷ r)) (sym long) ∙ e.1,
        ap (λ (n : ℕ). take n (take until p ++ h ∷ r)) (sym long) ∙ e.2,
      )

pub heard-weave : (until gap : ℕ) (hs p : List ℕ) → Room until gap (length hs) (length p) → heard until gap (length hs) (weave until gap hs p) ≡ hs
unfolding heard weave
heard-weave until gap [] p r = refl
heard-weave until gap (h ∷ hs) p r =
    let e = front until h p (weave gap gap hs (drop until p)) r.0 in
    ap₂ ◌∷◌ e.0
    (ap (heard gap gap (length hs)) e.1 ∙ heard-weave gap gap hs (drop until p) (rw (length-drop until p) r.1))

pub unwoven-weave : (until gap : ℕ) (hs p : List ℕ) → Room until gap (length hs) (length p) → unwoven until gap (length hs) (weave until gap hs p) ≡ p
unfolding unwoven weave
unwoven-weave until gap [] p r = refl
unwoven-weave until gap (h ∷ hs) p r =
    let e = front until h p (weave gap gap hs (drop until p)) r.0 in
    ap₂ ◌++◌ e.2 (ap (unwoven gap gap (length hs)) e.1 ∙ unwoven-weave gap gap hs (drop until p) (rw (length-drop until p) r.1))
    ∙ take-append-drop until p

-- room for suc k header bits
pub room_fits : (until gap k n : ℕ) → until + k * gap ≤ n → Room until gap (suc k) n
room_fits until gap zero n h = (omega arith, tt)
room_fits until gap (suc k) n h = (omega arith, room_fits gap gap k (n - until) (shrink until gap (k * gap) n (rw suc-mul at h)))
  where
    shrink : (u g m n : ℕ) → u + (m + g) ≤ n → g + m ≤ n - u
    shrink u g m n h = omega arith
