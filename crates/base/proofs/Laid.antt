-- Laws of bytes that are stored from a place on.
-- laid_none, laid_more, laid-append     no byte; one before others; two runs of them
-- laid_then                             a run, and further bytes
-- laid-start, laid-take, laid-within    from the start on, with room: what stands there then
-- laid-copied                           bytes copied to a part that was lent
use mathlib.Core.Path.{◌≡◌, refl, sym, ap, ◌∙◌}
use Prim.Native.Nat.{ℕ, suc, ◌+◌, ◌-◌, ◌≤◌}
use mathlib.Core.List.{List, [], ◌∷◌, ◌++◌, append_assoc}
use native.Mathlib.Nat.{add-zero}
use native.Mathlib.Numerals.{add-one}
use native.Mathlib.Omega.{arith}
use lib.ListN.{length, take, drop, set, length-append, length-drop}
use lib.Seq.{sets, sets-eq, take_at, drop-drop}
use borrow.Rule.Slice.PartMut.{put_mid}
use Rattle.base.specs.Private.{Laid}
use Rattle.base.specs.Written.{copied}
use Rattle.base.proofs.Parts.{tail-is, tail-put}
use Rattle.base.proofs.Writing.{copied-fits}

pub laid_none : (l : List ℕ) (at : ℕ) → Laid l at [] l at
laid_none l at = record { ends = omega arith; holds = refl }

pub laid_more : {l bs after : List ℕ} {at end : ℕ} (b : ℕ) → Laid (set l at b) (at + 1) bs after end → Laid l at (b ∷ bs) after end
laid_more b h = record { ends = omega arith; holds = rw add-one at h.holds }

-- a run of stores in two parts
sets-append : (l : List ℕ) (at : ℕ) (a b : List ℕ) → sets l at (a ++ b) ≡ sets (sets l at a) (at + length a) b
sets-append l at [] b = rw add-zero
sets-append l at (x ∷ a) b =
    let e : at + suc (length a) ≡ suc at + length a = omega arith in
    rw e (sets-append (set l at x) (suc at) a b)

pub laid_then : {l a m : List ℕ} {at end : ℕ} → Laid l at a m end → (b : List ℕ) → sets m end b ≡ sets l at (a ++ b)
laid_then {l} {a} {at = at} h b = rw (h.holds, h.ends) (sym (sets-append l at a b))

pub laid-append : {l a m b after : List ℕ} {at mid end : ℕ} → Laid l at a m mid → Laid m mid b after end → Laid l at (a ++ b) after end
laid-append {a = a} {b = b} h k = record { ends = omega (arith, length-append a b); holds = k.holds ∙ laid_then h b }

-- from the start on, with room
module _ {l bs after : List ℕ} {end : ℕ} (h : Laid l 0 bs after end) (room : length bs ≤ length l) where
  pub laid-start : after ≡ bs ++ drop (length bs) l
  laid-start =
      let e : 0 + length bs ≡ length bs = omega arith in
      h.holds ∙ sets-eq bs l 0 (omega arith) ∙ ap (λ (n : ℕ). bs ++ drop n l) e

  pub laid-take : take end after ≡ bs
  laid-take = ap (λ (x : List ℕ). take end x) laid-start ∙ take_at bs (drop (length bs) l) end (omega arith)

  pub laid-within : length after ≡ length l → end ≤ length after
  laid-within e = omega arith

-- the part from `at` on was lent, and came back with the bytes copied to its start
pub laid-copied : {l bs y : List ℕ} {at : ℕ} → at + length bs ≤ length l → y ≡ copied bs (take (length l - at) (drop at l))
    → Laid l at bs (put_mid at (length l - at) l y) (at + length bs)
laid-copied {l} {bs} {y} {at} h e =
    let k : length bs ≤ length (drop at l) = omega (arith, length-drop at l) in
    record {
      ends = refl;
      holds = tail-put at l y
          ∙ ap (λ (z : List ℕ). take at l ++ z) (e ∙ ap (copied bs) (tail-is at l) ∙ copied-fits bs (drop at l) k
          ∙ ap (λ (z : List ℕ). bs ++ z) (drop-drop (length bs) at l))
          ∙ sym (append_assoc (take at l) bs (drop (at + length bs) l)) ∙ sym (sets-eq bs l at h);
    }
