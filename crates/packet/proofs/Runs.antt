-- Laws of `run`, the bytes before the first 7D.
-- shift_none, moved-part         bytes that are moved: to where they stand, and before it
-- run-within, run_moved, moved-within   where a run ends, and what moving it leaves
-- lent-start, lent-take, lent-within   what a part that was lent from the start on, and stored into, leaves
-- last-is                        the last byte compared with 7D
-- told-right, told-wrong         behind a 7D: a right byte, and a wrong one
-- found-is                       the place of the 7D behind it, or the end
-- scan-ends, scan-hands          plain reading ends behind the run, or hands over behind the 7D that follows it
-- at-start, behind-other         which reading begins at a place, by the byte before it
-- undo-ends, undo-hands          the same where escapes are undone
use mathlib.Core.Path.{◌≡◌, refl, sym, ap, ap₂, ◌∙◌}
use mathlib.Core.Logic.{◌≢◌}
use Prim.Native.Nat.{ℕ, suc, ◌+◌, ◌-◌, ◌<◌, ◌≤◌}
use mathlib.Core.Bool.{true, false}
use mathlib.Core.List.{List, [], ◌∷◌, ◌++◌, append_assoc}
use native.Mathlib.Omega.{arith}
use borrow.Author.Tests.{eq-eqb, ne_eqb}
use lib.ListN.{length, take, drop, get_or, set, length-drop, take-append-drop, length-append}
use Rattle.std.proofs.lemmas.List.{drop-append-le}
use lib.Seq.{sets, sets-eq, drop-drop, take-take, length-take-le, take_at, drop-set-lt}
use Rattle.base.specs.Private.{Laid}
use Rattle.base.specs.UpTo.{up_to}
use Rattle.base.proofs.Laid.{laid-append, laid-start}
use Rattle.base.proofs.Lists.{next, part-over, drop-take}
use Rattle.base.proofs.Parts.{tail-is}
use Rattle.base.proofs.Tests.{by-eq, by_le}
use Rattle.base.proofs.UpTo.{up-to-short, up-to-is}
use Rattle.packet_spec.specs.Escape.{plain, escaped, last, right, wrong_from, wrong_behind}
use Rattle.std.specs.List.{copy_within}
use Rattle.std.specs.Prelude.{Option, Some, None, eqb}
use Rattle.std.specs.Option.{option_eq, option_copied}
use Rattle.std.specs.List.{slice_get}
use Rattle.std.proofs.lemmas.Option.{get_or_from_slice_get, slice_get-get_or, slice_get_within}
use denote.Bor.{Bor}
use Rattle.packet.specs.Private.{run}
use Rattle.packet_spec.proofs.Escaping.{last-at}
use Rattle.packet_spec.proofs.Places.{wrong-before}

plain-all : (bs : List ℕ) → length bs ≤ length (run bs) → plain bs ≡ run bs
unfolding up_to plain
plain-all [] h = refl
plain-all (b ∷ bs) h =
    by-eq b 0x7D (λ e. absurd (let k = simp (eq-eqb b 0x7D e) at h in omega (arith, k)))
    (λ n. let k = simp (ne_eqb b 0x7D n) at h in simp (ne_eqb b 0x7D n) (ap (λ (x : List ℕ). b ∷ x) (plain-all bs (omega (arith, k)))))

plain-run : (bs : List ℕ) → length (run bs) < length bs → plain bs ≡ run bs ++ escaped (drop (suc (length (run bs))) bs)
unfolding up_to plain
plain-run [] h = absurd (omega arith)
plain-run (b ∷ bs) h =
    by-eq b 0x7D (λ e. simp (eq-eqb b 0x7D e))
    (λ n. let k = simp (ne_eqb b 0x7D n) at h in simp (ne_eqb b 0x7D n) (ap (λ (x : List ℕ). b ∷ x) (plain-run bs (omega (arith, k)))))

wrong-plain : (bs : List ℕ) (p at : ℕ) → p ≢ 0x7D → wrong_from 0 (at + 1) bs ≡ wrong_from p (suc at) bs
wrong-plain bs p at n = let e : at + 1 ≡ suc at = omega arith in rw e (wrong-before bs p (suc at) n)

-- the bytes from a place on, by the byte before them
module _ (l : List ℕ) (from : ℕ) where
  pub at-start : from ≡ 0 → wrong_from 0 from (drop from l) ≡ wrong_behind from l
  at-start e = simp (eq-eqb from 0 e)

  pub behind-other : from ≢ 0 → get_or l (from - 1) 0 ≢ 0x7D → wrong_from 0 from (drop from l) ≡ wrong_behind from l
  behind-other n m = simp (ne_eqb from 0 n) (wrong-before (drop from l) (get_or l (from - 1) 0) from m)

-- no 7D among the bytes: none of them is wrong ..
wrong-all : (bs : List ℕ) (p at : ℕ) → p ≢ 0x7D → length bs ≤ length (run bs) → wrong_from p at bs ≡ 0
unfolding wrong_from up_to
wrong-all [] p at n h = refl
wrong-all (b ∷ bs) p at n h =
    by-eq b 0x7D (λ e. let k = simp (eq-eqb b 0x7D e) at h in absurd (omega (arith, k)))
    (λ m. let k = simp (ne_eqb b 0x7D m) at h in rw (ne_eqb p 0x7D n) (wrong-all bs b (suc at) m (omega (arith, k))))

-- .. else what stands behind the first 7D decides
wrong-run : (bs : List ℕ) (p at : ℕ) → p ≢ 0x7D → length (run bs) < length bs
    → wrong_from p at bs ≡ wrong_from 0x7D (at + suc (length (run bs))) (drop (suc (length (run bs))) bs)
unfolding wrong_from up_to
wrong-run [] p at n h = absurd (omega (arith, h))
wrong-run (b ∷ bs) p at n h =
    by-eq b 0x7D
    (λ e. let s : suc at ≡ at + 1 = omega arith in rw (ne_eqb p 0x7D n)
    (simp (eq-eqb b 0x7D e) (ap (λ (x : ℕ). wrong_from x (suc at) bs) e ∙ ap (λ (m : ℕ). wrong_from 0x7D m bs) s)))
    (λ m.
    let k = simp (ne_eqb b 0x7D m) at h in
    let s : suc at + suc (length (run bs)) ≡ at + suc (suc (length (run bs))) = omega arith in
    rw (ne_eqb p 0x7D n)
    (simp (ne_eqb b 0x7D m) (wrong-run bs b (suc at) m (omega (arith, k)) ∙ ap (λ (i : ℕ). wrong_from 0x7D i (drop (suc (length (run bs))) bs)) s)))

-- ---- bytes moved within a buffer
pub shift_none : (l : List ℕ) (i n : ℕ) → n ≤ length l → sets l i (drop i (take n l)) ≡ l
shift_none l i n h =
    by_le i n
    (λ k.
    let m : length (drop i (take n l)) ≡ n - i = length-drop i (take n l) ∙ ap (λ (x : ℕ). x - i) (length-take-le n l h) in
    let e : i + length (drop i (take n l)) ≡ n = omega arith in
    sets-eq (drop i (take n l)) l i (omega arith)
    ∙ ap₂ (λ (x : List ℕ) (j : ℕ). x ++ drop (i + length (drop i (take n l))) l)
    (ap (λ (x : List ℕ). x ++ drop i (take n l)) (sym (take-take i n l k)) ∙ take-append-drop i (take n l)) e
    ∙ ap (λ (j : ℕ). take n l ++ drop j l) e
    ∙ take-append-drop n l)
    (λ k. ap (sets l i) (part-over l i n (omega arith)))

-- what `copy_within` leaves
pub moved-part : (l : List ℕ) (i n j : ℕ) → j ≤ i → i ≤ n → n ≤ length l → copy_within l i n j ≡ sets l j (drop i (take n l))
moved-part l i n j h k m =
    let part = drop-take i n l in
    let long : length (take (n - i) (drop i l)) ≡ n - i = length-take-le (n - i) (drop i l) (omega (arith, length-drop i l)) in
    sym (ap (sets l j) part ∙ sets-eq (take (n - i) (drop i l)) l j (omega (arith, long))
    ∙ ap (λ (m : ℕ). take j l ++ take (n - i) (drop i l) ++ drop (j + m) l) long)

-- the run, where its length is known
module _ (l : List ℕ) (from : ℕ) {k : ℕ} (e : k ≡ length (run (take (length l - from) (drop from l)))) where
  run-long : k ≡ length (run (drop from l))
  run-long = e ∙ ap (λ (x : List ℕ). length (run x)) (tail-is from l)

  pub run-within : from ≤ length l → from + k ≤ length l
  run-within h = omega (arith, run-long, up-to-short 0x7D (drop from l), length-drop from l)

  run-part : drop from (take (from + k) l) ≡ run (drop from l)
  run-part =
      let j : from + k - from ≡ k = omega arith in
      drop-take from (from + k) l ∙ ap (λ (m : ℕ). take m (drop from l)) (j ∙ run-long) ∙ sym (up-to-is 0x7D (drop from l))

  pub run_moved : (to : ℕ) {after : List ℕ} → after ≡ sets l to (drop from (take (from + k) l)) → Laid l to (run (drop from l)) after (to + k)
  run_moved to s = record { ends = ap (λ (m : ℕ). to + m) run-long; holds = s ∙ ap (sets l to) run-part }

-- ---- handing over
-- stores before a place leave what is left
part-sets : (l bs : List ℕ) (i j : ℕ) → j + length bs ≤ i → drop i (sets l j bs) ≡ drop i l
part-sets l [] i j h = refl
part-sets l (b ∷ bs) i j h = part-sets (set l j b) bs i (suc j) (omega arith) ∙ drop-set-lt i l j b (omega arith)

pub found-is : (l : List ℕ) (at : ℕ) {k : ℕ} → k ≡ length (run (take (length l - at) (drop at l))) → at + k ≡ at + length (run (drop at l))
found-is l at e = ap (λ (k : ℕ). at + k) (e ∙ ap (λ (x : List ℕ). length (run x)) (tail-is at l))

module _ (l : List ℕ) (at : ℕ) {i : ℕ} (e : i ≡ at + length (run (drop at l))) where
  pub scan-ends : i ≡ length l → 0 ≡ wrong_from 0 at (drop at l)
  scan-ends h = sym (wrong-all (drop at l) 0 at (λ z. absurd (omega (arith, z))) (omega (arith, length-drop at l)))

  pub scan-hands : i < length l → wrong_from 0x7D (i + 1) (drop (i + 1) l) ≡ wrong_from 0 at (drop at l)
  scan-hands h =
      (λ j. wrong_from 0x7D (place j) (here j)) ∙ sym (wrong-run (drop at l) 0 at (λ z. absurd (omega (arith, z))) (omega (arith, length-drop at l)))
    where
      place : i + 1 ≡ at + suc (length (run (drop at l)))
      place = omega arith

      here : drop (i + 1) l ≡ drop (suc (length (run (drop at l)))) (drop at l)
      here = let k : i + 1 ≡ at + suc (length (run (drop at l))) = omega arith in rw k (sym (drop-drop (suc (length (run (drop at l)))) at l))

module _ (l m : List ℕ) (from to k : ℕ) (h : Laid l to (run (drop from l)) m (to + k)) where
  moved_length : k ≡ length (run (drop from l))
  moved_length = omega arith

  pub moved-within : from ≤ length l → from + k ≤ length l
  moved-within u = omega (arith, moved_length, length-drop from l, up-to-short 0x7D (drop from l))

  pub undo-ends : from + k ≡ length l → Laid l to (plain (drop from l)) m (to + k)
  undo-ends e = rw (plain-all (drop from l) (omega (arith, moved_length, length-drop from l))) h

  pub undo-hands : {after : List ℕ} {end : ℕ} → from + k < length l → to ≤ from
      → Laid m (to + k) (escaped (drop (from + k + 1) m)) after end → Laid l to (plain (drop from l)) after end
  undo-hands u v p = rw (plain-run (drop from l) (omega (arith, moved_length, length-drop from l))) (laid-append h (rw here at p))
    where
      here : drop (from + k + 1) m ≡ drop (suc (length (run (drop from l)))) (drop from l)
      here =
          let e : from + k + 1 ≡ from + suc (length (run (drop from l))) = omega (arith, moved_length) in
          ap (λ (x : List ℕ). drop (from + k + 1) x) h.holds
          ∙ part-sets l (run (drop from l)) (from + k + 1) to (omega (arith, moved_length))
          ∙ ap (λ (x : ℕ). drop x l) e
          ∙ sym (drop-drop (suc (length (run (drop from l)))) from l)

-- a part from the start on was lent, and stored into from its start on
module _ (l : List ℕ) (n : ℕ) {bs after : List ℕ} {end : ℕ} (h : Laid (take n l) 0 bs after end) (room : length bs ≤ length (take n l)) where
  pub lent-start : after ++ drop n l ≡ bs ++ drop (length bs) l
  lent-start =
      ap (λ (x : List ℕ). x ++ drop n l) (laid-start h room)
      ∙ append_assoc bs (drop (length bs) (take n l)) (drop n l)
      ∙ ap (λ (x : List ℕ). bs ++ x)
      (sym (drop-append-le (length bs) (take n l) (drop n l) room) ∙ ap (drop (length bs)) (take-append-drop n l))

  pub lent-take : take end (after ++ drop n l) ≡ bs
  lent-take = ap (take end) lent-start ∙ take_at bs (drop (length bs) l) end (omega (arith, h.ends))

  pub lent-within : end ≤ length (after ++ drop n l)
  lent-within = omega (arith, h.ends, ap length lent-start, length-append bs (drop (length bs) l))

-- ---- the last byte, and places told
pub last-is : (l : List ℕ) (o : Option (Bor ℕ)) (x : Bor ℕ) → option_copied o ≡ slice_get l (length l - 1) → x.now ≡ 0x7D
    → option_eq (λ (y z : Bor ℕ). eqb y.now z.now) o (Some x) ≡ eqb (last 0 l) 0x7D
unfolding last
last-is [] None x e h = refl
last-is (b ∷ l) None x e h =
    absurd (let z = e ∙ slice_get-get_or (b ∷ l) (length (b ∷ l) - 1) 0 (omega arith) in cc)
last-is l (Some y) x e h =
    let w = slice_get_within l (length l - 1) y.now (sym e) in
    ap₂ (λ (m n : ℕ). eqb m n) (sym (get_or_from_slice_get l (length l - 1) y.now 0 (sym e)) ∙ sym (last-at 0 l (omega (arith, w)))) h

-- a right byte behind 7D is passed ..
pub told-right : (l : List ℕ) (at : ℕ) → at < length l → right (get_or l at 0) ≡ true → get_or l at 0 ≢ 0x7D
    → wrong_from 0 (at + 1) (drop (at + 1) l) ≡ wrong_from 0x7D at (drop at l)
unfolding wrong_from
told-right l at h r n = rw (next l at h) (simp r (wrong-plain (drop (at + 1) l) (get_or l at 0) at n))

-- .. and a wrong one is told
pub told-wrong : (l : List ℕ) (at : ℕ) → at < length l → right (get_or l at 0) ≡ false → at ≡ wrong_from 0x7D at (drop at l)
unfolding wrong_from
told-wrong l at h r = rw (next l at h) (simp r)
