-- What the reader's code finds, as the definitions have it.
-- reach                                     the header bits of an accepted length stand within its bits
-- Lent, Onward                              what the code has found: a whole unit; the bit is not before the header
-- lent-of, onward-of                        .. from its facts
-- heads-few, step-some                      how many there are, and that they stand apart
-- payload-low                               the numbers of an accepted length are low enough to reckon with
-- payload-before, payload-once, payload-gap   a payload bit
-- byte-reach, byte_of                       a payload byte
-- SoFar, hear-none, hear-more, hear-done    the loop that reads the header; low, at_low: its numbers
-- named-24, named-23, named-22, named-is    the sequence named
-- some-bits, code-one                       what a sequence's number tells of it
use mathlib.Core.Path.{◌≡◌, refl, sym, ap, ap₂, subst, ◌∙◌}
use mathlib.Core.Bool.{Bool, true, false}
use mathlib.Core.List.{List}
use Prim.Native.Nat.{ℕ, zero, suc, ◌+◌, ◌-◌, ◌*◌, ◌/◌, ◌^◌, ◌≤◌, ◌<◌, min}
use native.Mathlib.Nat.{pow-succ', pow-le-pow_right, mul-suc, sub-zero, pos_of_ne-zero}
use native.Mathlib.Numerals.{add-one}
use native.Mathlib.Omega.{arith}
use lib.Dec.{eqb}
use lib.ListN.{length, take, drop, get_or}
use lib.Seq.{drop-drop}
use Rattle.std.specs.Prelude.{Option, None, Some, cond, find}
use Rattle.base.specs.Choice.{pick}
use Rattle.base.proofs.Tests.{by_le}
use Rattle.unit_spec.specs.Bits.{digits, bits, number, pack}
use Rattle.unit_spec.specs.Tables.{cw0, cw1, cw2, cw3, cw4, heads, start, step, payload, lent, unfit}
use Rattle.unit_spec.specs.Reading.{heard, unwoven, header_of, payload_of, is_header, named}
use Rattle.unit_spec.proofs.Bits.{length-bits}
use Rattle.unit_spec.proofs.Rows.{by_row, accepted, few, fits}
use Rattle.unit_spec.proofs.Carrying.{holds, spans}
use Rattle.unit.specs.Private.{bits_of, code, headers, begun}
use Rattle.unit.specs.declared.table.Header.{Header}
use Rattle.unit.specs.declared.table.Header.TheVariants as header
use Rattle.unit.proofs.Unwoven.{Reach, reaches, at-start, at_once, at_gap, length-unwoven, heard-from, heard-next}

-- within l bits
turn : (s n t l : ℕ) → 0 < t → 0 < n → s + (n - 1) * (t - 1) + n ≤ l → s + (n - 1) * suc (t - 1) < l
turn s n t l h k f = rw (mul-suc (n - 1) (t - 1)) (omega arith)

reach : (l : ℕ) (u : List ℕ) → unfit l ≡ false → lent l ≤ length u → Reach (start l) (step l - 1) (heads l) (length (bits u))
reach l u fit h =
    let k = (accepted l fit).1 in
    let e : suc (heads l - 1) ≡ heads l = omega (arith, (few l).0) in
    rw (← e) (reaches (start l) (step l - 1) (heads l - 1) (length (bits u))
    (omega (arith, turn (start l) (heads l) (step l) l k (omega (arith, (few l).0)) (fits l k), spans l k, length-bits u)))

-- u has a whole unit of l bits, whose header begins behind `first` bits; t is a bit of its payload
pub record Lent (l : ℕ) (u : List ℕ) (t first : ℕ) : Type 0 where
  pub fit : unfit l ≡ false
  pub long : lent l ≤ length u
  pub begin : first ≡ start l

-- bit t is not before the n header bits, which are s bits apart
pub record Onward (l : ℕ) (u : List ℕ) (t first n s : ℕ) : Type 0 where
  pub on : Lent l u t first
  pub past : first ≤ t
  pub many : n ≡ heads l
  pub apart : s ≡ step l

module _ {l : ℕ} {u : List ℕ} {t first : ℕ} where
  pub lent-of : unfit l ≡ false → lent l ≤ length u → first ≡ start l → Lent l u t first
  lent-of fit long begin = record { fit = fit; long = long; begin = begin }

  pub onward-of : {n s : ℕ} → Lent l u t first → first ≤ t → n ≡ heads l → s ≡ step l → Onward l u t first n s
  onward-of on past many apart = record { on = on; past = past; many = many; apart = apart }

  pub payload-before : Lent l u t first → t < first → get_or (bits u) t 0 ≡ get_or (unwoven (start l) (step l - 1) (heads l) (bits u)) t 0
  payload-before k h = sym (at-start (start l) (step l - 1) (heads l) (bits u) t (reach l u k.fit k.long) (omega (arith, k.begin)))

  module _ {n s : ℕ} (k : Onward l u t first n s) where
    is : start l + (t - start l) ≡ t
    is = omega (arith, k.past, k.on.begin)

    reached : Reach (start l) (step l - 1) (heads l) (length (bits u))
    reached = reach l u k.on.fit k.on.long

    pub heads-few : n ≤ 24
    heads-few = omega (arith, (few l).1, k.many)

    pub step-some : 1 ≤ s
    step-some = omega (arith, (accepted l k.on.fit).1, k.apart)

    pub payload-once : s - 1 ≡ 0 → get_or (bits u) (t + n) 0 ≡ get_or (unwoven (start l) (step l - 1) (heads l) (bits u)) t 0
    payload-once z =
        let g : step l - 1 ≡ 0 = ap (λ (x : ℕ). x - 1) (sym k.apart) ∙ z in
        let r : Reach (start l) 0 (heads l) (length (bits u)) = rw g at reached in
        let i : t + n ≡ start l + (t - start l) + heads l = omega (arith, is, k.many) in
        ap (λ (x : ℕ). get_or (bits u) x 0) i ∙ sym (at_once (start l) (heads l) (bits u) (t - start l) r)
        ∙ ap₂ (λ (x y : ℕ). get_or (unwoven (start l) x (heads l) (bits u)) y 0) (sym g) is

    pub payload-gap : (s - 1 ≡ 0 → ⊥) → {m : ℕ} → m ≡ min n ((t - first) / (s - 1) + 1)
        → get_or (bits u) (t + m) 0 ≡ get_or (unwoven (start l) (step l - 1) (heads l) (bits u)) t 0
    payload-gap z {m} em =
        let g : s - 1 ≡ step l - 1 = ap (λ (x : ℕ). x - 1) k.apart in
        let p : 0 < step l - 1 = pos_of_ne-zero (λ e. z (g ∙ e)) in
        let f : m ≡ min (heads l) ((t - start l) / (step l - 1) + 1) =
        em ∙ ap₂ (λ (x y : ℕ). min x (y + 1)) k.many (ap₂ (λ (x y : ℕ). (t - x) / y) k.on.begin g) in
        let i : t + m ≡ start l + (t - start l) + min (heads l) ((t - start l) / (step l - 1) + 1) = ap₂ ◌+◌ (sym is) f in
        ap (λ (x : ℕ). get_or (bits u) x 0) i ∙ sym (at_gap (step l - 1) p (start l) (heads l) (bits u) (t - start l) reached)
        ∙ ap (λ (y : ℕ). get_or (unwoven (start l) (step l - 1) (heads l) (bits u)) y 0) is

pack-at : (n : ℕ) (u : List ℕ) (j : ℕ) → j < n → number 0 (take 8 (drop (j * 8) u)) ≡ get_or (pack n u) j 0
unfolding pack
pack-at zero u j h = absurd (omega arith)
pack-at (suc n) u zero h = refl
pack-at (suc n) u (suc j) h =
    let e : suc j * 8 ≡ 8 + j * 8 = omega arith in
    ap (λ (i : ℕ). number 0 (take 8 (drop i u))) e ∙ sym (ap (λ (x : List ℕ). number 0 (take 8 x)) (drop-drop (j * 8) 8 u))
    ∙ pack-at n (drop 8 u) j (omega arith)

module _ (l : ℕ) (u : List ℕ) (j : ℕ) (fit : unfit l ≡ false) (h : lent l ≤ length u) (k : j < payload l) where
  pub byte-reach : j * 8 + 8 ≤ length (unwoven (start l) (step l - 1) (heads l) (bits u))
  byte-reach = omega (arith, length-unwoven (start l) (step l - 1) (heads l) (bits u) (reach l u fit h), length-bits u, holds l (accepted l fit).1)

  pub byte_of : number 0 (take 8 (drop (j * 8) (unwoven (start l) (step l - 1) (heads l) (bits u)))) ≡ get_or (payload_of l u) j 0
  unfolding payload_of
  byte_of = pack-at (payload l) (unwoven (start l) (step l - 1) (heads l) (bits u)) j k

pub payload-low : (l : ℕ) → unfit l ≡ false → payload l < 18272
unfolding payload
payload-low l fit = omega (arith, (accepted l fit).0, (few l).0)

-- ---- the header
table-low : (l : ℕ) → unfit l ≡ false → (step l ≤ 146176) × (start l ≤ 146176)
table-low l fit =
    let b = (accepted l fit).0 in
    by_row (λ h s t. (t ≤ 146176) × (s ≤ 146176)) l (λ _ _. (omega arith, omega arith)) (λ _ _. (omega arith, omega arith))
    (λ _ _ _. (omega arith, omega arith))
    (λ _ _. (omega arith, omega arith)) (λ _ _. (omega arith, omega arith)) (λ _ _ _. (omega arith, omega arith))

-- what is heard so far, and what is left
pub record SoFar (l : ℕ) (u : List ℕ) (n at v k : ℕ) : Type 0 where
  some : k ≤ n
  small : v < 2 ^ k
  near : at ≤ 146176 * (k + 1)
  left : number v (heard 0 (step l - 1) (n - k) (drop at (bits u))) ≡ header_of l u

pub hear-none : (l : ℕ) (u : List ℕ) {n at : ℕ} → unfit l ≡ false → n ≡ heads l → at ≡ start l → SoFar l u n at 0 0
unfolding header_of
hear-none l u {n} {at} fit en ea = record {
  some = omega arith;
  small = omega arith;
  near = omega (arith, (table-low l fit).1);
  left =
      ap₂ (λ (x y : ℕ). number 0 (heard 0 (step l - 1) x (drop y (bits u)))) (sub-zero n ∙ en) ea
      ∙ sym (ap (number 0) (heard-from (start l) (step l - 1) (heads l) (bits u)));
}

pow_low : (k : ℕ) → k < 24 → 2 ^ k ≤ 8388608
pow_low k h = pow-le-pow_right {n = 2} (omega arith) {i = k} {j = 23} (omega arith)

module _ (l : ℕ) (u : List ℕ) {n at v k : ℕ} (fit : unfit l ≡ false) (en : n ≡ heads l) (w : SoFar l u n at v k) (h : k < n) where
  pub low : v < 8388608
  low = omega (arith, w.small, pow_low k (omega (arith, (few l).1)))

  pub at_low : at ≤ 3654400
  at_low = omega (arith, w.near, (few l).1)

  pub hear-more : {s b v' at' : ℕ} → s ≡ step l → at' ≡ at + s → b ≡ get_or (bits u) at 0 → b < 2 → v' ≡ v * 2 + b → SoFar l u n at' v' (k + 1)
  unfolding number
  hear-more {s} {b} {v'} {at'} es ea eb hb ev =
      let p : 2 ^ (k + 1) ≡ 2 * 2 ^ k = ap (λ (x : ℕ). 2 ^ x) (add-one k) ∙ pow-succ' 2 k in
      let m : n - k ≡ suc (n - (k + 1)) = omega arith in
      let g : suc (step l - 1) ≡ step l = omega (arith, (accepted l fit).1) in
      record {
        some = omega arith;
        small = omega (arith, w.small);
        near = omega (arith, ea, es, w.near, (table-low l fit).0);
        left =
            ap₂ (λ (x y : ℕ). number x (heard 0 (step l - 1) (n - (k + 1)) (drop y (bits u)))) (ev ∙ ap (λ (x : ℕ). v * 2 + x) eb)
            (ea ∙ ap (λ (y : ℕ). at + y) (es ∙ sym g))
            ∙ sym (ap (number v) (ap (λ (x : ℕ). heard 0 (step l - 1) x (drop at (bits u))) m ∙ heard-next at (step l - 1) (n - (k + 1)) (bits u))) ∙ w.left;
      }

pub hear-done : (l : ℕ) (u : List ℕ) {n at v k : ℕ} → SoFar l u n at v k → n ≤ k → v ≡ header_of l u
unfolding number heard
hear-done l u {n} {at} {v} {k} w h =
    let m : n - k ≡ 0 = omega arith in
    ap (λ (x : ℕ). number v (heard 0 (step l - 1) x (drop at (bits u)))) (sym m) ∙ w.left

-- ---- the sequence
module _ (h : ℕ) where
  pub named-24 : pick (eqb h cw0) cw0 (pick (eqb h cw1) cw1
      (pick (eqb h cw2) cw2 (pick (eqb h cw3) cw3 (pick (eqb h cw4) cw4 0)))) ≡ named 24 h
  unfolding named is_header number digits
  named-24 = refl

  pub named-23 : pick (eqb h (cw0 / 2)) cw0 (pick (eqb h (cw1 / 2)) cw1
      (pick (eqb h (cw2 / 2)) cw2 (pick (eqb h (cw3 / 2)) cw3 (pick (eqb h (cw4 / 2)) cw4 0)))) ≡ named 23 h
  unfolding named is_header number digits
  named-23 = refl

  pub named-22 : pick (eqb h (cw0 / 4)) cw0 (pick (eqb h (cw1 / 4)) cw1
      (pick (eqb h (cw2 / 4)) cw2 (pick (eqb h (cw3 / 4)) cw3 (pick (eqb h (cw4 / 4)) cw4 0)))) ≡ named 22 h
  unfolding named is_header number digits
  named-22 = refl

found : (a b c d e : Bool)
    → code (cond a (Some header.Cw0) (cond b (Some header.Cw1) (cond c (Some header.Cw2) (cond d (Some header.Cw3) (cond e (Some header.Cw4) None)))))
    ≡ pick a cw0 (pick b cw1 (pick c cw2 (pick d cw3 (pick e cw4 0))))
found true b c d e = refl
found false true c d e = refl
found false false true d e = refl
found false false false true e = refl
found false false false false true = refl
found false false false false false = refl

one-of : (P : ℕ → Type 0) (n : ℕ) → 22 ≤ n → n ≤ 24 → P 24 → P 23 → P 22 → P n
one-of P n lo hi a b c =
    by_le n 22 (λ h. let e : 22 ≡ n = omega arith in subst P e c)
    (λ h. by_le n 23 (λ k. let e : 23 ≡ n = omega arith in subst P e b) (λ k. let e : 24 ≡ n = omega arith in subst P e a))

pub named-is : (n h : ℕ) → 22 ≤ n → n ≤ 24 → code (find (begun (24 - n) h) headers) ≡ named n h
named-is n h lo hi =
    one-of (λ (m : ℕ). code (find (begun (24 - m) h) headers) ≡ named m h) n lo hi
    (found (eqb h cw0) (eqb h cw1) (eqb h cw2) (eqb h cw3) (eqb h cw4) ∙ named-24 h)
    (found (eqb h (cw0 / 2)) (eqb h (cw1 / 2)) (eqb h (cw2 / 2)) (eqb h (cw3 / 2)) (eqb h (cw4 / 2)) ∙ named-23 h)
    (found (eqb h (cw0 / 4)) (eqb h (cw1 / 4)) (eqb h (cw2 / 4)) (eqb h (cw3 / 4)) (eqb h (cw4 / 4)) ∙ named-22 h)

-- a sequence is its 24 bits, none of them no bits
pub some-bits : (h : Header) → bits_of h ≡ 0 → ⊥
some-bits header.Cw0 e = omega arith
some-bits header.Cw1 e = omega arith
some-bits header.Cw2 e = omega arith
some-bits header.Cw3 e = omega arith
some-bits header.Cw4 e = omega arith

decoded : ℕ → Option Header
decoded n =
    pick (eqb n cw0) (Some header.Cw0)
    (pick (eqb n cw1) (Some header.Cw1)
    (pick (eqb n cw2) (Some header.Cw2) (pick (eqb n cw3) (Some header.Cw3) (pick (eqb n cw4) (Some header.Cw4) None))))

decodes : (o : Option Header) → decoded (code o) ≡ o
unfolding decoded
decodes None = refl
decodes (Some header.Cw0) = refl
decodes (Some header.Cw1) = refl
decodes (Some header.Cw2) = refl
decodes (Some header.Cw3) = refl
decodes (Some header.Cw4) = refl

pub code-one : (a b : Option Header) → code a ≡ code b → a ≡ b
code-one a b e = sym (decodes a) ∙ ap decoded e ∙ decodes b
