-- A bit of a unit, by its place: as the code has it.
-- unit-before, unit-heading, unit-between, unit-behind   a bit before, of, between and behind the header bits
-- header_at                                              a header bit, by its number
-- Held, Onward                                           what the code has found: the parts fit; the bit is not before the header
-- held-of, onward-of                                     .. from its facts
-- bit-before, bit-heading, bit-between, bit-behind       the same of the payload that is laid out
-- step-some, heading-fits                                what the code reckons with is not below 0
-- length-bits-unit                                       there are eight to a byte
-- spread_none, spread-more, spread-done, byte-within     the loop over the bytes
use mathlib.Core.Path.{◌≡◌, refl, sym, ap, ap₂, subst, ◌∙◌}
use mathlib.Core.Bool.{false}
use mathlib.Core.List.{List, [], ◌∷◌, ◌++◌}
use Prim.Native.Nat.{ℕ, zero, suc, ◌+◌, ◌-◌, ◌*◌, ◌/◌, ◌%◌, ◌≤◌, ◌<◌}
use native.Mathlib.Nat.{mod-add-div', le-mul_of_pos_right, pos_of_ne-zero, add-sub_cancel_left, mul-div_cancel, mul-mod_left}
use native.Mathlib.Numerals.{add-one}
use native.Mathlib.Omega.{arith}
use lib.ListN.{length, take, drop, get_or, set, drop_of_length-le}
use lib.Seq.{get_or-take, drop-drop, drop-cons, set_at, append_snoc}
use Rattle.std.proofs.lemmas.List.{append-nil}
use Rattle.unit_spec.specs.Bits.{digits, bits, number, pack}
use Rattle.unit_spec.specs.Tables.{heads, start, step, payload, lent, unfit}
use Rattle.unit_spec.specs.Unit.{weave, filled, laid_out, unit_bits, unit}
use Rattle.unit_spec.proofs.Bits.{length-weave, length-pack}
use Rattle.unit_spec.proofs.Rows.{accepted, few}
use Rattle.unit.proofs.Contents.{length-laid}
use Rattle.unit.proofs.Digits.{zeros-at}
use Rattle.unit.proofs.Woven.{At, before, placed}
use Rattle.unit_spec.proofs.Carrying.{hs, ps, room, length-hs, length-ps, holds, woven}

module _ (l cw : ℕ) (p : List ℕ) (k : 0 < step l) (e : length p ≡ payload l) where
  length-bits-unit : length (unit_bits l cw p) ≡ lent l * 8
  unfolding unit_bits
  length-bits-unit = length-weave (start l) (step l - 1) (hs l cw p k e) (ps l cw p k e) ∙ omega (arith, length-hs l cw p k e, length-ps l cw p k e, holds l k)

  module _ (i : ℕ) where
    padded : (t : ℕ) → get_or (bits p) t 0 ≡ get_or (ps l cw p k e) t 0
    padded t = sym (zeros-at (bits p) (lent l * 8 - heads l - length p * 8) t)

    unit-before : i < start l → get_or (bits p) i 0 ≡ get_or (unit_bits l cw p) i 0
    unfolding unit_bits
    unit-before h = padded i ∙ before (start l) (step l - 1) (hs l cw p k e) (ps l cw p k e) i (room l cw p k e) h

    module _ (h : start l ≤ i) where
      there : At (start l) (step l - 1) (step l) (hs l cw p k e) (ps l cw p k e) (i - start l)
      there = placed (start l) (step l - 1) (step l) (hs l cw p k e) (ps l cw p k e) (i - start l) (room l cw p k e) (omega arith)

      here : start l + (i - start l) ≡ i
      here = omega arith

      is : get_or (weave (start l) (step l - 1) (hs l cw p k e) (ps l cw p k e)) (start l + (i - start l)) 0 ≡ get_or (unit_bits l cw p) i 0
      unfolding unit_bits
      is = ap (λ (j : ℕ). get_or (weave (start l) (step l - 1) (hs l cw p k e) (ps l cw p k e)) j 0) here

      unit-behind : heads l ≤ (i - start l) / step l → get_or (bits p) (i - heads l) 0 ≡ get_or (unit_bits l cw p) i 0
      unit-behind q =
          let f : i - heads l ≡ start l + (i - start l) - length (hs l cw p k e) = omega (arith, length-hs l cw p k e) in
          padded (i - heads l) ∙ ap (λ (j : ℕ). get_or (ps l cw p k e) j 0) f ∙ there.behind (omega (arith, length-hs l cw p k e)) ∙ is

      module _ (q : (i - start l) / step l < heads l) where
        unit-heading : (i - start l) % step l ≡ 0 → get_or (digits 24 cw) ((i - start l) / step l) 0 ≡ get_or (unit_bits l cw p) i 0
        unit-heading m = sym (get_or-take (heads l) (digits 24 cw) ((i - start l) / step l) 0 q) ∙ there.heading (omega (arith, length-hs l cw p k e)) m ∙ is

        unit-between : ((i - start l) % step l ≡ 0 → ⊥) → get_or (bits p) (i - ((i - start l) / step l + 1)) 0 ≡ get_or (unit_bits l cw p) i 0
        unit-between m =
            padded (i - ((i - start l) / step l + 1)) ∙ ap (λ (j : ℕ). get_or (ps l cw p k e) (j - ((i - start l) / step l + 1)) 0) (sym here)
            ∙ there.between (omega (arith, length-hs l cw p k e)) m ∙ is

  -- header bit i of a unit's bytes
  pub header_at : (i : ℕ) → i < heads l → get_or (bits (unit l cw p)) (start l + i * step l) 0 ≡ get_or (digits 24 cw) i 0
  unfolding unit_bits
  header_at i h =
      let d : start l + i * step l - start l ≡ i * step l = add-sub_cancel_left (start l) (i * step l) in
      let q : (start l + i * step l - start l) / step l ≡ i = ap (λ (x : ℕ). x / step l) d ∙ mul-div_cancel i k in
      ap (λ (u : List ℕ). get_or u (start l + i * step l) 0) (woven l cw p k e)
      ∙ sym (unit-heading (start l + i * step l) (omega arith) (subst (λ (x : ℕ). x < heads l) (sym q) h)
      (ap (λ (x : ℕ). x % step l) d ∙ mul-mod_left i (step l)))
      ∙ ap (λ (x : ℕ). get_or (digits 24 cw) x 0) q

-- ---- as the code has it, with what it has of the tables
under : (x s : ℕ) → 0 < s → (x % s ≡ 0 → ⊥) → x / s + 1 ≤ x
under x s h n =
    let a : x % s + x / s * s ≡ x = mod-add-div' x s in
    let b : x / s ≤ x / s * s = le-mul_of_pos_right (x / s) h in
    let c : 0 < x % s = pos_of_ne-zero n in
    omega arith

-- a unit of l bits holds its parts; its payload has n bytes, and its header begins behind `first` bits
pub record Held (l cw : ℕ) (d audio opp fixed : List ℕ) (i n first : ℕ) : Type 0 where
  pub fit : unfit l ≡ false
  pub fill : filled d audio opp fixed ≤ payload l
  pub all : n ≡ payload l
  pub begin : first ≡ start l

-- bit i is not before the m header bits, which are s bits apart
pub record Onward (l cw : ℕ) (d audio opp fixed : List ℕ) (i n first s m : ℕ) : Type 0 where
  pub on : Held l cw d audio opp fixed i n first
  pub past : first ≤ i
  pub apart : s ≡ step l
  pub many : m ≡ heads l

module _ {l cw : ℕ} {d audio opp fixed : List ℕ} {i n first : ℕ} where
  pub held-of : unfit l ≡ false → filled d audio opp fixed ≤ n → n ≡ payload l → first ≡ start l → Held l cw d audio opp fixed i n first
  held-of fit fill all begin = record { fit = fit; fill = omega arith; all = all; begin = begin }

  pub onward-of : {s m : ℕ} → Held l cw d audio opp fixed i n first → first ≤ i → s ≡ step l → m ≡ heads l
      → Onward l cw d audio opp fixed i n first s m
  onward-of on past apart many = record { on = on; past = past; apart = apart; many = many }

  module _ (k : Held l cw d audio opp fixed i n first) where
    -- the payload
    abbrev laid : List ℕ
    laid = laid_out (payload l) d audio opp fixed

    some : 0 < step l
    some = (accepted l k.fit).1

    length-of : length laid ≡ payload l
    length-of = length-laid (payload l) d audio opp fixed k.fill

    same : (t : ℕ) → get_or (bits (laid_out n d audio opp fixed)) t 0 ≡ get_or (bits laid) t 0
    same t = ap (λ (m : ℕ). get_or (bits (laid_out m d audio opp fixed)) t 0) k.all

    pub bit-before : i < first → get_or (bits (laid_out n d audio opp fixed)) i 0 ≡ get_or (unit_bits l cw (laid_out (payload l) d audio opp fixed)) i 0
    bit-before h = same i ∙ unit-before l cw laid some length-of i (omega (arith, k.begin))

  module _ {s m : ℕ} (k : Onward l cw d audio opp fixed i n first s m) where
    abbrev body : List ℕ
    body = laid_out (payload l) d audio opp fixed

    from_start : start l ≤ i
    from_start = omega (arith, k.past, k.on.begin)

    is-place : (i - first) / s ≡ (i - start l) / step l
    is-place = ap₂ (λ (x y : ℕ). (i - x) / y) k.on.begin k.apart

    is-rest : (i - first) % s ≡ (i - start l) % step l
    is-rest = ap₂ (λ (x y : ℕ). (i - x) % y) k.on.begin k.apart

    pub step-some : 0 < s
    step-some = omega (arith, k.apart, some k.on)

    pub bit-behind : m ≤ (i - first) / s → get_or (bits (laid_out n d audio opp fixed)) (i - m) 0 ≡ get_or (unit_bits l cw body) i 0
    bit-behind q =
        same k.on (i - m) ∙ ap (λ (x : ℕ). get_or (bits body) (i - x) 0) k.many
        ∙ unit-behind l cw body (some k.on) (length-of k.on) i from_start (omega (arith, is-place, k.many))

    module _ (q : (i - first) / s < m) where
      few-before : (i - start l) / step l < heads l
      few-before = omega (arith, is-place, k.many)

      pub heading-fits : (i - first) / s < 24
      heading-fits = omega (arith, (few l).1, k.many)

      pub bit-heading : (i - first) % s ≡ 0 → get_or (digits 24 cw) ((i - first) / s) 0 ≡ get_or (unit_bits l cw body) i 0
      bit-heading r =
          ap (λ (x : ℕ). get_or (digits 24 cw) x 0) is-place
          ∙ unit-heading l cw body (some k.on) (length-of k.on) i from_start few-before (sym is-rest ∙ r)

      pub bit-between : ((i - first) % s ≡ 0 → ⊥)
          → get_or (bits (laid_out n d audio opp fixed)) (i - ((i - first) / s + 1)) 0 ≡ get_or (unit_bits l cw body) i 0
      bit-between r =
          same k.on (i - ((i - first) / s + 1)) ∙ ap (λ (x : ℕ). get_or (bits body) (i - (x + 1)) 0) is-place
          ∙ unit-between l cw body (some k.on) (length-of k.on) i from_start few-before (λ e. r (is-rest ∙ e))

-- ---- the bytes of a unit, one more
pack-more : (n : ℕ) (u : List ℕ) → pack (suc n) u ≡ pack n u ++ number 0 (take 8 (drop (n * 8) u)) ∷ []
unfolding pack
pack-more zero u = refl
pack-more (suc n) u =
    let e : 8 + n * 8 ≡ suc n * 8 = omega arith in
    ap (λ (l : List ℕ). number 0 (take 8 u) ∷ l) (pack-more n (drop 8 u)
    ∙ ap (λ (l : List ℕ). pack n (drop 8 u) ++ number 0 (take 8 l) ∷ []) (drop-drop (n * 8) 8 u ∙ ap (λ (k : ℕ). drop k u) e))

pub spread_none : (u out : List ℕ) → out ≡ pack 0 u ++ drop 0 out
unfolding pack
spread_none u out = refl

pub spread-more : (u out₀ out : List ℕ) (j v : ℕ) → out ≡ pack j u ++ drop j out₀ → v ≡ number 0 (take 8 (drop (j * 8) u)) → j < length out₀
    → set out j v ≡ pack (j + 1) u ++ drop (j + 1) out₀
spread-more u out₀ out j v e w h =
    rw (add-one j, w, e)
    (ap (λ (l : List ℕ). set (pack j u ++ l) j (number 0 (take 8 (drop (j * 8) u)))) (drop-cons out₀ j 0 h)
    ∙ set_at (pack j u) (get_or out₀ j 0) (drop (suc j) out₀) (number 0 (take 8 (drop (j * 8) u))) j (length-pack j u)
    ∙ sym (ap (λ (l : List ℕ). l ++ drop (suc j) out₀) (pack-more j u) ∙ append_snoc (pack j u) (number 0 (take 8 (drop (j * 8) u))) (drop (suc j) out₀)))

pub spread-done : (l cw : ℕ) (p out₀ out : List ℕ) (j : ℕ) → out ≡ pack j (unit_bits l cw p) ++ drop j out₀ → j ≡ length out₀ → length out₀ ≡ lent l
    → out ≡ unit l cw p
unfolding unit
spread-done l cw p out₀ out j e f g =
    e ∙ ap₂ (λ (k : ℕ) (o : List ℕ). pack k (unit_bits l cw p) ++ o) (f ∙ g) (drop_of_length-le out₀ {i = j} (omega arith))
    ∙ append-nil (pack (lent l) (unit_bits l cw p))

pub byte-within : (l cw : ℕ) (d audio opp fixed : List ℕ) (j : ℕ) → unfit l ≡ false → filled d audio opp fixed ≤ payload l → j < lent l
    → j * 8 + 8 ≤ length (unit_bits l cw (laid_out (payload l) d audio opp fixed))
byte-within l cw d audio opp fixed j fit fill h =
    omega (arith, length-bits-unit l cw (laid_out (payload l) d audio opp fixed) (accepted l fit).1 (length-laid (payload l) d audio opp fixed fill))
