-- Lists of bits.
-- length_digits, length-bits, length-pack, length-weave   how long they are
-- IsBit, each-digits, each_bits, each_weave               each of them is 0 or 1
-- bits-pack                                               bits as bytes, and as bits again
use mathlib.Core.Path.{◌≡◌, refl, sym, ap, ap₂, ◌∙◌}
use mathlib.Core.List.{List, [], ◌∷◌, ◌++◌, append-nil}
use Prim.Native.Nat.{ℕ, zero, suc, ◌+◌, ◌*◌, ◌/◌, ◌%◌, ◌<◌}
use native.Mathlib.Numerals.{add-one}
use native.Mathlib.Omega.{arith}
use lib.ListN.{length, take, drop, length-append, length-drop, take-append-drop}
use lib.Seq.{length-take-le, append_snoc}
use Rattle.base.specs.Bytes.{Each}
use Rattle.base.proofs.Bytes.{each_append, each_take, each-drop}
use Rattle.unit_spec.specs.Bits.{digits, bits, number, pack}
use Rattle.unit_spec.specs.Unit.{weave}

-- a bit
abbrev pub IsBit : ℕ → Type 0
IsBit b = b < 2

pub length_digits : (n v : ℕ) → length (digits n v) ≡ n
unfolding digits
length_digits zero v = refl
length_digits (suc n) v = length-append (digits n (v / 2)) (v % 2 ∷ []) ∙ ap (λ (k : ℕ). k + 1) (length_digits n (v / 2)) ∙ add-one n

pub length-bits : (p : List ℕ) → length (bits p) ≡ length p * 8
unfolding bits
length-bits [] = refl
length-bits (x ∷ p) = length-append (digits 8 x) (bits p) ∙ ap₂ ◌+◌ (length_digits 8 x) (length-bits p) ∙ sym (eight (length p))
  where
    eight : (n : ℕ) → suc n * 8 ≡ 8 + n * 8
    eight n = omega arith

pub length-pack : (n : ℕ) (u : List ℕ) → length (pack n u) ≡ n
unfolding pack
length-pack zero u = refl
length-pack (suc n) u = ap suc (length-pack n (drop 8 u))

pub length-weave : (until gap : ℕ) (hs p : List ℕ) → length (weave until gap hs p) ≡ length hs + length p
unfolding weave
length-weave until gap [] p = omega arith
length-weave until gap (h ∷ hs) p =
    let e = length-weave gap gap hs (drop until p) in
    let f : length (take until p) + length (drop until p) ≡ length p = sym (length-append (take until p) (drop until p))
    ∙ ap length (take-append-drop until p) in
    length-append (take until p) (h ∷ weave gap gap hs (drop until p))
    ∙ sum (length (take until p)) (length (weave gap gap hs (drop until p))) (length hs) (length (drop until p)) (length p) e f
  where
    sum : (a b c d n : ℕ) → b ≡ c + d → a + d ≡ n → a + suc b ≡ suc c + n
    sum a b c d n e f = omega arith

pub each-digits : (n v : ℕ) → Each IsBit (digits n v)
unfolding digits
each-digits zero v = tt
each-digits (suc n) v = each_append IsBit (digits n (v / 2)) (v % 2 ∷ []) (each-digits n (v / 2)) (omega arith, tt)

pub each_bits : (p : List ℕ) → Each IsBit (bits p)
unfolding bits
each_bits [] = tt
each_bits (x ∷ p) = each_append IsBit (digits 8 x) (bits p) (each-digits 8 x) (each_bits p)

pub each_weave : (Q : ℕ → Type 0) (until gap : ℕ) (hs p : List ℕ) → Each Q hs → Each Q p → Each Q (weave until gap hs p)
unfolding weave
each_weave Q until gap [] p h k = k
each_weave Q until gap (x ∷ hs) p h k =
    each_append Q (take until p) (x ∷ weave gap gap hs (drop until p)) (each_take Q until p k)
    (h.0, each_weave Q gap gap hs (drop until p) h.1 (each-drop Q until p k))

-- one bit behind others
last : (n v x : ℕ) → x < 2 → digits (suc n) (v * 2 + x) ≡ digits n v ++ x ∷ []
unfolding digits
last n v x h =
    let e : (v * 2 + x) / 2 ≡ v = omega arith in
    let f : (v * 2 + x) % 2 ≡ x = omega arith in
    ap₂ (λ (y z : ℕ). digits n y ++ z ∷ []) e f

-- the bits of bits
whole : (u : List ℕ) (v : ℕ) (n : ℕ) → Each IsBit u → digits (length u + n) (number v u) ≡ digits n v ++ u
unfolding number
whole [] v n h = ap (λ (k : ℕ). digits k v) (omega arith) ∙ sym (append-nil (digits n v))
whole (x ∷ u) v n h =
    ap (λ (k : ℕ). digits k (number (v * 2 + x) u)) (omega arith)
    ∙ whole u (v * 2 + x) (suc n) h.1
    ∙ ap (λ (l : List ℕ). l ++ u) (last n v x h.0)
    ∙ append_snoc (digits n v) x u

none : (u : List ℕ) → digits 0 0 ++ u ≡ u
unfolding digits
none u = refl

eight : (u : List ℕ) → length u ≡ 8 → Each IsBit u → digits 8 (number 0 u) ≡ u
eight u e h = ap (λ (k : ℕ). digits k (number 0 u)) (sym e ∙ omega arith) ∙ whole u 0 0 h ∙ none u

pub bits-pack : (n : ℕ) (u : List ℕ) → length u ≡ n * 8 → Each IsBit u → bits (pack n u) ≡ u
unfolding bits pack
bits-pack zero [] e h = refl
bits-pack zero (x ∷ u) e h = absurd (omega arith)
bits-pack (suc n) u e h =
    ap₂ ◌++◌ (eight (take 8 u) (short) (each_take IsBit 8 u h)) (bits-pack n (drop 8 u) (length-drop 8 u ∙ omega arith) (each-drop IsBit 8 u h))
    ∙ take-append-drop 8 u
  where
    short : length (take 8 u) ≡ 8
    short = length-take-le 8 u (omega arith)
