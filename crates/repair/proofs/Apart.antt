-- How far clean words are from each other.
-- distance_self, distance-zero, distance-sym      the number of places in which words differ is a distance
-- distance-weight, distance-set                   it is the weight of their sum; of a word and that word with one byte altered it is 1
-- checked-clean, checked-damaged, checked-is      what the check says, in terms of the word
-- minimum                                         two different clean words differ in more than r places
-- altered-damaged                                 a clean word with 1 to r bytes altered is never clean
use mathlib.Core.Path.{◌≡◌, refl, sym, ap, ap₂, ◌∙◌}
use mathlib.Core.Bool.{Bool, true, false}
use mathlib.Core.List.{List, [], ◌∷◌}
use Prim.Native.Nat.{ℕ, zero, suc, ◌+◌, ◌≤◌, ◌<◌}
use native.Mathlib.Nat.{suc_inj, zero-add as nat-zero-add}
use native.Mathlib.Omega.{arith}
use lib.Dec.{eqb, ltb}
use borrow.Author.Tests.{eqb-true, eqb-false, eq-eqb, ne_eqb, le-ltb, ltb-false}
use lib.ListN.{length, get_or, set, replicate}
use Rattle.base.specs.Choice.{pick}
use Rattle.base.specs.Bytes.{Bytes}
use Rattle.base.proofs.Tests.{by_le}
use Rattle.field.specs.Field.{alpha, add, mul, pow}
use Rattle.field.proofs.Sum.{add-self, add-eq}
use Rattle.field.proofs.Product.{mul_comm}
use Rattle.field.proofs.Powers.{pow-suc, pow-lt, cancel}
use Rattle.word_spec.specs.Word.{onto, clean, Zero}
use Rattle.parity.specs.Calls.{checked, root_limit, word_bytes}
use Rattle.parity.specs.Checked.{Checked}
use Rattle.parity.specs.Checked as check
use Rattle.word_spec.proofs.Sums.{length-onto, bytes-onto, onto-zero}
use Rattle.word_spec.proofs.Values.{eval_add}
use Rattle.word_spec.proofs.Clean.{clean-roots}
use Rattle.repair.specs.Promise.{distance, CleanWord}
use Rattle.repair.proofs.Weigh.{weigh-same, sum-weigh, AtEach}
use Rattle.repair.proofs.Few.{weight, few, point-pos}

-- ---- the distance

same-one : (x y : ℕ) → x ≡ y → pick {A = ℕ} (eqb x y) 0 1 ≡ 0
same-one x y e = rw (eq-eqb x y e)

other-one : (x y : ℕ) → (x ≡ y → ⊥) → pick {A = ℕ} (eqb x y) 0 1 ≡ 1
other-one x y n = rw (ne_eqb x y n)

pub distance_self : (w : List ℕ) → distance w w ≡ 0
unfolding distance
distance_self [] = refl
distance_self (x ∷ w) = ap₂ ◌+◌ (same-one x x refl) (distance_self w)

zero-by : (t : Bool) (x y n : ℕ) → eqb x y ≡ t → pick t 0 1 + n ≡ 0 → (x ≡ y) × (n ≡ 0)
zero-by true x y n q e = (eqb-true x y q, sym (nat-zero-add n) ∙ e)
zero-by false x y n q e = absurd (omega arith)

pub distance-zero : (v w : List ℕ) → length v ≡ length w → distance v w ≡ 0 → v ≡ w
unfolding distance
distance-zero [] [] l e = refl
distance-zero [] (y ∷ w) l e = absurd (omega arith)
distance-zero (x ∷ v) [] l e = absurd (omega arith)
distance-zero (x ∷ v) (y ∷ w) l e =
    let s = zero-by (eqb x y) x y (distance v w) refl e in
    ap₂ ◌∷◌ s.0 (distance-zero v w (suc_inj l) s.1)

sym-by : (s t : Bool) (x y : ℕ) → eqb x y ≡ s → eqb y x ≡ t → pick {A = ℕ} s 0 1 ≡ pick t 0 1
sym-by true true x y p q = refl
sym-by true false x y p q = absurd (eqb-false y x q (sym (eqb-true x y p)))
sym-by false true x y p q = absurd (eqb-false x y p (sym (eqb-true y x q)))
sym-by false false x y p q = refl

pub distance-sym : (v w : List ℕ) → length v ≡ length w → distance v w ≡ distance w v
unfolding distance
distance-sym [] [] l = refl
distance-sym [] (y ∷ w) l = absurd (omega arith)
distance-sym (x ∷ v) [] l = absurd (omega arith)
distance-sym (x ∷ v) (y ∷ w) l = ap₂ ◌+◌ (sym-by (eqb x y) (eqb y x) x y refl refl) (distance-sym v w (suc_inj l))

pub distance-set : (w : List ℕ) (i b : ℕ) → i < length w → (get_or w i 0 ≡ b → ⊥) → distance w (set w i b) ≡ 1
unfolding distance
distance-set [] i b h n = absurd (omega arith)
distance-set (x ∷ w) zero b h n = ap₂ ◌+◌ (other-one x b n) (distance_self w)
distance-set (x ∷ w) (suc i) b h n = ap₂ ◌+◌ (same-one x x refl) (distance-set w i b (omega arith) n) ∙ omega arith

-- the places in which two words differ are those where their difference is not zero
weight-by : (t : Bool) (x y n m : ℕ) → eqb x y ≡ t → n ≡ m → pick t 0 1 + n ≡ pick (eqb (add x y) 0) 0 1 + m
weight-by true x y n m q e = ap₂ ◌+◌ (sym (same-one (add x y) 0 (ap (λ (t : ℕ). add t y) (eqb-true x y q) ∙ add-self y))) e
weight-by false x y n m q e = ap₂ ◌+◌ (sym (other-one (add x y) 0 (λ z. eqb-false x y q (add-eq x y z)))) e

pub distance-weight : (v w : List ℕ) → length v ≡ length w → distance v w ≡ weight (onto v w)
unfolding distance weight onto
distance-weight [] [] l = refl
distance-weight [] (y ∷ w) l = absurd (omega arith)
distance-weight (x ∷ v) [] l = absurd (omega arith)
distance-weight (x ∷ v) (y ∷ w) l = weight-by (eqb x y) x y _ _ refl (distance-weight v w (suc_inj l))

-- ---- what the check says
abbrev shown : Bool → Bool → Bool → Checked
shown s t u = pick s (check.Refused 30) (pick t (pick u check.Clean check.Damaged) (check.Refused 31))

fine-by : (s t u : Bool) → shown s t u ≡ check.Clean → (s ≡ false) × (t ≡ true) × (u ≡ true)
fine-by true t u e = absurd (let z : ◌≡◌ {A = ℕ} 0 1 = cc in omega arith)
fine-by false true true e = (refl, refl, refl)
fine-by false true false e = absurd (let z : ◌≡◌ {A = ℕ} 0 1 = cc in omega arith)
fine-by false false u e = absurd (let z : ◌≡◌ {A = ℕ} 0 1 = cc in omega arith)

harmed-by : (s t u : Bool) → shown s t u ≡ check.Damaged → (s ≡ false) × (t ≡ true) × (u ≡ false)
harmed-by true t u e = absurd (let z : ◌≡◌ {A = ℕ} 0 1 = cc in omega arith)
harmed-by false true true e = absurd (let z : ◌≡◌ {A = ℕ} 0 1 = cc in omega arith)
harmed-by false true false e = (refl, refl, refl)
harmed-by false false u e = absurd (let z : ◌≡◌ {A = ℕ} 0 1 = cc in omega arith)

pub checked-clean : (r : ℕ) (w : List ℕ) → checked r w ≡ check.Clean → (r ≤ root_limit) × (length w ≡ word_bytes) × (clean r w ≡ true)
checked-clean r w e =
    let s = fine-by (ltb root_limit r) (eqb (length w) word_bytes) (clean r w) e in
    (ltb-false root_limit r s.0, eqb-true (length w) word_bytes s.1, s.2)

pub checked-damaged : (r : ℕ) (w : List ℕ) → checked r w ≡ check.Damaged → (r ≤ root_limit) × (length w ≡ word_bytes) × (clean r w ≡ false)
checked-damaged r w e =
    let s = harmed-by (ltb root_limit r) (eqb (length w) word_bytes) (clean r w) e in
    (ltb-false root_limit r s.0, eqb-true (length w) word_bytes s.1, s.2)

pub checked-is : (r : ℕ) (w : List ℕ) → r ≤ root_limit → length w ≡ word_bytes → checked r w ≡ pick (clean r w) check.Clean check.Damaged
checked-is r w h l = rw (le-ltb root_limit r h, eq-eqb (length w) word_bytes l)

-- ---- a word of few bytes that is zero at the roots is zero
each-zero : (d : List ℕ) → Bytes d → length d ≤ word_bytes → AtEach (λ x e. mul e x ≡ 0) d → d ≡ replicate (length d) 0
each-zero [] b l e = refl
each-zero (c ∷ cs) b l e =
    ap₂ ◌∷◌ (cancel (pow alpha (length cs)) c (point-pos (length cs) (omega arith)) (pow-lt alpha _) b.0 (mul_comm _ c ∙ e.0))
    (each-zero cs b.1 (omega arith) e.1)

light-zero : (r : ℕ) (d : List ℕ) → Bytes d → length d ≤ word_bytes → weight d ≤ r → Zero r d → d ≡ replicate (length d) 0
light-zero r d b l k h =
    each-zero d b l
    (few d (λ x. x) r l k
    (λ j i. weigh-same (λ x. mul x (pow x j)) (λ x. pow x (suc j)) d (λ x. sym (pow-suc x j)) ∙ sym (sum-weigh (suc j) d b) ∙ h (suc j) (omega arith) i))

near_same : (r : ℕ) (v w : List ℕ) → Bytes v → Bytes w → length v ≡ word_bytes → length w ≡ word_bytes → clean r v ≡ true → clean r w ≡ true → distance v w ≤ r
    → v ≡ w
near_same r v w bv bw lv lw cv cw k =
    let l : length v ≡ length w = lv ∙ sym lw in
    onto-zero v w l
    (light-zero r (onto v w) (bytes-onto v w bv bw) (omega (arith, length-onto v w)) (omega (arith, distance-weight v w l))
    (λ j h i. eval_add (pow alpha j) v w l ∙ ap₂ add (clean-roots r v cv j h i) (clean-roots r w cw j h i) ∙ add-self 0)
    ∙ ap (λ (n : ℕ). replicate n 0) (length-onto v w))

-- ---- minimum distance
module _ (r : ℕ) (v : List ℕ) (hv : CleanWord r v) where
  pub minimum : (w : List ℕ) → CleanWord r w → (v ≡ w → ⊥) → r < distance v w
  minimum w hw n =
      let p = checked-clean r v hv.1 in
      let q = checked-clean r w hw.1 in
      by_le (distance v w) r (λ k. absurd (n (near_same r v w hv.0 hw.0 p.1 q.1 p.2 q.2 k))) (λ k. k)

  pub altered-damaged : (w : List ℕ) → Bytes w → length w ≡ word_bytes → 0 < distance v w → distance v w ≤ r → checked r w ≡ check.Damaged
  altered-damaged w b l p k = by (clean r w) refl
    where
      fine : (r ≤ root_limit) × (length v ≡ word_bytes) × (clean r v ≡ true)
      fine = checked-clean r v hv.1

      by : (t : Bool) → clean r w ≡ t → checked r w ≡ check.Damaged
      by true q =
          let e : v ≡ w = near_same r v w hv.0 b fine.1 l fine.2 q k in
          let z : distance v w ≡ 0 = ap (distance v) (sym e) ∙ distance_self v in
          absurd (omega arith)
      by false q = checked-is r w fine.0 l ∙ rw q
