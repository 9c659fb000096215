-- What follows from the promise of repair alone.
-- determined        it allows one answer, and one word
-- restored          a clean word of which 1 to h bytes are altered comes back
-- one-restored      one altered byte is always repaired when r is 2 or more
-- beyond-exactly    "beyond repair" is given exactly when no clean word lies within h places
-- promised-is       it is met by `repaired` (specs/Way) and by nothing else
-- left-length       the word that `repaired` leaves is as long as the one that came
-- clean-left        a clean word is left as it came
-- brought-back      the word that `repaired` leaves of a clean word with at most h bytes altered is that word
use mathlib.Core.Path.{◌≡◌, refl, sym, ap, ◌∙◌}
use mathlib.Core.Logic.{◌↔◌}
use mathlib.Core.Bool.{Bool, true, false}
use lib.Dec.{ltb}
use mathlib.Core.List.{List, [], ◌∷◌}
use Prim.Native.Nat.{ℕ, zero, suc, ◌≤◌, ◌<◌}
use native.Mathlib.Nat.{pos_of_ne-zero}
use native.Mathlib.Omega.{arith}
use lib.ListN.{length, get_or, set, length-set}
use Rattle.base.specs.Choice.{pick}
use Rattle.base.specs.Bytes.{Bytes}
use Rattle.base.proofs.Tests.{by-eq}
use Rattle.word_spec.specs.Word.{clean}
use Rattle.parity.specs.Calls.{checked, root_limit, word_bytes}
use Rattle.parity.specs.Checked.{Checked}
use Rattle.parity.specs.Checked as check
use Rattle.repair.specs.Mended.{Mended}
use Rattle.repair.specs.Mended.{Clean, Repaired, Beyond, Refused}
use Rattle.repair.specs.Promise.{distance, half, CleanWord, Near, Promised}
use Rattle.repair.specs.Way.{amended, settled, mended, repaired_by, repaired}
use Rattle.word_spec.proofs.Sums.{length-onto}
use Rattle.repair.proofs.Apart.{distance_self, distance-zero, distance-sym, distance-set, checked-clean, checked-is, altered-damaged}
use Rattle.repair.proofs.Meeting.{repaired-promised}

-- the check finds one thing
differ : {P : Type 0} (c : Checked) {x y : Checked} → c ≡ x → c ≡ y → (x ≡ y → ◌≡◌ {A = ℕ} 0 1) → P
differ c p q f = let z = f (sym p ∙ q) in absurd (omega arith)

clean-damaged : check.Clean ≡ check.Damaged → ◌≡◌ {A = ℕ} 0 1
clean-damaged e = cc

clean-refused : (n : ℕ) → check.Clean ≡ check.Refused n → ◌≡◌ {A = ℕ} 0 1
clean-refused n e = cc

damaged-refused : (n : ℕ) → check.Damaged ≡ check.Refused n → ◌≡◌ {A = ℕ} 0 1
damaged-refused n e = cc

same-refused : (m n : ℕ) → check.Refused m ≡ check.Refused n → m ≡ n
same-refused m n e = cc

module _ (r : ℕ) (w : List ℕ) where
  pub determined : (a a' : Mended) (o o' : List ℕ) → Promised r w a o → Promised r w a' o' → (a ≡ a') × (o ≡ o')
  determined Clean Clean o o' p q = (refl, p.1 ∙ sym q.1)
  determined Clean (Repaired n) o o' p q = differ (checked r w) p.0 q.0 clean-damaged
  determined Clean Beyond o o' p q = differ (checked r w) p.0 q.0 clean-damaged
  determined Clean (Refused n) o o' p q = differ (checked r w) p.0 q.0 (clean-refused n)
  determined (Repaired n) Clean o o' p q = differ (checked r w) q.0 p.0 clean-damaged
  determined (Repaired n) (Repaired k) o o' p q = let e : o ≡ o' = q.5 o p.4 in (ap Repaired (sym p.3 ∙ ap (distance w) e ∙ q.3), e)
  determined (Repaired n) Beyond o o' p q = absurd (q.1 o p.4)
  determined (Repaired n) (Refused k) o o' p q = differ (checked r w) p.0 q.0 (damaged-refused k)
  determined Beyond Clean o o' p q = differ (checked r w) q.0 p.0 clean-damaged
  determined Beyond (Repaired n) o o' p q = absurd (p.1 o' q.4)
  determined Beyond Beyond o o' p q = (refl, p.2 ∙ sym q.2)
  determined Beyond (Refused n) o o' p q = differ (checked r w) p.0 q.0 (damaged-refused n)
  determined (Refused n) Clean o o' p q = differ (checked r w) q.0 p.0 (clean-refused n)
  determined (Refused n) (Repaired k) o o' p q = differ (checked r w) q.0 p.0 (damaged-refused n)
  determined (Refused n) Beyond o o' p q = differ (checked r w) q.0 p.0 (damaged-refused n)
  determined (Refused n) (Refused k) o o' p q = (ap Refused (same-refused n k (sym p.0 ∙ q.0)), p.1 ∙ sym q.1)

-- ---- a word w that came of a clean word v
module _ (r : ℕ) (v : List ℕ) (hv : CleanWord r v) (w : List ℕ) (b : Bytes w) (l : length w ≡ word_bytes) where
  pub restored : 0 < distance v w → distance v w ≤ half r → (a : Mended) (o : List ℕ) → Promised r w a o → (a ≡ Repaired (distance v w)) × (o ≡ v)
  restored pos few a o p = by a p
    where
      swap : distance w v ≡ distance v w
      swap = distance-sym w v (l ∙ sym (checked-clean r v hv.1).1)

      near : Near r w v
      near = (hv, omega (arith, swap))

      harmed : checked r w ≡ check.Damaged
      harmed = altered-damaged r v hv w b l pos (omega arith)

      by : (a : Mended) → Promised r w a o → (a ≡ Repaired (distance v w)) × (o ≡ v)
      by Clean p = differ (checked r w) p.0 harmed clean-damaged
      by (Repaired n) p = let e : v ≡ o = p.5 v near in (ap Repaired (sym p.3 ∙ ap (distance w) (sym e) ∙ swap), sym e)
      by Beyond p = absurd (p.1 v near)
      by (Refused n) p = differ (checked r w) harmed p.0 (damaged-refused n)

bytes-set : (xs : List ℕ) (i v : ℕ) → v < 256 → Bytes xs → Bytes (set xs i v)
bytes-set [] i v h b = b
bytes-set (x ∷ xs) zero v h b = (h, b.1)
bytes-set (x ∷ xs) (suc i) v h b = (b.0, bytes-set xs i v h b.1)

-- byte i of a clean word has become c
pub one-restored : (r : ℕ) (v : List ℕ) → CleanWord r v → 2 ≤ r → (i c : ℕ) → i < word_bytes → c < 256 → (get_or v i 0 ≡ c → ⊥)
    → (a : Mended) (o : List ℕ) → Promised r (set v i c) a o → (a ≡ Repaired 1) × (o ≡ v)
one-restored r v hv two i c hi hc n a o p =
    let l : length v ≡ word_bytes = (checked-clean r v hv.1).1 in
    let d : distance v (set v i c) ≡ 1 = distance-set v i c (omega arith) n in
    let s = restored r v hv (set v i c) (bytes-set v i c hc hv.0) (length-set v i c ∙ l) (omega arith) (omega arith) a o p in
    (s.0 ∙ ap Repaired d, s.1)

pub beyond-exactly : (r : ℕ) (w : List ℕ) → r ≤ root_limit → Bytes w → length w ≡ word_bytes → (a : Mended) (o : List ℕ) → Promised r w a o
    → (a ≡ Beyond) ↔ ((v : List ℕ) → Near r w v → ⊥)
beyond-exactly r w h b l Clean o p = (λ e. absurd (let z : ◌≡◌ {A = ℕ} 0 1 = cc in omega arith), λ f. absurd (f w ((b, p.0), omega (arith, distance_self w))))
beyond-exactly r w h b l (Repaired n) o p = (λ e. absurd (let z : ◌≡◌ {A = ℕ} 0 1 = cc in omega arith), λ f. absurd (f o p.4))
beyond-exactly r w h b l Beyond o p = (λ e. p.1, λ f. refl)
beyond-exactly r w h b l (Refused n) o p =
    (λ e. absurd (let z : ◌≡◌ {A = ℕ} 0 1 = cc in omega arith), λ f. absurd (no (clean r w) (sym (checked-is r w h l) ∙ p.0)))
  where
    no : (t : Bool) → pick t check.Clean check.Damaged ≡ check.Refused n → ⊥
    no true e = let z : ◌≡◌ {A = ℕ} 0 1 = clean-refused n e in omega arith
    no false e = let z : ◌≡◌ {A = ℕ} 0 1 = damaged-refused n e in omega arith

pub promised-is : (r : ℕ) (w : List ℕ) → Bytes w → (a : Mended) (o : List ℕ) → Promised r w a o → (a ≡ (repaired r w).0) × (o ≡ (repaired r w).1)
promised-is r w b a o p = determined r w a (repaired r w).0 o (repaired r w).1 p (repaired-promised r w b)

settled-length : (c : Checked) (w v : List ℕ) → length v ≡ length w → length (settled c w v).1 ≡ length w
settled-length check.Clean w v e = e
settled-length check.Damaged w v e = refl
settled-length (check.Refused n) w v e = refl

amended-length : (r : ℕ) (w : List ℕ) → length (amended r w) ≡ length w
unfolding amended
amended-length r w = length-onto _ w

mended-length : (r : ℕ) (w : List ℕ) → length (mended r w).1 ≡ length w
unfolding mended
mended-length r w = by (ltb (half r) (distance w (amended r w)))
  where
    by : (t : Bool) → length (pick t (Beyond, w) (settled (checked r (amended r w)) w (amended r w))).1 ≡ length w
    by true = refl
    by false = settled-length (checked r (amended r w)) w (amended r w) (amended-length r w)

pub left-length : (r : ℕ) (w : List ℕ) → length (repaired r w).1 ≡ length w
unfolding repaired
left-length r w = by (checked r w)
  where
    by : (c : Checked) → length (repaired_by c r w).1 ≡ length w
    by check.Clean = refl
    by check.Damaged = mended-length r w
    by (check.Refused n) = refl

pub clean-left : (r : ℕ) (w : List ℕ) → r ≤ root_limit → length w ≡ word_bytes → clean r w ≡ true → repaired r w ≡ (Clean, w)
unfolding repaired
clean-left r w h l e = ap (λ (c : Checked). repaired_by c r w) (checked-is r w h l ∙ ap (λ (t : Bool). pick t check.Clean check.Damaged) e)

pub brought-back : (r : ℕ) (v : List ℕ) → CleanWord r v → (w : List ℕ) → Bytes w → length w ≡ word_bytes → distance v w ≤ half r → (repaired r w).1 ≡ v
brought-back r v hv w b l few =
    by-eq (distance v w) 0
    (λ z.
    let e : v ≡ w = distance-zero v w ((checked-clean r v hv.1).1 ∙ sym l) z in
    (determined r w (repaired r w).0 Clean (repaired r w).1 w (repaired-promised r w b) (ap (checked r) (sym e) ∙ hv.1, refl)).1 ∙ sym e)
    (λ n. (restored r v hv w b l (pos_of_ne-zero n) few (repaired r w).0 (repaired r w).1 (repaired-promised r w b)).1)
