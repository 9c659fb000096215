-- What bits are worth, in lanes: five bits at a time, and eight bytes of a division.
-- sums, sum_is             some of five bits' rows added in one number: the arms of the `match`
-- adding-is                .. in four
-- raised-next             a row doubled so many times
-- worths-are               the eight worths, each from the one before it
-- group, groups, turn_is   five bits more; thirteen times five of them are eight bytes more of a division
use mathlib.Core.Path.{◌≡◌, refl, sym, ap, ap₂, ◌∙◌, subst}
use mathlib.Core.Bool.{Bool, true, false}
use mathlib.Core.List.{List, [], ◌∷◌, ◌++◌, map, map-append}
use Prim.Native.Nat.{ℕ, zero, suc, ◌+◌, ◌*◌, ◌/◌, ◌%◌, ◌^◌, ◌<◌}
use native.Mathlib.Nat.{mod-lt, mul-zero, zero-mul, one-mul}
use native.Mathlib.Numerals.{add-one}
use native.Mathlib.Omega.{arith}
use lib.Bits.{bit_xor}
use lib.Dec.{eqb}
use lib.ListN.{length, drop, get_or, replicate, length-append, length-replicate, length-map, length-drop}
use lib.Pow.{shr-shr}
use Rattle.base.specs.Choice.{pick}
use Rattle.base.specs.Bytes.{Each, Bytes}
use Rattle.field.specs.Field.{add, double}
use Rattle.field.proofs.Sum.{zero-add, add-zero}
use Rattle.word_spec.specs.Word.{onto}
use Rattle.word_spec.specs.Residue.{lane_roots}
use Rattle.word_spec.specs.Private.{bytes_of, fed, fed_all, kept, summed}
use Rattle.lanes.specs.Private.{laid, row_of, Further, Worths, doubled_by, following, bits, five}
use Rattle.lanes.specs.declared.coefficients.Lanes.{Lanes}
use Rattle.word_spec.proofs.Sums.{onto-comm, zeros-onto}
use Rattle.word_spec.proofs.Packed.{length-bytes, bytes-xor}
use Rattle.word_spec.proofs.Residue.{worth, fed-leading}
use Rattle.word_spec.proofs.Rows.{length-kept, kept-zero, kept-one, length-summed, summed-append, summed-low}
use Rattle.word_spec.proofs.Rows.{summed-onto, both, summed-both, doublings, bit_worths, spent-bits}
use Rattle.lanes.proofs.Laid.{length-laid, bytes-laid, laid-plus}

-- ---- some of five bits' rows added, in one number of eight bytes
-- the rows of the ones of v
total : ℕ → List ℕ → ℕ
total v [] = 0
total v (x ∷ xs) = add (total (v / 2) xs) (v % 2 * x)

bit-bytes : (b x : ℕ) → b < 2 → bytes_of 8 (b * x) ≡ kept b (bytes_of 8 x)
bit-bytes zero x h = ap (bytes_of 8) (zero-mul x) ∙ zeros ∙ ap (λ (n : ℕ). replicate n 0) (sym (length-bytes 8 x)) ∙ sym (kept-zero (bytes_of 8 x))
  where
    zeros : bytes_of 8 0 ≡ replicate 8 0
    zeros = unfold bytes_of in refl
bit-bytes (suc zero) x h = ap (bytes_of 8) (one-mul x) ∙ sym (kept-one (bytes_of 8 x))
bit-bytes (suc (suc b)) x h = absurd (omega arith)

bytes-total : (v : ℕ) (xs : List ℕ) → bytes_of 8 (total v xs) ≡ summed (map (bytes_of 8) xs) v (replicate 8 0)
unfolding total summed add
bytes-total v [] = unfold bytes_of in refl
bytes-total v (x ∷ xs) =
    bytes-xor 8 (total (v / 2) xs) (v % 2 * x) ∙ ap₂ onto (bytes-total (v / 2) xs) (bit-bytes (v % 2) x (mod-lt v (omega arith)))
    ∙ onto-comm rest (kept (v % 2) (bytes_of 8 x)) (length-summed (map (bytes_of 8) xs) (v / 2) (replicate 8 0)
    ∙ sym (length-kept (v % 2) (bytes_of 8 x) ∙ length-bytes 8 x))
  where
    rest : List ℕ
    rest = summed (map (bytes_of 8) xs) (v / 2) (replicate 8 0)

-- the arms of the `match`, one behind the other
abbrev pub sums : ℕ → ℕ → ℕ → ℕ → ℕ → List ℕ
sums a b c d e =
    0 ∷ a ∷ b ∷ bit_xor b a ∷ c ∷ bit_xor c a ∷ bit_xor c b ∷ bit_xor (bit_xor c b) a ∷ d ∷ bit_xor d a ∷ bit_xor d b ∷ bit_xor (bit_xor d b) a ∷ bit_xor d c ∷
    bit_xor (bit_xor d c) a ∷ bit_xor (bit_xor d c) b ∷ bit_xor (bit_xor (bit_xor d c) b) a ∷ e ∷ bit_xor e a ∷ bit_xor e b ∷ bit_xor (bit_xor e b) a ∷
    bit_xor e c ∷ bit_xor (bit_xor e c) a ∷ bit_xor (bit_xor e c) b ∷ bit_xor (bit_xor (bit_xor e c) b) a ∷ bit_xor e d ∷ bit_xor (bit_xor e d) a ∷
    bit_xor (bit_xor e d) b ∷ bit_xor (bit_xor (bit_xor e d) b) a ∷ bit_xor (bit_xor e d) c ∷ bit_xor (bit_xor (bit_xor e d) c) a ∷
    bit_xor (bit_xor (bit_xor e d) c) b ∷ bit_xor (bit_xor (bit_xor (bit_xor e d) c) b) a ∷ []

added : ℕ → ℕ → ℕ → ℕ → ℕ → List ℕ
added a b c d e =
    0 ∷ a ∷ b ∷ add b a ∷ c ∷ add c a ∷ add c b ∷ add (add c b) a ∷ d ∷ add d a ∷ add d b ∷ add (add d b) a ∷ add d c ∷
    add (add d c) a ∷ add (add d c) b ∷ add (add (add d c) b) a ∷ e ∷ add e a ∷ add e b ∷ add (add e b) a ∷
    add e c ∷ add (add e c) a ∷ add (add e c) b ∷ add (add (add e c) b) a ∷ add e d ∷ add (add e d) a ∷
    add (add e d) b ∷ add (add (add e d) b) a ∷ add (add e d) c ∷ add (add (add e d) c) a ∷
    add (add (add e d) c) b ∷ add (add (add (add e d) c) b) a ∷ []

sums-added : (a b c d e : ℕ) → sums a b c d e ≡ added a b c d e
unfolding added add
sums-added a b c d e = refl

-- each member of a list is what it should be, from the i-th on
unfoldable Rows : {A B : Type 0} → (A → B) → (ℕ → B) → ℕ → List A → Type 0
Rows of is i [] = Unit {0}
Rows of is i (r ∷ m) = (of r ≡ is i) × Rows of is (suc i) m

rows_at : {A B : Type 0} (of : A → B) (is : ℕ → B) (d : A) (i : ℕ) (m : List A) → Rows of is i m → (j : ℕ) → j < length m → of (get_or m j d) ≡ is (i + j)
unfolding Rows
rows_at of is d i [] h j k = absurd (omega arith)
rows_at of is d i (r ∷ m) h zero k = h.0 ∙ ap is at
  where
    at : i ≡ i + 0
    at = omega arith
rows_at of is d i (r ∷ m) h (suc j) k = rows_at of is d (suc i) m h.1 j (omega arith) ∙ ap is at
  where
    at : suc i + j ≡ i + suc j
    at = omega arith

rows-from : {A B : Type 0} (of : A → B) (is : ℕ → B) (d : A) (m : List A) → Rows of is 0 m → (j : ℕ) → j < length m → of (get_or m j d) ≡ is j
rows-from of is d m h j k = rows_at of is d 0 m h j k ∙ ap is from_zero
  where
    from_zero : 0 + j ≡ j
    from_zero = omega arith

ruleset ones = (zero-mul, one-mul, zero-add, add-zero)

added-are : (a b c d e : ℕ) → Rows (λ (x : ℕ). x) (λ (i : ℕ). total i (a ∷ b ∷ c ∷ d ∷ e ∷ [])) 0 (added a b c d e)
unfolding Rows added total
added-are a b c d e = (
  simp ones,
  (
    simp ones,
    (
      simp ones,
      (
        simp ones,
        (
          simp ones,
          (
            simp ones,
            (
              simp ones,
              (
                simp ones,
                (
                  simp ones,
                  (
                    simp ones,
                    (
                      simp ones,
                      (
                        simp ones,
                        (
                          simp ones,
                          (
                            simp ones,
                            (
                              simp ones,
                              (
                                simp ones,
                                (
                                  simp ones,
                                  (
                                    simp ones,
                                    (
                                      simp ones,
                                      (
                                        simp ones,
                                        (
                                          simp ones,
                                          (
                                            simp ones,
                                            (
                                              simp ones,
                                              (
                                                simp ones,
                                                (simp ones, (simp ones, (simp ones, (simp ones, (simp ones, (simp ones, (simp ones, (simp ones, tt)))))))),
                                              ),
                                            ),
                                          ),
                                        ),
                                      ),
                                    ),
                                  ),
                                ),
                              ),
                            ),
                          ),
                        ),
                      ),
                    ),
                  ),
                ),
              ),
            ),
          ),
        ),
      ),
    ),
  ),
)

module _ (n a b c d e y : ℕ) (eb : bytes_of 8 b ≡ following n 1 (bytes_of 8 a) (bytes_of 8 y)) (ec : bytes_of 8 c ≡ following n 2 (bytes_of 8 b) (bytes_of 8 y))
    (ed : bytes_of 8 d ≡ following n 3 (bytes_of 8 c) (bytes_of 8 y)) (ee : bytes_of 8 e ≡ following n 4 (bytes_of 8 d) (bytes_of 8 y)) where
  -- the rows behind one that is as it should be
  behind : (m k : ℕ) (x z : List ℕ) {rs : List (List ℕ)} → z ≡ following n k x (bytes_of 8 y)
      → rs ≡ bits m (suc (suc k)) n (following n (suc k) z (bytes_of 8 y)) (bytes_of 8 y)
      → z ∷ rs ≡ bits (suc m) (suc k) n (following n k x (bytes_of 8 y)) (bytes_of 8 y)
  unfolding bits
  behind m k x z ez er = ap (λ (l : List (List ℕ)). z ∷ l) er ∙ ap (λ (t : List ℕ). bits (suc m) (suc k) n t (bytes_of 8 y)) ez

  rows-five : map (bytes_of 8) (a ∷ b ∷ c ∷ d ∷ e ∷ []) ≡ five n (bytes_of 8 a) (bytes_of 8 y)
  unfolding bits
  rows-five = ap (λ (l : List (List ℕ)). bytes_of 8 a ∷ l) (behind 3 1 A B eb (behind 2 2 B C ec (behind 1 3 C D ed (behind 0 4 D E ee refl))))
    where
      A : List ℕ
      A = bytes_of 8 a

      B : List ℕ
      B = bytes_of 8 b

      C : List ℕ
      C = bytes_of 8 c

      D : List ℕ
      D = bytes_of 8 d

      E : List ℕ
      E = bytes_of 8 e

  pub sum_is : (i v : ℕ) → i < 32 → v ≡ i → bytes_of 8 (get_or (sums a b c d e) i 0) ≡ summed (five n (bytes_of 8 a) (bytes_of 8 y)) v (replicate 8 0)
  sum_is i v h ev =
      ap (λ (l : List ℕ). bytes_of 8 (get_or l i 0)) (sums-added a b c d e)
      ∙ ap (bytes_of 8) (rows-from (λ (x : ℕ). x) (λ (j : ℕ). total j (a ∷ b ∷ c ∷ d ∷ e ∷ [])) 0 (added a b c d e) (added-are a b c d e) i (unfold added in h))
      ∙ bytes-total i (a ∷ b ∷ c ∷ d ∷ e ∷ []) ∙ ap₂ (λ (rs : List (List ℕ)) (j : ℕ). summed rs j (replicate 8 0)) rows-five (sym ev)

-- ---- in four numbers
pick-append : (t : Bool) (p q r s : List ℕ) → pick t (p ++ q) (r ++ s) ≡ pick t p r ++ pick t q s
pick-append true p q r s = refl
pick-append false p q r s = refl

follow-append : (n k : ℕ) (p q r s : List ℕ) → following n k (p ++ q) (r ++ s) ≡ following n k p r ++ following n k q s
follow-append n k p q r s = ap (pick (eqb n k) (r ++ s)) (map-append double p q) ∙ pick-append (eqb n k) r s (map double p) (map double q)

bits-both : (m k n : ℕ) (p q r s : List ℕ) → bits m k n (p ++ q) (r ++ s) ≡ both (bits m k n p r) (bits m k n q s)
unfolding bits both
bits-both zero k n p q r s = refl
bits-both (suc m) k n p q r s =
    ap (λ (l : List (List ℕ)). (p ++ q) ∷ l)
    (ap (λ (t : List ℕ). bits m (suc k) n t (r ++ s)) (follow-append n k p q r s) ∙ bits-both m (suc k) n (following n k p r) (following n k q s) r s)

length-bits : (m k n : ℕ) (x y : List ℕ) → length (bits m k n x y) ≡ m
unfolding bits
length-bits zero k n x y = refl
length-bits (suc m) k n x y = ap suc (length-bits m (suc k) n (following n k x y) y)

pick-long : (t : Bool) (l : ℕ) (x y : List ℕ) → length x ≡ l → length y ≡ l → length (pick t y (map double x)) ≡ l
pick-long true l x y ex ey = ey
pick-long false l x y ex ey = length-map x double ∙ ex

bits-long : (l m k n : ℕ) (x y : List ℕ) → length x ≡ l → length y ≡ l → Each (λ (r : List ℕ). length r ≡ l) (bits m k n x y)
unfolding bits
bits-long l zero k n x y ex ey = tt
bits-long l (suc m) k n x y ex ey = (ex, bits-long l m (suc k) n (following n k x y) y (pick-long (eqb n k) l x y ex ey) ey)

zeros-append : (p q : List ℕ) → replicate {A = ℕ} (length (p ++ q)) 0 ≡ replicate (length p) 0 ++ replicate (length q) 0
zeros-append [] q = refl
zeros-append (x ∷ p) q = ap (λ (l : List ℕ). 0 ∷ l) (zeros-append p q)

module _ (n v : ℕ) where
  -- the rows of the ones of v
  abbrev rows : List ℕ → List ℕ → List ℕ
  rows x y = summed (five n x y) v (replicate (length x) 0)

  rows_append : (p q r s : List ℕ) → length p ≡ length r → rows (p ++ q) (r ++ s) ≡ rows p r ++ rows q s
  rows_append p q r s l =
      ap₂ (λ (rs : List (List ℕ)) (z : List ℕ). summed rs v z) (bits-both 5 1 n p q r s) (zeros-append p q)
      ∙ summed-both (five n p r) (five n q s) v (replicate (length p) 0) (replicate (length q) 0) (length-bits 5 1 n p r ∙ sym (length-bits 5 1 n q s))
      (bits-long (length {A = ℕ} (replicate (length p) 0)) 5 1 n p r (sym long) (sym (long ∙ l)))
    where
      long : length {A = ℕ} (replicate (length p) 0) ≡ length p
      long = length-replicate (length p) 0

  lane : (o x y : ℕ) → bytes_of 8 o ≡ summed (five n (bytes_of 8 x) (bytes_of 8 y)) v (replicate 8 0) → bytes_of 8 o ≡ rows (bytes_of 8 x) (bytes_of 8 y)
  lane o x y e = e ∙ ap (λ (m : ℕ). summed (five n (bytes_of 8 x) (bytes_of 8 y)) v (replicate m 0)) (sym (length-bytes 8 x))

  same : (x y : ℕ) → length (bytes_of 8 x) ≡ length (bytes_of 8 y)
  same x y = length-bytes 8 x ∙ sym (length-bytes 8 y)

  both-same : (p r : List ℕ) (x y : ℕ) → length p ≡ length r → length (p ++ bytes_of 8 x) ≡ length (r ++ bytes_of 8 y)
  both-same p r x y e = length-append p (bytes_of 8 x) ∙ ap₂ ◌+◌ e (same x y) ∙ sym (length-append r (bytes_of 8 y))

  laid-rows : (o x y : Lanes) → bytes_of 8 o.a ≡ summed (five n (bytes_of 8 x.a) (bytes_of 8 y.a)) v (replicate 8 0)
      → bytes_of 8 o.b ≡ summed (five n (bytes_of 8 x.b) (bytes_of 8 y.b)) v (replicate 8 0)
      → bytes_of 8 o.c ≡ summed (five n (bytes_of 8 x.c) (bytes_of 8 y.c)) v (replicate 8 0)
      → bytes_of 8 o.d ≡ summed (five n (bytes_of 8 x.d) (bytes_of 8 y.d)) v (replicate 8 0) → laid o ≡ rows (laid x) (laid y)
  unfolding laid
  laid-rows o x y ea eb ec ed =
      (λ i. lane o.a x.a y.a ea i ++ lane o.b x.b y.b eb i ++ lane o.c x.c y.c ec i ++ lane o.d x.d y.d ed i)
      ∙ sym (rows_append (A ++ B ++ C) D (P ++ Q ++ R) S three
      ∙ ap (λ (t : List ℕ). t ++ rows D S)
      (rows_append (A ++ B) C (P ++ Q) R two ∙ ap (λ (t : List ℕ). t ++ rows C R) (rows_append A B P Q (same x.a y.a))))
    where
      A : List ℕ
      A = bytes_of 8 x.a

      B : List ℕ
      B = bytes_of 8 x.b

      C : List ℕ
      C = bytes_of 8 x.c

      D : List ℕ
      D = bytes_of 8 x.d

      P : List ℕ
      P = bytes_of 8 y.a

      Q : List ℕ
      Q = bytes_of 8 y.b

      R : List ℕ
      R = bytes_of 8 y.c

      S : List ℕ
      S = bytes_of 8 y.d

      two : length (A ++ B) ≡ length (P ++ Q)
      two = both-same A P x.b y.b (same x.a y.a)

      three : length (A ++ B ++ C) ≡ length (P ++ Q ++ R)
      three = both-same (A ++ B) (P ++ Q) x.c y.c two

  -- .. added to what is there, by the bits of h from some place on
  pub adding-is : (l o x y : Lanes) (h : ℕ) → v ≡ h % 32 → bytes_of 8 o.a ≡ summed (five n (bytes_of 8 x.a) (bytes_of 8 y.a)) v (replicate 8 0)
      → bytes_of 8 o.b ≡ summed (five n (bytes_of 8 x.b) (bytes_of 8 y.b)) v (replicate 8 0)
      → bytes_of 8 o.c ≡ summed (five n (bytes_of 8 x.c) (bytes_of 8 y.c)) v (replicate 8 0)
      → bytes_of 8 o.d ≡ summed (five n (bytes_of 8 x.d) (bytes_of 8 y.d)) v (replicate 8 0)
      → laid (record { a = bit_xor l.a o.a; b = bit_xor l.b o.b; c = bit_xor l.c o.c; d = bit_xor l.d o.d })
      ≡ summed (five n (laid x) (laid y)) h (laid l)
  unfolding bits
  adding-is l o x y h ev ea eb ec ed =
      laid-plus l o ∙ onto-comm (laid l) (laid o) (length-laid l ∙ sym (length-laid o))
      ∙ ap (λ (z : List ℕ). onto z (laid l))
      (laid-rows o x y ea eb ec ed ∙ ap (λ (m : ℕ). summed (five n (laid x) (laid y)) v (replicate m 0)) (length-laid x ∙ sym (length-laid l)))
      ∙ summed-onto (five n (laid x) (laid y)) v (laid l)
      (bits-long (length (laid l)) 5 1 n (laid x) (laid y) (length-laid x ∙ sym (length-laid l)) (length-laid y ∙ sym (length-laid l)))
      ∙ ap (λ (k : ℕ). summed (five n (laid x) (laid y)) k (laid l)) ev
      ∙ summed-low (five n (laid x) (laid y)) h (laid l)

-- ---- doubled so many times
doubled-after : (n : ℕ) (x : List ℕ) → map double (doubled_by n x) ≡ doubled_by n (map double x)
unfolding doubled_by
doubled-after zero x = refl
doubled-after (suc n) x = doubled-after n (map double x)

pub raised-next : (n : ℕ) (x : List ℕ) {t u : List ℕ} → t ≡ doubled_by n x → u ≡ map double t → u ≡ doubled_by (n + 1) x
unfolding doubled_by
raised-next n x e eu = rw add-one (eu ∙ ap (map double) e ∙ doubled-after n x)

-- ---- eight worths
module _ (w : List ℕ) where
  nearest : row_of w 0 ≡ worth (row_of w 0) 0
  unfolding worth
  nearest = refl

  further : (k : ℕ) → Further w k → row_of w k ≡ worth (row_of w 0) k → row_of w (suc k) ≡ worth (row_of w 0) (suc k)
  unfolding worth
  further k e h = e ∙ ap (λ (p : List ℕ). fed (row_of w 0) p 0) h

  pub worths-are : (g : List ℕ) → Worths w g → (k : ℕ) → k < 8 → row_of w k ≡ worth g k
  worths-are g e k l = among k l ∙ ap (λ (d : List ℕ). worth d k) e.0
    where
      h1 : row_of w 1 ≡ worth (row_of w 0) 1
      h1 = further 0 e.1 nearest

      h2 : row_of w 2 ≡ worth (row_of w 0) 2
      h2 = further 1 e.2 h1

      h3 : row_of w 3 ≡ worth (row_of w 0) 3
      h3 = further 2 e.3 h2

      h4 : row_of w 4 ≡ worth (row_of w 0) 4
      h4 = further 3 e.4 h3

      h5 : row_of w 5 ≡ worth (row_of w 0) 5
      h5 = further 4 e.5 h4

      h6 : row_of w 6 ≡ worth (row_of w 0) 6
      h6 = further 5 e.6 h5

      among : (k : ℕ) → k < 8 → row_of w k ≡ worth (row_of w 0) k
      among zero l = nearest
      among (suc zero) l = h1
      among (suc (suc zero)) l = h2
      among (suc (suc (suc zero))) l = h3
      among (suc (suc (suc (suc zero)))) l = h4
      among (suc (suc (suc (suc (suc zero))))) l = h5
      among (suc (suc (suc (suc (suc (suc zero)))))) l = h6
      among (suc (suc (suc (suc (suc (suc (suc zero))))))) l = further 6 e.7 h6
      among (suc (suc (suc (suc (suc (suc (suc (suc k)))))))) l = absurd (omega arith)

-- ---- thirteen groups of five bits
-- five bits more
pub group : (n h : ℕ) {u x y v x' y' v' : List ℕ} → x ≡ x' → y ≡ y' → u ≡ summed (five n x y) h v → v ≡ v' → u ≡ summed (five n x' y') h v'
group n h ex ey eu ev = eu ∙ (λ i. summed (five n (ex i) (ey i)) h (ev i))

abbrev steps_of : List (List (List ℕ)) → ℕ → ℕ → List ℕ → List ℕ
steps_of [] at h v = v
steps_of (rs ∷ rss) at h v = summed rs (h / 2 ^ at) (steps_of rss (at + 5) h v)

joined : List (List (List ℕ)) → List (List ℕ)
joined [] = []
joined (rs ∷ rss) = rs ++ joined rss

steps-joined : (rss : List (List (List ℕ))) (at h : ℕ) (v : List ℕ) → Each (λ (rs : List (List ℕ)). length rs ≡ 5) rss
    → steps_of rss at h v ≡ summed (joined rss) (h / 2 ^ at) v
unfolding joined summed
steps-joined [] at h v e = refl
steps-joined (rs ∷ rss) at h v e =
    ap (summed rs (h / 2 ^ at))
    (steps-joined rss (at + 5) h v e.1 ∙ ap (λ (k : ℕ). summed (joined rss) k v) (sym (ap (λ (m : ℕ). h / 2 ^ at / 2 ^ m) e.0 ∙ shr-shr h at 5)))
    ∙ sym (summed-append rs (joined rss) (h / 2 ^ at) v)

-- a row of zeros adds nothing
kept-zeros : (b n : ℕ) → kept b (replicate n 0) ≡ replicate n 0
unfolding kept
kept-zeros b zero = refl
kept-zeros b (suc n) = ap₂ ◌∷◌ (mul-zero b) (kept-zeros b n)

nothing-more : (rs : List (List ℕ)) (n h : ℕ) (v : List ℕ) → summed (rs ++ replicate n 0 ∷ []) h v ≡ summed rs h v
unfolding summed
nothing-more rs n h v = summed-append rs (replicate n 0 ∷ []) h v ∙ ap (summed rs h) (ap (λ (z : List ℕ). onto z v) (kept-zeros _ n) ∙ zeros-onto n v)

module _ (g : List ℕ) where
  abbrev pub groups : List (List (List ℕ))
  groups =
      five 8 (worth g 0) (worth g 1) ∷ five 3 (doubled_by 5 (worth g 0)) (worth g 1) ∷ five 6 (doubled_by 2 (worth g 1)) (worth g 2)
      ∷ five 1 (doubled_by 7 (worth g 1)) (worth g 2)
      ∷ five 4 (doubled_by 4 (worth g 2)) (worth g 3) ∷ five 7 (doubled_by 1 (worth g 3)) (worth g 4) ∷ five 2 (doubled_by 6 (worth g 3)) (worth g 4)
      ∷ five 5 (doubled_by 3 (worth g 4)) (worth g 5) ∷ five 8 (worth g 5) (worth g 6) ∷ five 3 (doubled_by 5 (worth g 5)) (worth g 6)
      ∷ five 6 (doubled_by 2 (worth g 6)) (worth g 7)
      ∷ five 1 (doubled_by 7 (worth g 6)) (worth g 7) ∷ five 4 (doubled_by 4 (worth g 7)) (replicate lane_roots 0) ∷ []

  whole : joined groups ≡ bit_worths g 8 ++ replicate lane_roots 0 ∷ []
  unfolding joined bits doubled_by bit_worths doublings
  whole = refl

  fives : Each (λ (rs : List (List ℕ)). length rs ≡ 5) groups
  unfolding bits
  fives = (refl, (refl, (refl, (refl, (refl, (refl, (refl, (refl, (refl, (refl, (refl, (refl, (refl, tt)))))))))))))

  module _ (nearest l : Lanes) (x : ℕ) (is : laid nearest ≡ worth g 0) where
    bytes : Bytes g
    unfolding worth
    bytes = subst Bytes is (bytes-laid nearest)

    long : length g ≡ lane_roots
    unfolding worth
    long = ap length (sym is) ∙ length-laid nearest

    pub turn_is : {u : List ℕ} → u ≡ steps_of groups 0 l.a (drop 8 (laid l) ++ bytes_of 8 x) → u ≡ fed_all g (laid l) (bytes_of 8 x)
    turn_is e =
        e ∙ steps-joined groups 0 l.a v fives ∙ ap₂ (λ (rs : List (List ℕ)) (h : ℕ). summed rs h v) whole all
        ∙ nothing-more (bit_worths g 8) lane_roots l.a v
        ∙ sym (spent-bits g bytes 8 l.a v)
        ∙ sym (fed-leading g (bytes_of 8 l.a) (drop 8 (laid l)) (bytes_of 8 x) (length-bytes 8 l.a ∙ sym (length-bytes 8 x))
        (omega (arith, length-bytes 8 l.a, length-drop 8 (laid l), length-laid l, long)) (omega (arith, long)))
        ∙ ap (λ (xs : List ℕ). fed_all g xs (bytes_of 8 x)) (unfold laid bytes_of in refl)
      where
        v : List ℕ
        v = drop 8 (laid l) ++ bytes_of 8 x

        all : l.a / 1 ≡ l.a
        all = omega arith
