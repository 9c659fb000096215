-- What long division by the generator leaves of bytes, and by a product for other roots.
-- fed-append                      the division byte by byte, of bytes behind others
-- fed-start, fed-next, fed-done   .. its beginning, a turn of k bytes, its end
-- worth, spent               what a 1 is worth before the first place; bytes that go, each replaced by what it is worth
-- fed-leading                as many bytes at once as go: each is worth its multiple of what a 1 in its place leaves
-- residue-value              it has the value of the bytes at every root
-- residue-values, from-values   so at roots that follow each other
-- residue-fed, from-fed      byte by byte it is the same
-- residue-clean              of a word nothing is left exactly where it is clean
-- residue-parity             of a message with zeros behind it the parity is left
use mathlib.Core.Path.{◌≡◌, refl, sym, ap, ap₂, ◌∙◌, subst}
use mathlib.Core.Bool.{Bool, true, false}
use mathlib.Core.List.{List, [], ◌∷◌, ◌++◌, append_assoc, append-nil}
use Prim.Native.Nat.{ℕ, zero, suc, ◌+◌, ◌-◌, ◌≤◌, ◌<◌}
use native.Mathlib.Nat.{sub-zero, suc_inj}
use native.Mathlib.Omega.{arith}
use lib.Dec.{eqb}
use lib.ListN.{length, take, drop, get_or, replicate, length-append, length-replicate, take-append-drop}
use lib.Seq.{drop-cons, drop-drop, take-suc}
use borrow.Author.Tests.{eqb-true}
use Rattle.base.specs.Bytes.{IsByte, Bytes}
use Rattle.base.proofs.Bytes.{each_append, each-replicate}
use Rattle.base.proofs.Lists.{over}
use Rattle.base.proofs.Tests.{and_parts}
use Rattle.field.specs.Field.{alpha, add, mul, pow}
use Rattle.field.proofs.Sum.{zero-add}
use Rattle.field.proofs.Product.{add-mul, mul-add, mul_assoc, mul-zero, zero-mul}
use Rattle.word_spec.specs.Word.{horner, eval, values_from, scale, onto, generator, divide, remainder, clean}
use Rattle.word_spec.specs.Residue.{generator_from, residue, residue_from, lane_roots}
use Rattle.word_spec.specs.Private.{fed, fed_all, is_zero}
use Rattle.word_spec.proofs.Sums.{length-scale, length-onto, onto-assoc, onto-comm, onto-append, zeros-onto, product, length-product}
use Rattle.word_spec.proofs.Values.{horner-append, eval_add, eval-zeros, eval-product}
use Rattle.word_spec.proofs.Generator.{length-generator, generator-monic, generator-root, from-length, from-monic, from-root}
use Rattle.word_spec.proofs.Division.{divide-step, quotient, length-divide, bytes_divide, length-quotient, bytes-quotient, divide-whole}
use Rattle.word_spec.proofs.Clean.{roots-clean, clean-roots, zeros}

-- ---- a byte at a time
length-fed : (g xs : List ℕ) (x : ℕ) → length xs ≡ length g → 0 < length g → length (fed g xs x) ≡ length g
unfolding fed
length-fed g [] x l h = absurd (omega arith)
length-fed g (c ∷ xs) x l h = length-onto (scale c g) (xs ++ x ∷ []) ∙ length-append xs (x ∷ []) ∙ omega arith

fed-front : (g : List ℕ) (c : ℕ) (xs : List ℕ) (b : ℕ) (w : List ℕ) → suc (length xs) ≡ length g → fed g (c ∷ xs) b ++ w ≡ onto (scale c g) (xs ++ b ∷ w)
unfolding fed onto
fed-front g c xs b w l =
    sym
    (ap₂ onto (sym (append-nil (scale c g))) (sym (append_assoc xs (b ∷ []) w))
    ∙ onto-append (scale c g) [] (xs ++ b ∷ []) w (length-scale c g ∙ sym l ∙ sym (length-append xs (b ∷ []) ∙ omega arith)))

fed-divide : (g xs w : List ℕ) → length xs ≡ length g → 0 < length g → fed_all g xs w ≡ divide (length w) (1 ∷ g) (xs ++ w)
unfolding fed_all divide
fed-divide g xs [] l h = sym (append-nil xs)
fed-divide g [] (b ∷ w) l h = absurd (omega arith)
fed-divide g (c ∷ xs) (b ∷ w) l h =
    fed-divide g (fed g (c ∷ xs) b) w (length-fed g (c ∷ xs) b l h) h
    ∙ ap (divide (length w) (1 ∷ g)) (fed-front g c xs b w l)
    ∙ sym (divide-step (length w) c g (xs ++ b ∷ w))

-- a zero that goes takes nothing away ..
scale-zero : (g : List ℕ) → scale 0 g ≡ replicate (length g) 0
unfolding scale
scale-zero [] = refl
scale-zero (x ∷ g) = ap₂ ◌∷◌ (zero-mul x) (scale-zero g)

fed-zero : (g xs : List ℕ) (x : ℕ) → fed g (0 ∷ xs) x ≡ xs ++ x ∷ []
unfolding fed
fed-zero g xs x = ap (λ (z : List ℕ). onto z (xs ++ x ∷ [])) (scale-zero g) ∙ zeros-onto (length g) (xs ++ x ∷ [])

-- .. so that the first n of k bytes are only laid down
fed-begun : (g : List ℕ) (k n : ℕ) (w : List ℕ) → n ≤ k → n ≤ length w → fed_all g (replicate (k - n) 0 ++ take n w) (drop n w) ≡ fed_all g (replicate k 0) w
unfolding fed_all
fed-begun g k zero w h l = ap (λ (xs : List ℕ). fed_all g xs w) (append-nil (replicate (k - 0) 0) ∙ ap (λ (n : ℕ). replicate n 0) (sub-zero k))
fed-begun g k (suc n) w h l =
    sym
    (sym (fed-begun g k n w (omega arith) (omega arith))
    ∙ ap₂ (λ (m : ℕ) (v : List ℕ). fed_all g (replicate m 0 ++ take n w) v) more (drop-cons w n 0 l)
    ∙ ap (λ (xs : List ℕ). fed_all g xs (drop (suc n) w)) (fed-zero g (replicate (k - suc n) 0 ++ take n w) (get_or w n 0))
    ∙ ap (λ (xs : List ℕ). fed_all g xs (drop (suc n) w)) (append_assoc (replicate (k - suc n) 0) (take n w) (get_or w n 0 ∷ [])
    ∙ ap (λ (v : List ℕ). replicate (k - suc n) 0 ++ v) (sym (take-suc w n 0 l))))
  where
    more : k - n ≡ suc (k - suc n)
    more = omega arith

pub fed-append : (g xs v w : List ℕ) → fed_all g xs (v ++ w) ≡ fed_all g (fed_all g xs v) w
unfolding fed_all
fed-append g xs [] w = refl
fed-append g xs (b ∷ v) w = fed-append g (fed g xs b) v w

-- a turn of the loop over the bytes w, k of them or one, and its end
module _ (g xs w : List ℕ) (i : ℕ) {t : List ℕ} (inv : fed_all g xs (drop i w) ≡ t) where
  pub fed-next : (k : ℕ) {ys : List ℕ} → ys ≡ fed_all g xs (take k (drop i w)) → fed_all g ys (drop (i + k) w) ≡ t
  fed-next k e =
      ap₂ (fed_all g) e (sym (drop-drop k i w)) ∙ sym (fed-append g xs (take k (drop i w)) (drop k (drop i w)))
      ∙ ap (fed_all g xs) (take-append-drop k (drop i w)) ∙ inv

  pub fed-done : length w ≤ i → xs ≡ t
  unfolding fed_all
  fed-done h = ap (fed_all g xs) (sym (over w i h)) ∙ inv

-- ---- sums and multiples
scale-add : (a b : ℕ) (g : List ℕ) → scale (add a b) g ≡ onto (scale a g) (scale b g)
unfolding scale onto
scale-add a b [] = refl
scale-add a b (x ∷ g) = ap₂ ◌∷◌ (add-mul a b x) (scale-add a b g)

scale-scale : (a b : ℕ) (g : List ℕ) → scale a (scale b g) ≡ scale (mul a b) g
unfolding scale
scale-scale a b [] = refl
scale-scale a b (x ∷ g) = ap₂ ◌∷◌ (sym (mul_assoc a b x)) (scale-scale a b g)

scale-onto : (a : ℕ) (p q : List ℕ) → length p ≡ length q → scale a (onto p q) ≡ onto (scale a p) (scale a q)
unfolding scale onto
scale-onto a [] [] l = refl
scale-onto a [] (y ∷ q) l = absurd (omega arith)
scale-onto a (x ∷ p) [] l = absurd (omega arith)
scale-onto a (x ∷ p) (y ∷ q) l = ap₂ ◌∷◌ (mul-add a x y) (scale-onto a p q (suc_inj l))

scale-behind : (a : ℕ) (p : List ℕ) → scale a (p ++ 0 ∷ []) ≡ scale a p ++ 0 ∷ []
unfolding scale
scale-behind a [] = ap (λ (x : ℕ). x ∷ []) (mul-zero a)
scale-behind a (x ∷ p) = ap (λ (l : List ℕ). mul a x ∷ l) (scale-behind a p)

onto-swap : (p q s : List ℕ) → length p ≡ length q → onto p (onto q s) ≡ onto q (onto p s)
onto-swap p q s l = sym (onto-assoc p q s (omega arith)) ∙ ap (λ (v : List ℕ). onto v s) (onto-comm p q l) ∙ onto-assoc q p s (omega arith)

-- sums and multiples go through a step, and through steps with zeros
onto-pairs : (p q s t : List ℕ) → length p ≡ length q → length q ≡ length s → onto (onto p q) (onto s t) ≡ onto (onto p s) (onto q t)
onto-pairs p q s t l m =
    onto-assoc p q (onto s t) (omega arith) ∙ ap (onto p) (onto-swap q s t m) ∙ sym (onto-assoc p s (onto q t) (omega arith))

fed-sum : (g p q : List ℕ) (x : ℕ) → length p ≡ length g → length q ≡ length g → 0 < length g → fed g (onto p q) x ≡ onto (fed g p 0) (fed g q x)
unfolding fed onto
fed-sum g [] q x l m h = absurd (omega arith)
fed-sum g (a ∷ p) [] x l m h = absurd (omega arith)
fed-sum g (a ∷ p) (b ∷ q) x l m h =
    ap₂ onto (scale-add a b g)
    (ap (λ (y : ℕ). onto p q ++ y ∷ []) (sym (zero-add x)) ∙ sym (onto-append p (0 ∷ []) q (x ∷ []) (omega arith)))
    ∙ onto-pairs (scale a g) (scale b g) (p ++ 0 ∷ []) (q ++ x ∷ []) (omega (arith, length-scale a g, length-scale b g))
    (omega (arith, length-scale b g, length-append p (0 ∷ [])))

fed-scale : (g p : List ℕ) (c : ℕ) → length p ≡ length g → 0 < length g → fed g (scale c p) 0 ≡ scale c (fed g p 0)
unfolding fed scale
fed-scale g [] c l h = absurd (omega arith)
fed-scale g (a ∷ p) c l h =
    ap₂ onto (sym (scale-scale c a g)) (sym (scale-behind c p))
    ∙ sym (scale-onto c (scale a g) (p ++ 0 ∷ []) (omega (arith, length-scale a g, length-append p (0 ∷ []))))

all-sum : (g p q w : List ℕ) → length p ≡ length g → length q ≡ length g → 0 < length g → fed_all g (onto p q) w ≡ onto (fed_all g p (replicate (length w) 0))
    (fed_all g q w)
unfolding fed_all
all-sum g p q [] l m h = refl
all-sum g p q (b ∷ w) l m h =
    ap (λ (v : List ℕ). fed_all g v w) (fed-sum g p q b l m h) ∙ all-sum g (fed g p 0) (fed g q b) w (length-fed g p 0 l h) (length-fed g q b m h) h

-- what is left of a 1 that stands before the first place, with n places between
unfoldable pub worth : List ℕ → ℕ → List ℕ
worth g zero = g
worth g (suc n) = fed g (worth g n) 0

-- the bytes cs go from before v, the first of them first: what each is worth, where it stands, is added
unfoldable pub spent : List ℕ → List ℕ → List ℕ → List ℕ
spent g [] v = v
spent g (c ∷ cs) v = spent g cs (onto (scale c (worth g (length cs))) v)

length-worth : (g : List ℕ) (n : ℕ) → 0 < length g → length (worth g n) ≡ length g
unfolding worth
length-worth g zero h = refl
length-worth g (suc n) h = length-fed g (worth g n) 0 (length-worth g n h) h

all-worth : (g : List ℕ) (c k n : ℕ) → 0 < length g → fed_all g (scale c (worth g k)) (replicate n 0) ≡ scale c (worth g (k + n))
unfolding fed_all worth
all-worth g c k zero h = ap (λ (m : ℕ). scale c (worth g m)) none
  where
    none : k ≡ k + 0
    none = omega arith
all-worth g c k (suc n) h =
    ap (λ (v : List ℕ). fed_all g v (replicate n 0)) (fed-scale g (worth g k) c (length-worth g k h) h)
    ∙ all-worth g c (suc k) n h ∙ ap (λ (m : ℕ). scale c (worth g m)) more
  where
    more : suc k + n ≡ k + suc n
    more = omega arith

-- ---- as many bytes at once as go
spent-onto : (g cs p v : List ℕ) → length p ≡ length g → 0 < length g → spent g cs (onto p v) ≡ onto p (spent g cs v)
unfolding spent
spent-onto g [] p v l h = refl
spent-onto g (c ∷ cs) p v l h =
    ap (spent g cs) (onto-swap w p v (length-scale c (worth g (length cs)) ∙ length-worth g (length cs) h ∙ sym l)) ∙ spent-onto g cs p (onto w v) l h
  where
    w : List ℕ
    w = scale c (worth g (length cs))

pub fed-leading : (g cs ys zs : List ℕ) → length cs ≡ length zs → length cs + length ys ≡ length g → 0 < length g
    → fed_all g (cs ++ ys) zs ≡ spent g cs (ys ++ zs)
unfolding fed_all fed spent worth
fed-leading g [] ys [] l n h = sym (append-nil ys)
fed-leading g [] ys (z ∷ zs) l n h = absurd (omega arith)
fed-leading g (c ∷ cs) ys [] l n h = absurd (omega arith)
fed-leading g (c ∷ cs) ys (z ∷ zs) l n h =
    all-sum g (scale c g) ((cs ++ ys) ++ z ∷ []) zs (length-scale c g) (omega (arith, length-append (cs ++ ys) (z ∷ []), length-append cs ys)) h
    ∙ ap₂ onto (all-worth g c 0 (length zs) h ∙ ap (λ (m : ℕ). scale c (worth g m)) many)
    (ap (λ (v : List ℕ). fed_all g v zs) (append_assoc cs ys (z ∷ []))
    ∙ fed-leading g cs (ys ++ z ∷ []) zs (suc_inj l) (omega (arith, length-append ys (z ∷ []))) h
    ∙ ap (spent g cs) (append_assoc ys (z ∷ []) zs))
    ∙ sym (spent-onto g cs (scale c (worth g (length cs))) (ys ++ z ∷ zs) (length-scale c (worth g (length cs)) ∙ length-worth g (length cs) h) h)
  where
    many : 0 + length zs ≡ length cs
    many = omega arith

-- ---- values stay
zeros-before : (a n : ℕ) (p : List ℕ) → eval (replicate n 0 ++ p) a ≡ eval p a
unfolding eval
zeros-before a n p = horner-append a 0 (replicate n 0) p ∙ ap (λ (t : ℕ). horner a t p) (eval-zeros a n)

divide-value : (a n : ℕ) (g p : List ℕ) → eval (1 ∷ g) a ≡ 0 → Bytes p → length p ≡ n + length g → eval (divide n (1 ∷ g) p) a ≡ eval p a
divide-value a n g p z b l =
    sym
    (ap (λ (q : List ℕ). eval q a) (sym (divide-whole n g p b l))
    ∙ eval_add a (product q (1 ∷ g)) (replicate n 0 ++ d) same
    ∙ ap₂ add (eval-product a q (1 ∷ g) (bytes-quotient n g p b) (omega arith) ∙ ap (mul (eval q a)) z ∙ mul-zero _) (zeros-before a n d)
    ∙ zero-add _)
  where
    q : List ℕ
    q = quotient n (1 ∷ g) p

    d : List ℕ
    d = divide n (1 ∷ g) p

    same : length (product q (1 ∷ g)) ≡ length (replicate n 0 ++ d)
    same =
        omega (
          arith,
          length-product q (1 ∷ g) (omega arith),
          length-quotient n g p (omega arith),
          length-append (replicate n 0) d,
          length-replicate {A = ℕ} n 0,
          length-divide n g p (omega arith),
        )

-- zeros before what is divided do nothing
divide-zeros : (k n : ℕ) (g p : List ℕ) → divide (k + n) (1 ∷ g) (replicate k 0 ++ p) ≡ divide n (1 ∷ g) p
divide-zeros zero n g p = ap (λ (m : ℕ). divide m (1 ∷ g) p) (zero-plus n)
  where
    zero-plus : (n : ℕ) → 0 + n ≡ n
    zero-plus n = omega arith
divide-zeros (suc k) n g p =
    ap (λ (m : ℕ). divide m (1 ∷ g) (0 ∷ replicate k 0 ++ p)) more
    ∙ divide-step (k + n) 0 g (replicate k 0 ++ p)
    ∙ ap (divide (k + n) (1 ∷ g)) (ap (λ (z : List ℕ). onto z (replicate k 0 ++ p)) (scale-zero g) ∙ zeros-onto (length g) (replicate k 0 ++ p))
    ∙ divide-zeros k n g p
  where
    more : suc k + n ≡ suc (k + n)
    more = omega arith

-- ---- nothing left
zero_is : (xs : List ℕ) → is_zero xs ≡ true → xs ≡ replicate (length xs) 0
unfolding is_zero
zero_is [] h = refl
zero_is (x ∷ xs) h = let p = and_parts (eqb x 0) (is_zero xs) h in ap₂ ◌∷◌ (eqb-true x 0 p.0) (zero_is xs p.1)

is-zero : (n : ℕ) → is_zero (replicate n 0) ≡ true
unfolding is_zero
is-zero zero = refl
is-zero (suc n) = is-zero n

-- two tests that hold together are one
same_test : (s t : Bool) → (s ≡ true → t ≡ true) → (t ≡ true → s ≡ true) → s ≡ t
same_test true t f h = sym (f refl)
same_test false true f h = h refl
same_test false false f h = refl

-- ---- by d, whose leading coefficient is 1
module _ (r : ℕ) (d w : List ℕ) (monic : d ≡ 1 ∷ drop 1 d) (many : length d ≡ suc r) where
  abbrev g : List ℕ
  g = drop 1 d

  abbrev rest : List ℕ
  rest = divide (length w) d (replicate r 0 ++ w)

  long-g : length g ≡ r
  long-g = omega (arith, ap length monic, many)

  long : length (replicate r 0 ++ w) ≡ length w + length g
  long = length-append (replicate r 0) w ∙ omega (arith, length-replicate {A = ℕ} r 0, long-g)

  is : rest ≡ divide (length w) (1 ∷ g) (replicate r 0 ++ w)
  is = ap (λ (e : List ℕ). divide (length w) e (replicate r 0 ++ w)) monic

  rest-fed : 0 < r → fed_all g (replicate r 0) w ≡ rest
  rest-fed h = fed-divide g (replicate r 0) w (length-replicate r 0 ∙ sym long-g) (omega (arith, long-g)) ∙ sym is

  length_rest : length rest ≡ r
  length_rest = ap length is ∙ length-divide (length w) g (replicate r 0 ++ w) (omega (arith, long)) ∙ omega (arith, long, long-g)

  module _ (b : Bytes w) where
    bytes : Bytes (replicate r 0 ++ w)
    bytes = each_append IsByte (replicate r 0) w (each-replicate IsByte r 0 (omega arith)) b

    bytes_rest : Bytes rest
    bytes_rest = rw is (bytes_divide (length w) g (replicate r 0 ++ w) bytes)

    rest-value : (a : ℕ) → eval d a ≡ 0 → eval rest a ≡ eval w a
    rest-value a z =
        ap (λ (l : List ℕ). eval l a) is
        ∙ divide-value a (length w) g (replicate r 0 ++ w) (ap (λ (l : List ℕ). eval l a) (sym monic) ∙ z) bytes long
        ∙ zeros-before a r w

-- ---- by the generator
module _ (r : ℕ) (w : List ℕ) where
  pub residue-fed : 0 < r → fed_all (drop 1 (generator r)) (replicate r 0) w ≡ residue r w
  unfolding residue
  residue-fed h = rest-fed r (generator r) w (generator-monic r) (length-generator r) h

  length-residue : length (residue r w) ≡ r
  unfolding residue
  length-residue = length_rest r (generator r) w (generator-monic r) (length-generator r)

  module _ (b : Bytes w) where
    bytes-residue : Bytes (residue r w)
    unfolding residue
    bytes-residue = bytes_rest r (generator r) w (generator-monic r) (length-generator r) b

    pub residue-value : (j : ℕ) → 0 < j → j ≤ r → eval (residue r w) (pow alpha j) ≡ eval w (pow alpha j)
    unfolding residue
    residue-value j p q = rest-value r (generator r) w (generator-monic r) (length-generator r) b (pow alpha j) (generator-root r j p q)

    pub residue-clean : r < 255 → is_zero (residue r w) ≡ clean r w
    residue-clean k = same_test (is_zero (residue r w)) (clean r w) (λ z. roots-clean r w (λ j p q. sym (residue-value j p q) ∙ gone z j))
        (λ c. ap is_zero (nothing c) ∙ is-zero r)
      where
        gone : is_zero (residue r w) ≡ true → (j : ℕ) → eval (residue r w) (pow alpha j) ≡ 0
        gone z j = ap (λ (l : List ℕ). eval l (pow alpha j)) (zero_is (residue r w) z) ∙ eval-zeros (pow alpha j) (length (residue r w))

        nothing : clean r w ≡ true → residue r w ≡ replicate r 0
        nothing c = zeros r k (residue r w) length-residue bytes-residue (λ j p q. residue-value j p q ∙ clean-roots r w c j p q)

-- the division begins with the first n bytes laid down behind zeros
pub fed-start : (g w : List ℕ) (n : ℕ) {xs : List ℕ} → n ≤ lane_roots → n ≤ length w → xs ≡ replicate (lane_roots - n) 0 ++ take n w
    → fed_all g xs (drop n w) ≡ fed_all g (replicate lane_roots 0) w
fed-start g w n h k e = ap (λ (v : List ℕ). fed_all g v (drop n w)) e ∙ fed-begun g lane_roots n w h k

-- the values at the first n roots, from any of them on
pub residue-values : (r : ℕ) (w : List ℕ) → Bytes w → (n j : ℕ) → 0 < j → j + n ≤ suc r → values_from (residue r w) j n ≡ values_from w j n
unfolding values_from
residue-values r w b zero j p q = refl
residue-values r w b (suc n) j p q = ap₂ ◌∷◌ (residue-value r w b j p (omega arith)) (residue-values r w b n (suc j) (omega arith) (omega arith))

-- ---- by the product for n roots from alpha^j on
module _ (j n : ℕ) (w : List ℕ) where
  pub from-fed : 0 < n → fed_all (drop 1 (generator_from j n)) (replicate n 0) w ≡ residue_from j n w
  unfolding residue_from
  from-fed h = rest-fed n (generator_from j n) w (from-monic j n) (from-length j n) h

  module _ (b : Bytes w) where
    from-value : (i : ℕ) → i < n → eval (residue_from j n w) (pow alpha (j + i)) ≡ eval w (pow alpha (j + i))
    unfolding residue_from
    from-value i h = rest-value n (generator_from j n) w (from-monic j n) (from-length j n) b (pow alpha (j + i)) (from-root j n i h)

    values-behind : (k i : ℕ) → i + k ≤ n → values_from (residue_from j n w) (j + i) k ≡ values_from w (j + i) k
    unfolding values_from
    values-behind zero i h = refl
    values-behind (suc k) i h = ap₂ ◌∷◌ (from-value i (omega arith))
        (subst (λ (p : ℕ). values_from (residue_from j n w) p k ≡ values_from w p k) more (values-behind k (suc i) (omega arith)))
      where
        more : j + suc i ≡ suc (j + i)
        more = omega arith

    pub from-values : values_from (residue_from j n w) j n ≡ values_from w j n
    from-values = subst (λ (p : ℕ). values_from (residue_from j n w) p n ≡ values_from w p n) none (values-behind n 0 (omega arith))
      where
        none : j + 0 ≡ j
        none = omega arith

pub residue-parity : (r : ℕ) (m : List ℕ) → residue r (m ++ replicate r 0) ≡ remainder r m
unfolding residue remainder
residue-parity r m =
    is r (generator r) (m ++ replicate r 0) (generator-monic r) (length-generator r)
    ∙ ap (λ (n : ℕ). divide n (1 ∷ drop 1 (generator r)) (replicate r 0 ++ (m ++ replicate r 0))) long-m
    ∙ divide-zeros r (length m) (drop 1 (generator r)) (m ++ replicate r 0)
    ∙ ap (λ (d : List ℕ). divide (length m) d (m ++ replicate r 0)) (sym (generator-monic r))
  where
    long-m : length (m ++ replicate r 0) ≡ r + length m
    long-m = length-append m (replicate r 0) ∙ omega (arith, length-replicate {A = ℕ} r 0)
