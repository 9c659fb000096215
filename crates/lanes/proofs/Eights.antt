-- Bytes in eights: the first of them stored and laid down, and the others divided.
-- few-is                      fewer than eight as a number
-- four-stored                 the bytes of four numbers
-- begun-first, begun-next, begun-done   the head laid down behind zeros, an eight more, and all
-- split-start                 the bytes as head, first eights and the others: the division may begin behind the first
-- fed-eight, fed-over         a turn of the division by eights, and its end
use mathlib.Core.Path.{◌≡◌, sym, ap, ap₂, ◌∙◌}
use mathlib.Core.List.{List, [], ◌∷◌, ◌++◌, append_assoc, append-nil}
use Prim.Native.Nat.{ℕ, zero, suc, ◌+◌, ◌-◌, ◌*◌, ◌≤◌, ◌<◌}
use native.Mathlib.Numerals.{add-one}
use native.Mathlib.Omega.{arith}
use borrow.Rule.Slice.PartMut.{put_mid}
use lib.ListN.{length, take, drop, get_or, replicate, drop_of_length-le, length-append, length-replicate, length-drop, take-append-drop}
use lib.Seq.{drop-cons, drop-drop, take_at, take_all, drop_at, take-suc, take-add}
use Rattle.std.proofs.Common.{w64}
use Rattle.std.specs.Int.{from_be_bytes}
use Rattle.std.specs.List.{concat}
use Rattle.std.specs.Simd.{first_chunks}
use Rattle.std.proofs.lemmas.List.{replicate-append-replicate, take-replicate}
use Rattle.std.proofs.lemmas.List.Folds.{concat-append}
use Rattle.base.specs.Bytes.{IsByte, Bytes}
use Rattle.base.proofs.Bytes.{each_append, each-replicate}
use Rattle.base.proofs.Parts.{tail-put}
use Rattle.word_spec.specs.Residue.{lane_roots}
use Rattle.word_spec.specs.Private.{bytes_of, fed_all}
use Rattle.word_spec.proofs.Residue.{fed-append, fed-start}
use Rattle.word_spec.proofs.Packed.{length-bytes}
use Rattle.lanes.specs.Private.{laid}
use Rattle.lanes.specs.declared.coefficients.Lanes.{Lanes}
use Rattle.lanes.proofs.Laid.{eight-is}

-- ---- fewer than eight, stored at the end of eight zeros
bytes-at : (bs : List ℕ) → Bytes bs → (i : ℕ) → get_or bs i 0 < 256
bytes-at [] h i = omega arith
bytes-at (b ∷ bs) h zero = h.0
bytes-at (b ∷ bs) h (suc i) = bytes-at bs h.1 i

pub few-is : (y : List ℕ) {n : ℕ} → length y < 8 → Bytes y → n ≡ from_be_bytes w64 (put_mid (8 - length y) (8 - (8 - length y)) (replicate 8 0) y)
    → bytes_of 8 n ≡ replicate (8 - length y) 0 ++ y
few-is y h bytes e =
    eight-is (replicate (8 - length y) 0 ++ y) (omega (arith, length-append {A = ℕ} (replicate (8 - length y) 0) y, length-replicate {A = ℕ} (8 - length y) 0))
    (bytes-at _ (each_append IsByte (replicate (8 - length y) 0) y (each-replicate IsByte (8 - length y) 0 (omega arith)) bytes))
    (e ∙ ap (from_be_bytes w64) stored)
  where
    stored : put_mid (8 - length y) (8 - (8 - length y)) (replicate 8 0) y ≡ replicate (8 - length y) 0 ++ y
    stored =
        tail-put (8 - length y) (replicate 8 0) y ∙ ap (λ (z : List ℕ). z ++ y) (take-replicate (8 - length y) 8 0 (omega arith))

-- ---- four numbers stored one behind the other
put-behind : (p z y : List ℕ) (s n : ℕ) → length p ≡ s → put_mid s n (p ++ z) y ≡ p ++ (y ++ drop n z)
put-behind p z y s n e = ap₂ (λ (q r : List ℕ). q ++ (y ++ drop n r)) (take_at p z s e) (drop_at p z s e)

module _ (l : Lanes) where
  pub four-stored : {a b c d : List ℕ} → a ≡ bytes_of 8 l.a → b ≡ bytes_of 8 l.b → c ≡ bytes_of 8 l.c → d ≡ bytes_of 8 l.d
      → put_mid 24 8 (put_mid 16 8 (put_mid 8 8 (a ++ replicate 24 0) b) c) d ≡ laid l
  unfolding laid
  four-stored {a} {b} {c} {d} ea eb ec ed =
      ap (λ (t : List ℕ). put_mid 24 8 (put_mid 16 8 t c) d) (put-behind a (replicate 24 0) b 8 8 la ∙ sym (append_assoc a b (replicate 16 0)))
      ∙ ap (λ (t : List ℕ). put_mid 24 8 t d)
      (put-behind (a ++ b) (replicate 16 0) c 16 8 lab ∙ sym (append_assoc (a ++ b) c (replicate 8 0)))
      ∙ put-behind (a ++ b ++ c) (replicate 8 0) d 24 8 labc
      ∙ ap (λ (t : List ℕ). a ++ b ++ c ++ t) (append-nil d)
      ∙ (λ i. ea i ++ eb i ++ ec i ++ ed i)
    where
      la : length a ≡ 8
      la = ap length ea ∙ length-bytes 8 l.a

      lab : length (a ++ b) ≡ 16
      lab = omega (arith, length-append a b, la, ap length eb ∙ length-bytes 8 l.b)

      labc : length (a ++ b ++ c) ≡ 24
      labc = omega (arith, length-append (a ++ b) c, lab, ap length ec ∙ length-bytes 8 l.c)

-- ---- the first bytes
pub begun-first : (head : List ℕ) {xs ys zs : List ℕ} → length head < 8 → ys ≡ replicate lane_roots 0 → zs ≡ replicate (8 - length head) 0 ++ head
    → xs ≡ drop 8 ys ++ zs
    → xs ≡ replicate (lane_roots - (length head + 0 * 8)) 0 ++ head ++ []
begun-first head h ey ez ex =
    ex ∙ ap₂ (λ (y z : List ℕ). drop 8 y ++ z) ey ez
    ∙ sym (append_assoc (replicate 24 0) (replicate (8 - length head) 0) head)
    ∙ ap (λ (z : List ℕ). z ++ head) (replicate-append-replicate 24 (8 - length head) 0 ∙ ap (λ (n : ℕ). replicate n 0) more)
    ∙ sym (append-nil (replicate (lane_roots - (length head + 0 * 8)) 0 ++ head))
  where
    more : 24 + (8 - length head) ≡ lane_roots - (length head + 0 * 8)
    more = omega arith

pub begun-next : (head : List ℕ) (i : ℕ) (ws : List (List ℕ)) {xs ys zs : List ℕ} → length head < 8 → i < length ws → length ws ≤ 3
    → ys ≡ replicate (lane_roots - (length head + i * 8)) 0 ++ head ++ concat (take i ws) → zs ≡ get_or ws i [] → xs ≡ drop 8 ys ++ zs
    → xs ≡ replicate (lane_roots - (length head + (i + 1) * 8)) 0 ++ head ++ concat (take (i + 1) ws)
begun-next head i ws {xs} {ys} {zs} h k few ey ez ex =
    ex ∙ ap₂ (λ (y z : List ℕ). drop 8 y ++ z) (ey ∙ split) ez
    ∙ append_assoc (Z ++ head) (concat (take i ws)) (get_or ws i [])
    ∙ ap (λ (t : List ℕ). Z ++ head ++ t) behind
  where
    Z : List ℕ
    Z = replicate (lane_roots - (length head + (i + 1) * 8)) 0

    more : lane_roots - (length head + i * 8) ≡ 8 + (lane_roots - (length head + (i + 1) * 8))
    more = omega arith

    split : replicate (lane_roots - (length head + i * 8)) 0 ++ head ++ concat (take i ws) ≡ replicate 8 0 ++ (Z ++ head ++ concat (take i ws))
    split =
        ap (λ (n : ℕ). replicate n 0 ++ head ++ concat (take i ws)) more
        ∙ ap (λ (z : List ℕ). z ++ head ++ concat (take i ws)) (sym (replicate-append-replicate 8 (lane_roots - (length head + (i + 1) * 8)) 0))

    behind : concat (take i ws) ++ get_or ws i [] ≡ concat (take (i + 1) ws)
    behind =
        sym
        (rw (add-one, take-suc ws i [] k)
        (concat-append (take i ws) (get_or ws i [] ∷ []) ∙ ap (λ (t : List ℕ). concat (take i ws) ++ t) (append-nil (get_or ws i []))))

pub begun-done : (head : List ℕ) (i : ℕ) (ws : List (List ℕ)) {xs : List ℕ} → i ≡ length ws
    → xs ≡ replicate (lane_roots - (length head + i * 8)) 0 ++ head ++ concat (take i ws)
    → xs ≡ replicate (lane_roots - (length head + length ws * 8)) 0 ++ head ++ concat ws
begun-done head i ws e ex =
    ex ∙ ap₂ (λ (j : ℕ) (vs : List (List ℕ)). replicate (lane_roots - (length head + j * 8)) 0 ++ head ++ concat vs) e (take_all i ws (omega arith))

-- ---- the bytes as head, first eights and the others
front-join : (n m k : ℕ) (l : List ℕ) → m ≤ k → concat (take m (first_chunks n k l)) ≡ take (m * n) l
front-join n zero k l h = let e : 0 ≡ 0 * n = omega arith in ap (λ (j : ℕ). take j l) e
front-join n (suc m) zero l h = absurd (omega arith)
front-join n (suc m) (suc k) l h =
    ap (λ (t : List ℕ). take n l ++ t) (front-join n m k (drop n l) (omega arith)) ∙ sym (take-add n (m * n) l) ∙ ap (λ (j : ℕ). take j l) more
  where
    more : n + m * n ≡ suc m * n
    more = omega arith

all-join : (n k : ℕ) (l : List ℕ) → length l ≡ k * n → concat (first_chunks n k l) ≡ l
all-join n zero l e = sym (drop_of_length-le l {i = 0} (omega arith))
all-join n (suc k) l e = ap (λ (t : List ℕ). take n l ++ t) (all-join n k (drop n l) (omega (arith, length-drop n l))) ∙ take-append-drop n l

back-join : (n m k : ℕ) (l : List ℕ) → m ≤ k → length l ≡ k * n → concat (drop m (first_chunks n k l)) ≡ drop (m * n) l
back-join n zero k l h e = let z : 0 ≡ 0 * n = omega arith in all-join n k l e ∙ ap (λ (j : ℕ). drop j l) z
back-join n (suc m) zero l h e = absurd (omega arith)
back-join n (suc m) (suc k) l h e =
    back-join n m k (drop n l) (omega arith) (omega (arith, length-drop n l)) ∙ drop-drop (m * n) n l ∙ ap (λ (j : ℕ). drop j l) more
  where
    more : n + m * n ≡ suc m * n
    more = omega arith

module _ (g l : List ℕ) (r k m : ℕ) (size : length l ≡ r + k * 8) (small : r < 8) (few : m ≤ 3) (within : m ≤ k) where
  pub split-start : {h f : ℕ} {head xs : List ℕ} {es first rest : List (List ℕ)} → head ≡ take r l → h ≡ r → es ≡ first_chunks 8 k (drop r l) → f ≡ m
      → first ≡ take m es → rest ≡ drop m es → xs ≡ replicate (lane_roots - (h + f * 8)) 0 ++ head ++ concat first
      → fed_all g xs (concat rest) ≡ fed_all g (replicate lane_roots 0) l
  split-start {h} {f} {head} {xs} {es} {first} {rest} eh el ee ef e1 e2 ex =
      ap (fed_all g xs) others ∙ fed-start g l (r + m * 8) (omega arith) (omega arith) (ex ∙ start)
    where
      behind : length (drop r l) ≡ k * 8
      behind = omega (arith, length-drop r l)

      others : concat rest ≡ drop (r + m * 8) l
      others = ap concat (e2 ∙ ap (drop m) ee) ∙ back-join 8 m k (drop r l) within behind ∙ drop-drop (m * 8) r l

      start : replicate (lane_roots - (h + f * 8)) 0 ++ head ++ concat first ≡ replicate (lane_roots - (r + m * 8)) 0 ++ take (r + m * 8) l
      start =
          ap₂ (λ (i j : ℕ). replicate (lane_roots - (i + j * 8)) 0 ++ head ++ concat first) el ef
          ∙ append_assoc (replicate (lane_roots - (r + m * 8)) 0) head (concat first)
          ∙ ap (λ (t : List ℕ). replicate (lane_roots - (r + m * 8)) 0 ++ t)
          (ap₂ ◌++◌ eh (ap concat (e1 ∙ ap (take m) ee) ∙ front-join 8 m k (drop r l) within) ∙ sym (take-add r (m * 8) l))

-- ---- the division by eights
module _ (g xs : List ℕ) (i : ℕ) (ws : List (List ℕ)) where
  pub fed-eight : {ys zs t : List ℕ} → i < length ws → zs ≡ get_or ws i [] → ys ≡ fed_all g xs zs → fed_all g xs (concat (drop i ws)) ≡ t
      → fed_all g ys (concat (drop (i + 1) ws)) ≡ t
  fed-eight h ez ey inv =
      ap (λ (v : List ℕ). fed_all g v (concat (drop (i + 1) ws))) (ey ∙ ap (fed_all g xs) ez)
      ∙ sym (fed-append g xs (get_or ws i []) (concat (drop (i + 1) ws)))
      ∙ ap (λ (vs : List (List ℕ)). fed_all g xs (concat vs)) (sym here)
      ∙ inv
    where
      here : drop i ws ≡ get_or ws i [] ∷ drop (i + 1) ws
      here = rw add-one (drop-cons ws i [] h)

  pub fed-over : {t : List ℕ} → length ws ≤ i → fed_all g xs (concat (drop i ws)) ≡ t → xs ≡ t
  unfolding fed_all
  fed-over h inv = rw (drop_of_length-le ws h) at inv
