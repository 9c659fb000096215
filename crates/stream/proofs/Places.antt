-- Laws of the place that the state remembers.
-- noticed-kept                                 a place that is known stays
-- noticed-none, noticed-more, noticed-within   no byte more, a byte before others, and the limit that it keeps
-- before-some, before-stored, before_last      the byte before a place
-- looked-kept, looked-new                      the call that looks, where a place is known and where none is
-- seen_by, looked-is                            the stored bytes of a run looked at: what the definition notices byte by byte
use Prim.Native.Nat.{ℕ, suc, ◌+◌, ◌-◌, ◌≤◌, ◌<◌, min}
use native.Mathlib.Omega.{arith}
use mathlib.Core.Path.{◌≡◌, refl, sym, ◌∙◌, ap}
use mathlib.Core.Bool.{Bool, true, false}
use mathlib.Core.Logic.{◌≢◌}
use mathlib.Core.List.{List, [], ◌∷◌, ◌++◌}
use lib.ListN.{length, take, drop, get_or, set, length-append, length-take}
use lib.Seq.{sets, sets-eq, take_at, drop_at, take-append_seam, length-take-le, get_or-take, get_or-set_same}
use lib.Dec.{eqb}
use borrow.Author.Tests.{eq-eqb, ne_eqb}
use Rattle.base.specs.Choice.{pick}
use Rattle.base.proofs.Lists.{part-over}
use Rattle.base.proofs.Tests.{by-eq, by_le}
use Rattle.packet_spec.specs.Contents.{raw_limit}
use Rattle.packet_spec.specs.Escape.{wrong_from, last, byte_before, wrong_behind}
use Rattle.packet_spec.proofs.Escaping.{last-at}
use Rattle.packet_spec.proofs.Places.{wrong-append, wrong-within}
use Rattle.stream.specs.Call.{Held, noticed, last_raw, place_limit, Fine}
use Rattle.stream.specs.Private.{counted_by, placed, looked, gathered_by}
use Rattle.stream.specs.declared.frame.FrameReader.{FrameReader}

-- ---- what is noticed
module _ (place p at : ℕ) where
  -- a place that is known stays ..
  pub noticed-kept : (bs : List ℕ) → place ≢ 0 → noticed place p at bs ≡ place
  noticed-kept bs n = simp (ne_eqb place 0 n)

  -- .. and no byte more changes nothing
  pub noticed-none : noticed place p at [] ≡ place
  unfolding wrong_from
  noticed-none = by-eq place 0 (λ e. simp (eq-eqb place 0 e) (sym e)) (noticed-kept [])

  -- a byte, and the bytes behind it
  pub noticed-more : (b : ℕ) (bs : List ℕ) → (p ≡ 0x7D → at ≢ 0) → noticed (noticed place p at (b ∷ [])) b (suc at) bs ≡ noticed place p at (b ∷ bs)
  unfolding last
  noticed-more b bs h =
      by-eq place 0
      (λ e.
      let s : at + 1 ≡ suc at = omega arith in
      simp (eq-eqb place 0 e)
      (sym (wrong-append (b ∷ []) bs p at h ∙ ap (λ (n : ℕ). pick (eqb (wrong_from p at (b ∷ [])) 0) (wrong_from b n bs) (wrong_from p at (b ∷ []))) s)))
      (λ n. simp (ne_eqb place 0 n))

  pub noticed-within : (bs : List ℕ) → place ≤ place_limit → at + length bs ≤ raw_limit → noticed place p at bs ≤ place_limit
  noticed-within bs h k = go (eqb place 0)
    where
      found : wrong_from p at bs ≤ place_limit
      found = by-eq (wrong_from p at bs) 0 (λ e. omega (arith, e)) (λ n. omega (arith, (wrong-within bs p at n).1))

      go : (t : Bool) → pick t (wrong_from p at bs) place ≤ place_limit
      go true = found
      go false = h

-- ---- the byte before a place
-- a 7D before it: it is not the first
pub before-some : (n : ℕ) (l : List ℕ) → byte_before n l ≡ 0x7D → n ≢ 0
before-some n l e z = let k : ◌≡◌ {A = ℕ} 0 0x7D = sym (ap (λ (t : Bool). pick t 0 (get_or l (n - 1) 0)) (eq-eqb n 0 z)) ∙ e in omega (arith, k)

-- the byte just stored
pub before-stored : (n : ℕ) (l : List ℕ) (b : ℕ) → n < length l → byte_before (suc n) (set l n b) ≡ b
before-stored n l b h =
    let s : suc n - 1 ≡ n = omega arith in
    ap (λ (t : Bool). pick t 0 (get_or (set l n b) (suc n - 1) 0)) (ne_eqb (suc n) 0 (λ z. omega (arith, z)))
    ∙ ap (λ (i : ℕ). get_or (set l n b) i 0) s ∙ get_or-set_same l n b 0 h

-- bytes stored behind it change nothing before it
before-behind : (n : ℕ) (l xs : List ℕ) → n ≤ length l → byte_before n (take n l ++ xs) ≡ byte_before n l
before-behind n l xs h =
    by-eq n 0 (λ e. simp (eq-eqb n 0 e))
    (λ m.
    simp (ne_eqb n 0 m)
    (sym (get_or-take n (take n l ++ xs) (n - 1) 0 (omega (arith, m)))
    ∙ ap (λ (y : List ℕ). get_or y (n - 1) 0) (take_at (take n l) xs n (length-take-le n l h)) ∙ get_or-take n l (n - 1) 0 (omega (arith, m))))

-- the last of raw bytes that stand from the start
pub before_last : (rs j : List ℕ) → byte_before (length rs) (rs ++ j) ≡ last 0 rs
unfolding last
before_last [] j = refl
before_last (x ∷ xs) j =
    let n : ℕ = length (x ∷ xs) in
    ap (λ (t : Bool). pick t 0 (get_or ((x ∷ xs) ++ j) (n - 1) 0)) (ne_eqb n 0 (λ z. omega (arith, z)))
    ∙ sym (get_or-take n ((x ∷ xs) ++ j) (n - 1) 0 (omega arith))
    ∙ ap (λ (y : List ℕ). get_or y (n - 1) 0) (take-append_seam (x ∷ xs) j) ∙ sym (last-at 0 (x ∷ xs) (omega arith))

-- ---- the call that looks
module _ (f : FrameReader) (l : List ℕ) (from : ℕ) where
  pub looked-kept : f.place ≢ 0 → f ≡ looked f l from
  looked-kept n = ap (placed f) (sym (noticed-kept f.place (byte_before from (take f.stored l)) from (drop from (take f.stored l)) n))

  pub looked-new : {w : ℕ} → f.place ≡ 0 → w ≡ wrong_behind from (take f.stored l) → placed f w ≡ looked f l from
  looked-new e p = ap (placed f) (p ∙ sym (ap (λ (t : Bool). pick t (wrong_behind from (take f.stored l)) f.place) (eq-eqb f.place 0 e)))

-- ---- the stored bytes of a run
-- stored from a place on, and looked at from there
looked-at : (l xs : List ℕ) (at place : ℕ) → at + length xs ≤ length l
    → noticed place (byte_before at (take (at + length xs) (sets l at xs))) at (drop at (take (at + length xs) (sets l at xs)))
    ≡ noticed place (byte_before at l) at xs
looked-at l xs at place h =
    let n : length (take at l) ≡ at = length-take-le at l (omega arith) in
    let t : take (at + length xs) (sets l at xs) ≡ take at l ++ xs =
    ap (take (at + length xs)) (sets-eq xs l at h)
    ∙ take_at (take at l ++ xs) (drop (at + length xs) l) (at + length xs) (length-append (take at l) xs ∙ ap (λ (m : ℕ). m + length xs) n) in
    (λ i. noticed place (byte_before at (t i)) at (drop at (t i)))
    ∙ (λ i. noticed place (before-behind at l xs (omega arith) i) at (drop_at (take at l) xs at n i))

-- the place behind a run, of which the bytes within the limit are looked at; by: is a frame open
abbrev pub seen_by : Bool → Held → List ℕ → ℕ
seen_by false h xs = h.st.place
seen_by true h xs = noticed h.st.place (last_raw h) h.st.raw (take (raw_limit - min h.st.raw raw_limit) xs)

looked-open : (h : Held) → Fine h → (xs : List ℕ)
    → (looked (counted_by true h.st (length xs)) (gathered_by true h.st.raw xs h.recv) h.st.stored).place ≡ seen_by true h xs
looked-open h f xs = by_le h.st.raw raw_limit in-limit past
  where
    in-limit : h.st.raw ≤ raw_limit
        → (looked (counted_by true h.st (length xs)) (gathered_by true h.st.raw xs h.recv) h.st.stored).place ≡ seen_by true h xs
    in-limit k =
        let m : min h.st.raw raw_limit ≡ h.st.raw = omega arith in
        let s : h.st.stored ≡ h.st.raw = f.stored ∙ m in
        let ys = take (raw_limit - h.st.raw) xs in
        let n : min (h.st.raw + length xs) raw_limit ≡ h.st.raw + length ys = omega (arith, length-take (raw_limit - h.st.raw) xs) in
        (λ i.
        noticed h.st.place (byte_before (s i) (take (n i) (sets h.recv (m i) (take (raw_limit - m i) xs)))) (s i)
        (drop (s i) (take (n i) (sets h.recv (m i) (take (raw_limit - m i) xs)))))
        ∙ looked-at h.recv ys h.st.raw h.st.place (omega (arith, length-take (raw_limit - h.st.raw) xs, f.room))
        ∙ (λ i. noticed h.st.place (last_raw h) h.st.raw (take (raw_limit - sym m i) xs))

    past : raw_limit < h.st.raw
        → (looked (counted_by true h.st (length xs)) (gathered_by true h.st.raw xs h.recv) h.st.stored).place ≡ seen_by true h xs
    past k =
        let l = gathered_by true h.st.raw xs h.recv in
        let n : ℕ = min (h.st.raw + length xs) raw_limit in
        let z : raw_limit - min h.st.raw raw_limit ≡ 0 = omega arith in
        ap (noticed h.st.place (byte_before h.st.stored (take n l)) h.st.stored) (part-over l h.st.stored n (omega (arith, f.stored)))
        ∙ noticed-none h.st.place (byte_before h.st.stored (take n l)) h.st.stored
        ∙ sym (ap (λ (m : ℕ). noticed h.st.place (last_raw h) h.st.raw (take m xs)) z ∙ noticed-none h.st.place (last_raw h) h.st.raw)

pub looked-is : (o : Bool) (h : Held) → Fine h → (xs : List ℕ)
    → looked (counted_by o h.st (length xs)) (gathered_by o h.st.raw xs h.recv) h.st.stored ≡ placed (counted_by o h.st (length xs))
    (seen_by o h xs)
looked-is true h f xs = ap (placed (counted_by true h.st (length xs))) (looked-open h f xs)
looked-is false h f xs =
    let l = h.recv in
    let n : ℕ = h.st.stored in
    ap (placed h.st) (ap (noticed h.st.place (byte_before n (take n l)) n) (part-over l n n (omega arith))
    ∙ noticed-none h.st.place (byte_before n (take n l)) n)
