-- Laws of the search for a byte, sixteen bytes at a time.
-- found-more                  a turn of the loop over sixteen bytes
-- chunks-passed               how many chunks of sixteen bytes are passed
-- Seen, seen_none, seen_more, seen_all, seen-fits   the loop that makes a bit of each of sixteen bytes: its start, a turn, its end, its numbers
-- sought                      the bytes passed, and those of the sixteen behind them
use mathlib.Core.Path.{◌≡◌, refl, sym, ap, ap₂, ◌∙◌, subst}
use mathlib.Core.Bool.{Bool, true, false, not, ◌||◌}
use mathlib.Core.List.{List, [], ◌∷◌}
use Prim.Native.Nat.{ℕ, zero, suc, ◌+◌, ◌-◌, ◌*◌, ◌/◌, ◌%◌, ◌^◌, ◌<◌, ◌≤◌}
use native.Mathlib.Nat.{lt_of_lt_of_le, pow-suc}
use native.Mathlib.Omega.{arith}
use borrow.Author.Tests.{eq-eqb, ne_eqb, lt-ltb, le-ltb, ltb-true, ltb-false}
use lib.Count.{count_trailing_zeros, under}
use lib.Dec.{eqb, ltb}
use lib.ListN.{length, take, drop, get_or, length-drop}
use lib.Pow.{pow_mono}
use lib.Seq.{length-take-le, get_or-take, get_or-drop}
use Rattle.std.proofs.Common.{cond}
use Rattle.std.specs.List.{position_or_len, position}
use Rattle.std.specs.Option.{unwrap_or}
use Rattle.std.specs.Prelude.{Option}
use Rattle.std.proofs.lemmas.List.Sums.{prefix_len-le-length}
use Rattle.std.specs.Simd.{first_chunks}
use Rattle.base.specs.Choice.{pick}
use Rattle.base.specs.UpTo.{up_to}
use Rattle.base.proofs.Lists.{next, over}
use Rattle.base.proofs.Tests.{by-eq, by_le}
use Rattle.base.proofs.UpTo.{up-to-here, up-to-more, up-to-short, up-to-take, up-to-long}

up-to-behind : (c n : ℕ) (l : List ℕ) → n ≤ length (up_to c l) → n + length (up_to c (drop n l)) ≡ length (up_to c l)
unfolding up_to
up-to-behind c zero l h = omega arith
up-to-behind c (suc n) [] h = absurd (omega arith)
up-to-behind c (suc n) (b ∷ l) h =
    by-eq b c (λ e. let k = simp (eq-eqb b c e) at h in absurd (omega (arith, k)))
    (λ m. let k = simp (ne_eqb b c m) at h in simp (ne_eqb b c m) (omega (arith, up-to-behind c n l (omega (arith, k)))))

pub found-more : (c : ℕ) (l : List ℕ) (i : ℕ) {found : Bool} → i < length l → found ≡ ltb (length (up_to c l)) i
    → found || eqb (get_or l i 0) c ≡ ltb (length (up_to c l)) (i + 1)
found-more c l i h e =
    by_le i n
    (λ (k : i ≤ n).
    let q = up-to-behind c i l k in
    ap (λ (f : Bool). f || eqb b c) (e ∙ le-ltb n i k)
    ∙ by-eq b c (λ s. eq-eqb b c s ∙ sym (lt-ltb n (i + 1) (omega (arith, q, ap length (up-to-here c l i h s)))))
    (λ m. ne_eqb b c m ∙ sym (le-ltb n (i + 1) (omega (arith, q, ap length (up-to-more c l i h m))))))
    (λ (k : n < i). ap (λ (f : Bool). f || eqb b c) (e ∙ lt-ltb n i k) ∙ sym (lt-ltb n (i + 1) (omega arith)))
  where
    n : ℕ
    n = length (up_to c l)

    b : ℕ
    b = get_or l i 0

-- ---- sixteen bytes at a time
-- whether c is among the first sixteen
abbrev here : ℕ → List ℕ → Bool
here c bs = ltb (length (up_to c bs)) 16

-- how many chunks are passed, of k that the bytes begin with
sixteens : (c k : ℕ) (l : List ℕ) → k * 16 ≤ length l → length l < k * 16 + 16
    → (16 * position_or_len (here c) (first_chunks 16 k l) ≤ length (up_to c l))
    × (length (up_to c l) < 16 * position_or_len (here c) (first_chunks 16 k l) + 16)
sixteens c zero l h m = (omega arith, omega (arith, up-to-short c l))
sixteens c (suc k) l h m =
    go (here c (take 16 l)) refl (sixteens c k (drop 16 l) (omega (arith, length-drop 16 l)) (omega (arith, length-drop 16 l)))
  where
    rest : ℕ
    rest = position_or_len (here c) (first_chunks 16 k (drop 16 l))

    go : (t : Bool) → here c (take 16 l) ≡ t
        → (16 * rest ≤ length (up_to c (drop 16 l))) × (length (up_to c (drop 16 l)) < 16 * rest + 16)
        → (16 * cond (not t) (1 + rest) 0 ≤ length (up_to c l)) × (length (up_to c l) < 16 * cond (not t) (1 + rest) 0 + 16)
    go true e r =
        let short = ltb-true (length (up_to c (take 16 l))) 16 e in
        (omega arith, by_le 16 (length (up_to c l)) (λ g. absurd (omega (arith, up-to-long c 16 l g, short))) (λ g. omega arith))
    go false e r =
        let long = ltb-false (length (up_to c (take 16 l))) 16 e in
        let more : 16 ≤ length (up_to c l) =
        by_le 16 (length (up_to c l)) (λ g. g) (λ g. absurd (omega (arith, ap length (up-to-take c 16 l g), long))) in
        let q = up-to-behind c 16 l more in
        (omega (arith, r.0, q), omega (arith, r.1, q))

found-place : (t : List ℕ → Bool) (ws : List (List ℕ)) → unwrap_or (position t ws) (length ws) ≡ position_or_len t ws
found-place t ws =
    let n = position_or_len t ws in
    by_le (length ws) n (λ h. simp (le-ltb n (length ws) h) (omega (arith, h, prefix_len-le-length (λ x. not (t x)) ws)))
    (λ h. simp (lt-ltb n (length ws) h))

pub chunks-passed : (c : ℕ) (l : List ℕ) {ws : List (List ℕ)} {r : Option ℕ} {m : ℕ} → ws ≡ first_chunks 16 (length l / 16) l
    → r ≡ position (here c) ws → m ≡ unwrap_or r (length ws) → (16 * m ≤ length (up_to c l)) × (length (up_to c l) < 16 * m + 16)
chunks-passed c l {ws} {r} {m} chunks place found =
    let is : m ≡ position_or_len (here c) (first_chunks 16 (length l / 16) l) =
    found ∙ ap (λ (o : Option ℕ). unwrap_or o (length ws)) place ∙ found-place (here c) ws ∙ ap (position_or_len (here c)) chunks in
    let s = sixteens c (length l / 16) l (omega arith) (omega arith) in
    (omega (arith, is, s.0), omega (arith, is, s.1))

-- ---- a bit for each byte: as many are not set below the lowest that is as bytes stand before the first c
abbrev pub Seen : ℕ → ℕ → ℕ → List ℕ → Type 0
Seen c k bits l = (bits < 2 ^ k) × (count_trailing_zeros k bits ≡ length (up_to c l))

seen-byte : (c k bits b : ℕ) (l : List ℕ) → Seen c k bits l → Seen c (suc k) (bits * 2 + pick (eqb b c) 1 0) (b ∷ l)
unfolding up_to count_trailing_zeros
seen-byte c k bits b l (small, e) =
    by-eq b c
    (λ s.
    let odd : (bits * 2 + 1) % 2 ≡ 1 = omega arith in
    simp (eq-eqb b c s) (rw (pow-suc 2 k) (omega arith), ap (λ (d : ℕ). under d (count_trailing_zeros k ((bits * 2 + 1) / 2))) odd))
    (λ m.
    let even : (bits * 2 + 0) % 2 ≡ 0 = omega arith in
    let half : (bits * 2 + 0) / 2 ≡ bits = omega arith in
    simp (ne_eqb b c m) (rw (pow-suc 2 k) (omega arith), ap₂ (λ (d n : ℕ). under d (count_trailing_zeros k n)) even half ∙ ap suc e))

module _ (c : ℕ) (l : List ℕ) (at : ℕ) (room : at + 16 ≤ length l) where
  abbrev lent : List ℕ
  lent = take 16 (drop at l)

  lent_length : length lent ≡ 16
  lent_length = length-take-le 16 (drop at l) (omega (arith, length-drop at l))

  pub seen_none : Seen c 0 0 (drop 16 lent)
  unfolding up_to count_trailing_zeros
  seen_none = (omega arith, sym (ap (λ (x : List ℕ). length (up_to c x)) (over lent 16 (omega (arith, lent_length)))))

  pub seen_more : (i k : ℕ) {bits d : ℕ} → 0 < i → i ≤ 16 → suc k ≡ 16 - (i - 1) → d ≡ pick (eqb (get_or l (at + (i - 1)) 0) c) 1 0
      → Seen c k bits (drop i lent)
      → Seen c (16 - (i - 1)) (bits * 2 + d) (drop (i - 1) lent)
  seen_more i k {bits} {d} h small e f inv =
      let same : i - 1 + 1 ≡ i = omega arith in
      let b = get_or l (at + (i - 1)) 0 in
      let byte = get_or-take 16 (drop at l) (i - 1) 0 (omega arith) ∙ get_or-drop at l (i - 1) 0 in
      let list = next lent (i - 1) (omega (arith, lent_length)) ∙ ap₂ (λ (b : ℕ) (x : List ℕ). b ∷ x) byte (ap (λ (m : ℕ). drop m lent) same) in
      let seen = subst (λ (y : ℕ). Seen c (suc k) (bits * 2 + y) (b ∷ drop i lent)) (sym f) (seen-byte c k bits b (drop i lent) inv) in
      subst (λ (n : ℕ). Seen c n (bits * 2 + d) (drop (i - 1) lent)) e (subst (λ (x : List ℕ). Seen c (suc k) (bits * 2 + d) x) (sym list) seen)

  pub seen_all : (i : ℕ) {bits : ℕ} → i ≡ 0 → Seen c (16 - i) bits (drop i lent) → count_trailing_zeros 16 bits ≡ length (up_to c lent)
  seen_all i {bits} e inv = (subst (λ (j : ℕ). Seen c (16 - j) bits (drop j lent)) e inv).1

pub seen-fits : (k : ℕ) {bits : ℕ} → k ≤ 15 → bits < 2 ^ k → bits < 32768
seen-fits k h small = lt_of_lt_of_le small (pow_mono h)

-- ---- sixteen bytes are enough
pub sought : (c n : ℕ) (l : List ℕ) {m : ℕ} → n ≤ length (up_to c l) → length (up_to c l) ≤ n + 16 → m ≡ length (up_to c (take 16 (drop n l)))
    → n + m ≡ length (up_to c l)
sought c n l h k e = ap (λ (m : ℕ). n + m) (e ∙ enough) ∙ whole
  where
    u : ℕ
    u = length (up_to c (drop n l))

    whole : n + u ≡ length (up_to c l)
    whole = up-to-behind c n l h

    enough : length (up_to c (take 16 (drop n l))) ≡ u
    enough =
        by_le 16 u (λ (g : 16 ≤ u). let f : 16 ≡ u = omega (arith, whole) in up-to-long c 16 (drop n l) g ∙ f)
        (λ (g : u < 16). ap length (up-to-take c 16 (drop n l) g))
