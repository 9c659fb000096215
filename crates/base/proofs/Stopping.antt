-- Where a call stops, of any reader whose `hand` makes one of the owed moves: the paper's sentences on calls.
-- stops        it takes no byte behind the one that caused the answer: before that byte there is none
-- blind        .. and the bytes behind it make no difference
-- owed-first   what is owed is done before any new byte is taken
-- wanting      "more wanted" exactly when no answer is owed; then all bytes are taken, and no move is owed
use Prim.Native.Nat.{ℕ, zero, suc}
use native.Mathlib.Omega.{arith}
use mathlib.Core.Path.{◌≡◌, refl, sym, ◌∙◌, ap}
use mathlib.Core.List.{List, [], ◌∷◌, ◌++◌, cons≢nil}
use mathlib.Core.Option.{Option, some, none, none-ne-some}
use mathlib.Core.Logic.{◌↔◌}
use lib.ListN.{length, take}
use Rattle.base.specs.Calls.{tell, unless, one_more}
use Rattle.base.specs.Calls as calls
use Rattle.base.proofs.Calls.{all-hand, all-eat, all_end, hear-by, hear-hand, hear-eat, fits, more-iff, Fits}

module _ {S A : Type 0} where
  -- the same with a byte more, undone
  one_less : (r : Option A × ℕ × S) (a : A) (n : ℕ) (t : S) → one_more r ≡ (some a, suc n, t) → r ≡ (some a, n, t)
  one_less r a n t e =
      let k : r.1 ≡ n = let z : suc r.1 ≡ suc n = ap (λ (q : Option A × ℕ × S). q.1) e in omega arith in
      λ i. ((e i).0, k i, (e i).2)

  none-taken : (r : Option A × ℕ × S) (a : A) (t : S) → one_more r ≡ (some a, 0, t) → ⊥
  none-taken r a t e = let z : suc r.1 ≡ 0 = ap (λ (q : Option A × ℕ × S). q.1) e in omega arith

  not_more : (n m : ℕ) (s t : S) (a : A) → ◌≡◌ {A = Option A × ℕ × S} (none, n, s) (some a, m, t) → ⊥
  not_more n m s t a e = none-ne-some a (ap (λ (q : Option A × ℕ × S). q.0) e)

module _ {S A : Type 0} (pend : S → ℕ) (hand : S → Option A × S) (eat : S → ℕ → Option A × S)
    (hand-one : (s : S) (n : ℕ) → pend s ≡ suc n → pend (hand s).1 ≡ n) where
  abbrev all : S → List ℕ → List A × S
  all = calls.all pend hand eat

  abbrev hear : S → List ℕ → Option A × ℕ × S
  hear = calls.hear pend hand eat

  -- ---- before the byte that caused the answer there is none
  stop-hand : (o : Option A) (u : S) (r : Option A × ℕ × S) (x : List A × S) (a : A) (n : ℕ) (t : S)
      → (r ≡ (some a, suc n, t) → x.0 ≡ []) → unless o 0 u r ≡ (some a, suc n, t) → (tell o x).0 ≡ []
  stop-hand none u r x a n t k e = k e
  stop-hand (some c) u r x a n t k e = let z : 0 ≡ suc n = ap (λ (q : Option A × ℕ × S). q.1) e in absurd (omega arith)

  stop-eat : (o : Option A) (u : S) (r : Option A × ℕ × S) (x : List A × S) (a : A) (n : ℕ) (t : S)
      → (r ≡ (some a, suc n, t) → x.0 ≡ []) → unless o 1 u (one_more r) ≡ (some a, suc (suc n), t) → (tell o x).0 ≡ []
  stop-eat none u r x a n t k e = k (one_less r a (suc n) t e)
  stop-eat (some c) u r x a n t k e = let z : 1 ≡ suc (suc n) = ap (λ (q : Option A × ℕ × S). q.1) e in absurd (omega arith)

  abbrev Stops : S → List ℕ → Option A × ℕ × S → Type 0
  Stops s bs r = (a : A) (n : ℕ) (t : S) → r ≡ (some a, suc n, t) → (all s (take n bs)).0 ≡ []

  stop-byte : (s : S) (b : ℕ) (bs : List ℕ) (r : Option A × ℕ × S) → pend s ≡ 0 → Stops (eat s b).1 bs r
      → Stops s (b ∷ bs) (unless (eat s b).0 1 (eat s b).1 (one_more r))
  stop-byte s b bs r e k a zero t h = ap (λ x. x.0) (all_end pend hand eat hand-one s e)
  stop-byte s b bs r e k a (suc n) t h =
      ap (λ x. x.0) (all-eat pend hand eat hand-one s b (take n bs) e) ∙ stop-eat (eat s b).0 (eat s b).1 r (all (eat s b).1 (take n bs)) a n t (k a n t) h

  pub stops : (s : S) (bs : List ℕ) (a : A) (n : ℕ) (t : S) → hear s bs ≡ (some a, suc n, t) → (all s (take n bs)).0 ≡ []
  stops =
      hear-by pend hand eat hand-one Stops (λ s e a n t h. absurd (not_more 0 (suc n) s t a h))
      (λ s m bs r e k a n t h.
      ap (λ x. x.0) (all-hand pend hand eat hand-one s m (take n bs) e) ∙ stop-hand (hand s).0 (hand s).1 r (all (hand s).1 (take n bs)) a n t (k a n t) h)
      stop-byte

  -- ---- the bytes behind it make no difference
  blind-hand : (o : Option A) (u : S) (r r' x : Option A × ℕ × S) (k : r ≡ x → r' ≡ x) → unless o 0 u r ≡ x → unless o 0 u r' ≡ x
  blind-hand none u r r' x k e = k e
  blind-hand (some c) u r r' x k e = e

  blind-eat : (o : Option A) (u : S) (r r' : Option A × ℕ × S) (a : A) (n : ℕ) (t : S) (k : r ≡ (some a, n, t) → r' ≡ (some a, n, t))
      → unless o 1 u (one_more r) ≡ (some a, suc n, t) → unless o 1 u (one_more r') ≡ (some a, suc n, t)
  blind-eat none u r r' a n t k e = ap one_more (k (one_less r a n t e))
  blind-eat (some c) u r r' a n t k e = e

  some-taken : (o : Option A) (u : S) (r : Option A × ℕ × S) (a : A) (t : S) → unless o 1 u (one_more r) ≡ (some a, 0, t) → ⊥
  some-taken none u r a t e = none-taken r a t e
  some-taken (some c) u r a t e = let z : ◌≡◌ {A = ℕ} 1 0 = ap (λ (q : Option A × ℕ × S). q.1) e in omega arith

  module _ (cs : List ℕ) where
    abbrev Blind : S → List ℕ → Option A × ℕ × S → Type 0
    Blind s bs r = (a : A) (n : ℕ) (t : S) → r ≡ (some a, n, t) → hear s (take n bs ++ cs) ≡ (some a, n, t)

    blind-byte : (s : S) (b : ℕ) (bs : List ℕ) (r : Option A × ℕ × S) → pend s ≡ 0 → Blind (eat s b).1 bs r
        → Blind s (b ∷ bs) (unless (eat s b).0 1 (eat s b).1 (one_more r))
    blind-byte s b bs r e k a zero t h = absurd (some-taken (eat s b).0 (eat s b).1 r a t h)
    blind-byte s b bs r e k a (suc n) t h =
        hear-eat pend hand eat hand-one s b (take n bs ++ cs) e ∙ blind-eat (eat s b).0 (eat s b).1 r (hear (eat s b).1 (take n bs ++ cs)) a n t (k a n t) h

    pub blind : (s : S) (bs : List ℕ) (a : A) (n : ℕ) (t : S) → hear s bs ≡ (some a, n, t) → hear s (take n bs ++ cs) ≡ (some a, n, t)
    blind =
        hear-by pend hand eat hand-one Blind (λ s e a n t h. absurd (not_more 0 n s t a h))
        (λ s m bs r e k a n t h.
        hear-hand pend hand eat hand-one s m (take n bs ++ cs) e
        ∙ blind-hand (hand s).0 (hand s).1 r (hear (hand s).1 (take n bs ++ cs)) (some a, n, t) (k a n t) h)
        blind-byte

  -- ---- a call on no bytes makes the owed moves up to an answer; any other call begins with these
  owed-hand : (o : Option A) (u : S) (r q : Option A × ℕ × S) (k : S → Option A × ℕ × S)
      → r ≡ unless q.0 0 q.2 (k q.2) → unless o 0 u r ≡ unless (unless o 0 u q).0 0 (unless o 0 u q).2 (k (unless o 0 u q).2)
  owed-hand none u r q k e = e
  owed-hand (some c) u r q k e = refl

  pub owed-first : (s : S) (bs : List ℕ) → hear s bs ≡ unless (hear s []).0 0 (hear s []).2 (hear (hear s []).2 bs)
  owed-first s bs =
      hear-by pend hand eat hand-one (λ t cs r. cs ≡ [] → hear t bs ≡ unless r.0 0 r.2 (hear r.2 bs)) (λ t e z. refl)
      (λ t n cs r e k z. hear-hand pend hand eat hand-one t n bs e ∙ owed-hand (hand t).0 (hand t).1 (hear (hand t).1 bs) r (λ u. hear u bs) (k z))
      (λ t b cs r e k z. absurd (cons≢nil z)) s [] refl

  -- more is wanted exactly when no answer is owed; then all bytes are taken, and no move is owed
  pub wanting : (s : S) (bs : List ℕ) → ((hear s bs).0 ≡ none) ↔ (((hear s bs).1 ≡ length bs) × (pend (hear s bs).2 ≡ 0) × ((all s bs).0 ≡ []))
  wanting s bs = (
    (λ e. let f = settles (hear s bs) e (fits pend hand eat hand-one s bs) in (f.0, f.1, (more-iff pend hand eat hand-one s bs).0 e)),
    (λ h. (more-iff pend hand eat hand-one s bs).1 h.2),
  )
    where
      settles : (r : Option A × ℕ × S) → r.0 ≡ none → Fits pend hand eat hand-one r bs → (r.1 ≡ length bs) × (pend r.2 ≡ 0)
      settles (none, n, t) e f = f
      settles (some a, n, t) e f = absurd (none-ne-some a (sym e))
