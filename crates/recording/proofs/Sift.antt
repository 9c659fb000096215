-- The reader of some of a reader's answers, for any reader whose `hand` makes one of the owed moves.
-- sift_on, sift_by   what goes on behind an answer, by: is it looked for
-- sift-all    all its answers are those looked for among all answers, and its state is the same
-- sift-hear   one call: the first answer that is looked for, behind those that are passed over
use Prim.Native.Nat.{ℕ, suc}
use mathlib.Core.Path.{◌≡◌, refl, ◌∙◌, ap}
use mathlib.Core.List.{List, ◌∷◌}
use mathlib.Core.Option.{Option, some, none}
use lib.ListN.{drop}
use Rattle.base.specs.Calls.{tell, unless, one_more, after, all, hear}
use Rattle.base.proofs.Calls.{after_none, after_one, one-after, all-hand, all-eat, all_end, hear-hand, hear-eat, hear-end, all-by, hear-by}
use Rattle.recording.specs.Sift.{keep, sifted, sift_all, sift_hand, sift_eat}

module _ {S A B : Type 0} (look : A → Option B) (pend : S → ℕ) (hand : S → Option A × S) (eat : S → ℕ → Option A × S)
    (hand-one : (s : S) (n : ℕ) → pend s ≡ suc n → pend (hand s).1 ≡ n) where
  abbrev hands : S → Option B × S
  hands = sift_hand look hand

  abbrev eats : S → ℕ → Option B × S
  eats = sift_eat look eat

  abbrev hears : S → List ℕ → Option B × ℕ × S
  hears = hear pend hands eats

  -- ---- all answers
  tell-kept : (o : Option B) (ys : List B) (t : S) → tell o (ys, t) ≡ (keep o ys, t)
  tell-kept none ys t = refl
  tell-kept (some y) ys t = refl

  tell-sifted : (o : Option A) (x : List A × S) → tell (sifted look o) (sift_all look x.0, x.1) ≡ (sift_all look (tell o x).0, (tell o x).1)
  tell-sifted none x = refl
  tell-sifted (some a) x = tell-kept (look a) (sift_all look x.0) x.1

  pub sift-all : (s : S) (bs : List ℕ) → all pend hands eats s bs ≡ (sift_all look (all pend hand eat s bs).0, (all pend hand eat s bs).1)
  sift-all =
      all-by pend hand eat hand-one (λ s bs x. all pend hands eats s bs ≡ (sift_all look x.0, x.1))
      (λ s e. all_end pend hands eats hand-one s e)
      (λ s n bs x e q. all-hand pend hands eats hand-one s n bs e ∙ ap (tell (sifted look (hand s).0)) q ∙ tell-sifted (hand s).0 x)
      (λ s b bs x e q. all-eat pend hands eats hand-one s b bs e ∙ ap (tell (sifted look (eat s b).0)) q ∙ tell-sifted (eat s b).0 x)

  -- ---- one call, by: is this answer looked for ..
  abbrev pub sift_on : Option B → ℕ → S → List ℕ → Option B × ℕ × S
  sift_on none n t bs = after n (hears t (drop n bs))
  sift_on (some y) n t bs = (some y, n, t)

  -- .. and is there an answer
  abbrev pub sift_by : Option A → ℕ → S → List ℕ → Option B × ℕ × S
  sift_by none n t bs = (none, n, t)
  sift_by (some a) n t bs = sift_on (look a) n t bs

  hand_on : (o : Option B) (t : S) (bs : List ℕ) → unless o 0 t (hears t bs) ≡ sift_on o 0 t bs
  hand_on none t bs = after_none (hears t bs)
  hand_on (some y) t bs = refl

  by_hand : (o : Option A) (t : S) (r : Option A × ℕ × S) (bs : List ℕ) → hears t bs ≡ sift_by r.0 r.1 r.2 bs
      → unless (sifted look o) 0 t (hears t bs) ≡ sift_by (unless o 0 t r).0 (unless o 0 t r).1 (unless o 0 t r).2 bs
  by_hand none t r bs q = q
  by_hand (some a) t r bs q = hand_on (look a) t bs

  on-more : (o : Option B) (n : ℕ) (t : S) (b : ℕ) (bs : List ℕ) → one_more (sift_on o n t bs) ≡ sift_on o (suc n) t (b ∷ bs)
  on-more none n t b bs = after_one n (hears t (drop n bs))
  on-more (some y) n t b bs = refl

  by-more : (o : Option A) (n : ℕ) (t : S) (b : ℕ) (bs : List ℕ) → one_more (sift_by o n t bs) ≡ sift_by o (suc n) t (b ∷ bs)
  by-more none n t b bs = refl
  by-more (some a) n t b bs = on-more (look a) n t b bs

  eat-on : (o : Option B) (t : S) (b : ℕ) (bs : List ℕ) → unless o 1 t (one_more (hears t bs)) ≡ sift_on o 1 t (b ∷ bs)
  eat-on none t b bs = one-after (hears t bs)
  eat-on (some y) t b bs = refl

  by-eat : (o : Option A) (t : S) (r : Option A × ℕ × S) (b : ℕ) (bs : List ℕ) → hears t bs ≡ sift_by r.0 r.1 r.2 bs
      → unless (sifted look o) 1 t (one_more (hears t bs))
      ≡ sift_by (unless o 1 t (one_more r)).0 (unless o 1 t (one_more r)).1 (unless o 1 t (one_more r)).2 (b ∷ bs)
  by-eat none t r b bs q = ap one_more q ∙ by-more r.0 r.1 r.2 b bs
  by-eat (some a) t r b bs q = eat-on (look a) t b bs

  pub sift-hear : (s : S) (bs : List ℕ) → hears s bs ≡ sift_by (hear pend hand eat s bs).0 (hear pend hand eat s bs).1 (hear pend hand eat s bs).2 bs
  sift-hear =
      hear-by pend hand eat hand-one (λ s bs r. hears s bs ≡ sift_by r.0 r.1 r.2 bs) (λ s e. hear-end pend hands eats hand-one s e)
      (λ s n bs r e q. hear-hand pend hands eats hand-one s n bs e ∙ by_hand (hand s).0 (hand s).1 r bs q)
      (λ s b bs r e q. hear-eat pend hands eats hand-one s b bs e ∙ by-eat (eat s b).0 (eat s b).1 r b bs q)
