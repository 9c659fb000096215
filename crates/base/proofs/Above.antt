-- A reader above another one: the bytes of the lower are bytes of the upper, or moves that it owes.
-- Along                 some of the lower's bytes lie ahead of the upper, each with a fact of it and its place
-- above                 the upper's call begins with the lower's call on them
-- hear-seen, all_seen   the upper is the lower under other names: a call, and all answers
use Prim.Native.Nat.{ℕ, suc}
use mathlib.Core.Path.{◌≡◌, refl, sym, ◌∙◌, ap}
use mathlib.Core.List.{List, [], ◌∷◌}
use mathlib.Core.Option.{Option, some, none}
use Rattle.base.specs.Calls.{tell, unless, one_more, hear, all}
use Rattle.base.proofs.Calls.{hear-by, hear-hand, hear-eat, hear-end, all-by, all-hand, all-eat, all_end}

-- of each byte, and of the place that it lies at, Here holds
abbrev pub Along : {P : Type 0} → (P → ℕ → P) → (P → ℕ → Type 0) → P → List ℕ → Type 0
Along next Here p [] = Unit {0}
Along next Here p (b ∷ bs) = Here p b × Along next Here (next p b) bs

-- `call p s bs` is the upper's call at a place, with the lower's state, where these bytes of the lower lie ahead; `onward p bs r` is that
-- call by what the lower's call made of them: with its answer, or with what follows the bytes taken; `later` counts a byte of the lower
-- that was taken before a call.
module _ {S A P X : Type 0} (pend : S → ℕ) (hand : S → Option A × S) (eat : S → ℕ → Option A × S)
    (hand-one : (s : S) (n : ℕ) → pend s ≡ suc n → pend (hand s).1 ≡ n)
    (next : P → ℕ → P) (Here : P → ℕ → Type 0) (call : P → S → List ℕ → X) (onward : P → List ℕ → Option A × ℕ × S → X) (later : X → X)
    (onward-none : (p : P) (bs : List ℕ) (s : S) → onward p bs (none, 0, s) ≡ call p s bs)
    (onward-more : (p : P) (b : ℕ) (bs : List ℕ) (r : Option A × ℕ × S) → onward p (b ∷ bs) (one_more r) ≡ later (onward (next p b) bs r))
    (by_hand : (p : P) (s : S) (n : ℕ) (bs : List ℕ) → pend s ≡ suc n → call p s bs ≡ onward p bs ((hand s).0, 0, (hand s).1))
    (by-eat : (p : P) (s : S) (b : ℕ) (bs : List ℕ) → pend s ≡ 0 → Here p b → call p s (b ∷ bs) ≡ onward p (b ∷ bs) ((eat s b).0, 1, (eat s b).1)) where
  hand-then : (p : P) (bs : List ℕ) (o : Option A) (t : S) (r : Option A × ℕ × S) → call p t bs ≡ onward p bs r
      → onward p bs (o, 0, t) ≡ onward p bs (unless o 0 t r)
  hand-then p bs none t r e = onward-none p bs t ∙ e
  hand-then p bs (some a) t r e = refl

  eat-then : (p : P) (b : ℕ) (bs : List ℕ) (o : Option A) (t : S) (r : Option A × ℕ × S) → call (next p b) t bs ≡ onward (next p b) bs r
      → onward p (b ∷ bs) (o, 1, t) ≡ onward p (b ∷ bs) (unless o 1 t (one_more r))
  eat-then p b bs none t r e = onward-more p b bs (none, 0, t) ∙ ap later (onward-none (next p b) bs t ∙ e) ∙ sym (onward-more p b bs r)
  eat-then p b bs (some a) t r e = refl

  pub above : (s : S) (bs : List ℕ) (p : P) → Along next Here p bs → call p s bs ≡ onward p bs (hear pend hand eat s bs)
  above =
      hear-by pend hand eat hand-one (λ s bs r. (p : P) → Along next Here p bs → call p s bs ≡ onward p bs r) (λ s e p h. sym (onward-none p [] s))
      (λ s n bs r e q p h. by_hand p s n bs e ∙ hand-then p bs (hand s).0 (hand s).1 r (q p h))
      (λ s b bs r e q p h. by-eat p s b bs e h.0 ∙ eat-then p b bs (eat s b).0 (eat s b).1 r (q (next p b) h.1))

-- the upper's states are the lower's by f, its answers by g: h of one that may be, l of a list of them
module _ {S T A B : Type 0} (pend : S → ℕ) (hand : S → Option A × S) (eat : S → ℕ → Option A × S)
    (hand-one : (s : S) (n : ℕ) → pend s ≡ suc n → pend (hand s).1 ≡ n)
    (pend' : T → ℕ) (hand' : T → Option B × T) (eat' : T → ℕ → Option B × T)
    (hand-one' : (t : T) (n : ℕ) → pend' t ≡ suc n → pend' (hand' t).1 ≡ n)
    (f : S → T) (g : A → B) (h : Option A → Option B) (l : List A → List B)
    (h-none : h none ≡ none) (h-some : (a : A) → h (some a) ≡ some (g a)) (l-none : l [] ≡ []) (l-some : (a : A) (xs : List A) → l (a ∷ xs) ≡ g a ∷ l xs)
    (same-pend : (s : S) → pend' (f s) ≡ pend s) (same-hand : (s : S) (n : ℕ) → pend s ≡ suc n → hand' (f s) ≡ (h (hand s).0, f (hand s).1))
    (same-eat : (s : S) (b : ℕ) → eat' (f s) b ≡ (h (eat s b).0, f (eat s b).1)) where
  abbrev seen : Option A × ℕ × S → Option B × ℕ × T
  seen r = (h r.0, r.1, f r.2)

  abbrev seen_all : List A × S → List B × T
  seen_all r = (l r.0, f r.1)

  unless-seen : (o : Option A) (n : ℕ) (t : S) (r : Option A × ℕ × S) → unless (h o) n (f t) (seen r) ≡ seen (unless o n t r)
  unless-seen none n t r = ap (λ x. unless x n (f t) (seen r)) h-none
  unless-seen (some a) n t r = ap (λ x. unless x n (f t) (seen r)) (h-some a) ∙ (λ i. (sym (h-some a) i, n, f t))

  tell-seen : (o : Option A) (r : List A × S) → tell (h o) (seen_all r) ≡ seen_all (tell o r)
  tell-seen none r = ap (λ x. tell x (seen_all r)) h-none
  tell-seen (some a) r = ap (λ x. tell x (seen_all r)) (h-some a) ∙ (λ i. (sym (l-some a r.0) i, f r.1))

  abbrev hear' : T → List ℕ → Option B × ℕ × T
  hear' = hear pend' hand' eat'

  abbrev all' : T → List ℕ → List B × T
  all' = all pend' hand' eat'

  pub hear-seen : (s : S) (bs : List ℕ) → hear' (f s) bs ≡ seen (hear pend hand eat s bs)
  hear-seen =
      hear-by pend hand eat hand-one (λ s bs r. hear' (f s) bs ≡ seen r)
      (λ s e. hear-end pend' hand' eat' hand-one' (f s) (same-pend s ∙ e) ∙ (λ i. (sym h-none i, 0, f s)))
      (λ s n bs r e q.
      hear-hand pend' hand' eat' hand-one' (f s) n bs (same-pend s ∙ e) ∙ ap (λ x. unless x.0 0 x.1 (hear' x.1 bs)) (same-hand s n e)
      ∙ ap (unless (h (hand s).0) 0 (f (hand s).1)) q ∙ unless-seen (hand s).0 0 (hand s).1 r)
      (λ s b bs r e q.
      hear-eat pend' hand' eat' hand-one' (f s) b bs (same-pend s ∙ e) ∙ ap (λ x. unless x.0 1 x.1 (one_more (hear' x.1 bs))) (same-eat s b)
      ∙ ap (λ x. unless (h (eat s b).0) 1 (f (eat s b).1) (one_more x)) q ∙ unless-seen (eat s b).0 1 (eat s b).1 (one_more r))

  pub all_seen : (s : S) (bs : List ℕ) → all' (f s) bs ≡ seen_all (all pend hand eat s bs)
  all_seen =
      all-by pend hand eat hand-one (λ s bs x. all' (f s) bs ≡ seen_all x)
      (λ s e. all_end pend' hand' eat' hand-one' (f s) (same-pend s ∙ e) ∙ (λ i. (sym l-none i, f s)))
      (λ s n bs x e q.
      all-hand pend' hand' eat' hand-one' (f s) n bs (same-pend s ∙ e) ∙ ap (λ y. tell y.0 (all' y.1 bs)) (same-hand s n e)
      ∙ ap (tell (h (hand s).0)) q ∙ tell-seen (hand s).0 x)
      (λ s b bs x e q.
      all-eat pend' hand' eat' hand-one' (f s) b bs (same-pend s ∙ e) ∙ ap (λ y. tell y.0 (all' y.1 bs)) (same-eat s b)
      ∙ ap (tell (h (eat s b).0)) q ∙ tell-seen (eat s b).0 x)
