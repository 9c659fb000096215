-- Laws of reading by calls, proved once for any reader whose `hand` makes one of the owed moves.
-- run-append                        the reading of two strings, one behind the other
-- after_none, after_one, one-after, after_more, after-after   bytes counted on
-- hear-hand, hear-eat, hear-end     one move of a call, as a loop makes it
-- all-hand, all-eat, all_end        .. and of a whole string
-- hear-by, all-by                   what holds at the end, and over each move, holds of a call, and of all answers
-- law                               the law of a call: its answer is the first, and the others are had from its state and the bytes left
-- FitsBy, Fits, fits, more-iff      "more wanted" exactly when all bytes are taken and no answer is owed
-- none-owed                         of a reader that never owes a move: it fits that
-- with-hear, inv-hear               what holds of every answer with the state behind it, and of every state, holds of a call's
-- settled, ends                     a whole string leaves no move owed, and its calls come to their end
-- all_append                        two strings, one behind the other
-- cut                               every way of cutting yields the answers and the final state of the uncut string
-- yields_within                     .. and comes to its end: of a call that looks first, where it is safe for the bytes that may still come
-- yields-all, yields-first          .. where that is a fact of the state alone; with a word half handed on too
-- yields-so                         .. and in other words
use Prim.Native.Nat.{ℕ, zero, suc, ◌+◌, ◌≤◌, zero-le, suc-le-suc}
use native.Mathlib.Nat.{zero-add, suc-add, add_assoc}
use native.Mathlib.Omega.{arith}
use mathlib.Core.Path.{◌≡◌, refl, sym, ◌∙◌, ap, subst}
use mathlib.Core.List.{List, [], ◌∷◌, ◌++◌, nil≢cons, cons≢nil, head-eq_of_cons-eq, tail-eq_of_cons-eq}
use mathlib.Core.Option.{Option, some, none, none-ne-some}
use mathlib.Core.Logic.{◌↔◌}
use lib.ListN.{length, drop, length-append}
use Rattle.base.specs.Calls.{joined, tell, and_then, unless, one_more, after, With, owes_none, Reads, ReadsAll, Yields}
use Rattle.base.specs.Calls.Reads.{more, answer}
use Rattle.base.specs.Calls.ReadsAll.{done, piece}
use Rattle.base.specs.Calls as calls

module _ {S A : Type 0} where
  tell-then : (o : Option A) (r : List A × S) (k : S → List A × S) → and_then (tell o r) k ≡ tell o (and_then r k)
  tell-then none r k = refl
  tell-then (some a) r k = refl

pub after_none : {A S : Type 0} (r : Option A × ℕ × S) → r ≡ after 0 r
after_none r = λ i. (r.0, sym (zero-add r.1) i, r.2)

pub after_one : {A S : Type 0} (n : ℕ) (r : Option A × ℕ × S) → one_more (after n r) ≡ after (suc n) r
after_one n r = λ i. (r.0, sym (suc-add n r.1) i, r.2)

pub one-after : {A S : Type 0} (r : Option A × ℕ × S) → one_more r ≡ after 1 r
one-after r = ap one_more (after_none r) ∙ after_one 0 r

pub after_more : {A S : Type 0} (n : ℕ) (r : Option A × ℕ × S) → after n (one_more r) ≡ after (n + 1) r
after_more n r = let e : n + suc r.1 ≡ n + 1 + r.1 = omega arith in λ i. (r.0, e i, r.2)

pub after-after : {A S : Type 0} (m n : ℕ) (r : Option A × ℕ × S) → after m (after n r) ≡ after (m + n) r
after-after m n r = λ i. (r.0, sym (add_assoc m n r.1) i, r.2)

pub none-owed : {S : Type 0} (s : S) (n : ℕ) → owes_none s ≡ suc n → owes_none s ≡ n
none-owed s n e = omega arith

module _ {S A : Type 0} (eat : S → ℕ → Option A × S) where
  abbrev run : S → List ℕ → List A × S
  run = calls.run eat

  pub run-append : (s : S) (bs cs : List ℕ) → run s (bs ++ cs) ≡ and_then (run s bs) (λ t. run t cs)
  run-append s [] cs = refl
  run-append s (b ∷ bs) cs =
      ap (tell (eat s b).0) (run-append (eat s b).1 bs cs) ∙ sym (tell-then (eat s b).0 (run (eat s b).1 bs) (λ t. run t cs))

module _ {S A : Type 0} (pend : S → ℕ) (hand : S → Option A × S) (eat : S → ℕ → Option A × S) where
  abbrev drain : ℕ → S → (S → List A × S) → List A × S
  drain = calls.drain pend hand eat

  abbrev rest : List ℕ → S → List A × S
  rest = calls.rest pend hand eat

  abbrev all : S → List ℕ → List A × S
  all = calls.all pend hand eat

  abbrev first : ℕ → S → (S → Option A × ℕ × S) → Option A × ℕ × S
  first = calls.first pend hand eat

  abbrev wait : List ℕ → S → Option A × ℕ × S
  wait = calls.wait pend hand eat

  abbrev hear : S → List ℕ → Option A × ℕ × S
  hear = calls.hear pend hand eat

  abbrev told_by : Option A → ℕ → S → List ℕ → List A × S
  told_by = calls.told_by pend hand eat

  abbrev told : Option A × ℕ × S → List ℕ → List A × S
  told = calls.told pend hand eat

  -- `hand` makes one of the owed moves
  module _ (hand-one : (s : S) (n : ℕ) → pend s ≡ suc n → pend (hand s).1 ≡ n) where
    -- ---- by each move: an owed one, a byte where nothing is owed, and the end where nothing is left
    pub all-hand : (s : S) (n : ℕ) (bs : List ℕ) → pend s ≡ suc n → all s bs ≡ tell (hand s).0 (all (hand s).1 bs)
    all-hand s n bs e = ap (λ m. drain m s (rest bs)) e ∙ ap (λ m. tell (hand s).0 (drain m (hand s).1 (rest bs))) (sym (hand-one s n e))

    pub all-eat : (s : S) (b : ℕ) (bs : List ℕ) → pend s ≡ 0 → all s (b ∷ bs) ≡ tell (eat s b).0 (all (eat s b).1 bs)
    all-eat s b bs e = ap (λ m. drain m s (rest (b ∷ bs))) e

    pub all_end : (s : S) → pend s ≡ 0 → all s [] ≡ ([], s)
    all_end s e = ap (λ m. drain m s (rest [])) e

    pub hear-hand : (s : S) (n : ℕ) (bs : List ℕ) → pend s ≡ suc n → hear s bs ≡ unless (hand s).0 0 (hand s).1 (hear (hand s).1 bs)
    hear-hand s n bs e = ap (λ m. first m s (wait bs)) e ∙ ap (λ m. unless (hand s).0 0 (hand s).1 (first m (hand s).1 (wait bs))) (sym (hand-one s n e))

    pub hear-eat : (s : S) (b : ℕ) (bs : List ℕ) → pend s ≡ 0 → hear s (b ∷ bs) ≡ unless (eat s b).0 1 (eat s b).1 (one_more (hear (eat s b).1 bs))
    hear-eat s b bs e = ap (λ m. first m s (wait (b ∷ bs))) e

    pub hear-end : (s : S) → pend s ≡ 0 → hear s [] ≡ (none, 0, s)
    hear-end s e = ap (λ m. first m s (wait [])) e

    -- what holds at the end, and over each move, holds of all answers ..
    module _ (Q : S → List ℕ → List A × S → Type 0) (at-end : (s : S) → pend s ≡ 0 → Q s [] ([], s))
        (by_hand : (s : S) (n : ℕ) (bs : List ℕ) (x : List A × S) → pend s ≡ suc n → Q (hand s).1 bs x → Q s bs (tell (hand s).0 x))
        (by-eat : (s : S) (b : ℕ) (bs : List ℕ) (x : List A × S) → pend s ≡ 0 → Q (eat s b).1 bs x → Q s (b ∷ bs) (tell (eat s b).0 x)) where
      by-drain : (bs : List ℕ) (k : (s : S) → pend s ≡ 0 → Q s bs (rest bs s)) (n : ℕ) (s : S) → pend s ≡ n → Q s bs (drain n s (rest bs))
      by-drain bs k zero s e = k s e
      by-drain bs k (suc n) s e = by_hand s n bs (drain n (hand s).1 (rest bs)) e (by-drain bs k n (hand s).1 (hand-one s n e))

      by-rest : (bs : List ℕ) (s : S) → pend s ≡ 0 → Q s bs (rest bs s)
      by-rest [] s e = at-end s e
      by-rest (b ∷ bs) s e = by-eat s b bs (all (eat s b).1 bs) e (by-drain bs (by-rest bs) (pend (eat s b).1) (eat s b).1 refl)

      pub all-by : (s : S) (bs : List ℕ) → Q s bs (all s bs)
      all-by s bs = by-drain bs (by-rest bs) (pend s) s refl

    -- .. and of a call
    module _ (Q : S → List ℕ → Option A × ℕ × S → Type 0) (at-end : (s : S) → pend s ≡ 0 → Q s [] (none, 0, s))
        (by_hand : (s : S) (n : ℕ) (bs : List ℕ) (r : Option A × ℕ × S) → pend s ≡ suc n → Q (hand s).1 bs r → Q s bs (unless (hand s).0 0 (hand s).1 r))
        (by-eat : (s : S) (b : ℕ) (bs : List ℕ) (r : Option A × ℕ × S) → pend s ≡ 0 → Q (eat s b).1 bs r
        → Q s (b ∷ bs) (unless (eat s b).0 1 (eat s b).1 (one_more r))) where
      by_first : (bs : List ℕ) (k : (s : S) → pend s ≡ 0 → Q s bs (wait bs s)) (n : ℕ) (s : S) → pend s ≡ n → Q s bs (first n s (wait bs))
      by_first bs k zero s e = k s e
      by_first bs k (suc n) s e = by_hand s n bs (first n (hand s).1 (wait bs)) e (by_first bs k n (hand s).1 (hand-one s n e))

      by-wait : (bs : List ℕ) (s : S) → pend s ≡ 0 → Q s bs (wait bs s)
      by-wait [] s e = at-end s e
      by-wait (b ∷ bs) s e = by-eat s b bs (hear (eat s b).1 bs) e (by_first bs (by-wait bs) (pend (eat s b).1) (eat s b).1 refl)

      pub hear-by : (s : S) (bs : List ℕ) → Q s bs (hear s bs)
      hear-by s bs = by_first bs (by-wait bs) (pend s) s refl

    -- ---- the law of a call
    told-hand : (o : Option A) (t : S) (r : Option A × ℕ × S) (bs : List ℕ) → all t bs ≡ told r bs → tell o (all t bs) ≡ told (unless o 0 t r) bs
    told-hand none t r bs e = e
    told-hand (some a) t r bs e = refl

    told_more : (o : Option A) (n : ℕ) (t : S) (b : ℕ) (bs : List ℕ) → told_by o n t bs ≡ told_by o (suc n) t (b ∷ bs)
    told_more none n t b bs = refl
    told_more (some a) n t b bs = refl

    told-eat : (o : Option A) (t : S) (r : Option A × ℕ × S) (b : ℕ) (bs : List ℕ)
        → all t bs ≡ told r bs → tell o (all t bs) ≡ told (unless o 1 t (one_more r)) (b ∷ bs)
    told-eat none t r b bs e = e ∙ told_more r.0 r.1 r.2 b bs
    told-eat (some a) t r b bs e = refl

    pub law : (s : S) (bs : List ℕ) → all s bs ≡ told (hear s bs) bs
    law =
        hear-by (λ s bs r. all s bs ≡ told r bs) all_end
        (λ s n bs r e q. all-hand s n bs e ∙ told-hand (hand s).0 (hand s).1 r bs q)
        (λ s b bs r e q. all-eat s b bs e ∙ told-eat (eat s b).0 (eat s b).1 r b bs q)

    -- "more wanted" is said exactly when every byte is taken and nothing is owed; an answer leaves the bytes behind those taken
    abbrev pub FitsBy : Option A → ℕ → S → List ℕ → Type 0
    FitsBy none n s bs = (n ≡ length bs) × (pend s ≡ 0)
    FitsBy (some a) n s bs = n ≤ length bs

    abbrev pub Fits : Option A × ℕ × S → List ℕ → Type 0
    Fits r bs = FitsBy r.0 r.1 r.2 bs

    fits-hand : (o : Option A) (t : S) (r : Option A × ℕ × S) (bs : List ℕ) → Fits r bs → Fits (unless o 0 t r) bs
    fits-hand none t r bs f = f
    fits-hand (some a) t r bs f = zero-le

    fits_more : (o : Option A) (n : ℕ) (t : S) (b : ℕ) (bs : List ℕ) → FitsBy o n t bs → FitsBy o (suc n) t (b ∷ bs)
    fits_more none n t b bs f = (ap suc f.0, f.1)
    fits_more (some a) n t b bs f = suc-le-suc f

    fits-eat : (o : Option A) (t : S) (r : Option A × ℕ × S) (b : ℕ) (bs : List ℕ) → Fits r bs → Fits (unless o 1 t (one_more r)) (b ∷ bs)
    fits-eat none t r b bs f = fits_more r.0 r.1 r.2 b bs f
    fits-eat (some a) t r b bs f = suc-le-suc zero-le

    pub fits : (s : S) (bs : List ℕ) → Fits (hear s bs) bs
    fits =
        hear-by (λ s bs r. Fits r bs) (λ s e. (refl, e)) (λ s n bs r e q. fits-hand (hand s).0 (hand s).1 r bs q)
        (λ s b bs r e q. fits-eat (eat s b).0 (eat s b).1 r b bs q)

    -- "more wanted" exactly when no answer is owed
    none_told : (o : Option A) (n : ℕ) (s : S) (bs : List ℕ) → o ≡ none → (told_by o n s bs).0 ≡ []
    none_told none n s bs e = refl
    none_told (some a) n s bs e = absurd (none-ne-some a (sym e))

    told_none : (o : Option A) (n : ℕ) (s : S) (bs : List ℕ) → (told_by o n s bs).0 ≡ [] → o ≡ none
    told_none none n s bs e = refl
    told_none (some a) n s bs e = absurd (cons≢nil e)

    pub more-iff : (s : S) (bs : List ℕ) → ((hear s bs).0 ≡ none) ↔ ((all s bs).0 ≡ [])
    more-iff s bs = (
      (λ e. ap (λ r. r.0) (law s bs) ∙ none_told (hear s bs).0 (hear s bs).1 (hear s bs).2 bs e),
      (λ e. told_none (hear s bs).0 (hear s bs).1 (hear s bs).2 bs (sym (ap (λ r. r.0) (law s bs)) ∙ e)),
    )

    -- what holds of an answer and the state that comes with it at each move, holds of a call's
    module _ (Q : A → S → Type 0) (q-hand : (s : S) → With Q (hand s).0 (hand s).1) (q-eat : (s : S) (b : ℕ) → With Q (eat s b).0 (eat s b).1) where
      with-unless : (o : Option A) (n : ℕ) (t : S) (r : Option A × ℕ × S) → With Q o t → With Q r.0 r.2 → With Q (unless o n t r).0 (unless o n t r).2
      with-unless none n t r q w = w
      with-unless (some a) n t r q w = q

      pub with-hear : (s : S) (bs : List ℕ) → With Q (hear s bs).0 (hear s bs).2
      with-hear =
          hear-by (λ s bs r. With Q r.0 r.2) (λ s e. tt) (λ s n bs r e w. with-unless (hand s).0 0 (hand s).1 r (q-hand s) w)
          (λ s b bs r e w. with-unless (eat s b).0 1 (eat s b).1 (one_more r) (q-eat s b) w)

    -- where all has been read nothing is owed
    settled-tell : (o : Option A) (x : List A × S) → pend x.1 ≡ 0 → pend (tell o x).1 ≡ 0
    settled-tell none x e = e
    settled-tell (some a) x e = e

    pub settled : (s : S) (bs : List ℕ) → pend (all s bs).1 ≡ 0
    settled =
        all-by (λ s bs x. pend x.1 ≡ 0) (λ s e. e) (λ s n bs x e q. settled-tell (hand s).0 x q) (λ s b bs x e q. settled-tell (eat s b).0 x q)

    -- whatever the calls yield is what the piece means ..
    reads_all : {s : S} {bs : List ℕ} {xs : List A} {t : S} → Reads hear s bs xs t → all s bs ≡ (xs, t)
    reads_all {s} {bs} (more n e) = law s bs ∙ ap (λ r. told r bs) e
    reads_all {s} {bs} (answer {a = a} n e r) = law s bs ∙ ap (λ q. told q bs) e ∙ ap (tell (some a)) (reads_all r)

    -- .. and the calls end
    ends_by : (xs : List A) (u : S) (s : S) (bs : List ℕ) (r : Option A × ℕ × S) → hear s bs ≡ r → told r bs ≡ (xs, u) → Reads hear s bs xs u
    ends_by [] u s bs (none, n, t) h q = subst (λ v. Reads hear s bs [] v) (ap (λ p. p.1) q) (more n h)
    ends_by [] u s bs (some a, n, t) h q = absurd (cons≢nil (ap (λ p. p.0) q))
    ends_by (x ∷ xs) u s bs (none, n, t) h q = absurd (nil≢cons (ap (λ p. p.0) q))
    ends_by (x ∷ xs) u s bs (some a, n, t) h q =
        subst (λ c. Reads hear s bs (c ∷ xs) u) (head-eq_of_cons-eq (ap (λ p. p.0) q))
        (answer n h
        (ends_by xs u t (drop n bs) (hear t (drop n bs)) refl
        (sym (law t (drop n bs)) ∙ (λ i. (tail-eq_of_cons-eq (ap (λ p. p.0) q) i, (q i).1)))))

    pub ends : (s : S) (bs : List ℕ) → Reads hear s bs (all s bs).0 (all s bs).1
    ends s bs = ends_by (all s bs).0 (all s bs).1 s bs (hear s bs) refl (sym (law s bs))

    -- a string is read one part after the other
    pub all_append : (s : S) (bs cs : List ℕ) → all s (bs ++ cs) ≡ and_then (all s bs) (λ t. all t cs)
    all_append s bs cs =
        all-by (λ t ds x. all t (ds ++ cs) ≡ and_then x (λ u. all u cs)) (λ t e. refl)
        (λ t n ds x e q. all-hand t n (ds ++ cs) e ∙ ap (tell (hand t).0) q ∙ sym (tell-then (hand t).0 x (λ u. all u cs)))
        (λ t b ds x e q. all-eat t b (ds ++ cs) e ∙ ap (tell (eat t b).0) q ∙ sym (tell-then (eat t b).0 x (λ u. all u cs))) s bs

    -- a piece, and then the others: behind it nothing is owed
    settled-piece : {s : S} {p : List ℕ} {xs : List A} {t : S} → Reads hear s p xs t → pend t ≡ 0
    settled-piece {s} {p} r = subst (λ (q : List A × S). pend q.1 ≡ 0) (reads_all r) (settled s p)

    piece_then : {s : S} {p : List ℕ} (cs : List ℕ) {xs ys : List A} {t u : S} → Reads hear s p xs t → (ys, u) ≡ all t cs → (xs ++ ys, u) ≡ all s (p ++ cs)
    piece_then {s} {p} cs {xs} r e =
        (λ i. (xs ++ (e i).0, (e i).1)) ∙ (λ i. and_then (sym (reads_all r) i) (λ v. all v cs)) ∙ sym (all_append s p cs)

    -- every way of cutting yields the answers and the final state of the uncut string ..
    pub cut : {s : S} {ps : List (List ℕ)} {xs : List A} {t : S} → pend s ≡ 0 → ReadsAll hear s ps xs t → (xs, t) ≡ all s (joined ps)
    cut h done = rw h refl
    cut h (piece {ps = ps} r rs) = piece_then (joined ps) r (cut (settled-piece r) rs)

    -- .. from every state, where there is a piece: what is owed comes with the first ..
    cut-first : {s : S} {p : List ℕ} {ps : List (List ℕ)} {xs : List A} {t : S} → ReadsAll hear s (p ∷ ps) xs t → (xs, t) ≡ all s (joined (p ∷ ps))
    cut-first {ps = ps} (piece r rs) = piece_then (joined ps) r (cut (settled-piece r) rs)

    -- .. and every way of cutting comes to its end
    cut-ends : (ps : List (List ℕ)) (s : S) → pend s ≡ 0 → ReadsAll hear s ps (all s (joined ps)).0 (all s (joined ps)).1
    cut-ends [] s h = rw h done
    cut-ends (p ∷ ps) s h = rw (all_append s p (joined ps)) (piece (ends s p) (cut-ends ps (all s p).1 (settled s p)))

    cut-first-ends : (p : List ℕ) (ps : List (List ℕ)) (s : S) → ReadsAll hear s (p ∷ ps) (all s (joined (p ∷ ps))).0 (all s (joined (p ∷ ps))).1
    cut-first-ends p ps s = rw (all_append s p (joined ps)) (piece (ends s p) (cut-ends ps (all s p).1 (settled s p)))

    -- A guarded call: it is the bare call wherever the state is safe for the bytes that may still come, and behind it the state is safe for
    -- those that are left.
    module _ (Safe : S → ℕ → Type 0) (call : S → List ℕ → Option A × ℕ × S)
        (fewer : (s : S) (n k : ℕ) → Safe s (n + k) → Safe s k)
        (agrees : (s : S) (bs : List ℕ) (k : ℕ) → Safe s (length bs + k) → call s bs ≡ hear s bs)
        (behind : (s : S) (bs : List ℕ) (k : ℕ) → Safe s (length bs + k) → Safe (hear s bs).2 (length (drop (hear s bs).1 bs) + k)) where
      left : (s : S) (bs : List ℕ) (k : ℕ) (r : Option A × ℕ × S) → Safe s (length bs + k) → hear s bs ≡ r → Safe r.2 (length (drop r.1 bs) + k)
      left s bs k r i e = subst (λ (q : Option A × ℕ × S). Safe q.2 (length (drop q.1 bs) + k)) e (behind s bs k i)

      guarded : {s : S} {bs : List ℕ} {xs : List A} {t : S} (k : ℕ) → Safe s (length bs + k) → Reads call s bs xs t → Reads hear s bs xs t × Safe t k
      guarded {s} {bs} k i (more n {t = t} e) =
          let h : hear s bs ≡ (none, n, t) = sym (agrees s bs k i) ∙ e in
          (more n h, fewer t (length (drop n bs)) k (left s bs k (none, n, t) i h))
      guarded {s} {bs} k i (answer {a = a} n {t = t} e r) =
          let h : hear s bs ≡ (some a, n, t) = sym (agrees s bs k i) ∙ e in
          let j = guarded k (left s bs k (some a, n, t) i h) r in
          (answer n h j.0, j.1)

      bare : {s : S} {bs : List ℕ} {xs : List A} {t : S} (k : ℕ) → Safe s (length bs + k) → Reads hear s bs xs t → Reads call s bs xs t × Safe t k
      bare {s} {bs} k i (more n {t = t} e) =
          (more n (agrees s bs k i ∙ e), fewer t (length (drop n bs)) k (left s bs k (none, n, t) i e))
      bare {s} {bs} k i (answer {a = a} n {t = t} e r) =
          let j = bare k (left s bs k (some a, n, t) i e) r in
          (answer n (agrees s bs k i ∙ e) j.0, j.1)

      -- a piece, with the others behind it
      parted : (s : S) (p : List ℕ) (ps : List (List ℕ)) → Safe s (length (joined (p ∷ ps))) → Safe s (length p + length (joined ps))
      parted s p ps i = subst (Safe s) (length-append p (joined ps)) i

      guarded-all : {s : S} {ps : List (List ℕ)} {xs : List A} {t : S} → Safe s (length (joined ps)) → ReadsAll call s ps xs t → ReadsAll hear s ps xs t
      guarded-all i done = done
      guarded-all {s} i (piece {p = p} {ps = ps} r rs) =
          let j = guarded (length (joined ps)) (parted s p ps i) r in
          piece j.0 (guarded-all j.1 rs)

      bare-all : {s : S} {ps : List (List ℕ)} {xs : List A} {t : S} → Safe s (length (joined ps)) → ReadsAll hear s ps xs t → ReadsAll call s ps xs t
      bare-all i done = done
      bare-all {s} i (piece {p = p} {ps = ps} r rs) =
          let j = bare (length (joined ps)) (parted s p ps i) r in
          piece j.0 (bare-all j.1 rs)

      -- every way of cutting comes to its end, and yields that, where nothing is owed ..
      pub yields_within : (s : S) → pend s ≡ 0 → (ps : List (List ℕ)) → Safe s (length (joined ps))
          → Yields call s ps λ xs t. (xs, t) ≡ all s (joined ps)
      yields_within s h ps i = record {
        ends = ((all s (joined ps)).0, (all s (joined ps)).1, bare-all i (cut-ends ps s h));
        always = λ xs t r. cut h (guarded-all i r);
      }

      -- .. and from every state, where there is a piece
      yields-first-within : (s : S) (p : List ℕ) (ps : List (List ℕ)) → Safe s (length (joined (p ∷ ps)))
          → Yields call s (p ∷ ps) λ xs t. (xs, t) ≡ all s (joined (p ∷ ps))
      yields-first-within s p ps i = record {
        ends = ((all s (joined (p ∷ ps))).0, (all s (joined (p ∷ ps))).1, bare-all i (cut-first-ends p ps s));
        always = λ xs t r. cut-first (guarded-all i r);
      }

    -- The same where what is safe is a fact of the state alone, `Inv`, which no move breaks.
    module _ (Inv : S → Type 0)
        (inv-hand : (s : S) (n : ℕ) → pend s ≡ suc n → Inv s → Inv (hand s).1)
        (inv-eat : (s : S) (b : ℕ) → pend s ≡ 0 → Inv s → Inv (eat s b).1) where
      inv-unless : (o : Option A) (n : ℕ) (t : S) (r : Option A × ℕ × S) → Inv t → Inv r.2 → Inv (unless o n t r).2
      inv-unless none n t r i j = j
      inv-unless (some a) n t r i j = i

      pub inv-hear : (s : S) (bs : List ℕ) → Inv s → Inv (hear s bs).2
      inv-hear =
          hear-by (λ s bs r. Inv s → Inv r.2) (λ s e i. i)
          (λ s n bs r e q i. inv-unless (hand s).0 0 (hand s).1 r (inv-hand s n e i) (q (inv-hand s n e i)))
          (λ s b bs r e q i. inv-unless (eat s b).0 1 (eat s b).1 (one_more r) (inv-eat s b e i) (q (inv-eat s b e i)))

      module _ (call : S → List ℕ → Option A × ℕ × S) (agrees : (s : S) (bs : List ℕ) → Inv s → call s bs ≡ hear s bs) where
        pub yields-all : (s : S) → pend s ≡ 0 → Inv s → (ps : List (List ℕ)) → Yields call s ps λ xs t. (xs, t) ≡ all s (joined ps)
        yields-all s h i ps =
            yields_within (λ t n. Inv t) call (λ t n k j. j) (λ t bs k j. agrees t bs j) (λ t bs k j. inv-hear t bs j) s h ps i

        pub yields-first : (s : S) → Inv s → (p : List ℕ) (ps : List (List ℕ)) → Yields call s (p ∷ ps) λ xs t. (xs, t) ≡ all s (joined (p ∷ ps))
        yields-first s i p ps =
            yields-first-within (λ t n. Inv t) call (λ t n k j. j) (λ t bs k j. agrees t bs j) (λ t bs k j. inv-hear t bs j) s p ps i

-- what each run yields may be said in other words
pub yields-so : {S A : Type 0} {call : S → List ℕ → Option A × ℕ × S} {s : S} {ps : List (List ℕ)} {P Q : List A → S → Type 0}
    → Yields call s ps P → ((xs : List A) (t : S) → P xs t → Q xs t) → Yields call s ps Q
yields-so y f = record { ends = y.ends; always = λ xs t r. f xs t (y.always xs t r) }
