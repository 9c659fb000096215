-- Bytes handed in as pieces, by the calls.
-- push-cut, pull-cut     calls of which none is refused: what they wrote and the state that they left are those of the uncut bytes
-- push_goes, pull-goes   from every state that passes 10, with room for each piece, there are such calls
-- returned-late          what has come back of pieces pushed
-- returned-all           .. and behind the closing push
-- goes-run, goes_on      both, of either side alike
use mathlib.Core.Path.{◌≡◌, refl, sym, ap, ◌∙◌, subst}
use mathlib.Core.Bool.{Bool, false, ◌&&◌}
use mathlib.Core.List.{List, [], ◌∷◌, ◌++◌}
use mathlib.Core.Option.{Option, some, none}
use Prim.Native.Nat.{ℕ, suc, ◌+◌, ◌-◌, ◌≤◌, ◌<◌}
use native.Mathlib.Nat.{mod-lt}
use native.Mathlib.Omega.{arith}
use lib.Dec.{leb}
use lib.ListN.{length, take, length-replicate}
use lib.Seq.{take_at}
use borrow.Author.Tests.{lt-leb}
use Rattle.base.specs.Calls.{joined, tell, and_then, run}
use Rattle.base.specs.Written.{Outcome, outcome, copied}
use Rattle.base.specs.Written.{Wrote, Refused}
use Rattle.base.proofs.Calls.{run-append}
use Rattle.base.proofs.Tests.{by_le, by-test, and-false}
use Rattle.base.proofs.Writing.{copied-fits}
use Rattle.interleaver_spec.specs.Running.{depth_limit, size, fresh, passing, sent, push, fresh_back, gave, pull}
use Rattle.interleaver_spec.specs.Running.{beyond, calling, pushing, closing_bytes, zeros, closing, pulling}
use Rattle.interleaver_spec.specs.Pieces.{Goes}
use Rattle.interleaver_spec.specs.Pieces.Goes.{done, piece}
use Rattle.interleaver_spec.specs.declared.Matrix.{Matrix}
use Rattle.interleaver_spec.specs.declared.Back.{Back}
use Rattle.interleaver_spec.proofs.Calling.{passes, deeper, below, state-refused, depth-refused, output-refused, wrote}
use Rattle.interleaver_spec.proofs.Pushing.{sent-place}
use Rattle.interleaver_spec.proofs.Round.{delayed, there_and_back}

-- ---- of anything that is done byte by byte: it gives at most as many as it takes; the state behind an answer
module _ {S : Type 0} where
  behind : (o : Option ℕ) (r : List ℕ × S) → (tell o r).1 ≡ r.1
  behind none r = refl
  behind (some a) r = refl

  fewer : (e : S → ℕ → Option ℕ × S) (s : S) (bs : List ℕ) → length (run e s bs).0 ≤ length bs
  fewer e s [] = omega arith
  fewer e s (b ∷ bs) = one (e s b).0 (run e (e s b).1 bs) (fewer e (e s b).1 bs)
    where
      one : (o : Option ℕ) (r : List ℕ × S) → length r.0 ≤ length bs → length (tell o r).0 ≤ suc (length bs)
      one none r h = omega arith
      one (some a) r h = omega arith

-- ---- either side: e is what is done with a byte, and `at` the place
module _ {S : Type 0} (d : ℕ) (e : S → ℕ → Option ℕ × S) (at : S → ℕ) where
  abbrev call : S → List ℕ → List ℕ → Outcome × S
  call s bs out = calling d (at s) s (run e s bs) out

  -- a call that is not refused wrote the result, and left its state
  wrote-is : (s : S) (bs out : List ℕ) (n : ℕ) (after : List ℕ) (t : S) → call s bs out ≡ (outcome (Wrote n) after, t) → (take n after, t) ≡ run e s bs
  wrote-is s bs out n after t c =
      by-test (beyond d (at s)) (λ b. absurd (no 10 (state-refused d (at s) s r out b ∙ c)))
      (λ b.
      by_le d depth_limit
      (λ l.
      by_le (length r.0) (length out) (λ k. same k (wrote d (at s) s r out b l k ∙ c))
      (λ k. absurd (no 23 (output-refused d (at s) s r out b l k ∙ c))))
      (λ l. absurd (no 32 (depth-refused d (at s) s r out b l ∙ c))))
    where
      r : List ℕ × S
      r = run e s bs

      no : (k : ℕ) → ◌≡◌ {A = Outcome × S} (outcome (Refused k) out, s) (outcome (Wrote n) after, t) → ⊥
      no k q =
          let a : Refused k ≡ Wrote n = ap (λ (x : Outcome × S). x.0.answer) q in
          let z : ◌≡◌ {A = ℕ} 0 1 = cc in
          omega arith

      same : length r.0 ≤ length out → ◌≡◌ {A = Outcome × S} (outcome (Wrote (length r.0)) (copied r.0 out), r.1) (outcome (Wrote n) after, t)
          → (take n after, t) ≡ r
      same k q =
          let a : Wrote (length r.0) ≡ Wrote n = ap (λ (x : Outcome × S). x.0.answer) q in
          let m : length r.0 ≡ n = cc in
          (λ i. (take (sym m i) (sym q i).0.output, (sym q i).1)) ∙ (λ i. (taken i, r.1))
        where
          taken : take (length r.0) (copied r.0 out) ≡ r.0
          taken = ap (take (length r.0)) (copied-fits r.0 out k) ∙ take_at r.0 _ (length r.0) refl

  pub goes-run : {s u : S} {ps : List (List ℕ)} {xs : List ℕ} → Goes call s ps xs u → (xs, u) ≡ run e s (joined ps)
  goes-run done = refl
  goes-run (piece {s} {t} {u} {p} {ps} {xs} n out after c g) =
      (λ i. (take n after ++ (goes-run g i).0, (goes-run g i).1))
      ∙ ap (λ (x : List ℕ × S). and_then x (λ v. run e v (joined ps))) (wrote-is s p out n after t c) ∙ sym (run-append e s p (joined ps))

  module _ (most : d ≤ depth_limit) (stays : (s : S) (bs : List ℕ) → beyond d (at s) ≡ false → beyond d (at (run e s bs).1) ≡ false)
      (lent : List ℕ → List ℕ) (room : (p : List ℕ) → length p ≤ length (lent p)) where
    pub goes_on : (s : S) → beyond d (at s) ≡ false → (ps : List (List ℕ)) → (xs : List ℕ) × (u : S) × Goes call s ps xs u
    goes_on s b [] = ([], s, done)
    goes_on s b (p ∷ ps) =
        let l : length (run e s p).0 ≤ length (lent p) = let z = fewer e s p in let y = room p in omega arith in
        let g = goes_on (run e s p).1 (stays s p b) ps in
        (_, g.1, piece (length (run e s p).0) (lent p) (copied (run e s p).0 (lent p)) (sym (wrote d (at s) s (run e s p) (lent p) b most l)) g.2)

-- ---- the two sides
module _ (d : ℕ) where
  -- a place that passes 10 is followed by such a place
  on : {S : Type 0} (e : S → ℕ → Option ℕ × S) (at : S → ℕ) → ((s : S) (bs : List ℕ) → at s < size d → at (run e s bs).1 < size d)
      → (s : S) (bs : List ℕ) → beyond d (at s) ≡ false → beyond d (at (run (passing d e) s bs).1) ≡ false
  on {S} e at f s bs b =
      by_le 2 d
      (λ h.
      ap (λ (t : Bool). leb 2 d && t)
      (lt-leb (size d) _ (subst (λ (x : List ℕ × S). at x.1 < size d) (sym (deeper d e h s bs)) (f s bs (below d (at s) h b)))) ∙ and-false (leb 2 d))
      (λ h. ap (λ (x : List ℕ × S). beyond d (at x.1)) (passes d e h s bs) ∙ b)

  pub push-cut : {m n : Matrix} {ps : List (List ℕ)} {xs : List ℕ} → Goes (pushing d) m ps xs n → (xs, n) ≡ run (push d) m (joined ps)
  push-cut g = goes-run d (push d) (λ m. m.place) g

  pub pull-cut : {k l : Back} {ps : List (List ℕ)} {xs : List ℕ} → Goes (pulling d) k ps xs l → (xs, l) ≡ run (pull d) k (joined ps)
  pull-cut g = goes-run d (pull d) (λ k. k.matrix.place) g

  module _ (most : d ≤ depth_limit) (lent : List ℕ → List ℕ) (room : (p : List ℕ) → length p ≤ length (lent p)) where
    pub push_goes : (m : Matrix) → beyond d m.place ≡ false → (ps : List (List ℕ)) → (xs : List ℕ) × (n : Matrix) × Goes (pushing d) m ps xs n
    push_goes =
        goes_on d (push d) (λ m. m.place) most
        (on (sent d) (λ m. m.place)
        (λ m bs h. subst (λ (x : ℕ). x < size d) (sym (sent-place d m bs h)) (mod-lt (m.place + length bs) (omega arith)))) lent room

    pub pull-goes : (k : Back) → beyond d k.matrix.place ≡ false → (ps : List (List ℕ)) → (xs : List ℕ) × (l : Back) × Goes (pulling d) k ps xs l
    pull-goes =
        goes_on d (pull d) (λ k. k.matrix.place) most (on (gave d) (λ k. k.matrix.place) stays) lent room
      where
        stays : (k : Back) (bs : List ℕ) → k.matrix.place < size d → (run (gave d) k bs).1.matrix.place < size d
        stays k [] h = h
        stays k (b ∷ bs) h =
            subst (λ (l : Back). l.matrix.place < size d) (sym (behind (gave d k b).0 (run (gave d) (gave d k b).1 bs)))
            (stays (gave d k b).1 bs (mod-lt (k.matrix.place + 1) (omega arith)))

  -- ---- there and back: the bytes of pieces, pushed from fresh, and what came out received from fresh, in pieces again
  module _ (most : d ≤ depth_limit) (ps rs : List (List ℕ)) {xs ys : List ℕ} {m : Matrix} {k : Back} (there : Goes (pushing d) fresh ps xs m) where
    pub returned-late : 2 ≤ d → joined rs ≡ xs → Goes (pulling d) fresh_back rs ys k → ys ≡ take (length (joined ps) - (size d - 1)) (joined ps)
    returned-late h e g =
        ap (λ (x : List ℕ × Back). x.0) (pull-cut g) ∙ ap (λ (x : List ℕ). (run (pull d) fresh_back x).0)
        (e ∙ ap (λ (x : List ℕ × Matrix). x.0) (push-cut there))
        ∙ delayed d h most (joined ps)

    pub returned-all : (n : ℕ) (out after : List ℕ) (l : Matrix) → closing d m out ≡ (outcome (Wrote n) after, l) → joined rs ≡ xs ++ take n after
        → Goes (pulling d) fresh_back rs ys k → ys ≡ joined ps
    returned-all n out after l c e g =
        let z : (take n after, l) ≡ run (push d) m (zeros d) = wrote-is d (push d) (λ w. w.place) m (zeros d) out n after l c in
        let a : (xs ++ take n after, l) ≡ run (push d) fresh (joined ps ++ zeros d) =
        (λ i. (xs ++ (z i).0, (z i).1)) ∙ ap (λ (x : List ℕ × Matrix). and_then x (λ v. run (push d) v (zeros d))) (push-cut there)
        ∙ sym (run-append (push d) fresh (joined ps) (zeros d)) in
        ap (λ (x : List ℕ × Back). x.0) (pull-cut g) ∙ ap (λ (x : List ℕ). (run (pull d) fresh_back x).0) (e ∙ ap (λ (x : List ℕ × Matrix). x.0) a)
        ∙ there_and_back d most (joined ps) (zeros d) (length-replicate {A = ℕ} (closing_bytes d) 0)
