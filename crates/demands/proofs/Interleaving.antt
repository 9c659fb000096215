-- Demand 2, interleaving, in the words of request W3. N is 255 d.
-- cell-is, cell-period                            the equations, and their period
-- place_is                                        where byte t is written
-- output-is, second-output, depth-passes          what output t is
-- came-count, came-back, delay                    what has come back, and when
-- closing-zeros, there_and_back                   .. behind the closing push
-- push-cut, pull-cut, push_goes, pull-goes        pieces, by the calls of either side
-- pieces-late, pieces-back                        .. and by both
-- push-is, closing-is, pull-is                    what each call writes, and the bytes behind it
use Prim.Native.Nat.{ℕ, ◌+◌, ◌-◌, ◌*◌, ◌/◌, ◌%◌, ◌≤◌, ◌<◌}
use native.Mathlib.Omega.{arith}
use mathlib.Core.Path.{◌≡◌, refl, ap, ◌∙◌}
use mathlib.Core.Bool.{Bool, false}
use mathlib.Core.Logic.{◌⊎◌}
use mathlib.Core.List.{List, [], ◌∷◌, ◌++◌}
use lib.ListN.{length, take, get_or, replicate, length-replicate}
use borrow.Author.Tests.{lt-ltb, le-ltb}
use Rattle.base.specs.Calls.{joined, run}
use Rattle.base.specs.Choice.{pick}
use Rattle.base.specs.Written.{outcome, write}
use Rattle.base.specs.Written.{Wrote}
use Rattle.interleaver_spec.specs.Places.{cell}
use Rattle.interleaver_spec.specs.Running.{fresh, sent, push, fresh_back, gave, pull, beyond, pushing, closing_bytes, zeros, closing, pulling}
use Rattle.interleaver_spec.specs.Pieces.{Goes}
use Rattle.interleaver_spec.specs.declared.Matrix.{Matrix}
use Rattle.interleaver_spec.specs.declared.Back.{Back}
use Rattle.interleaver_spec.proofs.Places.{cell-mod}
use Rattle.interleaver_spec.proofs.Calling.{passes, deeper}
use Rattle.interleaver_spec.proofs.Pushing.{sent-place}
use Rattle.interleaver_spec.proofs.Numbers.{first-outputs}
use Rattle.interleaver_spec.proofs.Round.{output-told, returned-told, returned-length, delayed, there_and_back as round}
use Rattle.interleaver_spec.proofs.Cutting as cutting
use Rattle.demands_laws.proofs.Rows.{calling-is}

-- ---- the equations: "column 53i mod 255 and row (i - 254·INT(i/255)) mod D", cells numbered row by row ..
pub cell-is : (d i : ℕ) → cell d i ≡ (i - 254 * (i / 255)) % d * 255 + 53 * i % 255
cell-is d i = refl

-- .. so that output t is read by the equations of t, and of t mod N: they name one cell
pub cell-period : (d t : ℕ) → cell d t ≡ cell d (t % (255 * d))
cell-period = cell-mod

-- ---- "byte t is written to cell t mod N": the place whose turn it is, behind any bytes
pub place_is : (d : ℕ) → 2 ≤ d → (bs : List ℕ) → (run (push d) fresh bs).1.place ≡ length bs % (255 * d)
place_is d h bs =
    ap (λ (x : List ℕ × Matrix). x.1.place) (deeper d (sent d) h fresh bs) ∙ sent-place d fresh bs (omega arith)
    ∙ ap (λ (x : ℕ). x % (255 * d)) (let z : 0 + length bs ≡ length bs = omega arith in z)

-- ---- "byte t is written to cell t mod N and then output t is read by the equations, giving what the cell holds from this pass or the one before; cells
-- begin at zero": where the cell's first byte is still to come, zero; else byte u, the last one up to byte t that went to that cell
pub output-is : (d : ℕ) → 2 ≤ d → d ≤ 64 → (bs : List ℕ) (t : ℕ) → t < length bs
    → ((t < cell d t) × (get_or (run (push d) fresh bs).0 t 0 ≡ 0))
    ⊎ ((u : ℕ) × (u ≤ t) × (t < u + 255 * d) × (u % (255 * d) ≡ cell d t) × (get_or (run (push d) fresh bs).0 t 0 ≡ get_or bs u 0))
output-is = output-told

-- "At depth 2, output 1 is zero", whatever the bytes are
pub second-output : (x y : ℕ) → (run (push 2) fresh (x ∷ y ∷ [])).0 ≡ x ∷ 0 ∷ []
second-output = first-outputs

-- "Depth 0 and 1 pass bytes unchanged", there and back, whatever the state, which stays
pub depth-passes : (d : ℕ) → d < 2 → (m : Matrix) (k : Back) (bs : List ℕ) → (run (push d) m bs ≡ (bs, m)) × (run (pull d) k bs ≡ (bs, k))
depth-passes d h m k bs = (passes d (sent d) h m bs, passes d (gave d) h k bs)

-- ---- "The receiving side returns byte t exactly when it has taken in received byte t + N - 1": of n received bytes, whatever they are, n - (N - 1) have
-- come back; byte t is received byte v, the one of the N from t on that was read from cell t mod N ..
pub came-count : (d : ℕ) → 2 ≤ d → d ≤ 64 → (rs : List ℕ) → length (run (pull d) fresh_back rs).0 ≡ length rs - (255 * d - 1)
came-count = returned-length

pub came-back : (d : ℕ) → 2 ≤ d → d ≤ 64 → (rs : List ℕ) (t : ℕ) → t + 255 * d ≤ length rs
    → (v : ℕ) × (t ≤ v) × (v < t + 255 * d) × (cell d v ≡ t % (255 * d)) × (get_or (run (pull d) fresh_back rs).0 t 0 ≡ get_or rs v 0)
came-back = returned-told

-- .. and of the sender's outputs it is the sender's byte t: "the round trip holds with that delay"
pub delay : (d : ℕ) → 2 ≤ d → d ≤ 64 → (bs : List ℕ) → (run (pull d) fresh_back (run (push d) fresh bs).0).0 ≡ take (length bs - (255 * d - 1)) bs
delay = delayed

-- "After its last byte the sender pushes N - 1 zeros through": then all have come back
pub closing-zeros : (d : ℕ) → (2 ≤ d → zeros d ≡ replicate (255 * d - 1) 0) × (d < 2 → zeros d ≡ [])
closing-zeros d = (
  λ h. ap (λ (t : Bool). replicate {A = ℕ} (pick t 0 (255 * d - 1)) 0) (le-ltb d 2 h),
  λ h. ap (λ (t : Bool). replicate {A = ℕ} (pick t 0 (255 * d - 1)) 0)
      (lt-ltb d 2 h),
)

pub there_and_back : (d : ℕ) → d ≤ 64 → (bs : List ℕ) → (run (pull d) fresh_back (run (push d) fresh (bs ++ zeros d)).0).0 ≡ bs
there_and_back d h bs = round d h bs (zeros d) (length-replicate {A = ℕ} (closing_bytes d) 0)

-- ---- "Cutting the bytes changes nothing": pieces handed in one after the other, none of the calls refused, from any state: what is written in all and
-- the state at the end are those of the uncut bytes ..
pub push-cut : (d : ℕ) {m n : Matrix} {ps : List (List ℕ)} {xs : List ℕ} → Goes (pushing d) m ps xs n → (xs, n) ≡ run (push d) m (joined ps)
push-cut = cutting.push-cut

pub pull-cut : (d : ℕ) {k l : Back} {ps : List (List ℕ)} {xs : List ℕ} → Goes (pulling d) k ps xs l → (xs, l) ≡ run (pull d) k (joined ps)
pull-cut = cutting.pull-cut

-- .. and there are such calls: from every state that passes 10, where each is lent room for as many bytes as its piece has
pub push_goes : (d : ℕ) → d ≤ 64 → (lent : List ℕ → List ℕ) → ((p : List ℕ) → length p ≤ length (lent p))
    → (m : Matrix) → beyond d m.place ≡ false → (ps : List (List ℕ)) → (xs : List ℕ) × (n : Matrix) × Goes (pushing d) m ps xs n
push_goes = cutting.push_goes

pub pull-goes : (d : ℕ) → d ≤ 64 → (lent : List ℕ → List ℕ) → ((p : List ℕ) → length p ≤ length (lent p))
    → (k : Back) → beyond d k.matrix.place ≡ false → (ps : List (List ℕ)) → (xs : List ℕ) × (l : Back) × Goes (pulling d) k ps xs l
pull-goes = cutting.pull-goes

-- the calls there and back: pieces ps pushed from fresh, and what came out handed in from fresh, cut in any other way (rs). Without the closing
-- push all but the last N - 1 bytes have come back ..
pub pieces-late : (d : ℕ) → d ≤ 64 → (ps rs : List (List ℕ)) {xs ys : List ℕ} {m : Matrix} {k : Back} → Goes (pushing d) fresh ps xs m
    → 2 ≤ d → joined rs ≡ xs → Goes (pulling d) fresh_back rs ys k → ys ≡ take (length (joined ps) - (255 * d - 1)) (joined ps)
pieces-late = cutting.returned-late

-- .. and with it all, at every depth
pub pieces-back : (d : ℕ) → d ≤ 64 → (ps rs : List (List ℕ)) {xs ys : List ℕ} {m : Matrix} {k : Back} → Goes (pushing d) fresh ps xs m
    → (n : ℕ) (out after : List ℕ) (l : Matrix) → closing d m out ≡ (outcome (Wrote n) after, l) → joined rs ≡ xs ++ take n after
    → Goes (pulling d) fresh_back rs ys k → ys ≡ joined ps
pieces-back = cutting.returned-all

-- ---- "output shorter than the result; bytes behind the result stay" (paper 01): a call that is not refused writes its result at the start of the
-- output (`write` (crates/base/specs/Written.antt)), the sender's ..
pub push-is : (d : ℕ) (m : Matrix) (bs out : List ℕ) (n : ℕ) → (pushing d m bs out).0.answer ≡ Wrote n
    → (pushing d m bs out).0 ≡ write (run (push d) m bs).0 out
push-is d m bs out n = calling-is d m.place m (run (push d) m bs) out n

-- .. its closing push ..
pub closing-is : (d : ℕ) (m : Matrix) (out : List ℕ) (n : ℕ) → (closing d m out).0.answer ≡ Wrote n
    → (closing d m out).0 ≡ write (run (push d) m (zeros d)).0 out
closing-is d m out n = push-is d m (zeros d) out n

-- .. and the receiving side's
pub pull-is : (d : ℕ) (k : Back) (bs out : List ℕ) (n : ℕ) → (pulling d k bs out).0.answer ≡ Wrote n
    → (pulling d k bs out).0 ≡ write (run (pull d) k bs).0 out
pull-is d k bs out n = calling-is d k.matrix.place k (run (pull d) k bs) out n
