-- A sub-channel that was just told its settings hears stray bytes and then words, interleaved and marked: its answers are those of the words.
-- from_start   stray bytes before the first marker
-- words-heard  bytes of words, and at most one more, are answered word by word
-- came-back    of words us, and the closing push vs behind them: the bytes of us come back, and at most one more
-- groups-heard groups of any bytes
-- received     the answers are those of us
-- joined_length, joined-append, pushed-length   bytes put together, and pushed
use Prim.Native.Nat.{ℕ, suc, ◌+◌, ◌*◌, ◌-◌, ◌/◌, ◌≤◌, ◌<◌}
use native.Mathlib.Omega.{arith}
use mathlib.Core.Path.{◌≡◌, refl, sym, ◌∙◌, ap, subst}
use mathlib.Core.Bool.{false}
use mathlib.Core.Logic.{◌⊎◌, inl, inr}
use mathlib.Core.List.{List, [], ◌∷◌, ◌++◌, append_assoc, append-nil}
use mathlib.Core.Option.{some}
use lib.ListN.{length, take, drop, length-append, length-drop, take-append-drop}
use lib.Seq.{length-take-le}
use lib.Dec.{ltb, lit<}
use borrow.Author.Tests.{lt-ltb, le-ltb}
use Rattle.base.specs.Bytes.{Each}
use Rattle.base.specs.Calls.{joined, run}
use Rattle.base.specs.Choice.{pick}
use Rattle.base.proofs.Bytes.{each_append}
use Rattle.base.proofs.Tests.{by_le}
use Rattle.stream.specs.Meaning.{Reading, waiting}
use Rattle.interleaver_spec.specs.Running.{depth_limit, fresh, fresh_back, sent, push, pull, closing_bytes}
use Rattle.interleaver_spec.specs.declared.Matrix.{Matrix}
use Rattle.interleaver_spec.proofs.Calling.{passes, deeper}
use Rattle.interleaver_spec.proofs.Pushing.{sent-length}
use Rattle.interleaver_spec.proofs.Round.{there_and_back}
use Rattle.channel_spec.specs.Sender.{marker, word_bytes}
use Rattle.channel_spec.specs.Word.{mend}
use Rattle.channel_spec.specs.Given.{Event, words_give}
use Rattle.channel_spec.specs.Meaning.{shift, IsWord, FirstMarker}
use Rattle.channel_spec.proofs.Words.{mend-length}
use Rattle.channel_spec.proofs.Marker.{the_marker, found}
use Rattle.subchannel_spec.specs.Sender.{group_words, group_bytes, closing_words, grouped, marked}
use Rattle.subchannel_spec.specs.Meaning.{Sub, hunting, in_group, grown, worded, takes, hunt, hears, start, answers}
use Rattle.subchannel_spec.proofs.Groups.{Taken, takes_all, onward, takes-append, behind, groups-read}

-- ---- hunting
module _ (r d : ℕ) where
  pub from_start : (stray cs : List ℕ) → FirstMarker stray (marker ++ cs)
      → hears r d start (stray ++ (marker ++ cs)) ≡ hears r d (in_group the_marker 0 fresh_back [] waiting) cs
  from_start =
      found (λ f. hears r d (hunting f)) (hears r d (in_group the_marker 0 fresh_back [] waiting)) (λ f b bs e. ap (λ t. hears r d (hunt t (shift f b)) bs) e)
      (λ f bs. refl)

-- ---- words
module _ (r : ℕ) where
  -- behind nothing, or behind a whole word, a new one begins
  abbrev Begins : List ℕ → Type 0
  Begins w = (w ≡ []) ⊎ (length w ≡ word_bytes)

  begins : (y : ℕ) (w : List ℕ) → Begins w → grown w y ≡ y ∷ []
  begins y w (inl e) = ap (λ x. grown x y) e
  begins y w (inr e) = ap (λ t. pick t (w ++ y ∷ []) (y ∷ [])) (le-ltb (length w) word_bytes (omega arith))

  -- a byte of a word that is not whole before it
  grows : (u : List ℕ) (b : ℕ) (q : Reading) → length u < word_bytes → takes r (some b) u q ≡ worded (ltb (length (u ++ b ∷ [])) word_bytes) r (u ++ b ∷ []) q
  grows u b q h = ap (λ t. let x : List ℕ = pick t (u ++ b ∷ []) (b ∷ []) in worded (ltb (length x) word_bytes) r x q) (lt-ltb (length u) word_bytes h)

  word-takes : (v u : List ℕ) (q : Reading) → length u < word_bytes → length u + length v ≡ word_bytes → takes_all r v u q ≡ worded false r (u ++ v) q
  word-takes [] u q h e = absurd (omega arith)
  word-takes (b ∷ []) u q h e =
      let l : length (u ++ b ∷ []) ≡ length u + 1 = length-append u (b ∷ []) in
      let t : Taken = takes r (some b) u q in
      (λ i. (append-nil t.0 i, t.1, t.2)) ∙ grows u b q h
      ∙ ap (λ t. worded t r (u ++ b ∷ []) q) (le-ltb (length (u ++ b ∷ [])) word_bytes (omega arith))
  word-takes (b ∷ c ∷ v) u q h e =
      let l : length (u ++ b ∷ []) ≡ length u + 1 = length-append u (b ∷ []) in
      ap (λ t. onward t (takes_all r (c ∷ v)))
      (grows u b q h ∙ ap (λ t. worded t r (u ++ b ∷ []) q) (lt-ltb (length (u ++ b ∷ [])) word_bytes (omega arith)))
      ∙ word-takes (c ∷ v) (u ++ b ∷ []) q (omega arith) (omega arith) ∙ ap (λ x. worded false r x q) (append_assoc u (b ∷ []) (c ∷ v))

  word-begins : (v w : List ℕ) (q : Reading) → IsWord v → Begins w → takes_all r v w q ≡ worded false r v q
  word-begins [] w q h b = let z : ◌≡◌ {A = ℕ} 0 255 = h in absurd (omega arith)
  word-begins (y ∷ ys) w q h b =
      ap (λ x. onward (worded (ltb (length x) word_bytes) r x q) (takes_all r ys)) (begins y w b) ∙ word-takes (y ∷ ys) [] q (lit< tt) (omega arith)

  -- words one after the other, and behind them l, which is at most one byte and gives nothing
  pub words-heard : (ws : List (List ℕ)) (l w : List ℕ) (q : Reading) → Each IsWord ws → Begins w → length l ≤ 1
      → (takes_all r (joined ws ++ l) w q).0 ≡ (words_give r ws q).0
  words-heard [] [] w q h b e = refl
  words-heard [] (y ∷ []) w q h b e = ap (λ x. (worded (ltb (length x) word_bytes) r x q).0 ++ []) (begins y w b)
  words-heard [] (y ∷ z ∷ l) w q h b e = absurd (omega arith)
  words-heard (v ∷ vs) l w q h b e =
      ap (λ x. (takes_all r x w q).0) (append_assoc v (joined vs) l)
      ∙ ap (λ (t : Taken). t.0) (takes-append r v (joined vs ++ l) w q)
      ∙ ap (λ (t : Taken). (onward t (takes_all r (joined vs ++ l))).0) (word-begins v w q h.0 b)
      ∙ ap (λ x. (worded false r v q).0 ++ x) (words-heard vs l (mend r v) (worded false r v q).2 h.1 (inr (mend-length r v ∙ h.0)) e)

-- ---- through the interleaver
pub joined_length : (ws : List (List ℕ)) → Each IsWord ws → length (joined ws) ≡ word_bytes * length ws
joined_length [] h = refl
joined_length (w ∷ ws) h = length-append w (joined ws) ∙ (let a : length w ≡ 255 = h.0 in let z = joined_length ws h.1 in omega arith)

pub joined-append : (us vs : List (List ℕ)) → joined (us ++ vs) ≡ joined us ++ joined vs
joined-append [] vs = refl
joined-append (u ∷ us) vs = ap (λ l. u ++ l) (joined-append us vs) ∙ sym (append_assoc u (joined us) (joined vs))

pub pushed-length : (d : ℕ) (bs : List ℕ) → length (run (push d) fresh bs).0 ≡ length bs
pushed-length d bs =
    by_le 2 d (λ h. ap (λ (x : List ℕ × Matrix). length x.0) (deeper d (sent d) h fresh bs) ∙ sent-length d fresh bs)
    (λ h. ap (λ (x : List ℕ × Matrix). length x.0) (passes d (sent d) h fresh bs))

-- the closing push is at most one byte longer than the interleaver asks
closing-long : (d : ℕ) → (closing_bytes d ≤ word_bytes * closing_words d) × (word_bytes * closing_words d ≤ 1 + closing_bytes d)
closing-long d =
    by_le 2 d (λ h. rw (le-ltb d 2 h) (omega arith, omega arith)) (λ h. rw (lt-ltb d 2 h) (omega arith, omega arith))

pub came-back : (d : ℕ) (us vs : List (List ℕ)) → d ≤ depth_limit → Each IsWord vs → length vs ≡ closing_words d
    → (l : List ℕ) × (length l ≤ 1) × ((run (pull d) fresh_back (run (push d) fresh (joined (us ++ vs))).0).0 ≡ joined us ++ l)
came-back d us vs h w c =
    let js : List ℕ = joined vs in
    let n : ℕ = length js - closing_bytes d in
    let m = closing-long d in
    let s : length js ≡ word_bytes * closing_words d = joined_length vs w ∙ ap (λ x. word_bytes * x) c in
    let a : length (take n js) ≡ n = length-take-le n js (omega arith) in (
      take n js,
      omega arith,
      ap (λ x. (run (pull d) fresh_back (run (push d) fresh x).0).0)
          (joined-append us vs ∙ ap (λ x. joined us ++ x) (sym (take-append-drop n js)) ∙ sym (append_assoc (joined us) (take n js) (drop n js)))
          ∙ there_and_back d h (joined us ++ take n js) (drop n js) (length-drop n js ∙ omega arith),
    )

-- stray bytes and then whole groups of any bytes rs, the marker before each: answers and state are those of the bytes that come back
pub groups-heard : (r d : ℕ) (stray rs : List ℕ) (g : ℕ) → length rs ≡ suc g * group_bytes → FirstMarker stray (grouped (suc g) rs)
    → hears r d start (stray ++ grouped (suc g) rs) ≡ behind r d the_marker (run (pull d) fresh_back rs) [] waiting
groups-heard r d stray rs g l f =
    from_start r d stray (take group_bytes rs ++ grouped g (drop group_bytes rs)) f ∙ groups-read r d g rs fresh_back [] waiting l

-- stray bytes and then words, interleaved and marked, whole groups of them, with the closing push at the end
pub received : (r d : ℕ) (stray : List ℕ) (us vs : List (List ℕ)) (g : ℕ) → d ≤ depth_limit → Each IsWord us → Each IsWord vs
    → length vs ≡ closing_words d → length (us ++ vs) ≡ suc g * group_words → FirstMarker stray (marked d (us ++ vs))
    → answers r d (stray ++ marked d (us ++ vs)) ≡ (words_give r us waiting).0
received r d stray us vs g h wu wv c m f =
    let bytes : List ℕ = (run (push d) fresh (joined (us ++ vs))).0 in
    let n : length (us ++ vs) / group_words ≡ suc g = omega arith in
    let l : length bytes ≡ suc g * group_bytes =
    pushed-length d (joined (us ++ vs)) ∙ joined_length (us ++ vs) (each_append IsWord us vs wu wv) ∙ omega arith in
    let b = came-back d us vs h wv c in
    ap (λ x. answers r d (stray ++ grouped x bytes)) n
    ∙ ap (λ (x : List Event × Sub). x.0) (groups-heard r d stray bytes g l (subst (λ x. FirstMarker stray (grouped x bytes)) n f))
    ∙ ap (λ x. (takes_all r x [] waiting).0) b.2
    ∙ words-heard r us b.0 [] waiting wu (inl refl) b.1
