-- In which order answers come: those of the words that whole groups bring back, and of the bytes behind the last group.
-- few-given   each word gives its block answer, and then the answers of its message bytes; up to three bytes behind the last group give none
use Prim.Native.Nat.{ℕ, suc, ◌+◌, ◌*◌, ◌-◌, ◌≤◌, ◌<◌}
use native.Mathlib.Omega.{arith}
use mathlib.Core.Path.{◌≡◌, refl, sym, ◌∙◌, ap}
use mathlib.Core.Logic.◌⊎◌.{inl}
use mathlib.Core.List.{List, [], ◌∷◌, ◌++◌, append-nil}
use lib.ListN.{length}
use lib.Dec.{lit<}
use borrow.Author.Tests.{lt-ltb, le-ltb}
use Rattle.base.specs.Calls.{run}
use Rattle.base.specs.Choice.{pick}
use Rattle.base.proofs.Tests.{by_le}
use Rattle.stream.specs.Meaning.{Reading, waiting}
use Rattle.interleaver_spec.specs.Running.{depth_limit, fresh_back, pull}
use Rattle.interleaver_spec.specs.declared.Back.{Back}
use Rattle.interleaver_spec.proofs.Round.{returned-length}
use Rattle.channel_spec.specs.Sender.{word_bytes}
use Rattle.channel_spec.specs.Meaning.{Event, FirstMarker}
use Rattle.channel_spec.specs.declared.Hunting.{Hunting}
use Rattle.channel_spec.proofs.Given.{hears-append}
use Rattle.channel_spec.proofs.Messages.{cut-back, cut-lengths}
use Rattle.subchannel_spec.specs.Sender.{group_words, group_bytes, closing_words, grouped}
use Rattle.subchannel_spec.specs.Word.{came_back}
use Rattle.subchannel_spec.specs.Meaning.{Sub, in_mark, step, hears, start, answers, words_give}
use Rattle.subchannel_spec.proofs.Groups.{takes_all}
use Rattle.subchannel_spec.proofs.Received.{words-heard, groups-heard}
use Rattle.subchannel_spec.proofs.Returned.{back-length}

-- up to three bytes where a marker is read
few : (r d : ℕ) (f : Hunting) (k : Back) (w : List ℕ) (q : Reading) (bs : List ℕ) → length bs < 4 → (hears r d (in_mark f 0 k w q) bs).0 ≡ []
few r d f k w q [] h = refl
few r d f k w q (x ∷ []) h = refl
few r d f k w q (x ∷ y ∷ []) h = refl
few r d f k w q (x ∷ y ∷ z ∷ []) h = refl
few r d f k w q (x ∷ y ∷ z ∷ t ∷ bs) h = absurd (omega arith)

-- of n words' bytes, so many words come back, and at most one byte more; none where the closing push would have more than these
back_long : (d n : ℕ) → d ≤ depth_limit → (rs : List ℕ) → length rs ≡ n * word_bytes
    → let k : ℕ = length (run (pull d) fresh_back rs).0 in ((n - closing_words d) * word_bytes ≤ k) × (k ≤ 1 + (n - closing_words d) * word_bytes)
back_long d n h rs e =
    by_le (closing_words d) n (λ c. back-length d n h c rs e)
    (λ c.
    by_le 2 d
    (λ i.
    let k : length (run (pull d) fresh_back rs).0 ≡ length rs - (255 * d - 1) = returned-length d i h rs in
    let m : closing_words d ≡ d = ap (λ t. pick t 0 d) (le-ltb d 2 i) in
    (omega arith, omega arith))
    (λ i. let m : closing_words d ≡ 0 = ap (λ t. pick t 0 d) (lt-ltb d 2 i) in absurd (omega arith)))

module _ (r d : ℕ) (hd : d ≤ depth_limit) (stray rs : List ℕ) (g : ℕ) (whole : length rs ≡ suc g * group_bytes)
    (first : FirstMarker stray (grouped (suc g) rs)) where
  -- the words that come back
  abbrev vs : List (List ℕ)
  vs = came_back d (suc g * group_words - closing_words d) rs

  words-given : (takes_all r (run (pull d) fresh_back rs).0 [] waiting).0 ≡ (words_give r vs waiting).0
  words-given =
      let n : ℕ = suc g * group_words - closing_words d in
      let back : List ℕ = (run (pull d) fresh_back rs).0 in
      let l = back_long d (suc g * group_words) hd rs (whole ∙ omega arith) in
      let c = cut-back word_bytes (lit< tt) n back l.0 in
      ap (λ x. (takes_all r x [] waiting).0) (sym c.1)
      ∙ words-heard r vs c.0 [] waiting (cut-lengths word_bytes (lit< tt) n back l.0) (inl refl) (let z = c.2 in let y = l.1 in omega arith)

  pub few-given : (bs : List ℕ) → length bs < 4 → answers r d ((stray ++ grouped (suc g) rs) ++ bs) ≡ (words_give r vs waiting).0
  few-given bs h =
      ap (λ (x : List Event × Sub). x.0) (hears-append (step r d) start (stray ++ grouped (suc g) rs) bs)
      ∙ ap (λ (x : List Event × Sub). x.0 ++ (hears r d x.1 bs).0) (groups-heard r d stray rs g whole first)
      ∙ ap (λ l. (takes_all r (run (pull d) fresh_back rs).0 [] waiting).0 ++ l) (few r d _ _ _ _ bs h)
      ∙ append-nil (takes_all r (run (pull d) fresh_back rs).0 [] waiting).0 ∙ words-given
