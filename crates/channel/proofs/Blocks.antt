-- In which order answers come, for every way of cutting: those of whole words, and of the bytes before the first and behind the last.
-- hunting-silent   where no marker stands, none comes, and it hunts on
-- first-begun      a first word that is not whole gives none
-- words-given      each word gives its block answer, and then the answers of its message bytes
-- lock-kept        up to three bytes behind a word give no answer, whatever they are
-- word-begun       nor does a further word that is not whole
-- lock-lost        four that are not the marker give "lock lost"; then all is as a fresh receiver hears it that begins with these four
use Prim.Native.Nat.{ℕ, ◌<◌}
use native.Mathlib.Omega.{arith}
use mathlib.Core.Path.{◌≡◌, sym, ◌∙◌, ap}
use mathlib.Core.Bool.{false}
use mathlib.Core.Logic.{◌≢◌}
use mathlib.Core.List.{List, [], ◌∷◌, ◌++◌, append-nil}
use lib.ListN.{length}
use Rattle.base.specs.Bytes.{Each}
use Rattle.stream.specs.Meaning.{waiting}
use Rattle.channel_spec.specs.Sender.{marker, word_bytes, framed}
use Rattle.channel_spec.specs.Meaning.{Event, lost, Chan, fresh_channel, hears, answers, IsWord, words_give, FirstMarker}
use Rattle.channel_spec.proofs.Order.{none-given, first-given, few-given, begun-given, lost-given}
use Rattle.channel.specs.Call.{EveryCut, memory_of, in_use}
use Rattle.channel.proofs.Demands.{cut-so, every-cut}

pub hunting-silent : (bs : List ℕ) → ((xs ys : List ℕ) → bs ≡ xs ++ (marker ++ ys) → ⊥) → EveryCut bs λ es d. (es ≡ []) × (d.st.locked ≡ false)
hunting-silent bs h =
    let n = (none-given bs h).1 in
    cut-so (every-cut bs) λ es d e. (
      e.0 ∙ ap (λ (x : List Event × Chan). x.0) n,
      ap (λ x. x.0.locked) (e.1 ∙ ap (λ (x : List Event × Chan). in_use (memory_of x.1 [] [])) n),
    )

pub first-begun : (stray bs : List ℕ) → FirstMarker stray (marker ++ bs) → length bs < word_bytes → EveryCut (stray ++ (marker ++ bs)) λ es _. es ≡ []
first-begun stray bs m h = cut-so (every-cut (stray ++ (marker ++ bs))) λ es _ e. e.0 ∙ first-given stray bs m h

module _ (stray : List ℕ) (ws : List (List ℕ)) (some : ws ≢ []) (words : Each IsWord ws) (first : FirstMarker stray (framed ws)) where
  pub words-given : EveryCut (stray ++ framed ws) λ es _. es ≡ words_give ws waiting
  words-given =
      cut-so (every-cut (stray ++ framed ws)) λ es _ e.
      e.0 ∙ ap answers (sym (append-nil (stray ++ framed ws))) ∙ few-given stray ws some words first [] (omega arith)

  pub lock-kept : (bs : List ℕ) → length bs < 4 → EveryCut ((stray ++ framed ws) ++ bs) λ es _. es ≡ words_give ws waiting
  lock-kept bs h = cut-so (every-cut ((stray ++ framed ws) ++ bs)) λ es _ e. e.0 ∙ few-given stray ws some words first bs h

  pub word-begun : (bs : List ℕ) → length bs < word_bytes → EveryCut ((stray ++ framed ws) ++ (marker ++ bs)) λ es _. es ≡ words_give ws waiting
  word-begun bs h = cut-so (every-cut ((stray ++ framed ws) ++ (marker ++ bs))) λ es _ e. e.0 ∙ begun-given stray ws some words first bs h

  pub lock-lost : (bs cs : List ℕ) → length bs ≡ 4 → bs ≢ marker → EveryCut ((stray ++ framed ws) ++ (bs ++ cs))
      λ es d. (es ≡ words_give ws waiting ++ lost ∷ answers (bs ++ cs)) × (in_use d ≡ in_use (memory_of (hears fresh_channel (bs ++ cs)).1 [] []))
  lock-lost bs cs h n =
      let x = lost-given stray ws some words first bs cs h n in
      cut-so (every-cut ((stray ++ framed ws) ++ (bs ++ cs))) λ es d e.
      (e.0 ∙ ap (λ (y : List Event × Chan). y.0) x, e.1 ∙ ap (λ (y : List Event × Chan). in_use (memory_of y.1 [] [])) x)
