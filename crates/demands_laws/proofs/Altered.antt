-- Words of which no more bytes are altered than repair puts right, one after the other, with r parity bytes; on the opportunistic channel r is 32.
-- altered-is, repairable-half, half-repairable   the places counted one by one are repair's distance
-- mend-received, answer-received    such a word comes back, and the count told is exactly that of its altered bytes
-- sent-clean-word, sent-clean-words, unaltered   the words that are sent are clean; none of them may be altered
-- ..-received                       the words, the bytes, the block answers and the state behind them
use Prim.Native.Nat.{ℕ, zero, suc, ◌+◌, ◌≤◌}
use native.Mathlib.Omega.{arith}
use mathlib.Core.Path.{◌≡◌, refl, sym, ◌∙◌, ap, ap₂, subst}
use mathlib.Core.Bool.{Bool, true}
use mathlib.Core.Logic.{◌≢◌}
use mathlib.Core.List.{List, [], ◌∷◌, ◌++◌, map}
use lib.ListN.{length, take, drop, get_or, length-drop}
use lib.Seq.{drop-cons}
use lib.Dec.{eqb}
use borrow.Author.Tests.{eq-eqb}
use Rattle.base.specs.Choice.{pick}
use Rattle.base.specs.Bytes.{Each, IsByte}
use Rattle.base.proofs.Bytes.{each_append}
use Rattle.word_spec.specs.Word.{clean as clean_word, remainder}
use Rattle.parity.specs.Calls.{root_limit}
use Rattle.parity.specs.Checked as check
use Rattle.word_spec.proofs.Division.{bytes-remainder}
use Rattle.word_spec.proofs.Clean.{parity-clean}
use Rattle.repair.specs.Mended.{Clean, Repaired}
use Rattle.repair.specs.Promise.{distance, half, CleanWord}
use Rattle.repair.specs.Way.{repaired as repaired_word}
use Rattle.repair.proofs.Apart.{distance-zero, checked-is, checked-clean}
use Rattle.repair.proofs.Meeting.{repaired-promised}
use Rattle.repair.proofs.Promising.{restored, brought-back, clean-left}
use Rattle.stream.specs.Meaning.{Reading, reads}
use Rattle.channel_spec.specs.declared.Hunting.{Hunting}
use Rattle.channel_spec.specs.Sender.{parity_bytes, word_bytes}
use Rattle.channel_spec.specs.Meaning.{condition_by, whole, IsWord}
use Rattle.channel_spec.proofs.Marker.{the_marker}
use Rattle.channel_spec.proofs.Messages.{IsMessage, sent_word}
use Rattle.channel_spec.proofs.Streaming.{behind_words}
use Rattle.subchannel_spec.specs.Sender.{message_bytes, word_of}
use Rattle.subchannel_spec.specs.Word.{condition, mend, carried}
use Rattle.demands_laws.specs.Guarantee.{altered_from, altered, Repairable, ReceivedFor, Received, answer_for, received}

-- ---- places
from_is : (n i : ℕ) (v w : List ℕ) → i + n ≡ length v → i + n ≡ length w → altered_from i n v w ≡ distance (drop i v) (drop i w)
unfolding altered_from distance
from_is zero i v w p q = sym (ap₂ distance (none v p) (none w q))
  where
    none : (u : List ℕ) → i + 0 ≡ length u → drop i u ≡ []
    none u e = empty (drop i u) (omega (arith, length-drop i u))
      where
        empty : (l : List ℕ) → length l ≡ 0 → l ≡ []
        empty [] z = refl
        empty (x ∷ l) z = absurd (omega arith)
from_is (suc n) i v w p q =
    ap (λ (k : ℕ). pick (eqb (get_or v i 0) (get_or w i 0)) 0 1 + k) (from_is n (suc i) v w (omega arith) (omega arith))
    ∙ sym (ap₂ distance (drop-cons v i 0 (omega arith)) (drop-cons w i 0 (omega arith)))

pub altered-is : (v w : List ℕ) → IsWord v → IsWord w → altered v w ≡ distance v w
altered-is v w p q = from_is word_bytes 0 v w (sym p) (sym q)

none-altered : (n i : ℕ) (w : List ℕ) → altered_from i n w w ≡ 0
unfolding altered_from
none-altered zero i w = refl
none-altered (suc n) i w = rw (eq-eqb (get_or w i 0) (get_or w i 0) refl) (omega (arith, none-altered n (suc i) w))

-- two parity bytes for each are as many as h
pub repairable-half : (r n : ℕ) → Repairable r n → n ≤ half r
repairable-half r n h = omega arith

pub half-repairable : (r n : ℕ) → n ≤ half r → Repairable r n
half-repairable r n h = omega arith

-- ---- a word
module _ (r : ℕ) (w v : List ℕ) (c : CleanWord r w) (h : ReceivedFor r w v) where
  fine : (r ≤ 64) × IsWord w × (clean_word r w ≡ true)
  fine = checked-clean r w c.1

  is-distance : altered w v ≡ distance w v
  is-distance = altered-is w v fine.1 h.0

  few : distance w v ≤ half r
  few = subst (λ (n : ℕ). n ≤ half r) is-distance (repairable-half r (altered w v) h.2)

  clean-as : repaired_word r w ≡ (Clean, w)
  clean-as = clean-left r w fine.0 fine.1 fine.2

  pub mend-received : mend r v ≡ w
  mend-received = brought-back r w c v h.1 h.0 few

  pub answer-received : condition r v ≡ answer_for (altered w v)
  answer-received = go (altered w v) is-distance
    where
      go : (n : ℕ) → n ≡ distance w v → condition r v ≡ answer_for n
      go zero e = ap (condition r) (sym (distance-zero w v (fine.1 ∙ sym h.0) (sym e))) ∙ ap (λ x. condition_by x.0) clean-as
      go (suc n) e =
          ap condition_by
          ((restored r w c v h.1 h.0 (omega arith) few (repaired_word r v).0 (mend r v) (repaired-promised r v h.1)).0
          ∙ ap Repaired (sym e))

  -- the same as of the clean word
  mend-same : mend r v ≡ mend r w
  mend-same = mend-received ∙ sym (ap (λ x. x.1) clean-as)

-- ---- the words that are sent
module _ (r : ℕ) (hr : r ≤ root_limit) where
  pub sent-clean-word : (m : List ℕ) → IsMessage r m → CleanWord r (word_of r m)
  sent-clean-word m h = (
    each_append IsByte m (remainder r m) h.1 (bytes-remainder r m h.1),
    checked-is r (word_of r m) hr (sent_word r hr m h) ∙ ap (λ (t : Bool). pick t check.Clean check.Damaged) (parity-clean r m h.1),
  )

  pub sent-clean-words : (ms : List (List ℕ)) → Each (IsMessage r) ms → Each (CleanWord r) (map (word_of r) ms)
  sent-clean-words [] h = tt
  sent-clean-words (m ∷ ms) h = (sent-clean-word m h.0, sent-clean-words ms h.1)

-- ---- words one after the other
module _ (r : ℕ) where
  pub carried-received : (ws vs : List (List ℕ)) → Each (CleanWord r) ws → Received r ws vs → carried r vs ≡ carried r ws
  carried-received [] [] c h = refl
  carried-received [] (v ∷ vs) c h = absurd h
  carried-received (w ∷ ws) [] c h = absurd h
  carried-received (w ∷ ws) (v ∷ vs) c h =
      ap₂ ◌++◌ (ap (take (message_bytes r)) (mend-same r w v c.0 h.0)) (carried-received ws vs c.1 h.1)

  pub answers-received : (ws vs : List (List ℕ)) → Each (CleanWord r) ws → Received r ws vs → map (condition r) vs ≡ received ws vs
  answers-received [] [] c h = refl
  answers-received [] (v ∷ vs) c h = absurd h
  answers-received (w ∷ ws) [] c h = absurd h
  answers-received (w ∷ ws) (v ∷ vs) c h = ap₂ ◌∷◌ (answer-received r w v c.0 h.0) (answers-received ws vs c.1 h.1)

  pub words-received : (ws vs : List (List ℕ)) → Received r ws vs → Each IsWord vs
  words-received [] [] h = tt
  words-received [] (v ∷ vs) h = absurd h
  words-received (w ∷ ws) [] h = absurd h
  words-received (w ∷ ws) (v ∷ vs) h = (h.0.0, words-received ws vs h.1)

  pub many-received : (ws vs : List (List ℕ)) → Received r ws vs → length vs ≡ length ws
  many-received [] [] h = refl
  many-received [] (v ∷ vs) h = absurd h
  many-received (w ∷ ws) [] h = absurd h
  many-received (w ∷ ws) (v ∷ vs) h = ap suc (many-received ws vs h.1)

  pub some-received : (ws vs : List (List ℕ)) → Received r ws vs → ws ≢ [] → vs ≢ []
  some-received [] vs h n e = n refl
  some-received (w ∷ ws) [] h n e = h
  some-received (w ∷ ws) (v ∷ vs) h n e = subst (Received r (w ∷ ws)) e h

  -- none altered
  pub unaltered : (ws : List (List ℕ)) → Each (CleanWord r) ws → Received r ws ws
  unaltered [] c = tt
  unaltered (w ∷ ws) c = (((checked-clean r w c.0.1).1, c.0.0, omega (arith, none-altered word_bytes 0 w)), unaltered ws c.1)

-- the state behind them, on the opportunistic channel
pub behind-received : (ws vs : List (List ℕ)) → Each (CleanWord parity_bytes) ws → Received parity_bytes ws vs → (f : Hunting) (u : List ℕ) (q : Reading)
    → behind_words f u vs q ≡ behind_words f u ws q
behind-received [] [] c h f u q = refl
behind-received [] (v ∷ vs) c h f u q = absurd h
behind-received (w ∷ ws) [] c h f u q = absurd h
behind-received (w ∷ ws) (v ∷ vs) c h f u q =
    ap (λ (x : List ℕ). behind_words the_marker x vs (reads q (take (message_bytes parity_bytes) x)).1) (mend-same parity_bytes w v c.0 h.0)
    ∙ behind-received ws vs c.1 h.1 the_marker (mend parity_bytes w) (whole w q).1
