-- The word buffer, the whole word at its start as repair leaves it.
-- mend_in-length   no byte comes or goes
-- mend_in-is       the word buffer, by the word at its start
use Prim.Native.Nat.{ℕ, ◌+◌}
use mathlib.Core.Path.{◌≡◌, sym, ◌∙◌, ap}
use mathlib.Core.List.{List, ◌++◌}
use lib.ListN.{length, take, drop, length-append, take-append-drop}
use lib.Seq.{take_at, drop_at}
use Rattle.channel_spec.specs.Sender.{parity_bytes, word_bytes}
use Rattle.channel_spec.specs.Meaning.{mend}
use Rattle.channel_spec.proofs.Words.{mend-length}
use Rattle.channel.specs.Call.{mend_in}

pub mend_in-length : (k : List ℕ) → length (mend_in k) ≡ length k
mend_in-length k =
    length-append (mend (take word_bytes k)) (drop word_bytes k)
    ∙ ap (λ n. n + length (drop word_bytes k)) (mend-length parity_bytes (take word_bytes k))
    ∙ sym (length-append (take word_bytes k) (drop word_bytes k))
    ∙ ap length (take-append-drop word_bytes k)

pub mend_in-is : (w k : List ℕ) → length w ≡ word_bytes → mend_in (w ++ k) ≡ mend w ++ k
mend_in-is w k h = λ i. mend (take_at w k word_bytes h i) ++ drop_at w k word_bytes h i
