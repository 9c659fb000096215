-- What a dealer may ask of parity: bytes altered on the way, counted place by place.
-- altered, altered_from   in how many of its 255 places a word differs from another
-- Repairable           that many can be put right: no more than h = INT(R/2)
-- Received, ReceivedFor, received, answer_for   words as they come in, of which no more are altered each, and their block answers
use Rattle.std.specs.Prelude.{ℕ, zero, suc, ◌+◌, ◌*◌, ◌≤◌, List, [], ◌∷◌, eqb, get_or}
use Rattle.base.specs.Choice.{pick}
use Rattle.base.specs.Bytes.{Bytes}
use Rattle.channel_spec.specs.Sender.{word_bytes}
use Rattle.channel_spec.specs.Meaning.{IsWord}
use Rattle.channel_spec.specs.declared.Condition.{Condition}
use Rattle.channel_spec.specs.declared.Condition.TheVariants.{Clean as clean, Repaired as repaired}

-- in how many of n places, from place i on
unfoldable pub altered_from : ℕ → ℕ → List ℕ → List ℕ → ℕ
altered_from i zero v w = 0
altered_from i (suc n) v w = pick (eqb (get_or v i 0) (get_or w i 0)) 0 1 + altered_from (suc i) n v w

-- in how many of the 255 places v and w differ
abbrev pub altered : List ℕ → List ℕ → ℕ
altered v w = altered_from 0 word_bytes v w

-- n bytes of a word with r parity bytes can be put right: two parity bytes for each
abbrev pub Repairable : ℕ → ℕ → Type 0
Repairable r n = 2 * n ≤ r

-- v comes in for the word w, which has r parity bytes: at most h bytes are altered, whichever they are
abbrev pub ReceivedFor : ℕ → List ℕ → List ℕ → Type 0
ReceivedFor r w v = IsWord v × Bytes v × Repairable r (altered w v)

-- the words vs come in for ws, one for each, different ones altered differently
abbrev pub Received : ℕ → List (List ℕ) → List (List ℕ) → Type 0
Received r [] [] = Unit {0}
Received r [] (v ∷ vs) = ⊥
Received r (w ∷ ws) [] = ⊥
Received r (w ∷ ws) (v ∷ vs) = ReceivedFor r w v × Received r ws vs

-- the answer to a block of which n bytes are altered: clean, or repaired in n places
abbrev pub answer_for : ℕ → Condition
answer_for zero = clean
answer_for (suc n) = repaired (suc n)

-- the answers to the blocks
abbrev pub received : List (List ℕ) → List (List ℕ) → List Condition
received [] vs = []
received (w ∷ ws) [] = []
received (w ∷ ws) (v ∷ vs) = answer_for (altered w v) ∷ received ws vs
