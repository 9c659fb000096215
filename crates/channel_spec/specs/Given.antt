-- What words give, with r parity bytes: answers of a receiver, of the opportunistic channel and of a fixed sub-channel alike.
-- Event, said, block, lost   an answer
-- frames, blocks, losses     the answers of each kind
-- each_byte                   bytes one after the other
-- whole                      a whole word's answers, and the frame reader behind it
-- words_give                  .. those of words, in their order
use Rattle.std.specs.Prelude.{ℕ, suc, List, [], ◌∷◌, ◌++◌, map}
use Rattle.base.specs.Calls.{and_then}
use Rattle.packet_spec.specs.Frame.{Told}
use Rattle.stream.specs.Meaning.{Reading, reads}
use Rattle.channel_spec.specs.Word.{condition, message}
use Rattle.channel_spec.specs.declared.Condition.{Condition}

-- an answer: a frame's or a refused call's; a block's; lock lost
pub data Event : Type 0 where
  said : Told → Event
  block : Condition → Event
  lost : Event

-- the frame answers among them ..
abbrev pub frames : List Event → List Told
frames [] = []
frames (said a ∷ es) = a ∷ frames es
frames (block c ∷ es) = frames es
frames (lost ∷ es) = frames es

-- .. the block answers ..
abbrev pub blocks : List Event → List Condition
blocks [] = []
blocks (said a ∷ es) = blocks es
blocks (block c ∷ es) = c ∷ blocks es
blocks (lost ∷ es) = blocks es

-- .. and how often lock is lost
abbrev pub losses : List Event → ℕ
losses [] = 0
losses (said a ∷ es) = losses es
losses (block c ∷ es) = losses es
losses (lost ∷ es) = suc (losses es)

-- a byte string, where a byte may give any number of answers: its answers, and the state behind it
abbrev pub each_byte : {S : Type 0} → (S → ℕ → List Event × S) → S → List ℕ → List Event × S
each_byte step s [] = ([], s)
each_byte step s (b ∷ bs) = and_then (step s b) (λ t. each_byte step t bs)

-- a whole word: the block's answer, and then those of its message bytes
abbrev pub whole : ℕ → List ℕ → Reading → List Event × Reading
whole r w q = (block (condition r w) ∷ map said (reads q (message r w)).0, (reads q (message r w)).1)

-- what words give, one after the other, and the frame reader behind them: each "first a block answer, .. then the answers of its .. message bytes"
abbrev pub words_give : ℕ → List (List ℕ) → Reading → List Event × Reading
words_give r [] q = ([], q)
words_give r (w ∷ ws) q =
    let x : List Told × Reading = reads q (message r w) in
    (block (condition r w) ∷ (map said x.0 ++ (words_give r ws x.1).0), (words_give r ws x.1).1)
