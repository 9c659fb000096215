-- What private functions alone are promised by: what the code does phase by phase, many bytes at once.
-- shifts, hunted, taken_on, later      bytes among the last four, up to the marker
-- HandedIs, SoughtIs, FilledIs         the phases; Handed, Sought: where the call goes on behind one
use Rattle.std.specs.Prelude.{ℕ, suc, ◌≤◌, ◌<◌, ◌≡◌, true, List, [], ◌∷◌, length, drop, Option, Some, None}
use Rattle.std.specs.declared.ops.ControlFlow.{ControlFlow}
use Rattle.std.specs.declared.ops.ControlFlow.TheVariants.{Continue, Break}
use Rattle.base.specs.Calls.{after}
use Rattle.base.specs.Choice.{pick}
use Rattle.channel_spec.specs.declared.Hunting.{Hunting}
use Rattle.channel.specs.declared.receiver.Receiver.{Receiver}
use Rattle.channel.specs.declared.answer.Hearing.{Hearing}
use Rattle.channel.specs.declared.hunting.Found.{Found}
use Rattle.channel_spec.specs.Sender.{word_bytes}
use Rattle.channel_spec.specs.Meaning.{shift, is_marker}
use Rattle.channel.specs.Call.{Memory, memory, owes, sound_lock, hear_on, HearingIs}

-- all of some bytes among the last four
abbrev pub shifts : Hunting → List ℕ → Hunting
shifts f [] = f
shifts f (b ∷ bs) = shifts (shift f b) bs

-- what hunting finds, one byte later
abbrev pub taken_on : Option ℕ → Option ℕ
taken_on (Some n) = Some (suc n)
taken_on None = None

abbrev pub later : Found → Found
later x = record { taken = taken_on x.taken; hunting = x.hunting }

-- hunting in some bytes: up to the marker, or all of them
unfoldable pub hunted : Hunting → List ℕ → Found
hunted f [] = record { taken = None; hunting = f }
hunted f (b ∷ bs) = pick (is_marker (shift f b)) (record { taken = Some 1; hunting = shift f b }) (later (hunted (shift f b) bs))

-- the rest of a stored word is handed on, and the call goes on with state r: no new byte is taken
pub record Handed (c : Memory) (r : Receiver) (l : List ℕ) : Type 0 where
  pub means : (bs : List ℕ) → hear_on c bs ≡ hear_on (memory r l c.word) bs
  pub lock : sound_lock r.lock ≡ true
  pub owed : owes r ≡ 0

-- .. or it ends the call
abbrev pub HandedIs : Memory → ControlFlow Hearing Receiver → List ℕ → Type 0
HandedIs c (Continue r) l = Handed c r l
HandedIs c (Break h) l = (bs : List ℕ) → HearingIs (hear_on c bs) h l c.word

-- whatever the buffers hold, they stay; the call goes on n bytes later with state r, and a word is wanted
pub record Sought (s : Receiver) (bs : List ℕ) (n : ℕ) (r : Receiver) : Type 0 where
  pub means : (l k : List ℕ) → hear_on (memory s l k) bs ≡ after n (hear_on (memory r l k) (drop n bs))
  pub within : n ≤ length bs
  pub locked : r.locked ≡ true
  pub word : r.lock.word < word_bytes

-- .. or they stay, and it ends the call
abbrev pub SoughtIs : Receiver → List ℕ → ControlFlow Hearing (ℕ × Receiver) → Type 0
SoughtIs s bs (Continue x) = Sought s bs x.0 x.1
SoughtIs s bs (Break h) = (l k : List ℕ) → HearingIs (hear_on (memory s l k) bs) h l k

-- bytes of a word, `at` bytes into a piece: whatever the receive buffer holds, it stays
abbrev pub FilledIs : Receiver → List ℕ → List ℕ → ℕ → Hearing → List ℕ → Type 0
FilledIs s word bs at r word' = (l : List ℕ) → HearingIs (after at (hear_on (memory s l word) bs)) r l word'
