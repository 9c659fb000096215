-- What private functions alone are promised by.
-- as_byte, as_answer   a byte, an answer, if there is one, as the code has them
-- step_of, WordIs      what a step gives, but for cells and word; a byte of a word
-- Able                what a new byte asks of the state and of the word buffer
-- EatenIs             one new byte
-- HandedBy, HandedIs  the rest of a stored word
-- spare, BytesIs      the bytes of a piece, whatever the receive buffer holds
-- Going, GoesOn       on the way through them: no answer yet
-- Fills, filled       bytes that only fill a word, and the lane behind them
-- FillAsks, FilledIs  .. and such bytes of a piece
use Rattle.std.specs.Prelude.{ℕ, ◌+◌, ◌≤◌, ◌<◌, ◌≡◌, Bool, true, false, List, length, drop, replicate}
use Rattle.std.specs.Prelude as code
use Rattle.std.proofs.Math.Option.{Option, some, none}
use Rattle.base.specs.Calls.{after}
use Rattle.packet_spec.specs.Contents.{raw_limit}
use Rattle.parity.specs.Calls.{root_limit}
use Rattle.interleaver_spec.specs.Running.{depth_limit, beyond}
use Rattle.interleaver_spec.specs.declared.Back.{Back}
use Rattle.channel_spec.specs.Sender.{word_bytes}
use Rattle.channel_spec.specs.Meaning.{Event}
use Rattle.channel_spec.specs.declared.Answer.{Answer}
use Rattle.channel_spec.specs.Answer.{answered}
use Rattle.subchannel_spec.specs.Sender.{group_bytes}
use Rattle.subchannel.specs.declared.lane.Lane.{Lane}
use Rattle.subchannel.specs.declared.lane.Step.{Step}
use Rattle.subchannel.specs.declared.sub.Sub.{Sub}
use Rattle.subchannel.specs.declared.sub.Hearing.{Hearing}
use Rattle.subchannel.specs.Call.{memory, sub, counts, counted, Given, owes, hear_on, Fine, HearingIs}

-- a byte, if there is one
abbrev pub as_byte : Option ℕ → code.Option ℕ
as_byte none = code.None
as_byte (some y) = code.Some y

-- an answer, if there is one
abbrev pub as_answer : Option Event → code.Option Answer
as_answer none = code.None
as_answer (some a) = code.Some (answered (some a))

-- a step's answer, if there is one, and the lane behind it
abbrev pub step_of : Option Event × Lane → Step
step_of x = record { answer = as_answer x.0; lane = x.1 }

-- a byte of a word
abbrev pub WordIs : Option Event × Lane × List ℕ → Step → List ℕ → Type 0
WordIs x t word = (t ≡ step_of (x.0, x.1)) × (word ≡ x.2)

-- settings and counts within their limits, and room for a word
pub record Able (s : Lane) (l : List ℕ) : Type 0 where
  pub parity : s.settings.parity ≤ root_limit
  pub depth : s.settings.depth ≤ depth_limit
  pub group : s.counts.group ≤ group_bytes
  pub marker : s.counts.marker ≤ 3
  pub word : s.counts.word ≤ word_bytes
  pub room : word_bytes ≤ length l

-- one new byte
abbrev pub EatenIs : Given → Step → Back → List ℕ → Type 0
EatenIs x t k word = (t ≡ step_of (x.0, x.1)) × (k ≡ x.2) × (word ≡ x.3)

-- a stored word's rest, by the answer that ends the call, if there is one. Else the call goes on behind it
abbrev pub HandedBy : code.Option Answer → Lane → List ℕ → List ℕ → Lane → List ℕ → Back → List ℕ → Type 0
HandedBy (code.Some a) s l word t l' k bs = HearingIs (hear_on (memory (sub s k) l word) bs) (record { answer = a; taken = 0; sub = sub t k }) l' word
HandedBy code.None s l word t l' k bs = hear_on (memory (sub s k) l word) bs ≡ hear_on (memory (sub t k) l' word) bs

-- the rest of a stored word is handed on: no new byte is taken, and the cells stay, whatever they hold
pub record HandedIs (s : Lane) (l word : List ℕ) (t : Step) (l' : List ℕ) : Type 0 where
  pub means : (k : Back) (bs : List ℕ) → HandedBy t.answer s l word t.lane l' k bs
  pub fine : (k : Back) → beyond s.settings.depth k.matrix.place ≡ false → Fine (memory (sub t.lane k) l' word)
  pub owed : t.answer ≡ code.None → owes t.lane ≡ 0

-- some receive buffer that passes 11
unfoldable pub spare : List ℕ
spare = replicate raw_limit 0

-- the bytes of a piece: whatever the receive buffer holds, it stays
abbrev pub BytesIs : Sub → List ℕ → List ℕ → Hearing → List ℕ → Type 0
BytesIs s word bs r word' = (l : List ℕ) → HearingIs (hear_on (memory s l word) bs) r l word'

-- from byte i on: the state s and the word buffer w there; the call began with s₀ and w₀
pub record Going (s₀ : Sub) (w₀ bs : List ℕ) (i : ℕ) (s : Sub) (w : List ℕ) : Type 0 where
  pub within : i ≤ length bs
  pub fine : Fine (memory s spare w)
  pub owed : owes s.lane ≡ 0
  pub left : (l : List ℕ) → hear_on (memory s₀ l w₀) bs ≡ after i (hear_on (memory s l w) (drop i bs))

-- from byte i to byte j, whatever the call began with
abbrev pub GoesOn : List ℕ → ℕ → Sub → List ℕ → ℕ → Sub → List ℕ → Type 0
GoesOn bs i s w j s' w' = (s₀ : Sub) (w₀ : List ℕ) → Going s₀ w₀ bs i s w → Going s₀ w₀ bs j s' w'

-- n more bytes only fill the word: the group and the word have room for them, the word for one more, and each brings a byte
pub record Fills (s : Lane) (a : Bool) (n : ℕ) : Type 0 where
  pub group : s.counts.group + n ≤ group_bytes
  pub word : s.counts.word + n ≤ word_bytes
  pub filling : 0 < n
      → (s.lost ≡ false) × (s.locked ≡ true) × (s.counts.handed ≡ 0) × (s.counts.word + n < word_bytes) × (2 ≤ s.settings.depth → a ≡ true)

-- the lane behind them
abbrev pub filled : Lane → ℕ → Lane
filled s n = counted s (counts (s.counts.group + n) s.counts.marker (s.counts.word + n) s.counts.handed)

-- the n bytes from byte i of a piece on only fill the word
abbrev pub FillAsks : Lane → Back → List ℕ → List ℕ → ℕ → ℕ → Type 0
FillAsks s k w bs i n =
    Fills s k.again n × (s.settings.depth ≤ depth_limit) × (beyond s.settings.depth k.matrix.place ≡ false) × (word_bytes ≤ length w) × (i + n ≤ length bs)

-- .. and are taken: the cells and the word buffer behind them
abbrev pub FilledIs : Lane → Back → List ℕ → List ℕ → ℕ → ℕ → Back → List ℕ → Type 0
FilledIs s k w bs i n k' w' = GoesOn bs i (sub s k) w (i + n) (sub (filled s n) k') w'
