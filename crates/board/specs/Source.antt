-- What comes in, byte by byte: the bytes of an opportunistic channel as they are, or those of a recording. A reader in the sense of
-- base/specs/Calls.
-- Source                           which of the two, and the tape with its buffers
-- source_owes, source_hand, source_eat   a byte of it
-- source_all, source_hear            all its bytes, and one call
-- source, memory_in, with_memory     the source of these; the receiver with its buffers, taken out and put back
-- barely, taped, owes_by, hand_by, eat_by   what the receiver makes of a bare byte, and the tape of a recording's; each by: is it bare
use Rattle.std.specs.Prelude.{ℕ, Bool, true, false, List}
use Rattle.std.proofs.Math.Option.{Option}
use Rattle.base.specs.Calls.{all, hear}
use Rattle.channel_spec.specs.Meaning.{Event}
use Rattle.channel.specs.Call.{Memory, owed, hand_on, eat_byte}
use Rattle.recording.specs.Deck.{ear, Deck, deck, deck_owes, deck_hand, deck_eat}

-- bare: bytes as they are; else a recording's
pub record Source : Type 0 where
  pub bare : Bool
  pub deck : Deck

-- the source of these
abbrev pub source : Bool → Deck → Source
source b m = record { bare = b; deck = m }

-- the receiver with its buffers
abbrev pub memory_in : Deck → Memory
memory_in m = m.ear.memory

-- .. put back: bare bytes move nothing else
abbrev pub with_memory : Deck → Memory → Deck
with_memory m c = deck m.spot (ear m.ear.channel c)

-- what the receiver makes of a bare byte ..
abbrev pub barely : Deck → Option Event × Memory → Option Event × Source
barely m r = (r.0, source true (with_memory m r.1))

-- .. and the tape of a recording's
abbrev pub taped : Option Event × Deck → Option Event × Source
taped r = (r.0, source false r.1)

-- moves owed, by: is it bare
abbrev pub owes_by : Bool → Deck → ℕ
owes_by true m = owed (memory_in m)
owes_by false m = deck_owes m

-- one of them
abbrev pub hand_by : Bool → Deck → Option Event × Source
hand_by true m = barely m (hand_on (memory_in m))
hand_by false m = taped (deck_hand m)

-- a byte
abbrev pub eat_by : Bool → Deck → ℕ → Option Event × Source
eat_by true m b = barely m (eat_byte (memory_in m) b)
eat_by false m b = taped (deck_eat m b)

-- moves owed
unfoldable pub source_owes : Source → ℕ
source_owes s = owes_by s.bare s.deck

-- one of them
unfoldable pub source_hand : Source → Option Event × Source
source_hand s = hand_by s.bare s.deck

-- a byte
unfoldable pub source_eat : Source → ℕ → Option Event × Source
source_eat s b = eat_by s.bare s.deck b

-- bytes: their answers, and the source behind them
abbrev pub source_all : Source → List ℕ → List Event × Source
source_all = all source_owes source_hand source_eat

-- one call: the answer (none: "more wanted"), the bytes taken, the source
abbrev pub source_hear : Source → List ℕ → Option Event × ℕ × Source
source_hear = hear source_owes source_hand source_eat
