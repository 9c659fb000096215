-- What private functions alone are promised by.
-- PutIs             a part of what is owed is written
-- BareIs, HeardIs   one call on what comes in
-- answered_by        a board behind an answer
-- ports_by           a packet of the range is noted; nothing else changes the table
use Rattle.std.specs.Prelude.{ℕ, min, ◌≡◌, Bool, List, ◌++◌, length, take, drop}
use Rattle.std.proofs.Math.Option.{Option}
use Rattle.base.specs.Choice.{pick}
use Rattle.channel_spec.specs.Meaning.{Event}
use Rattle.board.specs.declared.owed.Owed.{Owed}
use Rattle.board.specs.declared.owed.Put.{Put}
use Rattle.packet_spec.specs.declared.Judged.TheVariants.{Packet as Delivered, Refused, Broken}
use Rattle.channel.specs.Call.{hear_call}
use Rattle.channel_spec.specs.Answer.{answered}
use Rattle.channel_spec.specs.declared.Answer.{Answer}
use Rattle.channel_spec.specs.declared.Answer.TheVariants.{More, Said, Block, LockLost}
use Rattle.ports.specs.declared.by_value.Ports.{Ports}
use Rattle.ports_spec.specs.declared.Range.{Range}
use Rattle.ports_spec.specs.Ports.{noting}
use Rattle.ports_spec.specs.Range.{inside}
use Rattle.recording.specs.declared.reader.Hearing.{Hearing}
use Rattle.recording.specs.Deck.{Deck}
use Rattle.recording.specs.Call.{deck_of}
use Rattle.board.specs.declared.readout.Readout.{Readout}
use Rattle.board.specs.Source.{Source, source, memory_in, with_memory}
use Rattle.board.specs.Owed.{owing, left, forth_by}

-- as much of the text owed as there is room for
pub record PutIs (o : Owed) (recv out : List ℕ) (r : Put) (out' : List ℕ) : Type 0 where
  pub written : r.written ≡ min (length (left o recv)) (length out)
  pub owed : r.owed ≡ forth_by r.written o recv
  pub output : out' ≡ take r.written (left o recv) ++ drop r.written out

-- r is what the receiver says of bare bytes, l and k the buffers then
abbrev pub BareIs : Deck → List ℕ → Hearing → List ℕ → List ℕ → Type 0
BareIs m bs r l k =
    (r.answer ≡ answered (hear_call (memory_in m) bs).0) × (r.taken ≡ (hear_call (memory_in m) bs).1)
    × (deck_of r.tape l k ≡ with_memory m (hear_call (memory_in m) bs).2)

-- .. of what comes in
abbrev pub HeardIs : Bool → Option Event × ℕ × Source → Hearing → List ℕ → List ℕ → Type 0
HeardIs b x r l k = (r.answer ≡ answered x.0) × (x ≡ (x.0, r.taken, source b (deck_of r.tape l k)))

-- a packet of the range is noted; nothing else changes the table
abbrev pub ports_by : Range → Ports → Answer → Ports
ports_by r p (Said (Delivered d)) = record { entries = pick (inside r d.port) (noting p.entries d.port d.sequence).1 p.entries }
ports_by r p (Said (Refused n)) = p
ports_by r p (Said (Broken n)) = p
ports_by r p (Block c) = p
ports_by r p LockLost = p
ports_by r p More = p

-- a board behind an answer: what it shows is owed
abbrev pub answered_by : Readout → Answer → Readout
answered_by r a = record {
  bare = r.bare;
  blocks = r.blocks;
  range = r.range;
  tape = r.tape;
  ports = ports_by r.range r.ports a;
  owed = owing r.blocks r.range r.ports.entries a;
}
