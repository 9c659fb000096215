-- The board as it is called: its state and the two lent buffers go in and come back; one call hears at most one answer, and writes of what is
-- owed as much as there is room for.
-- Screen, screen_of        the board with its buffers
-- fresh_readout            before the first byte
-- Part                    what a call gives
-- table_for                the table behind an answer, by the range
-- takes_on, takes, TookIs  one call, behind its refusals, and that the code's results are those
-- last_lines               behind the last byte
-- screen, readout_of       a screen put together, and its board
-- recv_on, owed_on          the receive buffer, the text owed
-- part, partly, heard_by   what a call gives, put together; where the text owed has no room; where all of it is out
-- near_by, sound_state      what 10 asks
-- takes_by, took_of         a call by its refusals, and the code's result of it
-- last_by                  behind the last byte, by: are the bytes bare
use Rattle.std.specs.Prelude.{ℕ, ◌≡◌, Bool, true, false, ◌&&◌, List, [], ◌++◌, ltb, length, take, drop}
use Rattle.std.proofs.Math.Option.{Option, some, none}
use Rattle.base.specs.Choice.{pick}
use Rattle.channel_spec.specs.Meaning.{Event}
use Rattle.channel.specs.Call.{sound, roomy}
use Rattle.listing_spec.specs.Lines.{given}
use Rattle.listing_spec.specs.declared.Spot.{Spot}
use Rattle.ports_spec.specs.declared.Entry.{Entry}
use Rattle.ports_spec.specs.declared.Range.{Range}
use Rattle.ports.specs.ByValue.{fresh_ports, sound_ports}
use Rattle.board_spec.specs.Meaning.{Line, table_behind, regards, ending}
use Rattle.recording.specs.Call.{fresh_tape, deck_of, tape_of, near_spot}
use Rattle.board.specs.declared.owed.Owed.{Owed}
use Rattle.board.specs.declared.readout.Readout.{Readout}
use Rattle.board.specs.Wants.{Wants, Got, as_got}
use Rattle.board.specs.Wants.{More, Again, Refused}
use Rattle.board.specs.declared.readout.Took.{Took}
use Rattle.board.specs.Source.{Source, source, memory_in, source_hear}
use Rattle.board.specs.Owed.{nothing, owing, left, forth_by, sound_owed}

-- the board, with the buffers lent
pub record Screen : Type 0 where
  pub blocks : Bool
  pub range : Range
  pub owed : Owed
  pub table : List Entry
  pub source : Source

-- .. put together
abbrev pub screen : Bool → Range → Owed → List Entry → Source → Screen
screen b r o t s = record { blocks = b; range = r; owed = o; table = t; source = s }

-- a board and its buffers
abbrev pub screen_of : Readout → List ℕ → List ℕ → Screen
screen_of r recv word = screen r.blocks r.range r.owed r.ports.entries (source r.bare (deck_of r.tape recv word))

-- .. and a screen's board
abbrev pub readout_of : Screen → Readout
readout_of s = record {
  bare = s.source.bare;
  blocks = s.blocks;
  range = s.range;
  tape = tape_of s.source.deck;
  ports = record { entries = s.table };
  owed = s.owed;
}

-- before the first byte: nothing heard, no port held, nothing owed
abbrev pub fresh_readout : Bool → Bool → Range → Readout
fresh_readout bare blocks range = record { bare = bare; blocks = blocks; range = range; tape = fresh_tape; ports = fresh_ports; owed = nothing }

-- the receive buffer
abbrev pub recv_on : Screen → List ℕ
recv_on s = (memory_in s.source.deck).recv

-- the text owed
abbrev pub owed_on : Screen → List ℕ
owed_on s = left s.owed (recv_on s)

-- what is wanted next, the bytes taken, the text written, and the screen then
pub record Part : Type 0 where
  pub wants : Wants
  pub taken : ℕ
  pub text : List ℕ
  pub screen : Screen

-- .. put together
abbrev pub part : Wants → ℕ → List ℕ → Screen → Part
part w n text s = record { wants = w; taken = n; text = text; screen = s }

-- so much of the text owed has room
abbrev pub partly : ℕ → Screen → Part
partly room s = part Again 0 (take room (owed_on s)) (screen s.blocks s.range (forth_by room s.owed (recv_on s)) s.table s.source)

-- the table behind an answer: a packet of another port is not noted
abbrev pub table_for : Range → List Entry → Event → List Entry
table_for r t e = pick (regards r e) (table_behind t e) t

-- all of it is out, by what is heard then: nothing, or an answer, whose lines are owed
abbrev pub heard_by : Screen → Option Event × ℕ × Source → Part
heard_by s (none, n, x) = part More n (owed_on s) (screen s.blocks s.range nothing s.table x)
heard_by s (some e, n, x) =
    part Again n (owed_on s)
    (screen s.blocks s.range (owing s.blocks s.range s.table (given e)) (table_for s.range s.table e) x)

-- one call behind refusals 10 and 11
unfoldable pub takes_on : ℕ → Screen → List ℕ → Part
takes_on room s bs = pick (ltb room (length (owed_on s))) (partly room s) (heard_by s (source_hear s.source bs))

-- the offset cannot pass its width on n bytes, by: is it bare, which counts none
abbrev pub near_by : Bool → Spot → ℕ → Bool
near_by true p n = true
near_by false p n = near_spot p n

-- 10, with n bytes to come: the receiver's counts, the offset, the table, the piece
abbrev pub sound_state : Readout → ℕ → Bool
sound_state r n = sound r.tape.receiver && (near_by r.bare r.tape.spot n && (sound_ports r.ports && sound_owed r.owed))

-- by: does it pass 10, does it pass 11
abbrev pub takes_by : Bool → Bool → ℕ → Screen → List ℕ → Part
takes_by false r room s bs = part (Refused 10) 0 [] s
takes_by true false room s bs = part (Refused 11) 0 [] s
takes_by true true room s bs = takes_on room s bs

-- one call
abbrev pub takes : ℕ → Screen → List ℕ → Part
takes room s bs = takes_by (sound_state (readout_of s) (length bs)) (roomy (recv_on s) (memory_in s.source.deck).word) room s bs

-- the code's result of a call
abbrev pub took_of : Part → Got
took_of p = record { wants = p.wants; taken = p.taken; written = length p.text; next = readout_of p.screen }

-- r is the result, l and k the buffers and out' the output of a call
abbrev pub TookIs : Part → Took → List ℕ → List ℕ → List ℕ → List ℕ → Type 0
TookIs p r l k out out' =
    (as_got r ≡ took_of p) × (l ≡ recv_on p.screen) × (k ≡ (memory_in p.screen.source.deck).word) × (out' ≡ p.text ++ drop (length p.text) out)

-- behind the last byte: bare bytes end anywhere
abbrev pub last_by : Bool → Spot → List Line
last_by true p = []
last_by false p = ending p

-- what is still to be said then
abbrev pub last_lines : Readout → List Line
last_lines r = last_by r.bare r.tape.spot
