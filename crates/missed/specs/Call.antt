-- One call on a recording whose packets are noted (`Notes::take`).
-- fresh_notes          before the first byte
-- page_of, notes_of     the page of the code's state and the buffers lent, and the code's state of a page
-- Part, part_by        what a call gives
-- takes, took_of, TookIs   one call, and that the code's results are those
use Rattle.std.specs.Prelude.{ℕ, ◌≡◌, List, [], ◌++◌, ltb, length, drop}
use Rattle.std.proofs.Math.Option.{Option, some, none}
use Rattle.base.specs.Choice.{pick}
use Rattle.ports_spec.specs.declared.Range.{Range}
use Rattle.ports.specs.ByValue.{fresh_ports}
use Rattle.recording.specs.Call.{fresh_tape, deck_of, tape_of}
use Rattle.missed_spec.specs.Line.{longest}
use Rattle.missed.specs.declared.notes.Notes.{Notes}
use Rattle.missed.specs.Wants.{Wants, More, Again, Refused, Took}
use Rattle.missed.specs.Page.{Page, page, Note, line, unheard, page_call}

-- before the first byte: a table that holds no port
abbrev pub fresh_notes : Range → Notes
fresh_notes r = record { tape = fresh_tape; ports = fresh_ports; range = r }

-- the page of a state and the buffers lent ..
abbrev pub page_of : Notes → List ℕ → List ℕ → Page
page_of s recv word = page (deck_of s.tape recv word) s.ports s.range

-- .. and a page's state
abbrev pub notes_of : Page → Notes
notes_of g = record { tape = tape_of g.deck; ports = g.ports; range = g.range }

-- what is wanted next, the bytes taken, the bytes printed, and the page then
pub record Part : Type 0 where
  pub wants : Wants
  pub taken : ℕ
  pub text : List ℕ
  pub page : Page

-- by: is there an answer
abbrev pub part_by : Option Note → ℕ → Page → Part
part_by none n g = record { wants = More; taken = n; text = []; page = g }
part_by (some (line l)) n g = record { wants = Again; taken = n; text = l; page = g }
part_by (some (unheard k)) n g = record { wants = Refused k; taken = n; text = []; page = g }

-- one call: 23 where the output has no room for any line; then as above
abbrev pub takes : ℕ → Page → List ℕ → Part
takes room g bs =
    pick (ltb room longest) (part_by (some (unheard 23)) 0 g) (part_by (page_call g bs).0 (page_call g bs).1 (page_call g bs).2)

-- the code's result of a call
abbrev pub took_of : Part → Took
took_of x = record { wants = x.wants; taken = x.taken; written = length x.text; next = notes_of x.page }

-- r is the result of a call, l and k the receiver's buffers and out the output then, which held old before
abbrev pub TookIs : Part → Took → List ℕ → List ℕ → List ℕ → List ℕ → Type 0
TookIs x r l k old out =
    (r ≡ took_of x) × (l ≡ x.page.deck.ear.memory.recv) × (k ≡ x.page.deck.ear.memory.word) × (out ≡ x.text ++ drop (length x.text) old)
