-- The office as it is called: its state and the lent buffers go in and come back, and one call gives at most one answer.
-- held_limit, hold_limit, out_limit   bytes held, those and a packet's, and the marked blocks of so many
-- sound, roomy             what passes 10, and 11
-- fresh_office, starting    the start
-- hear_on, denied, hear_by   a call behind the refusals, a call refused, and which it is
-- hear_call, HeardIs        one call on bytes, and that the code's results are those
-- spoken, answered, spoken_out, answered_out, heard_of   the code's answer, the output then, and the result
-- last_feed, end_bytes, close_call   the end of the input
-- finish_by, finishing      the last block
-- Fine                     desks that pass 10 and 11
-- first, last_of            from where, and to what end, an input is sent
use Rattle.std.specs.Prelude.{ℕ, ◌+◌, ◌-◌, ◌*◌, ◌/◌, ◌≤◌, ◌≡◌, Bool, true, false, ◌&&◌, List, [], ◌∷◌, ◌++◌, eqb, ltb, leb, length, take, drop}
use Rattle.std.proofs.Math.Option.{Option, some, none}
use Rattle.base.specs.Choice.{pick}
use Rattle.base.specs.Calls.{owes_none, hands_none, hear}
use Rattle.base.specs.Written.{Outcome, refused}
use Rattle.packet_spec.specs.Escape.{flag}
use Rattle.packet_spec.specs.Contents.{plain_limit}
use Rattle.channel_spec.specs.Sender.{message_bytes, block_bytes, sending}
use Rattle.bid.specs.Line.{feed, line_limit}
use Rattle.office.specs.declared.Office.{Office}
use Rattle.office.specs.Start.{Started}
use Rattle.office.specs.Start.{Ready, Refused as StartRefused}
use Rattle.office.specs.Answer.{Answer, Got, as_got}
use Rattle.office.specs.Answer.{More, Sent, NoBid, Refused}
use Rattle.office.specs.declared.Hearing.{Hearing}
use Rattle.office.specs.Meaning.{Spoken, blocks, unread, refusal, Said, Desk, desk, eat}

-- bytes held between lines, at most
abbrev pub held_limit : ℕ
held_limit = message_bytes - 1

-- those and a packet's
abbrev pub hold_limit : ℕ
hold_limit = held_limit + (plain_limit + 1)

-- the marked blocks of so many
abbrev pub out_limit : ℕ
out_limit = hold_limit / message_bytes * block_bytes

-- before the first byte one flag is held
abbrev pub fresh_office : Office
fresh_office = record { lines = 0; stored = 0; held = 1 }

-- the starting call: its answer, and the buffer of the bytes held then. 11: it is too short
abbrev pub starting : List ℕ → Started × List ℕ
starting hold = pick (ltb (length hold) hold_limit) (StartRefused 11, hold) (Ready fresh_office, flag ∷ drop 1 hold)

-- passes 10: no count is beyond its limit
abbrev pub sound : Office → Bool
sound s = leb s.stored line_limit && leb s.held held_limit

-- passes 11: the buffers are long enough
abbrev pub roomy : List ℕ → List ℕ → Bool
roomy line hold = leb line_limit (length line) && leb hold_limit (length hold)

-- one call behind the refusals: the answer (none: "more wanted"), the bytes taken, the desk
abbrev pub hear_on : Desk → List ℕ → Option Said × ℕ × Desk
hear_on = hear owes_none hands_none eat

-- the call is refused
abbrev pub denied : ℕ → Desk → Option Said × ℕ × Desk
denied n d = (some (d.st.lines, refusal n), 0, d)

-- by: does it pass 10, 11 and 23
abbrev pub hear_by : Bool → Bool → Bool → Desk → List ℕ → Option Said × ℕ × Desk
hear_by false b o d bs = denied 10 d
hear_by true false o d bs = denied 11 d
hear_by true true false d bs = denied 23 d
hear_by true true true d bs = hear_on d bs

-- one call, with so much room in the output
abbrev pub hear_call : ℕ → Desk → List ℕ → Option Said × ℕ × Desk
hear_call room d bs = hear_by (sound d.st) (roomy d.line d.hold) (leb out_limit room) d bs

-- what ends a last line that has no line feed
abbrev pub last_feed : List ℕ
last_feed = feed ∷ []

-- the bytes that the end of the input stands for: that, where a line is begun
abbrev pub end_bytes : Desk → List ℕ
end_bytes d = pick (eqb d.st.stored 0) [] last_feed

-- the end of the input: a call on those bytes
abbrev pub close_call : ℕ → Desk → Option Said × ℕ × Desk
close_call room d = hear_call room d (end_bytes d)

-- the code's answer, of what is said of a line ..
abbrev pub spoken : Spoken → Answer
spoken (blocks bs) = Sent (length bs)
spoken unread = NoBid
spoken (refusal n) = Refused n

-- .. and where nothing is said, more is wanted
abbrev pub answered : Option Said → Answer
answered none = More
answered (some x) = spoken x.1

-- the output then: the blocks from its start on ..
abbrev pub spoken_out : Spoken → List ℕ → List ℕ
spoken_out (blocks bs) out = bs ++ drop (length bs) out
spoken_out unread out = out
spoken_out (refusal n) out = out

-- .. and where nothing is said, it stays
abbrev pub answered_out : Option Said → List ℕ → List ℕ
answered_out none out = out
answered_out (some x) out = spoken_out x.1 out

-- the code's result of a call
abbrev pub heard_of : Option Said × ℕ × Desk → Got
heard_of x = record { answer = answered x.0; taken = x.1; office = x.2.st }

-- r is the result of a call, line and hold the buffers and out' the output then, which held out before
abbrev pub HeardIs : Option Said × ℕ × Desk → List ℕ → Hearing → List ℕ → List ℕ → List ℕ → Type 0
HeardIs x out r line hold out' = (as_got r ≡ heard_of x) × (line ≡ x.2.line) × (hold ≡ x.2.hold) × (out' ≡ answered_out x.0 out)

-- the last block, filled with flags, by: does it pass 10 and 11
abbrev pub finish_by : Bool → Bool → Office → List ℕ → List ℕ → Outcome
finish_by false b s hold out = refused 10 out
finish_by true false s hold out = refused 11 out
finish_by true true s hold out = sending (take s.held hold) out

-- the finishing call
abbrev pub finishing : Office → List ℕ → List ℕ → Outcome
finishing s hold out = finish_by (sound s) (leb hold_limit (length hold)) s hold out

-- state and buffers pass 10 and 11
pub record Fine (d : Desk) : Type 0 where
  pub stored : d.st.stored ≤ line_limit
  pub held : d.st.held ≤ held_limit
  pub line : line_limit ≤ length d.line
  pub hold : hold_limit ≤ length d.hold

-- the desk behind the start, with these buffers
abbrev pub first : List ℕ → List ℕ → Desk
first line hold = desk fresh_office line (starting hold).1

-- what the last call says, as a list
abbrev pub last_of : Option Said → List Said
last_of none = []
last_of (some x) = x ∷ []
