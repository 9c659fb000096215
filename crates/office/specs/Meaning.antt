-- The office's desk: lines of bids in, marked blocks out, byte by byte.
-- Spoken, Said         what the sender says of a line, and the line's number
-- sent_for              the bytes of an input's bids as they are sent
-- Ending, ending_by, put_out   a line ended: what is said, and what is held then
-- Desk, eat            the desk, and one byte
-- so_far, waiting       the line so far, and the stream bytes not yet sent
-- kept, ending_of       bytes of a line stored; what becomes of the line
-- desk_all              an input: what is said of its lines, and the desk behind it
-- sent_by, complaints_by what was sent, and the complaints, of all that is said
use Rattle.std.specs.Prelude.{ℕ, ◌+◌, ◌-◌, min, List, [], ◌∷◌, ◌++◌, eqb, length, take, drop}
use Rattle.std.proofs.Math.Option.{Option, some, none}
use Rattle.std.proofs.lemmas.List.Edits.{sets}
use Rattle.base.specs.Choice.{pick}
use Rattle.base.specs.Calls.{owes_none, hands_none, all}
use Rattle.base.specs.Written.{copied}
use Rattle.packet_spec.specs.Escape.{flag}
use Rattle.stream.specs.Sender.{raw_of}
use Rattle.channel_spec.specs.Sender.{marked, sent, wholes, rest_of}
use Rattle.bid.specs.Line.{feed, line_limit, Verdict, no_bid, refused, accepted, verdict}
use Rattle.bid.specs.Input.{numbered, packets_of}
use Rattle.office.specs.declared.Office.{Office}

-- the bytes of an input's bids as they are sent
abbrev pub sent_for : List ℕ → List ℕ
sent_for input = sent (packets_of input)

-- the marked blocks that an accepted line fills, or why it is not sent
pub data Spoken : Type 0 where
  blocks : List ℕ → Spoken
  unread : Spoken
  refusal : ℕ → Spoken

-- the line's number, and what is said of it
abbrev pub Said : Type 0
Said = ℕ × Spoken

-- what is said, how many stream bytes are held then, and the buffer that holds them
pub record Ending : Type 0 where
  pub said : Spoken
  pub held : ℕ
  pub hold : List ℕ

-- stream bytes and a packet's behind them: whole messages go out, and the rest is held
abbrev pub put_out : List ℕ → List ℕ → Ending
put_out bs hold = record { said = blocks (marked (wholes bs)); held = length (rest_of bs); hold = copied (rest_of bs) (bs ++ drop (length bs) hold) }

-- a line ended, with so many bytes held
abbrev pub ending_by : Verdict → ℕ → List ℕ → Ending
ending_by no_bid at hold = record { said = unread; held = at; hold = hold }
ending_by (refused n) at hold = record { said = refusal n; held = at; hold = hold }
ending_by (accepted p) at hold = put_out (take at hold ++ (raw_of p ++ flag ∷ [])) hold

-- the state, the buffer of the line and the buffer of the bytes held
pub record Desk : Type 0 where
  pub st : Office
  pub line : List ℕ
  pub hold : List ℕ

-- the three together
abbrev pub desk : Office → List ℕ → List ℕ → Desk
desk s line hold = record { st = s; line = line; hold = hold }

-- the bytes of the line so far, as many as decide
abbrev pub so_far : Desk → List ℕ
so_far d = take d.st.stored d.line

-- the stream bytes not yet sent
abbrev pub waiting : Desk → List ℕ
waiting d = take d.st.held d.hold

-- bytes of a line are stored, as many as decide
abbrev pub kept : Desk → List ℕ → Desk
kept d bs =
    desk (record { lines = d.st.lines; stored = min (d.st.stored + length bs) line_limit; held = d.st.held })
    (sets d.line d.st.stored (take (line_limit - d.st.stored) bs)) d.hold

-- the desk behind a line
abbrev behind_line : Desk → Ending → Desk
behind_line d e = desk (record { lines = numbered d.st.lines; stored = 0; held = e.held }) d.line e.hold

-- what becomes of the line
abbrev pub ending_of : Desk → Ending
ending_of d = ending_by (verdict (so_far d)) d.st.held d.hold

-- a line feed
abbrev pub ended : Desk → Option Said × Desk
ended d = (some (numbered d.st.lines, (ending_of d).said), behind_line d (ending_of d))

-- a byte
unfoldable pub eat : Desk → ℕ → Option Said × Desk
eat d b = pick (eqb b feed) (ended d) (none, kept d (b ∷ []))

-- an input: what is said of its lines, and the desk behind it
abbrev pub desk_all : Desk → List ℕ → List Said × Desk
desk_all = all owes_none hands_none eat

-- the blocks, one after the other
unfoldable pub sent_by : List Said → List ℕ
sent_by [] = []
sent_by ((k, blocks bs) ∷ xs) = bs ++ sent_by xs
sent_by ((k, unread) ∷ xs) = sent_by xs
sent_by ((k, refusal n) ∷ xs) = sent_by xs

-- the lines not sent, and why; 0: no bid
unfoldable pub complaints_by : List Said → List (ℕ × ℕ)
complaints_by [] = []
complaints_by ((k, blocks bs) ∷ xs) = complaints_by xs
complaints_by ((k, unread) ∷ xs) = (k, 0) ∷ complaints_by xs
complaints_by ((k, refusal n) ∷ xs) = (k, n) ∷ complaints_by xs
