-- What the board shows of a stream's answers, line by line.
-- Line             a line: a bid (bid), or a remark (missing, unwatched, late, repeated, restricted, refused_frame, broken_frame, clean_block,
--                  repaired_block, beyond_repair, lock_lost, wrong_at)
-- missing_text, unwatched_text, late_text, repeated_text, restricted_text, refused_text, clean_text, repaired_text, beyond_text, lost_text, wrong_text
--                  the first words of remarks
-- written, written_all   a line's bytes, and those of lines
-- ahead_of, own_line, packet_lines   the lines of a delivered packet, by what it is to its port
-- block_lines       a block's line
-- event_lines       the lines of an answer; table_behind, the table of ports behind it
-- board_lines       the lines of answers, one after the other
-- regards, regarded   answers without the packets of ports outside the range that the board is told
-- shows            what is shown of them: their bytes; board_text, of a byte string; ending and recording_text, of a recording
use Rattle.std.specs.Prelude.{ℕ, Bool, true, false, List, [], ◌∷◌, ◌++◌, eqb}
use Rattle.base.specs.Choice.{pick}
use Rattle.packet_spec.specs.Contents.{Packet, key_format}
use Rattle.packet_spec.specs.Frame.{packet, refusal, broken}
use Rattle.channel_spec.specs.Meaning.{Event, said, block, lost, answers}
use Rattle.channel_spec.specs.declared.Condition.{Condition}
use Rattle.channel_spec.specs.declared.Condition.TheVariants.{Clean, Repaired, Beyond}
use Rattle.bid.specs.Line.{feed}
use Rattle.listing_spec.specs.declared.Spot.{Spot}
use Rattle.listing_spec.specs.Apart.{fresh_spot, apart, well, on_channel}
use Rattle.text.specs.Text.{ascii, number}
use Rattle.listing_spec.specs.Meaning.{heard}
use Rattle.ports_spec.specs.declared.Entry.{Entry}
use Rattle.ports_spec.specs.declared.Noted.{Noted}
use Rattle.ports_spec.specs.declared.Noted.TheVariants.{First, InOrder, Repeated, Missing, Late, Refused}
use Rattle.ports_spec.specs.declared.Range.{Range}
use Rattle.ports_spec.specs.Ports.{noting, fresh_table}
use Rattle.ports_spec.specs.Range.{inside}
use Rattle.board_spec.specs.Text.{bid_text}

-- a line: a bid, or a remark
pub data Line : Type 0 where
  bid : ℕ → ℕ → List ℕ → Line
  missing : ℕ → ℕ → Line
  unwatched : ℕ → Line
  late : ℕ → ℕ → List ℕ → Line
  repeated : ℕ → ℕ → List ℕ → Line
  restricted : ℕ → ℕ → ℕ → Line
  refused_frame : ℕ → Line
  broken_frame : ℕ → Line
  clean_block : Line
  repaired_block : ℕ → Line
  beyond_repair : Line
  lock_lost : Line
  wrong_at : ℕ → Line

-- ---- the first words of remarks
-- packets are missing
abbrev pub missing_text : List ℕ
missing_text = ascii "! missing "

-- a port finds no place in the table
abbrev pub unwatched_text : List ℕ
unwatched_text = ascii "! unwatched "

-- a packet is late
abbrev pub late_text : List ℕ
late_text = ascii "! late "

-- a packet is repeated
abbrev pub repeated_text : List ℕ
repeated_text = ascii "! repeated "

-- a packet is for subscribers
abbrev pub restricted_text : List ℕ
restricted_text = ascii "! restricted "

-- a frame is refused
abbrev pub refused_text : List ℕ
refused_text = ascii "! frame refused "

-- a block is clean
abbrev pub clean_text : List ℕ
clean_text = ascii "! block clean"

-- .. repaired
abbrev pub repaired_text : List ℕ
repaired_text = ascii "! block repaired "

-- .. beyond repair
abbrev pub beyond_text : List ℕ
beyond_text = ascii "! block beyond repair"

-- lock is lost
abbrev pub lost_text : List ℕ
lost_text = ascii "! lock lost"

-- a recording does not end as one
abbrev pub wrong_text : List ℕ
wrong_text = ascii "! wrong at "

-- a line's bytes: `PORT SEQUENCE TEXT`, `! missing PORT COUNT`, `! unwatched PORT`, `! late PORT SEQUENCE TEXT`, `! repeated PORT SEQUENCE TEXT`,
-- `! restricted PORT SEQUENCE KEYNUMBER`, `! frame refused NUMBER`, `! frame refused 3 PLACE`, `! block clean`, `! block repaired COUNT`,
-- `! block beyond repair`, `! lock lost`, `! wrong at OFFSET`, each with its line feed
unfoldable pub written : Line → List ℕ
written (bid port sequence payload) = bid_text port sequence payload ++ (feed ∷ [])
written (missing port n) = missing_text ++ number port " " ++ number n "\n"
written (unwatched port) = unwatched_text ++ number port "\n"
written (late port sequence payload) = late_text ++ bid_text port sequence payload ++ (feed ∷ [])
written (repeated port sequence payload) = repeated_text ++ bid_text port sequence payload ++ (feed ∷ [])
written (restricted port sequence key) = restricted_text ++ number port " " ++ number sequence " " ++ number key "\n"
written (refused_frame n) = refused_text ++ number n "\n"
written (broken_frame place) = refused_text ++ number 3 " " ++ number place "\n"
written clean_block = clean_text ++ (feed ∷ [])
written (repaired_block n) = repaired_text ++ number n "\n"
written beyond_repair = beyond_text ++ (feed ∷ [])
written lock_lost = lost_text ++ (feed ∷ [])
written (wrong_at offset) = wrong_text ++ number offset "\n"

-- lines, one after the other
unfoldable pub written_all : List Line → List ℕ
written_all [] = []
written_all (l ∷ ls) = written l ++ written_all ls

-- before a packet's own line: how many are missing before it; that its port finds no place in the table (40)
abbrev pub ahead_of : Noted → ℕ → List Line
ahead_of First port = []
ahead_of InOrder port = []
ahead_of Repeated port = []
ahead_of (Missing n) port = missing port n ∷ []
ahead_of Late port = []
ahead_of (Refused n) port = unwatched port ∷ []

-- its own line: a late or repeated one is no bid
abbrev pub own_line : Noted → ℕ → ℕ → List ℕ → Line
own_line First port sequence payload = bid port sequence payload
own_line InOrder port sequence payload = bid port sequence payload
own_line Repeated port sequence payload = repeated port sequence payload
own_line (Missing n) port sequence payload = bid port sequence payload
own_line Late port sequence payload = late port sequence payload
own_line (Refused n) port sequence payload = bid port sequence payload

-- a packet for subscribers is no text for this board: its key's number in place of its own line
abbrev pub packet_lines : Noted → Packet → List Line
packet_lines v p =
    ahead_of v p.port
    ++ (pick (eqb p.format key_format) (restricted p.port p.sequence p.number) (own_line v p.port p.sequence p.payload) ∷ [])

-- a block's line, by: are clean and repaired ones to be told too
abbrev pub block_lines : Bool → Condition → List Line
block_lines true Clean = clean_block ∷ []
block_lines false Clean = []
block_lines true (Repaired n) = repaired_block n ∷ []
block_lines false (Repaired n) = []
block_lines b Beyond = beyond_repair ∷ []

-- the lines of an answer, by the table before it
abbrev pub event_lines : Bool → List Entry → Event → List Line
event_lines b t (said (packet p)) = packet_lines (noting t p.port p.sequence).0 p
event_lines b t (said (refusal n)) = refused_frame n ∷ []
event_lines b t (said (broken place)) = broken_frame place ∷ []
event_lines b t (block c) = block_lines b c
event_lines b t lost = lock_lost ∷ []

-- the table behind it: a packet is noted, whatever its format; nothing else changes it
abbrev pub table_behind : List Entry → Event → List Entry
table_behind t (said (packet p)) = (noting t p.port p.sequence).1
table_behind t (said (refusal n)) = t
table_behind t (said (broken place)) = t
table_behind t (block c) = t
table_behind t lost = t

-- the lines of answers, one after the other
unfoldable pub board_lines : Bool → List Entry → List Event → List Line
board_lines b t [] = []
board_lines b t (e ∷ es) = event_lines b t e ++ board_lines b (table_behind t e) es

-- by the range that a board is told: a packet of another port is none of its business; every other answer is
abbrev pub regards : Range → Event → Bool
regards r (said (packet p)) = inside r p.port
regards r (said (refusal n)) = true
regards r (said (broken place)) = true
regards r (block c) = true
regards r lost = true

-- answers without the packets of other ports: those are neither noted nor shown
unfoldable pub regarded : Range → List Event → List Event
regarded r [] = []
regarded r (e ∷ es) = pick (regards r e) (e ∷ regarded r es) (regarded r es)

-- what is shown of answers, from a fresh table
abbrev pub shows : Bool → Range → List Event → List ℕ
shows b r es = written_all (board_lines b fresh_table (regarded r es))

-- .. of the bytes of an opportunistic channel
abbrev pub board_text : Bool → Range → List ℕ → List ℕ
board_text b r bs = shows b r (answers bs)

-- behind a recording that does not end as one: the offset of the first wrong byte, or its length where it ends early
abbrev pub ending : Spot → List Line
ending p = pick (well p.place) [] (wrong_at p.offset ∷ [])

-- .. of a recording
abbrev pub recording_text : Bool → Range → List ℕ → List ℕ
recording_text b r file = shows b r (heard (on_channel file) (apart fresh_spot file).0) ++ written_all (ending (apart fresh_spot file).1)
