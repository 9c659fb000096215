-- The board's calls one after the other: any cutting of what comes in, any room for each call.
-- meant      what bytes mean to a board: all that is to be shown, and the board behind it
-- Shows      a piece is handed in until "more wanted", call after call with the room that each has
-- ShowsAll   pieces one after the other
-- Run        such a run
-- EveryShow  bytes that come in, cut in every way, in calls with every room
-- table_all, shown_by   the table behind answers, and what they show
use Rattle.std.specs.Prelude.{ℕ, suc, ◌≤◌, ◌<◌, ◌≡◌, Bool, List, [], ◌∷◌, ◌++◌, length, drop}
use Rattle.base.specs.Calls.{joined}
use Rattle.packet_spec.specs.Contents.{raw_limit}
use Rattle.channel_spec.specs.Sender.{word_bytes}
use Rattle.channel_spec.specs.Meaning.{Event}
use Rattle.ports_spec.specs.declared.Entry.{Entry}
use Rattle.ports_spec.specs.declared.Range.{Range}
use Rattle.board_spec.specs.Meaning.{table_behind, board_lines, regarded, written_all}
use Rattle.board.specs.declared.readout.Readout.{Readout}
use Rattle.board.specs.Wants.{More, Again}
use Rattle.board.specs.Source.{Source, source_all}
use Rattle.board.specs.Owed.{nothing}
use Rattle.board.specs.Call.{Screen, screen, screen_of, owed_on, takes}

-- the table behind answers
abbrev pub table_all : List Entry → List Event → List Entry
table_all t [] = t
table_all t (e ∷ es) = table_all (table_behind t e) es

-- what answers show behind a text, and the board behind them: packets of ports outside its range are none of its business
abbrev pub shown_by : List ℕ → Bool → Range → List Entry → List Event × Source → List ℕ × Screen
shown_by text b r t x =
    (text ++ written_all (board_lines b t (regarded r x.0)), screen b r nothing (table_all t (regarded r x.0)) x.1)

-- what bytes mean to a board: what is owed comes first, then the lines of their answers
abbrev pub meant : Screen → List ℕ → List ℕ × Screen
meant s bs = shown_by (owed_on s) s.blocks s.range s.table (source_all s.source bs)

-- call number i has an output of `rooms i` bytes
module _ (rooms : ℕ → ℕ) where
  -- calls from number i on: the text written, and the screen before call number j
  pub data Shows : ℕ → Screen → List ℕ → ℕ → List ℕ → Screen → Type 0 where
    more : {i : ℕ} {s : Screen} {bs : List ℕ} → (takes (rooms i) s bs).wants ≡ More
        → Shows i s bs (suc i) (takes (rooms i) s bs).text (takes (rooms i) s bs).screen
    again : {i j : ℕ} {s u : Screen} {bs text : List ℕ} → (takes (rooms i) s bs).wants ≡ Again
        → Shows (suc i) (takes (rooms i) s bs).screen (drop (takes (rooms i) s bs).taken bs) j text u
        → Shows i s bs j ((takes (rooms i) s bs).text ++ text) u

  -- pieces one after the other
  pub data ShowsAll : ℕ → Screen → List (List ℕ) → ℕ → List ℕ → Screen → Type 0 where
    done : {i : ℕ} {s : Screen} → ShowsAll i s [] i [] s
    piece : {i j k : ℕ} {s t u : Screen} {p text texts : List ℕ} {ps : List (List ℕ)}
        → Shows i s p j text t → ShowsAll j t ps k texts u → ShowsAll i s (p ∷ ps) k (text ++ texts) u

  -- such a run
  pub record Run (i : ℕ) (s : Screen) (ps : List (List ℕ)) : Type 0 where
    pub calls : ℕ
    pub text : List ℕ
    pub screen : Screen
    pub shows : ShowsAll i s ps calls text screen

-- bytes come in from the board's start on, cut in every way, each call with room for a byte at least and with all buffers that pass 11: the
-- calls come to their end, and P holds of all text that they write, and of the boards before and behind them
abbrev pub EveryShow : Readout → List ℕ → (Screen → List ℕ → Screen → Type 0) → Type 0
EveryShow r bs P =
    (recv word : List ℕ) → raw_limit ≤ length recv → word_bytes ≤ length word → (rooms : ℕ → ℕ) → ((i : ℕ) → 0 < rooms i) →
    (pieces : List (List ℕ)) → joined pieces ≡ bs →
    Run rooms 0 (screen_of r recv word) pieces
    × ((n : ℕ) (text : List ℕ) (u : Screen) → ShowsAll rooms 0 (screen_of r recv word) pieces n text u → P (screen_of r recv word) text u)
