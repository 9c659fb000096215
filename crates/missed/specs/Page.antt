-- A recording whose packets are noted, as it is taken byte by byte: a reader of its lines, in the sense of base/specs/Calls.
-- Page, page, fresh_page    the deck, the table of ports, and the range of ports that are noted; before the first byte
-- Note, line_of, line_by     a packet's line, or a refused call; the line of a packet, and the table behind it
-- noted                    what becomes of a packet, or of a refused call
-- page_owes, page_hand, page_eat, page_all, page_hear   the reader
-- page_call, paged          one call, behind refusals 10 and 11
-- text_of                   what is printed of all answers
use Rattle.std.specs.Prelude.{ℕ, Bool, true, false, List, [], ◌∷◌, ◌++◌}
use Rattle.std.proofs.Math.Option.{Option, some, none}
use Rattle.base.specs.Calls.{all, hear}
use Rattle.recording.specs.Deck.{Deck, fresh, deck_owes}
use Rattle.recording.specs.Packets.{Item, delivered, refused, packet_hand, packet_eat, packet_call}
use Rattle.ports_spec.specs.declared.Range.{Range}
use Rattle.ports_spec.specs.Range.{inside}
use Rattle.ports_spec.specs.Ports.{noting}
use Rattle.ports.specs.declared.by_value.Ports.{Ports}
use Rattle.ports.specs.ByValue.{fresh_ports}
use Rattle.missed_spec.specs.Line.{noted_line}

-- the deck, the table of ports, and the ports that are noted
pub record Page : Type 0 where
  pub deck : Deck
  pub ports : Ports
  pub range : Range

-- the page of these
abbrev pub page : Deck → Ports → Range → Page
page m t r = record { deck = m; ports = t; range = r }

-- before the first byte, with these buffers
abbrev pub fresh_page : Range → List ℕ → List ℕ → Page
fresh_page r recv word = page (fresh recv word) fresh_ports r

-- a packet's line, which is empty where its port is none of the range; or the number by which a call is refused
pub data Note : Type 0 where
  line : List ℕ → Note
  unheard : ℕ → Note

-- a packet's line and the table behind it, by: is its port one of the range
abbrev pub line_by : Bool → Ports → ℕ → ℕ → List ℕ × Ports
line_by true t port sequence =
    (noted_line port sequence (noting t.entries port sequence).0, record { entries = (noting t.entries port sequence).1 })
line_by false t port sequence = ([], t)

-- a packet's line and the table behind it
abbrev pub line_of : Range → Ports → ℕ → ℕ → List ℕ × Ports
line_of r t port sequence = line_by (inside r port) t port sequence

-- a packet, or a refused call, and the deck then
abbrev pub noted : Range → Ports → Option Item → Deck → Option Note × Page
noted r t none m = (none, page m t r)
noted r t (some (delivered p)) m = (some (line (line_of r t p.port p.sequence).0), page m (line_of r t p.port p.sequence).1 r)
noted r t (some (refused n)) m = (some (unheard n), page m t r)

-- moves owed are the deck's
abbrev pub page_owes : Page → ℕ
page_owes g = deck_owes g.deck

-- one of them ..
abbrev pub page_hand : Page → Option Note × Page
page_hand g = noted g.range g.ports (packet_hand g.deck).0 (packet_hand g.deck).1

-- .. and a byte of the recording
abbrev pub page_eat : Page → ℕ → Option Note × Page
page_eat g b = noted g.range g.ports (packet_eat g.deck b).0 (packet_eat g.deck b).1

-- bytes of a recording: their lines, and the page behind them
abbrev pub page_all : Page → List ℕ → List Note × Page
page_all = all page_owes page_hand page_eat

-- one call: the line (none: "more wanted"), the bytes taken, the page
abbrev pub page_hear : Page → List ℕ → Option Note × ℕ × Page
page_hear = hear page_owes page_hand page_eat

-- what a call for a packet gives, noted
abbrev pub paged : Range → Ports → Option Item × ℕ × Deck → Option Note × ℕ × Page
paged r t x = ((noted r t x.0 x.2).0, x.1, (noted r t x.0 x.2).1)

-- one call behind refusals 10 and 11
abbrev pub page_call : Page → List ℕ → Option Note × ℕ × Page
page_call g bs = paged g.range g.ports (packet_call g.deck bs)

-- the lines among answers, one behind the other
abbrev pub text_of : List Note → List ℕ
text_of [] = []
text_of (line l ∷ xs) = l ++ text_of xs
text_of (unheard n ∷ xs) = text_of xs
