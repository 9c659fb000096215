-- What the office typed, to be held against what is shown.
-- accepted_lines       the lines of an input that the sender accepts, in order
-- as_shown             lines as they are shown, whatever was typed
-- typed               lines as they were typed, each with its line feed
-- Plainly             a line typed plainly: numbers without leading zeros, the text printable and without a backslash
-- bids_among           the bids among lines shown
-- packets_among        the packets among frame answers
-- lines_in, packets_in  lines, and packets, of the ports inside a range
-- as_bid, current_from  a packet's bid; the packets that are shown as bids: neither late nor repeated, and for everybody
-- numbers_of, ByOne    a port's sequence numbers, and that they rise by one
-- Among               packets of these ports alone
-- is_accepted, accepting   the sender accepts it, and the accepted among lines
-- NoZeros, Plain      no leading zero; a printable byte other than the backslash
-- is_bid               a line is a bid
-- is_current, is_shown  a packet is neither late nor repeated, and everybody may read it
-- Member              a port is among others
use Rattle.std.specs.Prelude.{ℕ, ◌+◌, ◌%◌, ◌≡◌, Bool, true, false, ◌⊎◌, ◌≢◌, List, [], ◌∷◌, ◌++◌, eqb, length, get_or}
use Rattle.base.specs.Bytes.{Each}
use Rattle.base.specs.Choice.{pick}
use Rattle.base.specs.UpTo.{up_to}
use Rattle.packet_spec.specs.Contents.{Packet, key_format}
use Rattle.packet_spec.specs.Frame.{Told, packet, refusal, broken}
use Rattle.bid.specs.Line.{feed, space, past, port, sequence, text, Verdict, no_bid, refused, accepted, verdict}
use Rattle.bid.specs.Input.{lines_of}
use Rattle.ports_spec.specs.declared.Entry.{Entry}
use Rattle.ports_spec.specs.declared.Noted.{Noted}
use Rattle.ports_spec.specs.declared.Noted.TheVariants.{First, InOrder, Repeated, Missing, Late, Refused}
use Rattle.ports_spec.specs.declared.Range.{Range}
use Rattle.ports_spec.specs.Ports.{noting}
use Rattle.ports_spec.specs.Range.{inside}
use Rattle.board_spec.specs.Text.{backslash, printable, bid_text}
use Rattle.board_spec.specs.Meaning.{Line, bid, missing, unwatched, late, repeated, restricted, refused_frame, broken_frame}
use Rattle.board_spec.specs.Meaning.{clean_block, repaired_block, beyond_repair, lock_lost, wrong_at}

-- the sender accepts it
abbrev pub is_accepted : Verdict → Bool
is_accepted no_bid = false
is_accepted (refused n) = false
is_accepted (accepted p) = true

-- the accepted among lines
unfoldable pub accepting : List (List ℕ) → List (List ℕ)
accepting [] = []
accepting (l ∷ ls) = pick (is_accepted (verdict l)) (l ∷ accepting ls) (accepting ls)

-- the accepted lines of an input
abbrev pub accepted_lines : List ℕ → List (List ℕ)
accepted_lines input = accepting (lines_of input)

-- lines, each with its line feed
unfoldable pub typed : List (List ℕ) → List ℕ
typed [] = []
typed (l ∷ ls) = (l ++ feed ∷ []) ++ typed ls

-- lines, each shown as a bid
unfoldable pub as_shown : List (List ℕ) → List ℕ
as_shown [] = []
as_shown (l ∷ ls) = (bid_text (port l) (sequence l) (text l) ++ feed ∷ []) ++ as_shown ls

-- those of the ports inside a range
unfoldable pub lines_in : Range → List (List ℕ) → List (List ℕ)
lines_in r [] = []
lines_in r (l ∷ ls) = pick (inside r (port l)) (l ∷ lines_in r ls) (lines_in r ls)

-- no leading zero: one digit, or the first is another
abbrev pub NoZeros : List ℕ → Type 0
NoZeros w = (length w ≡ 1) ⊎ (get_or w 0 48 ≢ 48)

-- a printable byte other than the backslash
abbrev pub Plain : ℕ → Type 0
Plain b = (printable b ≡ true) × (b ≢ backslash)

-- a line as it will be shown
pub record Plainly (l : List ℕ) : Type 0 where
  pub port : NoZeros (up_to space l)
  pub sequence : NoZeros (up_to space (past space l))
  pub text : Each Plain (text l)

-- it is a bid
abbrev pub is_bid : Line → Bool
is_bid (bid p s t) = true
is_bid (missing p n) = false
is_bid (unwatched p) = false
is_bid (late p s t) = false
is_bid (repeated p s t) = false
is_bid (restricted p s k) = false
is_bid (refused_frame n) = false
is_bid (broken_frame n) = false
is_bid clean_block = false
is_bid (repaired_block n) = false
is_bid beyond_repair = false
is_bid lock_lost = false
is_bid (wrong_at n) = false

-- the bids among lines
unfoldable pub bids_among : List Line → List Line
bids_among [] = []
bids_among (l ∷ ls) = pick (is_bid l) (l ∷ bids_among ls) (bids_among ls)

-- the packets among frame answers
unfoldable pub packets_among : List Told → List Packet
packets_among [] = []
packets_among (packet p ∷ ts) = p ∷ packets_among ts
packets_among (refusal n ∷ ts) = packets_among ts
packets_among (broken n ∷ ts) = packets_among ts

-- packets of the ports inside a range
unfoldable pub packets_in : Range → List Packet → List Packet
packets_in r [] = []
packets_in r (p ∷ ps) = pick (inside r p.port) (p ∷ packets_in r ps) (packets_in r ps)

-- a packet's bid
abbrev pub as_bid : Packet → Line
as_bid p = bid p.port p.sequence p.payload

-- by what a packet is to its port: neither late nor repeated; of a port without a place (40) that cannot be told, and it counts as neither
abbrev pub is_current : Noted → Bool
is_current First = true
is_current InOrder = true
is_current Repeated = false
is_current (Missing n) = true
is_current Late = false
is_current (Refused n) = true

-- .. and everybody may read it
abbrev pub is_shown : Noted → Packet → Bool
is_shown v p = pick (eqb p.format key_format) false (is_current v)

-- such packets among these, each by the table behind those before it
unfoldable pub current_from : List Entry → List Packet → List Packet
current_from t [] = []
current_from t (p ∷ ps) =
    pick (is_shown (noting t p.port p.sequence).0 p) (p ∷ []) [] ++ current_from (noting t p.port p.sequence).1 ps

-- a port's sequence numbers among packets
unfoldable pub numbers_of : ℕ → List Packet → List ℕ
numbers_of q [] = []
numbers_of q (p ∷ ps) = pick (eqb p.port q) (p.sequence ∷ []) [] ++ numbers_of q ps

-- they rise by one, 0 behind 65,535
abbrev pub ByOne : List ℕ → Type 0
ByOne [] = Unit {0}
ByOne (s ∷ []) = Unit {0}
ByOne (s ∷ r ∷ ss) = (r ≡ (s + 1) % 65536) × ByOne (r ∷ ss)

-- q is among ports
abbrev pub Member : ℕ → List ℕ → Type 0
Member q [] = ⊥
Member q (r ∷ rs) = (q ≡ r) ⊎ Member q rs

-- each packet's port is one of these
abbrev pub Among : List ℕ → List Packet → Type 0
Among qs ps = Each (λ p. Member p.port qs) ps
