-- A line of the office's input, `PORT SEQUENCE TEXT`: what the sender makes of it.
-- feed, space, is_digit       bytes that mean something
-- past                       the bytes behind the first c
-- digit_limit, value, number_from, number, no_number   one to five digits, at most 65,535
-- port, sequence, text, text_at   the three parts of a line, and where the last begins
-- is_bid, bid_of, judged       both numbers are there; the packet then, and what the sender says of it
-- Verdict, verdict           no bid, refused by its number, or a packet to be sent
-- line_limit                  so many first bytes decide that
-- reading                    what the call that reads a line answers
use Rattle.std.specs.Prelude.{ℕ, ◌+◌, ◌-◌, ◌*◌, min, Bool, true, ◌&&◌, List, [], ◌∷◌, ltb, leb, length, drop, Option, Some, None}
use Rattle.base.specs.Choice.{pick}
use Rattle.base.specs.UpTo.{up_to}
use Rattle.packet_spec.specs.Sender.{refusing}
use Rattle.packet_spec.specs.Contents.{Packet, plain_packet, payload_limit}
use Rattle.bid.specs.declared.Bid.{Bid}

-- a line feed ends a line
abbrev pub feed : ℕ
feed = 10

-- a space ends a number
abbrev pub space : ℕ
space = 32

-- the bytes behind the first c
abbrev pub past : ℕ → List ℕ → List ℕ
past c bs = drop (length (up_to c bs) + 1) bs

-- 0 to 9
abbrev pub is_digit : ℕ → Bool
is_digit b = leb 48 b && leb b 57

-- digits alone
unfoldable pub digits : List ℕ → Bool
digits [] = true
digits (b ∷ bs) = is_digit b && digits bs

-- the value of digits behind those of n
unfoldable pub value : ℕ → List ℕ → ℕ
value n [] = n
value n (b ∷ bs) = value (n * 10 + (b - 48)) bs

-- what stands for "no number"
abbrev pub no_number : ℕ
no_number = 65536

-- digits behind those of n, at most 65,535
unfoldable pub number_from : ℕ → List ℕ → ℕ
number_from n w = pick (digits w && ltb (value n w) no_number) (value n w) no_number

-- digits of a number, at most
abbrev pub digit_limit : ℕ
digit_limit = 5

-- one to five digits, at most 65,535
unfoldable pub number : List ℕ → ℕ
number w = pick (leb 1 (length w) && leb (length w) digit_limit) (number_from 0 w) no_number

-- up to the first space
abbrev pub port : List ℕ → ℕ
port l = number (up_to space l)

-- from there up to the next
abbrev pub sequence : List ℕ → ℕ
sequence l = number (up_to space (past space l))

-- all that is behind
abbrev pub text : List ℕ → List ℕ
text l = past space (past space l)

-- what the sender can say of a line
pub data Verdict : Type 0 where
  no_bid : Verdict
  refused : ℕ → Verdict
  accepted : Packet → Verdict

-- what it says of a packet: 20, 21 and 22 as where one is written
unfoldable pub judged : Packet → Verdict
judged p = refusing p refused (accepted p)

-- both numbers are there
abbrev pub is_bid : List ℕ → Bool
is_bid l = ltb (port l) no_number && ltb (sequence l) no_number

-- the packet of a line that is a bid: everybody may read it
abbrev pub bid_of : List ℕ → Packet
bid_of l = plain_packet (port l) (sequence l) (text l)

-- what it says of a line: where it is a bid, of its packet
unfoldable pub verdict : List ℕ → Verdict
verdict l = pick (is_bid l) (judged (bid_of l)) no_bid

-- so many first bytes of a line decide what it is: two numbers with their spaces, and a text too long by one byte
abbrev pub line_limit : ℕ
line_limit = 2 * (digit_limit + 1) + (payload_limit + 1)

-- where the text begins
abbrev pub text_at : List ℕ → ℕ
text_at l = min (length (up_to space l) + 1 + length (up_to space (past space l)) + 1) (length l)

-- the call that reads a line
unfoldable pub reading : List ℕ → Option Bid
reading l = pick (is_bid l) (Some (record { port = port l; sequence = sequence l; from = text_at l })) None
