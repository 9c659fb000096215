-- What a listing prints (paper 01, "The listing program"): from the bytes of a recording to the bytes printed.
-- heard     the answers of its stream bytes
-- listing   their lines, and the last line
-- total_line, last_line   the last line: `E` with the totals counted from the answers; that or `X`
-- listed    the lines of answers, and the last line
use Rattle.std.specs.Prelude.{ℕ, Bool, true, false, List, ◌++◌, map, length}
use Rattle.base.specs.Choice.{pick}
use Rattle.stream.specs.Meaning.{waiting, reads}
use Rattle.channel_spec.specs.Meaning.{Event, said, answers}
use Rattle.listing_spec.specs.declared.Spot.{Spot}
use Rattle.listing_spec.specs.Apart.{fresh_spot, apart, well, on_channel}
use Rattle.listing_spec.specs.Lines.{lines, count, is_packet, is_refusal, is_damaged, is_lost, end_line, wrong_line}

-- the answers of a stream, by: is it the opportunistic channel
unfoldable pub heard : Bool → List ℕ → List Event
heard true bs = answers bs
heard false bs = map said (reads waiting bs).0

-- `E` with the totals counted from the answers
abbrev pub total_line : ℕ → List Event → List ℕ
total_line n es = end_line n (count is_packet es) (count is_refusal es) (count is_damaged es) (count is_lost es)

-- that where the recording may end, else `X` with the offset of the first wrong byte, or its length where it ends early
unfoldable pub last_line : Spot → ℕ → List Event → List ℕ
last_line p n es = pick (well p.place) (total_line n es) (wrong_line p.offset)

-- the lines of a recording's answers, and the last line
unfoldable pub listed : List ℕ × Spot → List Event → List ℕ
listed r es = lines es ++ last_line r.1 (length r.0) es

-- what is printed of a recording
unfoldable pub listing : List ℕ → List ℕ
listing file = listed (apart fresh_spot file) (heard (on_channel file) (apart fresh_spot file).0)
