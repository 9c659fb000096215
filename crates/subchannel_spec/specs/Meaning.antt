-- What a received byte string means on a fixed sub-channel (request W7) with r parity bytes and depth d, byte by byte, to a receiver
-- whose memory has no limit.
-- Sub                            its state
-- worded, grown, takes           a word so far, and a byte of one, if a received byte brings one
-- hunt, grouping, compared, behind_group, step   one byte, by where it comes
-- hears, start, answers          a byte string, just told, all answers of a sub-channel that was just told its settings
use Rattle.std.specs.Prelude.{ℕ, suc, Bool, true, false, List, [], ◌∷◌, ◌++◌, ltb, length}
use Rattle.std.proofs.Math.Option.{Option, some, none}
use Rattle.base.specs.Choice.{pick}
use Rattle.stream.specs.Meaning.{Reading, waiting}
use Rattle.interleaver_spec.specs.Running.{fresh_back, pull}
use Rattle.interleaver_spec.specs.declared.Back.{Back}
use Rattle.channel_spec.specs.Sender.{word_bytes}
use Rattle.channel_spec.specs.Meaning.{shift, is_marker, zeros}
use Rattle.channel_spec.specs.Word.{mend}
use Rattle.channel_spec.specs.Given.{Event, lost, each_byte, whole}
pub use Rattle.channel_spec.specs.Given.{words_give}
use Rattle.channel_spec.specs.declared.Hunting.{Hunting}
use Rattle.subchannel_spec.specs.Sender.{group_bytes}

-- hunting; in a group, with its bytes so far; behind one, with the marker bytes so far; lock lost. Each with the last four bytes, and but
-- for hunting with the interleaver's cells. In and behind a group: the bytes of the word so far, 255 where it was whole and none has come
-- since, and the frame reader
pub data Sub : Type 0 where
  hunting : Hunting → Sub
  in_group : Hunting → ℕ → Back → List ℕ → Reading → Sub
  in_mark : Hunting → ℕ → Back → List ℕ → Reading → Sub
  silent : Hunting → Back → Sub

-- by: is the word not whole yet. A whole one gives the block's answer, and then those of its message bytes
abbrev pub worded : Bool → ℕ → List ℕ → Reading → List Event × List ℕ × Reading
worded true r w q = ([], w, q)
worded false r w q = ((whole r w q).0, mend r w, (whole r w q).1)

-- a word's byte: behind a whole word a new one begins
abbrev pub grown : List ℕ → ℕ → List ℕ
grown w y = pick (ltb (length w) word_bytes) (w ++ y ∷ []) (y ∷ [])

-- a byte, if one was brought
abbrev pub takes : ℕ → Option ℕ → List ℕ → Reading → List Event × List ℕ × Reading
takes r none w q = ([], w, q)
takes r (some y) w q = worded (ltb (length (grown w y)) word_bytes) r (grown w y) q

-- hunting, by: are the last four the marker. "the first marked block starts at row zero"
abbrev pub hunt : Bool → Hunting → Sub
hunt true f = in_group f 0 fresh_back [] waiting
hunt false f = hunting f

-- behind a byte of a group, by: is the group not whole yet
abbrev pub grouping : Bool → Hunting → ℕ → Back → List ℕ → Reading → Sub
grouping true f n k w q = in_group f n k w q
grouping false f n k w q = in_mark f 0 k w q

-- four marker bytes, by: are they the marker. Lock lost: any open packet is dropped, and the sub-channel "gives nothing until it is told again"
abbrev pub compared : Bool → Hunting → Back → List ℕ → Reading → List Event × Sub
compared true f k w q = ([], in_group f 0 k w q)
compared false f k w q = (lost ∷ [], silent f k)

-- a marker byte, by: are they not four yet
abbrev pub behind_group : Bool → Hunting → ℕ → Back → List ℕ → Reading → List Event × Sub
behind_group true f n k w q = ([], in_mark f n k w q)
behind_group false f n k w q = compared (is_marker f) f k w q

-- one byte; one of a group goes through the interleaver
abbrev pub step : ℕ → ℕ → Sub → ℕ → List Event × Sub
step r d (hunting f) b = ([], hunt (is_marker (shift f b)) (shift f b))
step r d (in_group f n k w q) b =
    let x : Option ℕ × Back = pull d k b in
    let t : List Event × List ℕ × Reading = takes r x.0 w q in
    (t.0, grouping (ltb (suc n) group_bytes) f (suc n) x.1 t.1 t.2)
step r d (in_mark f n k w q) b = behind_group (ltb (suc n) 4) (shift f b) (suc n) k w q
step r d (silent f k) b = ([], silent f k)

-- a byte string: its answers, and the state behind it
abbrev pub hears : ℕ → ℕ → Sub → List ℕ → List Event × Sub
hears r d = each_byte (step r d)

-- just told: hunting with four bytes of zero
abbrev pub start : Sub
start = hunting zeros

-- all answers
abbrev pub answers : ℕ → ℕ → List ℕ → List Event
answers r d bs = (hears r d start bs).0
