-- Without a range: of bytes, whatever they are, the range of all ports leaves every answer.
-- mend-bytes      a word of bytes is left as bytes
-- answers-fit     each packet delivered of bytes is one that a sender could have sent: its port has 16 bits
-- every-shown     so the range of all shows the lines of all answers, of a stream ..
-- every-recorded  .. and of a recording
use Prim.Native.Nat.{ℕ, suc, ◌<◌}
use mathlib.Core.Path.{◌≡◌, refl, sym, ap, subst}
use mathlib.Core.Bool.{Bool, true, false}
use mathlib.Core.List.{List, [], ◌∷◌, ◌++◌, map}
use mathlib.Core.Option.{Option, some, none}
use lib.Dec.{eqb, ltb}
use lib.ListN.{length}
use Rattle.base.specs.Bytes.{Each, IsByte, Bytes}
use Rattle.base.specs.Calls.{tell}
use Rattle.base.proofs.Bytes.{each_append, each_take}
use Rattle.packet_spec.specs.Contents.{Packet}
use Rattle.packet_spec.specs.Escape.{flag}
use Rattle.packet_spec.specs.Frame.{Told, packet, refusal, broken, judge}
use Rattle.packet_spec.specs.Sender.{Accepted}
use Rattle.packet_spec.proofs.Only.{judge-only}
use Rattle.stream.specs.Meaning.{Reading, waiting, inside, closing, read_at, read, reads}
use Rattle.repair.specs.Mended.{Mended}
use Rattle.repair.specs.Mended.{Clean, Repaired, Beyond, Refused}
use Rattle.repair.specs.Promise.{Promised}
use Rattle.repair.specs.Way.{repaired}
use Rattle.repair.proofs.Meeting.{repaired-promised}
use Rattle.channel_spec.specs.Sender.{message_bytes, parity_bytes, word_bytes}
use Rattle.channel_spec.specs.Meaning.{Event, said, block, lost, frames, mend, message, shift, is_marker}
use Rattle.channel_spec.specs.Meaning.{Chan, hunting, in_word, in_mark, fresh_channel, hunt, grow, compared, behind_word, step, hears, answers}
use Rattle.listing_spec.specs.declared.Spot.{Spot}
use Rattle.listing_spec.specs.Apart.{fresh_spot, next, in_stream, keep, apart, on_channel}
use Rattle.listing_spec.specs.Meaning.{heard}
use Rattle.ports_spec.specs.Ports.{fresh_table}
use Rattle.ports_spec.specs.Range.{every_port}
use Rattle.board_spec.specs.Meaning.{written_all, board_lines, board_text, recording_text, ending}
use Rattle.board_spec.specs.Typed.{packets_among}
use Rattle.board_spec.proofs.Ranges.{regarded-every}

-- ---- a word
pub mend-bytes : (w : List ℕ) → Bytes w → Bytes (mend w)
mend-bytes w b = go (repaired parity_bytes w).0 (repaired-promised parity_bytes w b)
  where
    go : (a : Mended) → Promised parity_bytes w a (mend w) → Bytes (mend w)
    go Clean p = subst Bytes (sym p.1) b
    go (Repaired n) p = p.4.0.0
    go Beyond p = subst Bytes (sym p.2) b
    go (Refused n) p = subst Bytes (sym p.1) b

-- ---- a frame
abbrev Fits : Told → Type 0
Fits (packet p) = Accepted p
Fits (refusal n) = Unit {0}
Fits (broken n) = Unit {0}

judge-fits : (raw : List ℕ) → Bytes raw → Fits (judge raw)
judge-fits raw b = go (judge raw) refl
  where
    go : (t : Told) → judge raw ≡ t → Fits t
    go (packet p) e = (judge-only raw b p e).1
    go (refusal n) e = tt
    go (broken n) e = tt

-- ---- a plain stream
abbrev InBytes : Reading → Type 0
InBytes waiting = Unit {0}
InBytes (inside rs) = Bytes rs

abbrev Perhaps : Option Told → Type 0
Perhaps none = Unit {0}
Perhaps (some t) = Fits t

closing-fits : (rs : List ℕ) → Bytes rs → Perhaps (closing rs)
closing-fits [] b = tt
closing-fits (r ∷ rs) b = judge-fits (r ∷ rs) b

read_fits : (t : Bool) (s : Reading) (b : ℕ) → InBytes s → IsByte b → Perhaps (read_at t s b).0 × InBytes (read_at t s b).1
read_fits true waiting b i h = (tt, tt)
read_fits true (inside rs) b i h = (closing-fits rs i, tt)
read_fits false waiting b i h = (tt, tt)
read_fits false (inside rs) b i h = (tt, each_append IsByte rs (b ∷ []) i (h, tt))

reads_fit : (bs : List ℕ) (s : Reading) → InBytes s → Bytes bs → Each Fits (reads s bs).0 × InBytes (reads s bs).1
reads_fit [] s i h = (tt, i)
reads_fit (b ∷ bs) s i h =
    let f = read_fits (eqb b flag) s b i h.0 in go (read s b).0 f.0 (reads_fit bs (read s b).1 f.1 h.1)
  where
    go : (o : Option Told) → Perhaps o → Each Fits (reads (read s b).1 bs).0 × InBytes (reads (read s b).1 bs).1
        → Each Fits (tell o (reads (read s b).1 bs)).0 × InBytes (tell o (reads (read s b).1 bs)).1
    go none p r = r
    go (some t) p r = ((p, r.0), r.1)

-- ---- the opportunistic channel
abbrev FitsEvent : Event → Type 0
FitsEvent (said t) = Fits t
FitsEvent (block c) = Unit {0}
FitsEvent lost = Unit {0}

all_said : (ts : List Told) → Each Fits ts → Each FitsEvent (map said ts)
all_said [] h = tt
all_said (t ∷ ts) h = (h.0, all_said ts h.1)

abbrev OfBytes : Chan → Type 0
OfBytes (hunting f) = Unit {0}
OfBytes (in_word f w r) = Bytes w × InBytes r
OfBytes (in_mark f w n r) = InBytes r

abbrev Fine : List Event × Chan → Type 0
Fine x = Each FitsEvent x.0 × OfBytes x.1

step_fits : (s : Chan) (b : ℕ) → OfBytes s → IsByte b → Fine (step s b)
step_fits (hunting f) b i h = (tt, go (is_marker (shift f b)))
  where
    go : (t : Bool) → OfBytes (hunt t (shift f b))
    go true = (tt, tt)
    go false = tt
step_fits (in_word f w r) b i h = go (ltb (suc (length w)) word_bytes)
  where
    bytes : Bytes (w ++ b ∷ [])
    bytes = each_append IsByte w (b ∷ []) i.0 (h, tt)

    go : (t : Bool) → Fine (grow t f (w ++ b ∷ []) r)
    go true = (tt, (bytes, i.1))
    go false =
        let m : Bytes (message (w ++ b ∷ [])) = each_take IsByte message_bytes (mend (w ++ b ∷ [])) (mend-bytes (w ++ b ∷ []) bytes) in
        let x = reads_fit (message (w ++ b ∷ [])) r i.1 m in
        ((tt, all_said (reads r (message (w ++ b ∷ []))).0 x.0), x.1)
step_fits (in_mark f w n r) b i h = go (ltb (suc n) 4)
  where
    marked : (t : Bool) → Fine (compared t (shift f b) r)
    marked true = (tt, (tt, i))
    marked false = ((tt, tt), tt)

    go : (t : Bool) → Fine (behind_word t (shift f b) w (suc n) r)
    go true = (tt, i)
    go false = marked (is_marker (shift f b))

hears-fit : (bs : List ℕ) (s : Chan) → OfBytes s → Bytes bs → Each FitsEvent (hears s bs).0
hears-fit [] s i h = tt
hears-fit (b ∷ bs) s i h =
    let f = step_fits s b i h.0 in
    each_append FitsEvent (step s b).0 (hears (step s b).1 bs).0 f.0 (hears-fit bs (step s b).1 f.1 h.1)

-- the packets among them
packets-fit : (es : List Event) → Each FitsEvent es → Each (λ (p : Packet). p.port < 65536) (packets_among (frames es))
unfolding packets_among
packets-fit [] h = tt
packets-fit (said (packet p) ∷ es) h = (h.0.port_fits, packets-fit es h.1)
packets-fit (said (refusal n) ∷ es) h = packets-fit es h.1
packets-fit (said (broken n) ∷ es) h = packets-fit es h.1
packets-fit (block c ∷ es) h = packets-fit es h.1
packets-fit (lost ∷ es) h = packets-fit es h.1

pub answers-fit : (bs : List ℕ) → Bytes bs → Each (λ (p : Packet). p.port < 65536) (packets_among (frames (answers bs)))
answers-fit bs h = packets-fit (answers bs) (hears-fit bs fresh_channel tt h)

-- ---- without a range all is shown
pub every-shown : (b : Bool) (bs : List ℕ) → Bytes bs → board_text b every_port bs ≡ written_all (board_lines b fresh_table (answers bs))
every-shown b bs h = ap (λ (es : List Event). written_all (board_lines b fresh_table es)) (regarded-every (answers bs) (answers-fit bs h))

-- .. of a recording: its stream bytes are bytes
apart-bytes : (bs : List ℕ) (p : Spot) → Bytes bs → Bytes (apart p bs).0
unfolding apart
apart-bytes [] p h = tt
apart-bytes (b ∷ bs) p h = go (in_stream p.place p.count) (apart-bytes bs (next p b) h.1)
  where
    go : (t : Bool) → Bytes (apart (next p b) bs).0 → Bytes (keep t b (apart (next p b) bs)).0
    go true k = (h.0, k)
    go false k = k

heard-fit : (c : Bool) (bs : List ℕ) → Bytes bs → Each (λ (p : Packet). p.port < 65536) (packets_among (frames (heard c bs)))
unfolding heard
heard-fit true bs h = answers-fit bs h
heard-fit false bs h = packets-fit (map said (reads waiting bs).0) (all_said (reads waiting bs).0 (reads_fit bs waiting tt h).0)

pub every-recorded : (b : Bool) (file : List ℕ) → Bytes file
    → recording_text b every_port file
    ≡ written_all (board_lines b fresh_table (heard (on_channel file) (apart fresh_spot file).0)) ++ written_all (ending (apart fresh_spot file).1)
every-recorded b file h =
    ap (λ (es : List Event). written_all (board_lines b fresh_table es) ++ written_all (ending (apart fresh_spot file).1))
    (regarded-every (heard (on_channel file) (apart fresh_spot file).0)
    (heard-fit (on_channel file) (apart fresh_spot file).0 (apart-bytes file fresh_spot h)))
