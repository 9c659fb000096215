-- Demand 2, in the owner's words:
--   "Packets, check values, escapes, parity words, interleaving and markers are exactly those of the NRSC-5 transport paper and RFC 1662 as
--   document 01 condenses them, writing and reading; for each packet the sender accepts, a packet written and read back is the same packet."
-- What they are is defined once, in the paper's words, and each function promises those definitions:
--   packets         `contents`, `class` (crates/packet_spec/specs/Contents.antt, Port.antt), `stream` (crates/stream/specs/Sender.antt)
--   check values    `fcs` (crates/fcs/specs/Fcs.antt)
--   escapes         `escape`, `plain`, `scan` (crates/packet_spec/specs/Escape.antt), and `reads` (crates/stream/specs/Meaning.antt)
--   parity words    `generator`, `remainder`, `clean` (crates/word_spec/specs/Word.antt), over the field of crates/field/specs/Field.antt
--   interleaving    `cell` (crates/interleaver_spec/specs/Places.antt), `push`, `pull`, `pushing`, `closing`, `pulling`
--                   (crates/interleaver_spec/specs/Running.antt)
--   markers         `marked` (crates/channel_spec/specs/Sender.antt), and `answers` (crates/channel_spec/specs/Meaning.antt)
--   block answers   `condition`, `mend` (crates/channel_spec/specs/Meaning.antt), by repair's promise: `Promised` (crates/repair/specs/Promise.antt)
--   the listing     `listing` (crates/listing_spec/specs/Meaning.antt), of recordings taken apart: `apart` (crates/listing_spec/specs/Apart.antt)
-- Here: that they hold together; of interleaving, in Interleaving. The paper's numbers are in Numbers, and what else it prints in Printed.
-- round_trip, round-answer, delivered-only   a packet written and read back, and a packet read is one that could be written
-- part-short, part-long, payload-place   the part of the receive buffer that is handed out
-- broken-place, place-told           the place that refusal 3 tells
-- before-flag, between-flags, no_flag   what is read of any byte string, flag by flag
-- stream-trip, stream-begun, stream-appended, stream-sent, stream-filled, words-carry   a whole stream, and the calls that make it
-- word-clean, word-only, clean_at    parity words
-- class-letters                      classes of ports
-- block-answer, block-only           a block's answer and the word that is read are what repair promises
-- plain-listing, channel-listing, totals, sent-totals   the listing's lines and totals
-- described, e-or-x                                     recordings as described, and no others, print `E`
-- cut_short, wrong_first, wrong-mark, wrong_second, limit-passed   what others print
-- x-offset, x-rest, shown_rest, decimal-value           the offset that `X` prints, what comes behind it, and numbers as they are printed
-- recorded-by-calls, next-payload                       a recording's answers by calls, where it ends, and where a payload stands
-- listed-from, listed-by-calls, listed-at-last, finished-at-last   the listing by calls
-- line-number, close-number                             the number of a line that the office tells of
-- bytes-behind, mark-is, make-is                        what a call that writes leaves in the output; a block's, and parity's
use Prim.Native.Nat.{ℕ, suc, ◌+◌, ◌-◌, ◌*◌, ◌%◌, ◌≤◌, ◌<◌}
use Prim.Native.Char.{code}
use native.Mathlib.Omega.{arith}
use mathlib.Core.Path.{◌≡◌, refl, sym, ◌∙◌, ap}
use mathlib.Core.Bool.{Bool, true, false}
use mathlib.Core.Logic.{◌↔◌, ◌≢◌}
use mathlib.Core.List.{List, [], ◌∷◌, ◌++◌, map, append-nil}
use lib.Dec.{eqb}
use lib.ListN.{length, take, drop, get_or, replicate}
use borrow.Author.Tests.{eq-eqb, ne_eqb, lt-ltb, le-ltb}
use Rattle.base.specs.Bytes.{Each, Bytes}
use Rattle.base.specs.Calls.{joined, tell, With}
use Rattle.base.specs.Written.{Outcome, refused, write}
use Rattle.base.proofs.Writing.{write-is, write-short, room-wrote}
use Rattle.base.proofs.Tests.{by_le}
use Rattle.base.specs.Written.{Wrote, Refused}
use Rattle.word_spec.specs.Word.{clean, remainder, Zero}
use Rattle.repair.specs.Mended.{Mended}
use Rattle.repair.specs.Promise.{Promised}
use Rattle.word_spec.proofs.Clean.{clean-roots, roots-clean, parity-clean, clean_is}
use Rattle.parity.specs.Calls.{made}
use Rattle.packet_spec.specs.Escape.{flag, plain, last, BrokenAt, NoFlag}
use Rattle.packet_spec.specs.Port.{class}
use Rattle.packet_spec.specs.declared.Class.TheVariants.{Barred}
use Rattle.packet_spec.proofs.Classes.{from-0000, from-0401, from-5100, from-5101, from-5201, from-5208, from-5300, from-7D00, from-7F00, from-FF00}
use Rattle.packet_spec.specs.Frame.{packet, broken, delivery, judged, closed, judge, part}
use Rattle.packet_spec.proofs.Faults.{closed-broken, judge-broken}
use Rattle.packet_spec.specs.Sender.{Accepted, writing}
use Rattle.packet_spec.specs.declared.Judged.TheVariants.{Packet as Delivered}
use Rattle.stream.specs.Meaning.{waiting, inside, closing, reads}
use Rattle.stream.specs.Sender.{raw_of, stream, delivered, appending}
use Rattle.stream.proofs.Streaming.{ignored, unclosed, between-flags as flag-to-flag, stream-read}
use Rattle.stream.proofs.Sending.{begin-stream, append-stream}
use Rattle.channel_spec.specs.Sender.{marker, parity_bytes, word_of, fillers, filled, messages_of, marking, sending, sent}
use Rattle.channel_spec.specs.Meaning.{condition_by, condition, mend, carried, IsWord, Event, frames, blocks, losses, as_mended}
use Rattle.channel_spec.proofs.Streaming as streaming
use Rattle.channel_spec.proofs.Words.{block-promised, block-determined}
use Rattle.listing_spec.specs.Apart.{most, fresh_spot, apart, well, is_wrong, on_channel, record_of, records}
use Rattle.listing_spec.specs.Described.{first_byte, Described}
use Rattle.bid.specs.Line.{digits, value}
use Rattle.listing_spec.specs.Lines.{letter, lines, is_packet, is_refusal, is_damaged, is_lost, count, packets_in, refusals_in, damaged_in, wrong_line, longest}
use Rattle.text.specs.Text.{decimal}
use Rattle.listing_spec.specs.Meaning.{heard, total_line, listing}
use Rattle.listing_spec.specs.declared.Place.TheVariants.{Wrong}
use Rattle.listing_spec.proofs.Described as recordings
use Rattle.listing_spec.proofs.Offsets.{offset-right, offset-wrong}
use Rattle.listing_spec.proofs.Wrong.{wrong-rest, wrong-listing}
use Rattle.ports_spec.specs.declared.Range.{Range}
use Rattle.board_spec.specs.Meaning.{written_all, shows, ending, recording_text}
use Rattle.listing_spec.proofs.Totals.{packets-counted, refusals-counted, damaged-counted, lost-counted, sent-counted}
use Rattle.packet_spec.specs.Contents.{raw_limit, Packet, contents, payload_at}
use Rattle.packet_spec.proofs.Only.{judge-only}
use Rattle.base.specs.Choice.{pick}
use Rattle.channel_spec.specs.Sender.{word_bytes}
use Rattle.recording.specs.Deck.{Deck, fresh}
use Rattle.recording.specs.Call.{far, deck_of, tape_call, EveryCut, ThereDeck}
use Rattle.recording.proofs.Demands.{taken-apart}
use Rattle.recording.proofs.Delivery.{payload-next}
use Rattle.listing_lines.specs.declared.totals.Totals.{Totals}
use Rattle.listing.specs.declared.lister.Lister.{Lister}
use Rattle.listing.specs.Call.{no_totals, last_of, recorded, finishing, fresh_recording}
use Rattle.listing.specs.Runs.{ListsAll, Run, Fair}
use Rattle.listing.proofs.Listing.{listing-printed}
use Rattle.listing.proofs.Ends.{listing-ends, finish-ends}
use Rattle.office.specs.Meaning.{Said, Desk}
use Rattle.office.specs.Call.{hear_call, close_call}
use Rattle.demands_laws.proofs.Desk.{office-line-number, office-close-number}
use Rattle.board_spec.proofs.Decimal.{decimal-digits}
use Rattle.demands_laws.proofs.Trips.{packet-back, judged-back, plain-listed, channel-listed}

-- ---- "for each packet the sender accepts, a packet written and read back is the same packet.": where n bytes are written of a packet (a key
-- number of a byte, numbers of two bytes, key and payload of bytes), those n bytes, read behind a flag, give that packet and nothing else ..
pub round_trip : (p : Packet) → p.number < 256 → Bytes p.key → p.port < 65536 → p.sequence < 65536 → Bytes p.payload → (out : List ℕ) (n : ℕ)
    → (writing p out).answer ≡ Wrote n
    → reads (inside []) (take n (writing p out).output) ≡ (delivered p ∷ [], inside [])
round_trip = packet-back

-- .. and in the code's answer: a frame of its raw bytes, wherever they came from, is judged to have its format, key number, port and sequence,
-- and the parts of the receive buffer that are handed out are its payload and its key ("the key being as many bytes as its length says")
pub round-answer : (p : Packet) → Accepted p → (recv : List ℕ) → take (length (raw_of p)) recv ≡ raw_of p
    → (judged (closed recv (length (raw_of p))).told ≡ Delivered (delivery p))
    × ((part (payload_at (length p.key)) (length p.payload) (closed recv (length (raw_of p))).recv ≡ p.payload)
    × (part 3 (length p.key) (closed recv (length (raw_of p))).recv ≡ p.key))
round-answer = judged-back

-- .. the other way too: what is delivered is a packet that the sender accepts, and its contents are what was received, escapes undone
pub delivered-only : (raw : List ℕ) → Bytes raw → (p : Packet) → judge raw ≡ packet p → (contents p ≡ plain raw) × Accepted p
delivered-only = judge-only

-- .. "or an empty part where the buffer is too short to hold it"
pub part-short : (at n : ℕ) (recv : List ℕ) → length recv < at + n → part at n recv ≡ []
part-short at n recv h = simp (lt-ltb _ _ h)

pub part-long : (at n : ℕ) (recv : List ℕ) → at + n ≤ length recv → part at n recv ≡ take n (drop at recv)
part-long at n recv h = simp (le-ltb _ _ h)

-- without format, key, port, sequence and check
pub payload-place : (k : ℕ) → 0 < k → (payload_at 0 ≡ 5) × (payload_at k ≡ k + 7)
payload-place k h = (refl, ap (λ (t : Bool). pick t 5 (3 + k + 4)) (ne_eqb k 0 (λ e. omega (arith, e))) ∙ omega arith)

-- ---- "escapes": "at which raw byte of the frame, counted from 0 behind the opening flag, the first wrong byte after 7D stands". Raw bytes are
-- refused with 3 and the place n exactly where they are within the limit, do not end in 7D, and that byte stands at n ..
pub broken-place : (raw : List ℕ) (n : ℕ) → judge raw ≡ broken n ↔ (length raw ≤ raw_limit) × (last 0 raw ≢ 0x7D) × BrokenAt raw n
broken-place = judge-broken

-- .. and so is a frame of which m raw bytes are in the receive buffer
pub place-told : (recv : List ℕ) (m n : ℕ)
    → (closed recv m).told ≡ broken n ↔ (m ≤ raw_limit) × (last 0 (take m recv) ≢ 0x7D) × BrokenAt (take m recv) n
place-told = closed-broken

-- ---- "Reader: bytes before the first flag are ignored." (paper 01), of every byte string: behind the flag all is as behind any other ..
pub before-flag : (bs : List ℕ) → NoFlag bs → (cs : List ℕ) → reads waiting (bs ++ flag ∷ cs) ≡ reads (inside []) cs
before-flag bs h cs = ignored bs h (flag ∷ cs)

-- .. "A raw 0x7E is always a flag, also behind 0x7D. Nothing between two flags: no answer.": what stands between two flags, whatever it is, is told
-- at the second (`closing`, which tells nothing of nothing), and then what stands behind that ..
pub between-flags : (rs : List ℕ) → NoFlag rs → (cs : List ℕ) → reads (inside []) (rs ++ flag ∷ cs) ≡ tell (closing rs) (reads (inside []) cs)
between-flags = flag-to-flag

-- .. and bytes with no flag among them give no answer: before the first flag they leave nothing, behind one they are the raw bytes so far
pub no_flag : (bs : List ℕ) → NoFlag bs → (reads waiting bs ≡ ([], waiting)) × (reads (inside []) bs ≡ ([], inside bs))
no_flag bs h = (ap (reads waiting) (sym (append-nil bs)) ∙ ignored bs h [], unclosed bs h)

-- a whole stream of packets that the sender accepts is read as these packets, once each, in order, and nothing else
pub stream-trip : (ps : List Packet) → Each Accepted ps → reads waiting (stream ps) ≡ (map delivered ps, inside [])
stream-trip ps a = ap (reads waiting) (sym (append-nil (stream ps))) ∙ stream-read ps a 0

-- the sender's calls make that stream: begun, it is that of no packets ..
pub stream-begun : (out : List ℕ) (n : ℕ) → (write (flag ∷ []) out).answer ≡ Wrote n → take n (write (flag ∷ []) out).output ≡ stream []
stream-begun = begin-stream

-- .. where the first `at` bytes are the stream of some packets, behind one more they are that of these and it ..
pub stream-appended : (ps : List Packet) (p : Packet) (out : List ℕ) (at n : ℕ) → at ≤ length out → take at out ≡ stream ps
    → (appending at p out).answer ≡ Wrote n
    → take (at + n) (appending at p out).output ≡ stream (ps ++ p ∷ [])
stream-appended = append-stream

-- .. and sent on the channel, what is written is the marked stream of demand 3
pub stream-sent : (ps : List Packet) (out : List ℕ) (n : ℕ) → (sending (stream ps) out).answer ≡ Wrote n → take n (sending (stream ps) out).output ≡ sent ps
stream-sent ps out n e = write-is (sent ps) out n e

-- "The sender's stream is filled with flags to a multiple of 223 bytes, none if it already is one": n bytes of 7E, fewer than 223
pub stream-filled : (bs : List ℕ) → (n : ℕ) × (filled bs ≡ bs ++ replicate n 0x7E) × (n < 223) × ((length bs + n) % 223 ≡ 0) × (length bs % 223 ≡ 0 → n ≡ 0)
stream-filled bs = (fillers (length bs), refl, omega arith, omega arith, λ e. omega arith)

-- each 223 bytes then become a word: of any bytes, the words' messages are these bytes, filled
pub words-carry : (bs : List ℕ) → Bytes bs → carried (map word_of (messages_of bs)) ≡ filled bs
words-carry = streaming.words-carry

-- ---- "Port classes": S system, A applications, M, D, F future, by the letter that a listing prints; "7D00-7EFF may not be used"
pub class-letters : (p : ℕ)
    → (p ≤ 0x0400 → letter (class p) ≡ code "S") × (0x0401 ≤ p → p ≤ 0x50FF → letter (class p) ≡ code "A") × (p ≡ 0x5100 → letter (class p) ≡ code "M")
    × (0x5101 ≤ p → p ≤ 0x5200 → letter (class p) ≡ code "S") × (0x5201 ≤ p → p ≤ 0x5207 → letter (class p) ≡ code "D")
    × (0x5208 ≤ p → p ≤ 0x52FF → letter (class p) ≡ code "S") × (0x5300 ≤ p → p ≤ 0x7CFF → letter (class p) ≡ code "F")
    × (0x7D00 ≤ p → p ≤ 0x7EFF → class p ≡ Barred)
    × (0x7F00 ≤ p → p ≤ 0xFEFF → letter (class p) ≡ code "F") × (0xFF00 ≤ p → letter (class p) ≡ code "S")
class-letters p = (
  λ h. ap letter (from-0000 p h),
  λ l h. ap letter (from-0401 p l h),
  λ e. ap letter (from-5100 p (omega arith) (omega arith)),
  λ l h. ap letter (from-5101 p l h),
  λ l h. ap letter (from-5201 p l h),
  λ l h. ap letter (from-5208 p l h),
  λ l h. ap letter (from-5300 p l h),
  from-7D00 p,
  λ l h. ap letter (from-7F00 p l h),
  λ l. ap letter (from-FF00 p l),
)

-- ---- "parity words": a message with its parity behind it is clean ..
pub word-clean : (m : List ℕ) → Bytes m → clean parity_bytes (word_of m) ≡ true
word-clean m = parity-clean parity_bytes m

-- .. for every R, and with no other bytes behind it ..
pub word-only : (r : ℕ) → r < 255 → (m p : List ℕ) → Bytes m → Bytes p → length p ≡ r → clean r (m ++ p) ≡ true ↔ p ≡ remainder r m
word-only = clean_is

-- .. and clean means zero at all R roots, alpha^1 to alpha^R
pub clean_at : (r : ℕ) (w : List ℕ) → clean r w ≡ true ↔ Zero r w
clean_at r w = (clean-roots r w, roots-clean r w)

-- ---- "block answers": the block's answer and the word that is read then are what repair promises of a word of 255 bytes: clean, and left; repaired, the left
-- word clean and the only one within 16 places; beyond repair, and left as it came ..
pub block-answer : (w : List ℕ) → IsWord w → Bytes w → Promised parity_bytes w (as_mended (condition w)) (mend w)
block-answer = block-promised

-- .. and no other answer and word meet that promise
pub block-only : (w : List ℕ) → IsWord w → Bytes w → (a : Mended) (o : List ℕ) → Promised parity_bytes w a o → (condition_by a ≡ condition w) × (o ≡ mend w)
block-only = block-determined

-- ---- the listing of a recording of pieces: the lines of their answers, and behind them `E` with the totals, on the plain stream ..
pub plain-listing : (pieces : List (List ℕ)) → length (joined pieces) ≤ most
    → listing (0x50 ∷ records pieces) ≡ lines (heard false (joined pieces)) ++ total_line (length (joined pieces)) (heard false (joined pieces))
plain-listing = plain-listed

-- .. and on the channel
pub channel-listing : (pieces : List (List ℕ)) → length (joined pieces) ≤ most
    → listing (0x4F ∷ records pieces) ≡ lines (heard true (joined pieces)) ++ total_line (length (joined pieces)) (heard true (joined pieces))
channel-listing = channel-listed

-- "Standard input: one byte, 0x50 plain stream or 0x4F opportunistic; then records: mark F5 5F, length (two bytes, low first, 0 allowed), that many
-- stream bytes.": of bytes: taken apart, a file ends where a recording may end exactly when it is such, within the limit ..
pub described : (file : List ℕ) → Bytes file → well (apart fresh_spot file).1.place ≡ true ↔ Described file
described = recordings.described

-- .. "Instead of `E`, `X offset` where the input is not as described": `E` of what is, and `X` of what is not
pub e-or-x : (file : List ℕ) → Bytes file
    → let r = apart fresh_spot file in
    let es = heard (on_channel file) r.0 in
    (Described file → listing file ≡ lines es ++ total_line (length r.0) es) × ((Described file → ⊥) → listing file ≡ lines es ++ wrong_line r.1.offset)
e-or-x = recordings.e-or-x

-- "the file offset of the first wrong byte": of the first, where it is none of the two ..
pub wrong_first : (b : ℕ) (rest : List ℕ) → b ≢ 0x50 → b ≢ 0x4F → listing (b ∷ rest) ≡ wrong_line 0
wrong_first = recordings.wrong_first

-- .. of a byte behind records, on either stream, that is not F5, and of one behind F5 that is not 5F; what stands before it is read
pub wrong-mark : (t : Bool) (ps : List (List ℕ)) (b : ℕ) (rest : List ℕ) → b ≢ 0xF5 → length (joined ps) ≤ most
    → listing (first_byte t ∷ (records ps ++ b ∷ rest)) ≡ lines (heard t (joined ps)) ++ wrong_line (length (first_byte t ∷ records ps))
wrong-mark = recordings.wrong-mark

pub wrong_second : (t : Bool) (ps : List (List ℕ)) (b : ℕ) (rest : List ℕ) → b ≢ 0x5F → length (joined ps) ≤ most
    → listing (first_byte t ∷ (records ps ++ 0xF5 ∷ b ∷ rest)) ≡ lines (heard t (joined ps)) ++ wrong_line (length (first_byte t ∷ records ps) + 1)
wrong_second = recordings.wrong_second

-- "or the input's length if it ends early"; "Stream bytes before that offset are read and their lines printed first, also those of a record cut
-- short.": n bytes of a record of the bytes p, too few
pub cut_short : (t : Bool) (ps : List (List ℕ)) (p : List ℕ) (n : ℕ) → 0 < n → n < length (record_of p) → length (joined ps) + (n - 4) ≤ most
    → let file = first_byte t ∷ (records ps ++ take n (record_of p)) in
    listing file ≡ lines (heard t (joined ps ++ take (n - 4) p)) ++ wrong_line (length file)
cut_short = recordings.cut_short

-- "also the file offset of the byte with which the stream would pass 4,294,967,295 bytes": b, in a record that has more stream bytes than xs
pub limit-passed : (t : Bool) (ps : List (List ℕ)) (low high : ℕ) (xs : List ℕ) (b : ℕ) (rest : List ℕ)
    → length xs < low + 256 * high → length (joined ps) + length xs ≡ 4294967295
    → listing (first_byte t ∷ (records ps ++ 0xF5 ∷ 0x5F ∷ low ∷ high ∷ (xs ++ b ∷ rest)))
    ≡ lines (heard t (joined ps ++ xs)) ++ wrong_line (length (first_byte t ∷ records ps) + 4 + length xs)
limit-passed = recordings.limit-passed

-- the totals are counted from the answers: packets and refusals each among the frame answers, blocks beyond repair among the block answers,
-- and lost locks as often as lock is lost
pub totals : (es : List Event)
    → (count is_packet es ≡ packets_in (frames es)) × (count is_refusal es ≡ refusals_in (frames es))
    × (count is_damaged es ≡ damaged_in (blocks es)) × (count is_lost es ≡ losses es)
totals es = (packets-counted es, refusals-counted es, damaged-counted es, lost-counted es)

-- of a sender's packets all are packets, and none is a refusal
pub sent-totals : (ps : List Packet) (es : List Event) → frames es ≡ map delivered ps → (count is_packet es ≡ length ps) × (count is_refusal es ≡ 0)
sent-totals ps es e = (packets-counted es ∙ ap packets_in e ∙ (sent-counted ps).0, refusals-counted es ∙ ap refusals_in e ∙ (sent-counted ps).1)

-- "`X offset` where the input is not as described: the file offset of the first wrong byte, or the input's length if it ends early": where a byte
-- is wrong, up to that offset none is, and with the byte there one is; where none is, the offset is the length
pub x-offset : (file : List ℕ)
    → (((apart fresh_spot file).1.place ≡ Wrong → ⊥) → (apart fresh_spot file).1.offset ≡ length file)
    × ((apart fresh_spot file).1.place ≡ Wrong
    → ((apart fresh_spot file).1.offset < length file)
    × ((apart fresh_spot (take (apart fresh_spot file).1.offset file)).1.place ≡ Wrong → ⊥)
    × ((apart fresh_spot (take (suc (apart fresh_spot file).1.offset) file)).1.place ≡ Wrong))
x-offset file = (offset-right file, offset-wrong file)

-- .. and what comes behind a wrong byte changes nothing: it need not be read
pub x-rest : (file more : List ℕ) → is_wrong (apart fresh_spot file).1.place ≡ true → listing (file ++ more) ≡ listing file
x-rest = wrong-listing

-- .. on a board either
pub shown_rest : (b : Bool) (r : Range) (file more : List ℕ) → is_wrong (apart fresh_spot file).1.place ≡ true
    → recording_text b r (file ++ more) ≡ recording_text b r file
shown_rest b r file more e =
    let x = wrong-rest file more e in
    λ i. shows b r (heard (x.1 i) (x.0 i).0) ++ written_all (ending (x.0 i).1)

-- a number below 10^20 (the code's are below 2^64) is printed in decimal digits without leading zeros: digits alone, their value is the number,
-- and where it is not 0 the first is not `0`
pub decimal-value : (n : ℕ) → n < 100000000000000000000
    → (digits (decimal n) ≡ true) × (value 0 (decimal n) ≡ n) × (1 ≤ n → get_or (decimal n) 0 48 ≡ 48 → ⊥)
decimal-value = decimal-digits

-- ---- a recording by calls, one answer each: however it is cut, and whatever the lent buffers held, the calls come to their end, their answers are
-- those of its stream bytes, and behind them it stands where taking it apart ends (a recording below 2^64 bytes)
pub recorded-by-calls : (file : List ℕ) → length file ≤ far
    → EveryCut file λ es m. (es ≡ heard (on_channel file) (apart fresh_spot file).0) × (m.spot ≡ (apart fresh_spot file).1)
recorded-by-calls = taken-apart

-- .. and behind the call that delivers a packet, its payload bytes and its key are the parts of the receive buffer that calls of their own hand out
pub next-payload : (m : Deck) (bs : List ℕ) → With ThereDeck (tape_call m bs).0 (tape_call m bs).2
next-payload = payload-next

-- ---- the listing by calls: a recording cut in any way, each piece handed in until more is wanted, by calls with any room each, and then the
-- finishing call: the bytes printed in all are its listing, whatever the lent buffers held ..
pub listed-by-calls : (recv word : List ℕ) → raw_limit ≤ length recv → word_bytes ≤ length word → (rooms : ℕ → ℕ) (pieces : List (List ℕ))
    → {calls : ℕ} {text : List ℕ} {m : Deck} {t : Totals} → ListsAll rooms 0 (fresh recv word) no_totals pieces calls text m t
    → (out : List ℕ) (n : ℕ) → (finishing (recorded m t) out).answer ≡ Wrote n
    → text ++ take n (finishing (recorded m t) out).output ≡ listing (joined pieces)
listed-by-calls = listing-printed

-- .. from the fresh recording's deck and totals ..
pub listed-from : (recv word : List ℕ) → (deck_of fresh_recording.tape recv word ≡ fresh recv word) × (fresh_recording.totals ≡ no_totals)
listed-from recv word = (refl, refl)

-- .. and such a run exists and comes to its end: a recording below 2^64 bytes, and for each call room for any line (2^63 bytes at most)
pub listed-at-last : (rooms : ℕ → ℕ) → Fair rooms → (recv word : List ℕ) → raw_limit ≤ length recv → word_bytes ≤ length word
    → (pieces : List (List ℕ)) → length (joined pieces) ≤ far → Run rooms 0 (fresh recv word) no_totals pieces
listed-at-last = listing-ends

-- .. the finishing call with it
pub finished-at-last : (r : Lister) (out : List ℕ) → longest ≤ length out → (finishing r out).answer ≡ Wrote (length (last_of r))
finished-at-last = finish-ends

-- ---- the office's lines: the number told with a line is the count of lines of the state that comes with it, at each call ..
pub line-number : (room : ℕ) (d : Desk) (bs : List ℕ) → With (λ (x : Said) (e : Desk). x.0 ≡ e.st.lines) (hear_call room d bs).0 (hear_call room d bs).2
line-number = office-line-number

-- .. and at the end of the input
pub close-number : (room : ℕ) (d : Desk) → With (λ (x : Said) (e : Desk). x.0 ≡ e.st.lines) (close_call room d).0 (close_call room d).2
close-number = office-close-number

-- ---- calls that write: "output shorter than the result; bytes behind the result stay". Where n bytes are written they are the result, and what stood
-- behind them stays ..
pub bytes-behind : (bs out : List ℕ) (n : ℕ) → (write bs out).answer ≡ Wrote n → (n ≡ length bs) × ((write bs out).output ≡ bs ++ drop (length bs) out)
bytes-behind bs out n = by_le (length bs) (length out) (λ h e. room-wrote bs out h refl e) λ h e. absurd (short h e)
  where
    short : length out < length bs → (write bs out).answer ≡ Wrote n → ⊥
    short h e =
        let k : Refused 23 ≡ Wrote n = sym (ap (λ (o : Outcome). o.answer) (write-short bs out h)) ∙ e in
        let z : ◌≡◌ {A = ℕ} 0 1 = cc in
        omega arith

-- .. of a block, "one operation that turns 223 bytes into 259" (request W6): marker, message, parity ..
pub mark-is : (m out : List ℕ) → length m ≡ 223 → marking m out ≡ write (0x7D ∷ 0x3A ∷ 0xE2 ∷ 0x42 ∷ (m ++ remainder 32 m)) out
mark-is m out e = ap (λ (t : Bool). pick t (write (marker ++ word_of m) out) (refused 31 out)) (eq-eqb (length m) 223 e)

-- .. and of parity alone, for every R
pub make-is : (r : ℕ) (m out : List ℕ) → r ≤ 64 → length m ≡ 255 - r → made r m out ≡ write (remainder r m) out
make-is r m out h e =
    ap (λ (t : Bool). pick t (refused 30 out) (pick (eqb (length m) (255 - r)) (write (remainder r m) out) (refused 31 out))) (le-ltb 64 r h)
    ∙ ap (λ (t : Bool). pick t (write (remainder r m) out) (refused 31 out)) (eq-eqb (length m) (255 - r) e)
