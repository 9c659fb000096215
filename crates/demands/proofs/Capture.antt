-- Request W11, sentence by sentence. What the calls promise stands in Promises.
-- begins-with, record-holds, ..fetched           "Export delivered packets as a classic little-endian pcap file .."
-- entered, ..-entered, file-by-calls             .. record by record, by calls
-- times-aside                                    "Import ignores the records' times"
-- same-packets, stands                           ".. and gives the same packets back"
-- export-import                                  .. by calls, however the capture is cut
-- nothing-else                                   .. and of nothing but a capture of them
-- import-ends, every-file                        any bytes, however cut, are imported to their end, and as defined
-- ..-refusals, ..-keeps                          the calls' own refusals, row by row, and what a refused call leaves
-- sixty, sixty-one-.., sixty-two.., in_order     60 to 62
-- whole-record, goes_on                          a record that is whole, and the ways in which bytes go on behind one
use Prim.Native.Nat.{ℕ, suc, ◌+◌, ◌≤◌, ◌<◌}
use native.Mathlib.Omega.{arith}
use mathlib.Core.Path.{◌≡◌, refl, ap, subst, ◌∙◌}
use mathlib.Core.Logic.{◌↔◌}
use mathlib.Core.List.{List, [], ◌∷◌, ◌++◌, map}
use mathlib.Core.Option.{Option, some}
use lib.ListN.{length, take, drop}
use lib.Seq.{take-append_seam}
use borrow.Author.Tests.{le-ltb}
use Rattle.base.specs.Bytes.{Each, Bytes}
use Rattle.base.specs.Calls.{joined, and_then, With, Yields}
use Rattle.base.specs.Choice.{pick}
use Rattle.base.specs.Written.{outcome, refused, write, Keeps}
use Rattle.base.specs.Written.{Wrote}
use Rattle.base.proofs.Calls.{yields-so}
use Rattle.base.proofs.Writing.{write_keeps, refused-keeps}
use Rattle.packet_spec.specs.Contents.{Packet, packed}
use Rattle.packet_spec.specs.Frame.{Told, packet, refusal, broken, delivery, closed}
use Rattle.packet_spec.specs.Sender.{Accepted}
use Rattle.stream.specs.Call as plain
use Rattle.stream.specs.Call.{Held as FrameHeld}
use Rattle.channel_spec.specs.Meaning.{Event, said}
use Rattle.channel.specs.Call.{Memory, hear_call}
use Rattle.subchannel.specs.Call as fixed
use Rattle.recording.specs.Deck.{Deck}
use Rattle.recording.specs.Call.{tape_call}
use Rattle.capture_spec.specs.File.{four, header, timed, record_of, records, captured, CaptureOf}
use Rattle.capture_spec.specs.Meaning.{entry, entry_limit, Reading, in_head, in_record, behind, fresh, four_at, says, reads, ends, imported}
use Rattle.capture_spec.specs.Order.{head_of, Next}
use Rattle.capture_spec.proofs.Entry.{entry-packed, none-exactly}
use Rattle.capture_spec.proofs.Export.{say, seen, import-any, captured-is, times-ignored}
use Rattle.capture_spec.proofs.Faults.{fault_of, first-fault, sixty-exactly}
use Rattle.capture_spec.proofs.Order.{next, head-next, unequal-next, bytes_next, whole-next, long-next, import-only}
use Rattle.capture.specs.Export.{packed_part, Fetched, entering_by, entering}
use Rattle.capture.specs.Call.{Held, Fine, read_all, read_call, finishing, ended_as, EveryCut, Stands}
use Rattle.capture.specs.declared.reader.CaptureReader.{CaptureReader}
use Rattle.capture.proofs.Cutting.{read-yields, every-cut}
use Rattle.capture.proofs.There.{Own, export-there, read-there}
use Rattle.demands_laws.specs.Table.{Exact}
use Rattle.demands_laws.specs.Refusals.{ByCall, ByRead}
use Rattle.demands_laws.specs.Captures.{CaptureBeyond, NoPacket, HeaderMissed, RecordCut, FaultBefore}
use Rattle.demands_laws.specs.Captures.{ByEnd, FetchedHeld, FetchedMemory, FetchedSub, FetchedDeck}
use Rattle.demands_laws.specs.Captures.{put, entries_by}
use Rattle.demands_laws.proofs.Fetching.{packet-there, plain-fetched, memory-fetched, sub-fetched, deck-fetched}
use Rattle.demands_laws.proofs.Fetching.{OwnHeld, OwnMemory, OwnSub, OwnDeck, plain-own, memory-own, sub-own, deck-own}
use Rattle.demands_laws.proofs.Rows.{wrote}
use Rattle.demands_laws.proofs.Capturing.{enter-exact, import-exact, import-same, end-exact}

-- ---- "Export delivered packets as a classic little-endian pcap file, version 2.4, snapshot length 65,535, link type 147": zone "and accuracy are 0"
pub begins-with : header ≡ four 0xA1B2C3D4 ++ (2 ∷ 0 ∷ 4 ∷ 0 ∷ (four 0 ++ (four 0 ++ (four 65535 ++ four 147))))
begins-with = refl

-- "each record holding format byte to last payload byte, seconds being the packet's number from 0; microseconds .. are 0": between them twice the length
pub record-holds : (i : ℕ) (p : Packet) → let n = length (packed p) in record_of i (packed p) ≡ four i ++ (four 0 ++ (four n ++ (four n ++ packed p)))
record-holds i p = refl

-- "delivered packets": behind a frame of m raw bytes that is judged to be a packet, what is fetched is format byte to last payload byte ..
pub fetched : (recv : List ℕ) (m : ℕ) → Fetched (closed recv m).told (closed recv m).recv
fetched = export-there

-- .. so it is behind every call of a receiver that delivers one: of the plain stream, of the channel, of a fixed sub-channel, of a recording ..
pub read-fetched : (h : FrameHeld) (bs : List ℕ) → With FetchedHeld (plain.read_call h bs).0 (plain.read_call h bs).2
read-fetched = plain-fetched

pub hear-fetched : (c : Memory) (bs : List ℕ) → With FetchedMemory (hear_call c bs).0 (hear_call c bs).2
hear-fetched = memory-fetched

pub fixed-fetched : (c : fixed.Memory) (bs : List ℕ) → With FetchedSub (fixed.hear_call c bs).0 (fixed.hear_call c bs).2
fixed-fetched = sub-fetched

pub next-fetched : (m : Deck) (bs : List ℕ) → With FetchedDeck (tape_call m bs).0 (tape_call m bs).2
next-fetched = deck-fetched

-- .. and of a packet that the sender accepts its record is written: 23 is then the only refusal
pub entered : (i : ℕ) (p : Packet) → Accepted p → (out : List ℕ) → entering i (packed p) out ≡ write (record_of i (packed p)) out
entered i p a out = ap (λ (t : Told). entering_by t i (packed p) out) (entry-packed p a)

own-entered : (p : Packet) (recv : List ℕ) → Own (packet p) recv → (i : ℕ) (out : List ℕ)
    → entering i (packed_part (delivery p) recv) out ≡ write (record_of i (packed p)) out
own-entered p recv t i out = ap (λ (bs : List ℕ). entering i bs out) t.0 ∙ entered i p t.1 out

-- .. so is that of a delivered one: what is fetched behind the delivery is never refused with 62, of a closed frame ..
pub delivered-entered : (recv : List ℕ) (m : ℕ) (p : Packet) → Bytes recv → (closed recv m).told ≡ packet p → (i : ℕ) (out : List ℕ)
    → entering i (packed_part (delivery p) (closed recv m).recv) out ≡ write (record_of i (packed p)) out
delivered-entered recv m p b e i out =
    own-entered p (closed recv m).recv (subst (λ (x : Told). Own x (closed recv m).recv) e (packet-there recv m b)) i out

-- .. and of every call that delivers one, where what comes back in the receive buffer is bytes: of the plain stream, of the channel, of a fixed
-- sub-channel, of a recording
pub read-entered : (h : FrameHeld) (bs : List ℕ) (p : Packet) → let recv = (plain.read_call h bs).2.recv in (plain.read_call h bs).0 ≡ some (packet p)
    → Bytes recv → (i : ℕ) (out : List ℕ) → entering i (packed_part (delivery p) recv) out ≡ write (record_of i (packed p)) out
read-entered h bs p e b =
    let x = plain.read_call h bs in own-entered p x.2.recv (subst (λ (o : Option Told). With OwnHeld o x.2) e (plain-own h bs) b)

pub hear-entered : (c : Memory) (bs : List ℕ) (p : Packet) → let recv = (hear_call c bs).2.recv in (hear_call c bs).0 ≡ some (said (packet p))
    → Bytes recv → (i : ℕ) (out : List ℕ) → entering i (packed_part (delivery p) recv) out ≡ write (record_of i (packed p)) out
hear-entered c bs p e b = let x = hear_call c bs in own-entered p x.2.recv (subst (λ (o : Option Event). With OwnMemory o x.2) e (memory-own c bs) b)

pub fixed-entered : (c : fixed.Memory) (bs : List ℕ) (p : Packet)
    → let recv = (fixed.hear_call c bs).2.recv in (fixed.hear_call c bs).0 ≡ some (said (packet p))
    → Bytes recv → (i : ℕ) (out : List ℕ) → entering i (packed_part (delivery p) recv) out ≡ write (record_of i (packed p)) out
fixed-entered c bs p e b =
    let x = fixed.hear_call c bs in own-entered p x.2.recv (subst (λ (o : Option Event). With OwnSub o x.2) e (sub-own c bs) b)

pub next-entered : (m : Deck) (bs : List ℕ) (p : Packet) → let recv = (tape_call m bs).2.ear.memory.recv in (tape_call m bs).0 ≡ some (said (packet p))
    → Bytes recv → (i : ℕ) (out : List ℕ) → entering i (packed_part (delivery p) recv) out ≡ write (record_of i (packed p)) out
next-entered m bs p e b =
    let x = tape_call m bs in own-entered p x.2.ear.memory.recv (subst (λ (o : Option Event). With OwnDeck o x.2) e (deck-own m bs) b)

-- what is written with room is the result
put-fits : (bs out : List ℕ) → length bs ≤ length out → put (write bs out) ≡ bs
put-fits bs out h =
    ap (λ t. put (pick t (refused 23 out) (outcome (Wrote (length bs)) (bs ++ drop (length bs) out)))) (le-ltb (length out) (length bs) h)
    ∙ take-append_seam bs (drop (length bs) out)

-- a packet that the sender accepts, and an output with room for its record
abbrev Roomy : Packet × List ℕ → Type 0
Roomy x = Accepted x.0 × (length (packed x.0) + 16 ≤ length x.1)

entries : (i : ℕ) (xs : List (Packet × List ℕ)) → Each Roomy xs → entries_by i xs ≡ records i (map (λ x. x.0) xs)
unfolding records
entries i [] h = refl
entries i (x ∷ xs) h =
    let p : Packet = x.0 in
    let r : put (entering i (packed p) x.1) ≡ record_of i (packed p) =
    ap put (entered i p h.0.0 x.1) ∙ put-fits (record_of i (packed p)) x.1 (omega (arith, h.0.1)) in
    λ j. r j ++ entries (suc i) xs h.1 j

-- .. and the bytes that `begin` and then `enter` write, for each packet by its number from 0 into an output with room, are the file
pub file-by-calls : (out : List ℕ) → 24 ≤ length out → (xs : List (Packet × List ℕ)) → Each Roomy xs
    → put (write header out) ++ entries_by 0 xs ≡ captured (map (λ x. x.0) xs)
file-by-calls out h xs k = λ j. put-fits header out h j ++ entries 0 xs k j

-- ---- "Import ignores the records' times": eight bytes before the lengths, whatever stands behind them
pub times-aside : (times others : List ℕ) → length times ≡ 8 → length others ≡ 8 → (rest : List ℕ)
    → seen (in_head []) (times ++ rest) ≡ seen (in_head []) (others ++ rest)
times-aside = times-ignored

-- ---- "and gives the same packets back": whatever the times, cut in every way, with every store that passes 11, the calls come to their end, their answers
-- are the packets, and the file ends well ..
pub same-packets : (ps : List Packet) → Each Accepted ps → (bs : List ℕ) → CaptureOf ps bs
    → EveryCut bs λ ts g. (ts ≡ map packet ps) × (ended_as (finishing g.st) ≡ 0)
same-packets ps a bs c st room pieces cut =
    let r = import-any ps a bs c in
    yields-so (every-cut bs st room pieces cut) λ ts g e. (
      ap (λ (x : List Told × ℕ). x.0) e ∙ ap (λ (x : List Told × Reading). x.0) r,
      ap (λ (x : List Told × ℕ). x.1) e
          ∙ ap (λ (x : List Told × Reading). ends x.1) r,
    )

-- .. so the export of packets, imported, gives them back ..
pub export-import : (ps : List Packet) → Each Accepted ps → EveryCut (captured ps) λ ts g. (ts ≡ map packet ps) × (ended_as (finishing g.st) ≡ 0)
export-import ps a = same-packets ps a (captured ps) (captured-is ps)

-- .. and behind each delivery payload, key, and all bytes of the packet stand in the store
pub stands : (h : Held) (bs : List ℕ) → With Stands (read_call h bs).0 (read_call h bs).2
stands = read-there

-- what is imported whole is a capture of those packets, times aside, and the sender would accept each of them
pub nothing-else : (ps : List Packet) (bs : List ℕ) → Bytes bs → imported bs ≡ (map packet ps, 0) → CaptureOf ps bs × Each Accepted ps
nothing-else = import-only

-- ---- every input is accepted, and reading comes to an end: the pieces of every byte string, from every state and store that pass 10 and 11
pub import-ends : (h : Held) → Fine h → (pieces : List (List ℕ)) → Yields read_call h pieces λ ts g. (ts, g) ≡ read_all h (joined pieces)
import-ends = read-yields

-- ---- "Refusals": the answers of every file, cut in every way, are what is imported of it, and so is the number that its end says
pub every-file : (bs : List ℕ) → EveryCut bs λ ts g. (ts, ended_as (finishing g.st)) ≡ imported bs
every-file = every-cut

-- "60 first 24 bytes not these"
pub sixty : (bs : List ℕ) → ((imported bs).1 ≡ 60) ↔ (take 24 bs ≡ header → ⊥)
sixty = sixty-exactly

-- "61 record cut short": in its head, in its bytes ..
pub sixty-one-head : (h : List ℕ) → 0 < length h → length h < 16 → (reads (in_head []) h ≡ ([], in_head h)) × (ends (in_head h) ≡ 61)
sixty-one-head = head-next

pub sixty-one-bytes : (times : List ℕ) (n : ℕ) (bs : List ℕ) → length times ≡ 8 → n < 4294967296 → length bs < n
    → (reads (in_head []) (head_of times n ++ bs) ≡ ([], in_record n bs)) × (ends (in_record n bs) ≡ 61)
sixty-one-bytes times n bs e l m = (bytes_next times n bs e l m, refl)

-- .. "or lengths unequal", whatever stands behind them
pub sixty-one-unequal : (h rest : List ℕ) → length h ≡ 16 → (four_at h 8 ≡ four_at h 12 → ⊥) → reads (in_head []) (h ++ rest) ≡ (refusal 61 ∷ [], behind 61)
sixty-one-unequal = unequal-next

-- "62 no packet the sender would accept": of a whole record
pub sixty-two : (bs : List ℕ) → Bytes bs → (entry bs ≡ refusal 62) ↔ NoPacket bs
sixty-two = none-exactly

-- .. the answer is what its bytes are told to be, whatever its times are, and then what stands behind it
pub whole-record : (times bs rest : List ℕ) → length times ≡ 8 → length bs < 4294967296
    → reads (in_head []) (timed times bs ++ rest) ≡ and_then (say (says (entry bs))) (λ t. reads t rest)
whole-record = whole-next

-- .. longer than any packet's, 8,231 bytes, it is none
pub sixty-two-long : (times bs rest : List ℕ) → length times ≡ 8 → length bs < 4294967296 → 8231 < length bs
    → reads (in_head []) (timed times bs ++ rest) ≡ (refusal 62 ∷ [], behind 62)
sixty-two-long = long-next

-- "first found in file order": the bytes behind the header, or behind a record, go on in one of these ways, no other; packets, and behind them at most one
-- fault, which is the last answer
pub goes_on : (bs : List ℕ) → Bytes bs → Next bs
goes_on = next

pub in_order : (bs : List ℕ) → (ps : List Packet) × ((reads fresh bs).0 ≡ map packet ps ++ fault_of (reads fresh bs).1)
in_order = first-fault

-- ---- the calls' own refusals
pub begin-refusals : (out : List ℕ) → Exact ByCall (write header out)
    ((23, length out < 24) ∷  -- output shorter than the result
    [])
begin-refusals out = wrote header out 24 refl

pub enter-refusals : (i : ℕ) (bs out : List ℕ) → Bytes bs → Exact ByCall (entering i bs out)
    ((62, NoPacket bs) ∷  -- no packet the sender would accept
    (23, length out < length bs + 16) ∷  -- output shorter than the result
    [])
enter-refusals = enter-exact

pub import-refusals : (h : Held) (bs : List ℕ) → Exact ByRead (read_call h bs)
    ((10, CaptureBeyond h.st) ∷  -- a count of the state is beyond its limit
    (11, length h.store < entry_limit) ∷  -- store under 8,231 bytes
    [])
import-refusals = import-exact

pub finish-refusals : (c : CaptureReader) → Exact ByEnd (finishing c)
    ((10, CaptureBeyond c) ∷  -- a count of the state is beyond its limit
    (60, HeaderMissed c) ∷  -- the first 24 bytes are not all there, or not these
    (61, RecordCut c) ∷  -- a record cut short, or lengths unequal before
    (62, FaultBefore c) ∷  -- no packet before
    [])
finish-refusals = end-exact

-- a refused call changes nothing
pub begin-keeps : (out : List ℕ) → Keeps out (write header out)
begin-keeps out = write_keeps header out

pub enter-keeps : (i : ℕ) (bs out : List ℕ) → Keeps out (entering i bs out)
enter-keeps i bs out = go (entry bs)
  where
    go : (t : Told) → Keeps out (entering_by t i bs out)
    go (packet p) = write_keeps (record_of i bs) out
    go (refusal n) = refused-keeps n out
    go (broken n) = refused-keeps 62 out

pub import-keeps : (h : Held) (bs : List ℕ) (n : ℕ) → ByRead (read_call h bs) n → read_call h bs ≡ (some (refusal n), 0, h)
import-keeps = import-same
