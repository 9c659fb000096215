-- Demand 1, in the owner's words:
--   "Sender and receiver accept every input and come to an end. Bad input gets a numbered refusal from document 01, never trust in the
--   caller. A refused call changes no lent memory; a refused frame leaves what that paper says."
-- Each function promises the definition that stands here (`writing`, `read_call`, `hear_call` ..): Promises has it, function by function.
-- ..-ends       a byte string, however cut, is read to its end
-- ..-numbers    the numbers that a receiving call gives: those of frames, and those of calls
-- ..-refusals   the paper's table, row by row: each number exactly when its row applies and none above it
-- ..-keeps, ..-keeps-out, ..-keeps-hold, ..-keeps-recv, ..-keeps-all   what a refused call leaves: output, held bytes, receive buffer, all
-- frame-..      what a refused frame leaves
use Prim.Native.Nat.{ℕ, suc, ◌-◌, ◌≤◌, ◌<◌, min}
use mathlib.Core.Path.{◌≡◌, refl}
use mathlib.Core.Bool.{Bool, true, false}
use mathlib.Core.Logic.{◌⊎◌, ◌≢◌}
use mathlib.Core.List.{List, [], ◌∷◌, ◌++◌}
use mathlib.Core.Option.{some}
use lib.Dec.{eqb, ltb}
use lib.ListN.{length, take, drop, length-take}
use borrow.Author.Tests.{eqb-true, eqb-false, ltb-true}
use Rattle.base.specs.Calls.{joined, run, Yields}
use Rattle.base.specs.Written.{refused, write, Keeps}
use Rattle.base.proofs.Writing.{write_keeps}
use Rattle.word_spec.specs.Word.{clean, values_from, remainder}
use Rattle.parity.specs.Calls.{at_roots, checked, made}
use Rattle.word_spec.proofs.Division.{length-remainder}
use Rattle.word_spec.proofs.Roots.{length-values}
use Rattle.parity.proofs.Refusing.{roots-keep, made-keeps}
use Rattle.repair.specs.Mended.{Mended}
use Rattle.repair.specs.Mended.{Refused as RepairRefused}
use Rattle.repair.specs.Promise.{Promised}
use Rattle.interleaver_spec.specs.Running.{push, pull, pushing, zeros, closing, pulling}
use Rattle.interleaver_spec.specs.declared.Matrix.{Matrix}
use Rattle.interleaver_spec.specs.declared.Back.{Back}
use Rattle.interleaver_spec.proofs.Pushing.{pushed-length}
use Rattle.packet_spec.specs.Contents.{Packet, payload_limit, raw_limit}
use Rattle.packet_spec.specs.Escape.{flag, escape, plain}
use Rattle.packet_spec.specs.Port.{barred}
use Rattle.packet_spec.specs.Frame.{Told, refusal, closed, judging, judge}
use Rattle.packet_spec.specs.Sender.{frame_of, head_fits, writing}
use Rattle.packet_spec.proofs.Judging.{closed-keeps}
use Rattle.packet.proofs.Sending.{writing-keeps}
use Rattle.stream.specs.Call.{Held, begun, take_by, take_byte, shut, read_all, read_call, Fine as FineFrame}
use Rattle.stream.specs.Sender.{appending}
use Rattle.stream.proofs.Cutting.{read-yields}
use Rattle.stream.proofs.Sending.{appending-keeps}
use Rattle.channel_spec.specs.Meaning.{said}
use Rattle.channel.specs.Call.{Memory, hear_all, hear_call, Fine}
use Rattle.channel_spec.specs.Sender.{marker, message_bytes, word_bytes, word_of, marked, marking, sending}
use Rattle.channel.proofs.Cutting.{hear-yields}
use Rattle.channel_sender.proofs.Sending.{marking-keeps, sending-keeps}
use Rattle.recording.specs.Deck.{Deck}
use Rattle.recording.specs.Call.{tape_call}
use Rattle.recording.specs.Packets.{packet_call, refused as unheard}
use Rattle.board.specs.Wants.{Refused as ShowRefused}
use Rattle.board.specs.Source.{memory_in}
use Rattle.board.specs.Call.{Screen, readout_of, recv_on, part, takes as shows}
use Rattle.listing_lines.specs.declared.totals.Totals.{Totals}
use Rattle.listing.specs.declared.lister.Lister.{Lister}
use Rattle.listing.specs.Wants.{Refused}
use Rattle.listing.specs.Call.{printed, takes, last_of, finishing}
use Rattle.channel_spec.specs.declared.Answer.{Answer}
use Rattle.listing_spec.specs.Lines.{line, end_line, wrong_line}
use Rattle.bid.specs.Line.{verdict}
use Rattle.office.specs.declared.Office.{Office}
use Rattle.office.specs.Start.{Refused as StartRefused}
use Rattle.office.specs.Meaning.{Desk, ending_of, refusal as line-refusal}
use Rattle.office.specs.Call.{hold_limit, out_limit, starting, denied, hear_call as desk-hear, close_call, spoken_out, answered_out, finishing as desk-finish}
use Rattle.demands_laws.specs.Table.{Exact}
use Rattle.demands_laws.specs.Desks.{DeskBeyond, DeskShort, line_rows, ByDesk, ByStart, ByLine, BySpoken}
use Rattle.demands_laws.specs.Refusals.{PlaceBeyond, Unusable, UnfitHead, frame_rows, FrameBeyond, Beyond, NextBeyond, TapeBeyond, BoardBeyond, Short}
use Rattle.demands_laws.specs.Refusals.{OfFrame, OfCall, ByFrame, ByCall, ByState, ByCheck, ByRepair, ByRead, ByHear, ByNext, ByPacket, ByTake, ByShow}
use Rattle.demands_laws.proofs.Rows.{row, row-not, not-less, not_same, refuses, wrote, refuses-word, found, repair-as-check, calling-exact, calling-same}
use Rattle.demands_laws.proofs.Frames.{barred-is, free-is, unfit-is, fit_is, closed-exact, judging-exact, judging-same, judge-exact, undone}
use Rattle.demands_laws.proofs.Called.{read-given, hear-given, read-exact, read_same, hear-exact, hear-same}
use Rattle.demands_laws.proofs.Showing.{show-exact, show-same}
use Rattle.demands_laws.proofs.Taken.{next-exact, next-same, next-given, packet-exact, packet-same, take_exact, take_same}
use Rattle.demands_laws.proofs.Desk.{line-exact, office-line-same, office-start-exact, office-start-same, office-hear-exact}
use Rattle.demands_laws.proofs.Desk.{office-hear-same, office-close-exact, office-close-same, office-finish-exact, office-finish-same}
use Rattle.demands_laws.proofs.Desk.{listing-lines-print-exact, listing-lines-print-same, listing-lines-print-end-exact}
use Rattle.demands_laws.proofs.Desk.{listing-lines-print-end-same, listing-lines-print-wrong-exact, listing-lines-print-wrong-same}

-- ---- "Sender and receiver accept every input and come to an end": of each call that is the first half of its law in Promises. Reading comes to
-- an end too: the pieces of every byte string, each handed in until "more wanted", from every state and buffers that pass 10 and 11, with a
-- word half handed on too (that is owed with the first piece); the answers are those of the uncut string ..
pub hear-ends : (c : Memory) → Fine c → (p : List ℕ) (ps : List (List ℕ)) → Yields hear_call c (p ∷ ps) λ es d. (es, d) ≡ hear_all c (joined (p ∷ ps))
hear-ends = hear-yields

-- .. and on the plain stream
pub plain-ends : (h : Held) → FineFrame h → (pieces : List (List ℕ)) → Yields read_call h pieces λ ts g. (ts, g) ≡ read_all h (joined pieces)
plain-ends = read-yields

-- ---- "Bad input gets a numbered refusal": a frame, of which m raw bytes are in the receive buffer ..
pub frame-refusals : (recv : List ℕ) (m : ℕ) → Exact ByFrame (closed recv m).told
    ((1, raw_limit < m) ∷  -- more than 8,272 raw bytes
    frame_rows (take m recv))  -- 2 to 6, 12, 7 and 8
frame-refusals = closed-exact

-- .. by the call that judges one ..
pub judge-refusals : (recv : List ℕ) (m : ℕ) → Exact ByFrame (judging recv m).told
    ((10, suc raw_limit < m) ∷  -- raw count above 8,273
    (11, length recv < raw_limit) ∷  -- receive buffer under 8,272 bytes
    (1, raw_limit < m) ∷  -- more than 8,272 raw bytes
    frame_rows (take m recv))  -- 2 to 6, 12, 7 and 8
judge-refusals = judging-exact

-- .. and of raw bytes alone: what a byte stream means is defined by these
pub raw-refusals : (raw : List ℕ) → Exact ByFrame (judge raw) ((1, raw_limit < length raw) ∷ frame_rows raw)
raw-refusals = judge-exact

-- the numbers that a receiving call gives are 1 to 8 and 12 of a frame, 10 and 11 of the call: 9 is not used. The buffer is measured on entry,
-- and the raw count stops storage
pub read-numbers : (h : Held) (bs : List ℕ) (t : Told) (n : ℕ) → (read_call h bs).0 ≡ some t → ByFrame t n → OfFrame n ⊎ OfCall n
read-numbers = read-given

pub hear-numbers : (c : Memory) (bs : List ℕ) (t : Told) (n : ℕ) → (hear_call c bs).0 ≡ some (said t) → ByFrame t n → OfFrame n ⊎ OfCall n
hear-numbers = hear-given

pub next-numbers : (m : Deck) (bs : List ℕ) (t : Told) (n : ℕ) → (tape_call m bs).0 ≡ some (said t) → ByFrame t n → OfFrame n ⊎ OfCall n
next-numbers = next-given

-- a receiving call on the plain stream
pub read-refusals : (h : Held) (bs : List ℕ) → Exact ByRead (read_call h bs)
    ((10, FrameBeyond h.st) ∷  -- a count of the state is beyond its limit
    (11, length h.recv < raw_limit) ∷  -- receive buffer under 8,272 bytes
    [])
read-refusals = read-exact

-- and on the channel
pub hear-refusals : (c : Memory) (bs : List ℕ) → Exact ByHear (hear_call c bs)
    ((10, Beyond c.st) ∷  -- a count of the state is beyond its limit
    (11, Short c.recv c.word) ∷  -- receive buffer under 8,272 bytes, word buffer under 255
    [])
hear-refusals = hear-exact

-- a call on a recording's bytes: both buffers are measured, of a plain stream too
pub next-refusals : (m : Deck) (bs : List ℕ) → Exact ByNext (tape_call m bs)
    ((10, NextBeyond m.ear.memory.st m.spot (length bs)) ∷  -- a count of the state is beyond its limit
    (11, Short m.ear.memory.recv m.ear.memory.word) ∷  -- receive buffer under 8,272 bytes, word buffer under 255
    [])
next-refusals = next-exact

-- .. and one for its next packet
pub packet-refusals : (m : Deck) (bs : List ℕ) → Exact ByPacket (packet_call m bs)
    ((10, NextBeyond m.ear.memory.st m.spot (length bs)) ∷ (11, Short m.ear.memory.recv m.ear.memory.word) ∷ [])
packet-refusals = packet-exact

-- a call on a recording that is listed, and the call that ends it
pub take-refusals : (m : Deck) (t : Totals) (room : ℕ) (bs : List ℕ) → Exact ByTake (takes m t room bs)
    ((10, TapeBeyond m.ear.memory.st m.spot t (length bs) room) ∷  -- a count of the state is beyond its limit
    (11, Short m.ear.memory.recv m.ear.memory.word) ∷  -- receive buffer under 8,272 bytes, word buffer under 255
    [])
take-refusals = take_exact

pub finish-refusals : (r : Lister) (out : List ℕ) → Exact ByCall (finishing r out) ((23, length out < length (last_of r)) ∷ [])
finish-refusals r out = wrote (last_of r) out _ refl

-- a board's call
pub show-refusals : (room : ℕ) (s : Screen) (bs : List ℕ) → Exact ByShow (shows room s bs)
    ((10, BoardBeyond (readout_of s) (length bs)) ∷  -- a count of the state is beyond its limit
    (11, Short (recv_on s) (memory_in s.source.deck).word) ∷  -- receive buffer under 8,272 bytes, word buffer under 255
    [])
show-refusals = show-exact

-- a packet written
pub write-refusals : (p : Packet) (out : List ℕ) → Exact ByCall (writing p out)
    ((20, length p.payload ≡ 0) ∷  -- payload empty
    (21, payload_limit < length (escape p.payload)) ∷  -- payload above 8,192 bytes as escaped
    (22, Unusable p.port) ∷  -- port 7D00-7EFF
    (24, UnfitHead p) ∷  -- a 0x26 key length outside 2 to 32, another format, or a key length or number above zero in format 0x21
    (23, length out < length (frame_of p)) ∷  -- output shorter than the result
    [])
unfolding writing
write-refusals p out =
    row ByCall (eqb (length p.payload) 0) (refuses 20 out) (eqb-true _ _) (eqb-false _ _)
    (row ByCall (ltb payload_limit (length (escape p.payload))) (refuses 21 out) (ltb-true _ _) (not-less _ _)
    (row ByCall (barred p.port) (refuses 22 out) (barred-is p.port) (free-is p.port)
    (row-not ByCall (head_fits p.format p.number (length p.key)) (refuses 24 out) (unfit-is p) (fit_is p) (wrote (frame_of p) out _ refl))))

-- a stream begun, and a packet appended to one
pub begin-refusals : (out : List ℕ) → Exact ByCall (write (flag ∷ []) out) ((23, length out < 1) ∷ [])
begin-refusals out = wrote (flag ∷ []) out 1 refl

pub append-refusals : (at : ℕ) (p : Packet) (out : List ℕ) → Exact ByCall (appending at p out)
    ((20, length p.payload ≡ 0) ∷ (21, payload_limit < length (escape p.payload)) ∷ (22, Unusable p.port) ∷ (24, UnfitHead p)
    ∷ (23, length (drop at out) < length (frame_of p)) ∷ [])
append-refusals at p out = record { says = (write-refusals p (drop at out)).says }

-- the values at a word's roots; parity made, and a word checked
pub at-roots-refusals : (r : ℕ) (word out : List ℕ) → Exact ByCall (at_roots r word out)
    ((30, 64 < r) ∷  -- R above 64
    (23, length out < r) ∷  -- output shorter than the result
    [])
at-roots-refusals r word out =
    row ByCall (ltb 64 r) (refuses 30 out) (ltb-true _ _) (not-less _ _) (wrote (values_from word 1 r) out r (length-values word 1 r))

pub make-refusals : (r : ℕ) (message out : List ℕ) → Exact ByCall (made r message out)
    ((30, 64 < r) ∷  -- R above 64
    (31, length message ≢ 255 - r) ∷  -- message not 255 - R bytes
    (23, length out < r) ∷  -- output shorter than the result
    [])
make-refusals r message out =
    row ByCall (ltb 64 r) (refuses 30 out) (ltb-true _ _) (not-less _ _)
    (row-not ByCall (eqb (length message) (255 - r)) (refuses 31 out) (eqb-false _ _) (λ e. not_same (eqb-true _ _ e))
    (wrote (remainder r message) out r (length-remainder r message)))

pub check-refusals : (r : ℕ) (word : List ℕ) → Exact ByCheck (checked r word)
    ((30, 64 < r) ∷  -- R above 64
    (31, length word ≢ 255) ∷  -- word not 255
    [])
check-refusals r word =
    row ByCheck (ltb 64 r) (refuses-word 30) (ltb-true _ _) (not-less _ _)
    (row-not ByCheck (eqb (length word) 255) (refuses-word 31) (eqb-false _ _) (λ e. not_same (eqb-true _ _ e)) (found (clean r word)))

-- the repair of a word, whatever it may answer by its promise; a word refused is left as it came
pub repair-refusals : (r : ℕ) (word : List ℕ) (a : Mended) (left : List ℕ) → Promised r word a left → Exact ByRepair a
    ((30, 64 < r) ∷  -- R above 64
    (31, length word ≢ 255) ∷  -- word not 255
    [])
repair-refusals r word a left p =
    let c = check-refusals r word in
    let s = repair-as-check r word a left p in
    record { says = λ n. (λ e. (c.says n).0 ((s n).0 e), λ f. (s n).1 ((c.says n).1 f)) }

pub repair-keeps : (r n : ℕ) (word left : List ℕ) → Promised r word (RepairRefused n) left → left ≡ word
repair-keeps r n word left p = p.1

-- the interleaver: bytes pushed, the closing push, received bytes taken in. 23 is the last, of the result that each has
pub push-refusals : (d : ℕ) (m : Matrix) (bs out : List ℕ) → Exact ByState (pushing d m bs out)
    ((10, PlaceBeyond d m.place) ∷  -- a cell place of N or more
    (32, 64 < d) ∷  -- depth above 64
    (23, length out < length bs) ∷  -- output shorter than the result
    [])
push-refusals d m bs out = calling-exact d m.place m (run (push d) m bs) out (length bs) (pushed-length d m bs)

pub closing-refusals : (d : ℕ) (m : Matrix) (out : List ℕ) → Exact ByState (closing d m out)
    ((10, PlaceBeyond d m.place) ∷ (32, 64 < d) ∷ (23, length out < length (zeros d)) ∷ [])
closing-refusals d m out = push-refusals d m (zeros d) out

pub pull-refusals : (d : ℕ) (k : Back) (bs out : List ℕ) → Exact ByState (pulling d k bs out)
    ((10, PlaceBeyond d k.matrix.place) ∷ (32, 64 < d) ∷ (23, length out < length (run (pull d) k bs).0) ∷ [])
pull-refusals d k bs out = calling-exact d k.matrix.place k (run (pull d) k bs) out _ refl

-- a block marked, and a whole stream sent
pub mark-refusals : (message out : List ℕ) → Exact ByCall (marking message out)
    ((31, length message ≢ message_bytes) ∷  -- message not 255 - R bytes, R = 32
    (23, length out < length (marker ++ word_of message)) ∷  -- output shorter than the result
    [])
mark-refusals message out =
    row-not ByCall (eqb (length message) message_bytes) (refuses 31 out) (eqb-false _ _) (λ e. not_same (eqb-true _ _ e))
    (wrote (marker ++ word_of message) out _ refl)

pub send-refusals : (bs out : List ℕ) → Exact ByCall (sending bs out) ((23, length out < length (marked bs)) ∷ [])
send-refusals bs out = wrote (marked bs) out _ refl

-- a line printed: an answer's, and the last
pub print-refusals : (a : Answer) (out : List ℕ) → Exact ByCall (write (line a) out) ((23, length out < length (line a)) ∷ [])
print-refusals = listing-lines-print-exact

pub print-end-refusals : (bytes packets rejected damaged lost : ℕ) (out : List ℕ)
    → Exact ByCall (write (end_line bytes packets rejected damaged lost) out) ((23, length out < length (end_line bytes packets rejected damaged lost)) ∷ [])
print-end-refusals = listing-lines-print-end-exact

pub print-wrong-refusals : (offset : ℕ) (out : List ℕ) → Exact ByCall (write (wrong_line offset) out) ((23, length out < length (wrong_line offset)) ∷ [])
print-wrong-refusals = listing-lines-print-wrong-exact

-- a text's first bytes, handed out
pub deliver-refusals : (n : ℕ) (text out : List ℕ) → Exact ByCall (write (take n text) out) ((23, length out < min n (length text)) ∷ [])
deliver-refusals n text out = wrote (take n text) out _ (length-take n text)

-- the office: its start, bytes of its input, the end of the input, the last block; and a line, of which a number is told only where it is a bid
pub start-refusals : (hold : List ℕ) → Exact ByStart (starting hold) ((11, length hold < hold_limit) ∷ [])
start-refusals = office-start-exact

pub desk-refusals : (room : ℕ) (d : Desk) (bs : List ℕ) → Exact ByDesk (desk-hear room d bs)
    ((10, DeskBeyond d.st) ∷  -- a count of the state is beyond its limit
    (11, DeskShort d.line d.hold) ∷  -- a lent buffer is too short
    (23, room < out_limit) ∷  -- output shorter than any line's blocks
    [])
desk-refusals = office-hear-exact

pub close-refusals : (room : ℕ) (d : Desk) → Exact ByDesk (close_call room d)
    ((10, DeskBeyond d.st) ∷ (11, DeskShort d.line d.hold) ∷ (23, room < out_limit) ∷ [])
close-refusals = office-close-exact

pub last-refusals : (s : Office) (hold out : List ℕ) → Exact ByCall (desk-finish s hold out)
    ((10, DeskBeyond s) ∷ (11, length hold < hold_limit) ∷ (23, length out < length (marked (take s.held hold))) ∷ [])
last-refusals = office-finish-exact

pub line-refusals : (l : List ℕ) → Exact ByLine (verdict l) (line_rows l)
line-refusals = line-exact

-- ---- "A refused call changes no lent memory": a call that writes leaves the output as it was ..
pub write-keeps-out : (p : Packet) (out : List ℕ) → Keeps out (writing p out)
write-keeps-out = writing-keeps

pub begin-keeps-out : (out : List ℕ) → Keeps out (write (flag ∷ []) out)
begin-keeps-out out = write_keeps (flag ∷ []) out

pub append-keeps-out : (at : ℕ) (p : Packet) (out : List ℕ) → Keeps out (appending at p out)
append-keeps-out = appending-keeps

pub at-roots-keeps-out : (r : ℕ) (word out : List ℕ) → Keeps out (at_roots r word out)
at-roots-keeps-out = roots-keep

pub make-keeps-out : (r : ℕ) (message out : List ℕ) → Keeps out (made r message out)
make-keeps-out = made-keeps

pub mark-keeps-out : (message out : List ℕ) → Keeps out (marking message out)
mark-keeps-out = marking-keeps

pub send-keeps-out : (bs out : List ℕ) → Keeps out (sending bs out)
send-keeps-out = sending-keeps

pub finish-keeps-out : (r : Lister) (out : List ℕ) → Keeps out (finishing r out)
finish-keeps-out r out = write_keeps (last_of r) out

pub print-keeps-out : (a : Answer) (out : List ℕ) → Keeps out (write (line a) out)
print-keeps-out = listing-lines-print-same

pub print-end-keeps-out : (bytes packets rejected damaged lost : ℕ) (out : List ℕ) → Keeps out (write (end_line bytes packets rejected damaged lost) out)
print-end-keeps-out = listing-lines-print-end-same

pub print-wrong-keeps-out : (offset : ℕ) (out : List ℕ) → Keeps out (write (wrong_line offset) out)
print-wrong-keeps-out = listing-lines-print-wrong-same

pub deliver-keeps-out : (n : ℕ) (text out : List ℕ) → Keeps out (write (take n text) out)
deliver-keeps-out n text out = write_keeps (take n text) out

pub last-keeps-out : (s : Office) (hold out : List ℕ) → Keeps out (desk-finish s hold out)
last-keeps-out = office-finish-same

-- .. the interleaver its state and the output ..
pub push-keeps-all : (d : ℕ) (m : Matrix) (bs out : List ℕ) (n : ℕ) → ByState (pushing d m bs out) n → pushing d m bs out ≡ (refused n out, m)
push-keeps-all d m bs out = calling-same d m.place m (run (push d) m bs) out

pub closing-keeps-all : (d : ℕ) (m : Matrix) (out : List ℕ) (n : ℕ) → ByState (closing d m out) n → closing d m out ≡ (refused n out, m)
closing-keeps-all d m out = push-keeps-all d m (zeros d) out

pub pull-keeps-all : (d : ℕ) (k : Back) (bs out : List ℕ) (n : ℕ) → ByState (pulling d k bs out) n → pulling d k bs out ≡ (refused n out, k)
pull-keeps-all d k bs out = calling-same d k.matrix.place k (run (pull d) k bs) out

-- .. the office its state, its buffers and the output ..
pub start-keeps-hold : (hold : List ℕ) (n : ℕ) → ByStart (starting hold) n → starting hold ≡ (StartRefused n, hold)
start-keeps-hold = office-start-same

pub desk-keeps-all : (room : ℕ) (d : Desk) (bs : List ℕ) (n : ℕ) → ByDesk (desk-hear room d bs) n
    → (desk-hear room d bs ≡ denied n d) × ((out : List ℕ) → answered_out (desk-hear room d bs).0 out ≡ out)
desk-keeps-all = office-hear-same

pub close-keeps-all : (room : ℕ) (d : Desk) (n : ℕ) → ByDesk (close_call room d) n
    → (close_call room d ≡ denied n d) × ((out : List ℕ) → answered_out (close_call room d).0 out ≡ out)
close-keeps-all = office-close-same

-- .. a line that is refused what the office holds, and the output ..
pub line-keeps-all : (d : Desk) (n : ℕ) → BySpoken (ending_of d).said n
    → (ending_of d ≡ record { said = line-refusal n; held = d.st.held; hold = d.hold }) × ((out : List ℕ) → spoken_out (ending_of d).said out ≡ out)
line-keeps-all = office-line-same

-- .. the call that judges a frame the receive buffer ..
pub judge-keeps-recv : (recv : List ℕ) (m n : ℕ) → (judging recv m).told ≡ refusal n → OfCall n → (judging recv m).recv ≡ recv
judge-keeps-recv = judging-same

-- .. and a receiving call its state and the lent buffers, with zero bytes taken
pub read-keeps-all : (h : Held) (bs : List ℕ) (n : ℕ) → ByRead (read_call h bs) n → read_call h bs ≡ (some (refusal n), 0, h)
read-keeps-all = read_same

pub hear-keeps-all : (c : Memory) (bs : List ℕ) (n : ℕ) → ByHear (hear_call c bs) n → hear_call c bs ≡ (some (said (refusal n)), 0, c)
hear-keeps-all = hear-same

pub next-keeps-all : (m : Deck) (bs : List ℕ) (n : ℕ) → ByNext (tape_call m bs) n → tape_call m bs ≡ (some (said (refusal n)), 0, m)
next-keeps-all = next-same

pub packet-keeps-all : (m : Deck) (bs : List ℕ) (n : ℕ) → ByPacket (packet_call m bs) n → packet_call m bs ≡ (some (unheard n), 0, m)
packet-keeps-all = packet-same

-- .. and so does a call on a recording that is listed: no byte is taken, and no line printed
pub take-keeps-all : (m : Deck) (t : Totals) (room : ℕ) (bs : List ℕ) (n : ℕ) → ByTake (takes m t room bs) n → takes m t room bs ≡ printed (Refused n) m t
take-keeps-all = take_same

-- .. and a board's call: no byte is taken, and none written
pub show-keeps-all : (room : ℕ) (s : Screen) (bs : List ℕ) (n : ℕ) → ByShow (shows room s bs) n → shows room s bs ≡ part (ShowRefused n) 0 [] s
show-keeps-all = show-same

-- ---- "a refused frame leaves what that paper says": refused with 1, 2 or 3, the stored raw bytes ..
pub frame-kept : (recv : List ℕ) (m n : ℕ) → ByFrame (closed recv m).told n → n ≤ 3 → (closed recv m).recv ≡ recv
frame-kept = closed-keeps

-- .. any other frame, delivered or refused, has its escapes undone from the buffer's start, and bytes behind the result stay ..
pub frame-undone : (recv : List ℕ) (m : ℕ) → ((n : ℕ) → ByFrame (closed recv m).told n → 3 < n)
    → (closed recv m).recv ≡ plain (take m recv) ++ drop (length (plain (take m recv))) recv
frame-undone = undone

-- .. and the reader goes on behind the flag as after any flag: counts zero, no place remembered
pub frame-behind : (h : Held) → (take_byte h flag).1.st ≡ begun
frame-behind h = go h.st.opened
  where
    empty : (z : Bool) → (shut z h).1.st ≡ begun
    empty true = refl
    empty false = refl

    go : (o : Bool) → (take_by true o h flag).1.st ≡ begun
    go true = empty (eqb h.st.raw 0)
    go false = refl
