-- What each public function promises: it accepts every input, it ends, and its promise is exactly this, in the words of its `ensures`, where
-- `now x` is what x refers to, and a lent buffer has its .entry and its .exit. Demand1 to Demand3 speak of the definitions that stand here;
-- with these laws they speak of the code.
-- ..-means   of each public function of each library crate, CRATE-FUNCTION-means; `cases` and `cases_frames`, parts of the comparison programs,
--            promise nothing
-- ..-is      what the code's answers are, case by case
use Prim.Native.Nat.{ℕ, ◌+◌, ◌-◌, ◌≤◌, min}
use mathlib.Core.Path.{◌≡◌, refl, ap}
use mathlib.Core.Option.{some, none}
use mathlib.Core.Bool.{Bool, true, false, not, ◌&&◌}
use mathlib.Core.List.{List, [], ◌∷◌, ◌++◌}
use lib.ListN.{length, take, drop, replicate}
use lib.Dec.{ltb, leb}
use Rattle.base.specs.Choice.{pick}
use Rattle.base.specs.UpTo.{up_to}
use Rattle.base.specs.Written.{as_written, outcome, write, copied}
use Rattle.text.specs.Text.{ascii, decimal}
use Rattle.text.specs.Put.{Puts}
use Rattle.fcs.specs.Fcs as check
use Rattle.field.specs.Field.{add, mul, pow, alpha, inverse}
use Rattle.word_spec.specs.Word.{clean, onto, scale}
use Rattle.word_spec.specs.Residue.{residue, residue_from}
use Rattle.parity.specs.Calls.{at_powers, at_roots, made, checked}
use Rattle.repair.specs.Promise.{Promised}
use Rattle.interleaver_spec.specs.Running.{beyond, step_at, pushing, closing, pulling}
use Rattle.packet_spec.specs.Escape.{flag, wrong_behind}
use Rattle.packet_spec.specs.Frame.{Told, packet, refusal, broken, judged, judging, part}
use Rattle.packet_spec.specs.Contents.{Packet, packet_of, plain_packet, pair, payload_at}
use Rattle.packet_spec.specs.declared.Judged.{Judged}
use Rattle.packet_spec.specs.declared.Judged.TheVariants.{Packet as Delivered, Refused, Broken}
use Rattle.packet_spec.specs.Port.{class}
use Rattle.packet_spec.specs.Sender.{writing}
use Rattle.stream.specs.Sender.{appending}
use Rattle.stream.specs.Call as plain
use Rattle.std.specs.Prelude.{None, Some}
use Rattle.channel_spec.specs.Sender.{marking, sending}
use Rattle.channel.specs.Call.{memory, sound, roomy, hear_call}
use Rattle.channel_spec.specs.Answer.{answered}
use Rattle.channel_spec.specs.Meaning.{said, block, lost, is_marker}
use Rattle.channel_spec.specs.declared.Condition.{Condition}
use Rattle.channel_spec.specs.declared.Answer.{Answer}
use Rattle.channel_spec.specs.declared.Answer.TheVariants.{More, Said, Block, LockLost}
use Rattle.listing_spec.specs.Lines.{line, end_line, wrong_line}
use Rattle.listing_spec.specs.Apart.{well, is_wrong}
use Rattle.listing_spec.specs.declared.Place.TheVariants.{Mode}
use Rattle.recording.specs.Call.{deck_of, is_more, tape_call}
use Rattle.recording.specs.Found.{as_got}
use Rattle.recording.specs.Packets.{packet_call, found_of}
use Rattle.subchannel_spec.specs.declared.Settings.{Settings}
use Rattle.subchannel_spec.specs.Settings.{Configured}
use Rattle.subchannel_spec.specs.Settings as configured
use Rattle.four_receivers.specs.declared.Receiver.{Receiver}
use Rattle.four_senders.specs.declared.Sender.{Sender}
use Rattle.four_receivers.specs.declared.Seat.{Seat}
use Rattle.subchannel.specs.declared.sub.Sub.{Sub}
use Rattle.subchannel.specs.Call as subchannel
use Rattle.subchannel_spec.specs.Settings.{within}
use Rattle.subchannel_sender.specs.Sending as subsender
use Rattle.four_receivers.specs.Call as subchannels
use Rattle.four_senders.specs.Call as subsenders
use Rattle.capture_spec.specs.File as capture-file
use Rattle.capture.specs.Export.{entering}
use Rattle.capture.specs.Call as capture
use Rattle.capture.specs.declared.reader.CaptureReader.TheVariants.{Header}
use Rattle.unit_spec.specs.Unit as units
use Rattle.unit_spec.specs.Reading as unit-reading
use Rattle.board.specs.Call as readout
use Rattle.board.specs.declared.readout.Readout.{Readout}
use Rattle.listing.specs.Call as recording
use Rattle.bid.specs.Line.{reading}
use Rattle.office.specs.Meaning.{desk, blocks, unread, refusal as denied}
use Rattle.office.specs.Answer as office-answer
use Rattle.office.specs.Start.{Started, as_started}
use Rattle.office.specs.Start.{Ready, Refused as Denied}
use Rattle.office.specs.Call as office
use Rattle.listing_lines.specs.declared.totals.Totals.{Totals}
use Rattle.listing_lines.specs.Counts.{counting, Below, counted as counted-up}
use Rattle.listing_lines.proofs.Counting.{counting-below}
use Rattle.board_lines.specs.Piece.{piece_of}
use Rattle.missed_spec.specs.Line.{noted_line}
use Rattle.missed.specs.Call as missed
use Rattle.missed.specs.Wants as missed-answer
use Rattle.board_spec.specs.Text.{shown_byte}
use Rattle.board_spec.specs.Meaning.{wrong_at, written, written_all, ending}
use Rattle.board_spec.specs.Parts.{lead, remark}
use Rattle.ports_spec.specs.declared.Entry.{Entry}
use Rattle.ports_spec.specs.declared.Noted.{Noted}
use Rattle.ports_spec.specs.Forgot.{Forgot, as_forgot}
use Rattle.ports_spec.specs.Distance.{ruled}
use Rattle.ports_spec.specs.Ports.{unfit, noting, forgetting}
use Rattle.sheet_spec.specs.Meaning.{counts, wrong, refuses}
use Rattle.sheet_spec.specs.Rows.{padded_to}
use Rattle.sheet.specs.Call.{beginning, noting as counted, closing as settling, answer_of, printing}
use Rattle.sheet.specs.Counted as sheet-answer
use Rattle.rack.specs.Words.{making, checking, mending}
use Rattle.rack.specs.Call as rack
use Rattle.demands.specs.Means.{Means}
use Rattle.packet.proofs.write_as as packet-write-as
use Rattle.packet.proofs.write as packet-write
use Rattle.stream.proofs.begin as stream-begin
use Rattle.stream.proofs.append_as as stream-append-as
use Rattle.stream.proofs.append as stream-append
use Rattle.channel_spec.proofs.Hunting.fresh as channel-spec-fresh
use Rattle.channel_spec.proofs.Hunting.shift as channel-spec-shift
use Rattle.channel_spec.proofs.Hunting.at_marker as channel-spec-at-marker
use Rattle.channel_sender.proofs.mark as channel-sender-mark
use Rattle.channel_sender.proofs.send as channel-sender-send
use Rattle.channel.proofs.receiver.Receiver.fresh as channel-fresh
use Rattle.channel.proofs.receiver.Receiver.hear as channel-hear
use Rattle.channel.proofs.receiver.Receiver.sound as channel-sound
use Rattle.channel.proofs.receiver.Receiver.has_room as channel-has-room
use Rattle.subchannel_spec.proofs.Settings.within as subchannel-spec-within
use Rattle.subchannel.proofs.sub.Sub.untold as subchannel-untold
use Rattle.subchannel.proofs.sub.Sub.told as subchannel-told
use Rattle.subchannel.proofs.sub.Sub.sound as subchannel-sound
use Rattle.subchannel.proofs.sub.Sub.hear as subchannel-hear
use Rattle.subchannel_sender.proofs.send as subchannel-sender-send
use Rattle.subchannel_sender.proofs.send_group as subchannel-sender-send-group
use Rattle.subchannel_sender.proofs.count as subchannel-sender-count
use Rattle.four_receivers.proofs.Receiver.fresh as four-receivers-fresh
use Rattle.four_receivers.proofs.Receiver.sound as four-receivers-sound
use Rattle.four_receivers.proofs.Receiver.configure as four-receivers-configure
use Rattle.four_receivers.proofs.Receiver.hear as four-receivers-hear
use Rattle.four_senders.proofs.Sender.fresh as four-senders-fresh
use Rattle.four_senders.proofs.Sender.sound as four-senders-sound
use Rattle.four_senders.proofs.Sender.configure as four-senders-configure
use Rattle.four_senders.proofs.Sender.send as four-senders-send
use Rattle.stream.proofs.frame.FrameReader.fresh as stream-fresh
use Rattle.stream.proofs.frame.FrameReader.read as stream-read
use Rattle.stream.proofs.frame.FrameReader.sound as stream-sound
use Rattle.stream.proofs.payload as stream-payload
use Rattle.stream.proofs.key as stream-key
use Rattle.capture.proofs.begin as capture-begin
use Rattle.capture.proofs.enter as capture-enter
use Rattle.capture.proofs.packed as capture-packed
use Rattle.capture.proofs.reader.CaptureReader.fresh as capture-fresh
use Rattle.capture.proofs.reader.CaptureReader.read as capture-read
use Rattle.capture.proofs.reader.CaptureReader.finish as capture-finish
use Rattle.packet.proofs.pair as packet-pair
use Rattle.packet.proofs.payload_at as packet-payload-at
use Rattle.packet.proofs.judge as packet-judge
use Rattle.packet.proofs.wrong_behind as packet-wrong-behind
use Rattle.packet.proofs.up_to as packet-up-to
use Rattle.packet.proofs.class_of as packet-class-of
use Rattle.parity.proofs.make as parity-make
use Rattle.parity.specs.Checked.{as_checked}
use Rattle.repair.specs.Mended.{as_mended}
use Rattle.parity.proofs.check as parity-check
use Rattle.repair.proofs.repair as repair-repair
use Rattle.interleaver.proofs.fresh as interleaver-fresh
use Rattle.interleaver.proofs.push as interleaver-push
use Rattle.interleaver.proofs.close as interleaver-close
use Rattle.interleaver.proofs.fresh_back as interleaver-fresh-back
use Rattle.interleaver.proofs.pull as interleaver-pull
use Rattle.interleaver.proofs.is_beyond as interleaver-is-beyond
use Rattle.interleaver.proofs.step as interleaver-step
use Rattle.recording.proofs.reader.RecordingReader.fresh as recording-fresh
use Rattle.recording.proofs.reader.RecordingReader.next as recording-next
use Rattle.recording.proofs.reader.RecordingReader.next_packet as recording-next-packet
use Rattle.recording.proofs.reader.RecordingReader.may_end as recording-may-end
use Rattle.recording.proofs.reader.RecordingReader.is_wrong as recording-is-wrong
use Rattle.recording.proofs.reader.Hearing.is_more as recording-is-more
use Rattle.board.specs.Wants as board-answers
use Rattle.board.proofs.readout.Readout.fresh as board-fresh
use Rattle.board.proofs.readout.Readout.take as board-take
use Rattle.board.proofs.readout.Readout.finish as board-finish
use Rattle.unit.proofs.write as unit-write
use Rattle.unit.proofs.read as unit-read
use Rattle.listing.specs.Wants as listing-answers
use Rattle.listing.proofs.lister.Lister.fresh as listing-fresh
use Rattle.listing.proofs.lister.Lister.take as listing-take
use Rattle.listing.proofs.lister.Lister.finish as listing-finish
use Rattle.missed.proofs.print_noted as missed-print-noted
use Rattle.missed.proofs.notes.Notes.fresh as missed-fresh
use Rattle.missed.proofs.notes.Notes.take as missed-take
use Rattle.listing_lines.proofs.print as listing-lines-print
use Rattle.listing_lines.proofs.print_end as listing-lines-print-end
use Rattle.listing_lines.proofs.print_wrong as listing-lines-print-wrong
use Rattle.listing_lines.proofs.totals.Totals.none as listing-lines-none
use Rattle.listing_lines.proofs.totals.Totals.count as listing-lines-count
use Rattle.board_lines.proofs.Piece.line_feed as board-lines-line-feed
use Rattle.board_lines.proofs.Piece.shown_byte as board-lines-shown-byte
use Rattle.board_lines.proofs.Piece.lead as board-lines-lead
use Rattle.board_lines.proofs.Piece.remark as board-lines-remark
use Rattle.board_lines.proofs.Piece.wrong_at as board-lines-wrong-at
use Rattle.board_lines.proofs.Piece.none as board-lines-none
use Rattle.ports_spec.proofs.Range.all as ports-spec-all
use Rattle.ports_spec.proofs.Range.has as ports-spec-has
use Rattle.ports.proofs.rule as ports-rule
use Rattle.ports.proofs.by_value.Ports.fresh as ports-fresh
use Rattle.ports.proofs.by_value.Ports.sound as ports-sound
use Rattle.ports.proofs.by_value.Ports.note as ports-ports-note
use Rattle.ports.proofs.by_value.Ports.forget as ports-ports-forget
use Rattle.ports.proofs.note as ports-note
use Rattle.ports.proofs.forget as ports-forget
use Rattle.sheet.proofs.Sheet.fresh as sheet-fresh
use Rattle.sheet.proofs.Sheet.begin as sheet-begin
use Rattle.sheet.proofs.Sheet.print as sheet-print
use Rattle.sheet.proofs.Draft.note as sheet-note
use Rattle.sheet.proofs.Draft.close as sheet-close
use Rattle.rack.proofs.aas_parity_make as rack-aas-parity-make
use Rattle.rack.proofs.aas_word_check as rack-aas-word-check
use Rattle.rack.proofs.aas_word_repair as rack-aas-word-repair
use Rattle.rack.proofs.aas_stream_read as rack-aas-stream-read
use Rattle.rack.proofs.aas_channel_read as rack-aas-channel-read
use Rattle.office.proofs.Office.start as office-start
use Rattle.office.proofs.Office.hear as office-hear
use Rattle.office.proofs.Office.close as office-close
use Rattle.office.proofs.Office.finish as office-finish
use Rattle.bid.proofs.read as bid-read
use Rattle.fcs.proofs.fcs as fcs-fcs
use Rattle.fcs.proofs.Register.fresh as fcs-fresh
use Rattle.fcs.proofs.Register.feed as fcs-feed
use Rattle.fcs.proofs.Register.check as fcs-check
use Rattle.field.proofs.plus as field-plus
use Rattle.field.proofs.times as field-times
use Rattle.field.proofs.power as field-power
use Rattle.field.proofs.inverse as field-inverse
use Rattle.lanes.proofs.is_clean as lanes-is-clean
use Rattle.lanes.proofs.left as lanes-left
use Rattle.lanes.proofs.left_above as lanes-left-above
use Rattle.parity.proofs.at_powers as parity-at-powers
use Rattle.parity.proofs.at_roots as parity-at-roots
use Rattle.parity.proofs.subtract as parity-subtract
use Rattle.text.proofs.put_byte as text-put-byte
use Rattle.text.proofs.put_text as text-put-text
use Rattle.text.proofs.put_number as text-put-number
use Rattle.text.proofs.put_item as text-put-item
use Rattle.text.proofs.deliver as text-deliver
use Rattle.base.proofs.least as base-least
use Rattle.base.proofs.up_to as base-up-to
use Rattle.base.proofs.copy as base-copy

-- ---- the sender: a packet, a plain stream of packets, a block of the channel, a whole marked stream
pub packet-write-as-means : Means packet-write-as.Statement.statement packet-write-as.Kinds.ps packet-write-as.Kinds.r packet-write-as.Reads.Asked
    packet-write-as.Reads.Learnt
    λ κs format number key port sequence payload out w.
    outcome (as_written w) out.exit.now ≡ writing (packet_of format number key.now port sequence payload.now) out.entry.now
packet-write-as-means = (λ M. packet-write-as.Met.met, λ κs a. tt, λ κs a z ws. (λ p. p, λ p. p))

pub packet-write-means : Means packet-write.Statement.statement packet-write.Kinds.ps packet-write.Kinds.r packet-write.Reads.Asked packet-write.Reads.Learnt
    λ κs port sequence payload out w. outcome (as_written w) out.exit.now ≡ writing (plain_packet port sequence payload.now) out.entry.now
packet-write-means = (λ M. packet-write.Met.met, λ κs a. tt, λ κs a z ws. (λ p. p, λ p. p))

pub stream-begin-means : Means stream-begin.Statement.statement stream-begin.Kinds.ps stream-begin.Kinds.r stream-begin.Reads.Asked stream-begin.Reads.Learnt
    λ κs out w. outcome (as_written w) out.exit.now ≡ write (flag ∷ []) out.entry.now
stream-begin-means = (λ M. stream-begin.Met.met, λ κs a. tt, λ κs a z ws. (λ p. p, λ p. p))

pub stream-append-as-means : Means stream-append-as.Statement.statement stream-append-as.Kinds.ps stream-append-as.Kinds.r stream-append-as.Reads.Asked
    stream-append-as.Reads.Learnt
    λ κs out at format number key port sequence payload w.
    outcome (as_written w) out.exit.now ≡ appending at (packet_of format number key.now port sequence payload.now) out.entry.now
stream-append-as-means = (λ M. stream-append-as.Met.met, λ κs a. tt, λ κs a z ws. (λ p. p, λ p. p))

pub stream-append-means : Means stream-append.Statement.statement stream-append.Kinds.ps stream-append.Kinds.r stream-append.Reads.Asked
    stream-append.Reads.Learnt
    λ κs out at port sequence payload w. outcome (as_written w) out.exit.now ≡ appending at (plain_packet port sequence payload.now) out.entry.now
stream-append-means = (λ M. stream-append.Met.met, λ κs a. tt, λ κs a z ws. (λ p. p, λ p. p))

pub channel-sender-mark-means : Means channel-sender-mark.Statement.statement channel-sender-mark.Kinds.ps channel-sender-mark.Kinds.r
    channel-sender-mark.Reads.Asked channel-sender-mark.Reads.Learnt
    λ κs message out w. outcome (as_written w) out.exit.now ≡ marking message.now out.entry.now
channel-sender-mark-means = (λ M. channel-sender-mark.Met.met, λ κs a. tt, λ κs a z ws. (λ p. p, λ p. p))

pub channel-sender-send-means : Means channel-sender-send.Statement.statement channel-sender-send.Kinds.ps channel-sender-send.Kinds.r
    channel-sender-send.Reads.Asked channel-sender-send.Reads.Learnt
    λ κs stream out w. outcome (as_written w) out.exit.now ≡ sending stream.now out.entry.now
channel-sender-send-means = (λ M. channel-sender-send.Met.met, λ κs a. tt, λ κs a z ws. (λ p. p, λ p. p))

-- ---- the receiver on the channel. A fresh one is "hunting with four hunted bytes of zero", "counts zero, waiting for a flag"
pub channel-fresh-means : Means channel-fresh.Statement.statement channel-fresh.Kinds.ps channel-fresh.Kinds.r channel-fresh.Reads.Asked
    channel-fresh.Reads.Learnt
    λ κs r. r ≡ record {
      locked = false;
      hunting = record { a = 0; b = 0; c = 0; d = 0 };
      lock = record { word = 0; handed = 0; marker = 0 };
      frame = record { opened = false; raw = 0; stored = 0; place = 0 };
    }
channel-fresh-means = (λ M. channel-fresh.Met.met, λ κs a. tt, λ κs a z ws. (λ p. p, λ p. p))

pub channel-hear-means : Means channel-hear.Statement.statement channel-hear.Kinds.ps channel-hear.Kinds.r channel-hear.Reads.Asked channel-hear.Reads.Learnt
    λ κs self recv word piece r. let x = hear_call (memory self recv.entry.now word.entry.now) piece.now in
    (r ≡ record { answer = answered x.0; taken = x.1; receiver = x.2.st }) × (recv.exit.now ≡ x.2.recv) × (word.exit.now ≡ x.2.word)
channel-hear-means = (λ M. channel-hear.Met.met, λ κs a. tt, λ κs a z ws. (λ p. p, λ p. p))

pub channel-sound-means : Means channel-sound.Statement.statement channel-sound.Kinds.ps channel-sound.Kinds.r channel-sound.Reads.Asked
    channel-sound.Reads.Learnt
    λ κs self r. r ≡ sound self
channel-sound-means = (λ M. channel-sound.Met.met, λ κs a. tt, λ κs a z ws. (λ p. p, λ p. p))

pub channel-has-room-means : Means channel-has-room.Statement.statement channel-has-room.Kinds.ps channel-has-room.Kinds.r channel-has-room.Reads.Asked
    channel-has-room.Reads.Learnt
    λ κs recv word r. r ≡ roomy recv.now word.now
channel-has-room-means = (λ M. channel-has-room.Met.met, λ κs a. tt, λ κs a z ws. (λ p. p, λ p. p))

-- .. and the four hunted bytes
pub channel-spec-fresh-means : Means channel-spec-fresh.Statement.statement channel-spec-fresh.Kinds.ps channel-spec-fresh.Kinds.r
    channel-spec-fresh.Reads.Asked channel-spec-fresh.Reads.Learnt
    λ κs r. r ≡ record { a = 0; b = 0; c = 0; d = 0 }
channel-spec-fresh-means = (λ M. channel-spec-fresh.Met.met, λ κs a. tt, λ κs a z ws. (λ p. p, λ p. p))

pub channel-spec-shift-means : Means channel-spec-shift.Statement.statement channel-spec-shift.Kinds.ps channel-spec-shift.Kinds.r
    channel-spec-shift.Reads.Asked channel-spec-shift.Reads.Learnt
    λ κs self x r. r ≡ record { a = self.b; b = self.c; c = self.d; d = x }
channel-spec-shift-means = (λ M. channel-spec-shift.Met.met, λ κs a. tt, λ κs a z ws. (λ p. p, λ p. p))

pub channel-spec-at-marker-means : Means channel-spec-at-marker.Statement.statement channel-spec-at-marker.Kinds.ps channel-spec-at-marker.Kinds.r
    channel-spec-at-marker.Reads.Asked channel-spec-at-marker.Reads.Learnt
    λ κs self r. r ≡ is_marker self
channel-spec-at-marker-means = (λ M. channel-spec-at-marker.Met.met, λ κs a. tt, λ κs a z ws. (λ p. p, λ p. p))

-- ---- one fixed sub-channel. With settings: hunting, nothing heard, the first marked block at row zero. Not told ..
abbrev fresh_sub : Settings → Sub
fresh_sub s = record {
  lane = record {
    settings = s;
    locked = false;
    lost = false;
    hunting = record { a = 0; b = 0; c = 0; d = 0 };
    counts = record { group = 0; marker = 0; word = 0; handed = 0 };
    frame = record { opened = false; raw = 0; stored = 0; place = 0 };
  };
  back = record { again = false; matrix = record { place = 0; cells = replicate 16320 0 } };
}

pub subchannel-untold-means : Means subchannel-untold.Statement.statement subchannel-untold.Kinds.ps subchannel-untold.Kinds.r subchannel-untold.Reads.Asked
    subchannel-untold.Reads.Learnt
    λ κs r. r ≡ fresh_sub (record { told = false; parity = 0; depth = 0 })
subchannel-untold-means = (λ M. subchannel-untold.Met.met, λ κs a. tt, λ κs a z ws. (λ p. p, λ p. p))

-- .. just told
pub subchannel-told-means : Means subchannel-told.Statement.statement subchannel-told.Kinds.ps subchannel-told.Kinds.r subchannel-told.Reads.Asked
    subchannel-told.Reads.Learnt
    λ κs parity depth r.
    let untold : Sub = fresh_sub (record { told = false; parity = 0; depth = 0 }) in
    let told : Sub = fresh_sub (record { told = true; parity = parity; depth = depth }) in
    let x : Configured × Sub = pick (ltb 64 parity) (configured.Refused 30, untold)
    (pick (ltb 64 depth) (configured.Refused 32, untold) (configured.Done, told)) in
    ◌≡◌ {A = Configured × Sub} (configured.as_configured r.answer, r.sub) x
subchannel-told-means = (λ M. subchannel-told.Met.met, λ κs a. tt, λ κs a z ws. (λ p. p, λ p. p))

pub subchannel-spec-within-means : Means subchannel-spec-within.Statement.statement subchannel-spec-within.Kinds.ps subchannel-spec-within.Kinds.r
    subchannel-spec-within.Reads.Asked subchannel-spec-within.Reads.Learnt
    λ κs self r. r ≡ (leb self.parity 64 && leb self.depth 64)
subchannel-spec-within-means = (λ M. subchannel-spec-within.Met.met, λ κs a. tt, λ κs a z ws. (λ p. p, λ p. p))

pub subchannel-sound-means : Means subchannel-sound.Statement.statement subchannel-sound.Kinds.ps subchannel-sound.Kinds.r subchannel-sound.Reads.Asked
    subchannel-sound.Reads.Learnt
    λ κs self r. r ≡ subchannel.sound self
subchannel-sound-means = (λ M. subchannel-sound.Met.met, λ κs a. tt, λ κs a z ws. (λ p. p, λ p. p))

pub subchannel-hear-means : Means subchannel-hear.Statement.statement subchannel-hear.Kinds.ps subchannel-hear.Kinds.r subchannel-hear.Reads.Asked
    subchannel-hear.Reads.Learnt
    λ κs self recv word piece r. let x = subchannel.hear_call (subchannel.memory self recv.entry.now word.entry.now) piece.now in
    (r ≡ record { answer = answered x.0; taken = x.1; sub = x.2.st }) × (recv.exit.now ≡ x.2.recv) × (word.exit.now ≡ x.2.word)
subchannel-hear-means = (λ M. subchannel-hear.Met.met, λ κs a. tt, λ κs a z ws. (λ p. p, λ p. p))

pub subchannel-sender-send-means : Means subchannel-sender-send.Statement.statement subchannel-sender-send.Kinds.ps subchannel-sender-send.Kinds.r
    subchannel-sender-send.Reads.Asked subchannel-sender-send.Reads.Learnt
    λ κs parity depth stream out w. outcome (as_written w) out.exit.now ≡ subsender.sending parity depth stream.now out.entry.now
subchannel-sender-send-means = (λ M. subchannel-sender-send.Met.met, λ κs a. tt, λ κs a z ws. (λ p. p, λ p. p))

pub subchannel-sender-send-group-means : Means subchannel-sender-send-group.Statement.statement subchannel-sender-send-group.Kinds.ps
    subchannel-sender-send-group.Kinds.r subchannel-sender-send-group.Reads.Asked subchannel-sender-send-group.Reads.Learnt
    λ κs parity depth matrix stream out r.
    (outcome (as_written r.written) out.exit.now, r.taken, r.matrix) ≡ subsender.group_sending parity depth matrix stream.now out.entry.now
subchannel-sender-send-group-means = (λ M. subchannel-sender-send-group.Met.met, λ κs a. tt, λ κs a z ws. (λ p. p, λ p. p))

pub subchannel-sender-count-means : Means subchannel-sender-count.Statement.statement subchannel-sender-count.Kinds.ps subchannel-sender-count.Kinds.r
    subchannel-sender-count.Reads.Asked subchannel-sender-count.Reads.Learnt
    λ κs parity depth bytes r. subsender.as_counted r ≡ subsender.counting parity depth bytes
subchannel-sender-count-means = (λ M. subchannel-sender-count.Met.met, λ κs a. tt, λ κs a z ws. (λ p. p, λ p. p))

-- ---- four of them, their cells lent: at first none is told its settings
pub four-receivers-fresh-means : Means four-receivers-fresh.Statement.statement four-receivers-fresh.Kinds.ps four-receivers-fresh.Kinds.r
    four-receivers-fresh.Reads.Asked four-receivers-fresh.Reads.Learnt
    λ κs r.
    let u : Seat = record {
      lane = (fresh_sub (record { told = false; parity = 0; depth = 0 })).lane;
      again = false;
      place = 0;
    }
    in
    r ≡ record { a = u; b = u; c = u; d = u }
four-receivers-fresh-means = (λ M. four-receivers-fresh.Met.met, λ κs a. tt, λ κs a z ws. (λ p. p, λ p. p))

pub four-receivers-sound-means : Means four-receivers-sound.Statement.statement four-receivers-sound.Kinds.ps four-receivers-sound.Kinds.r
    four-receivers-sound.Reads.Asked four-receivers-sound.Reads.Learnt
    λ κs self r.
    let sound : Seat → Bool = λ x. subchannel.sound (subchannels.seated x []) in
    r ≡ (sound self.a && (sound self.b && (sound self.c && sound self.d)))
four-receivers-sound-means = (λ M. four-receivers-sound.Met.met, λ κs a. tt, λ κs a z ws. (λ p. p, λ p. p))

pub four-receivers-configure-means : Means four-receivers-configure.Statement.statement four-receivers-configure.Kinds.ps four-receivers-configure.Kinds.r
    four-receivers-configure.Reads.Asked four-receivers-configure.Reads.Learnt
    λ κs self number parity depth cells r.
    let x = subchannels.configuring (subchannels.whole self cells.entry.now) number parity depth in
    ◌≡◌ {A = Configured × Receiver} (configured.as_configured r.answer, r.receiver) (x.0, subchannels.seats x.1)
    × (cells.exit.now ≡ subchannels.laid cells.entry.now x.1)
four-receivers-configure-means = (λ M. four-receivers-configure.Met.met, λ κs a. tt, λ κs a z ws. (λ p. p, λ p. p))

pub four-receivers-hear-means : Means four-receivers-hear.Statement.statement four-receivers-hear.Kinds.ps four-receivers-hear.Kinds.r
    four-receivers-hear.Reads.Asked four-receivers-hear.Reads.Learnt
    λ κs self number cells recv word piece r.
    let x = subchannels.hear_four (subchannels.whole self cells.entry.now) number recv.entry.now word.entry.now piece.now in
    (r ≡ record { answer = answered x.0; taken = x.1; receiver = subchannels.seats x.2 })
    × (cells.exit.now ≡ subchannels.laid cells.entry.now x.2) × (recv.exit.now ≡ x.3) × (word.exit.now ≡ x.4)
four-receivers-hear-means = (λ M. four-receivers-hear.Met.met, λ κs a. tt, λ κs a z ws. (λ p. p, λ p. p))

-- ---- their sender: at first none is told its settings
pub four-senders-fresh-means : Means four-senders-fresh.Statement.statement four-senders-fresh.Kinds.ps four-senders-fresh.Kinds.r
    four-senders-fresh.Reads.Asked four-senders-fresh.Reads.Learnt
    λ κs r. let u : Settings = record { told = false; parity = 0; depth = 0 } in r ≡ record { a = u; b = u; c = u; d = u }
four-senders-fresh-means = (λ M. four-senders-fresh.Met.met, λ κs a. tt, λ κs a z ws. (λ p. p, λ p. p))

pub four-senders-sound-means : Means four-senders-sound.Statement.statement four-senders-sound.Kinds.ps four-senders-sound.Kinds.r
    four-senders-sound.Reads.Asked four-senders-sound.Reads.Learnt
    λ κs self r. r ≡ (within self.a && (within self.b && (within self.c && within self.d)))
four-senders-sound-means = (λ M. four-senders-sound.Met.met, λ κs a. tt, λ κs a z ws. (λ p. p, λ p. p))

pub four-senders-configure-means : Means four-senders-configure.Statement.statement four-senders-configure.Kinds.ps four-senders-configure.Kinds.r
    four-senders-configure.Reads.Asked four-senders-configure.Reads.Learnt
    λ κs self number parity depth r.
    ◌≡◌ {A = Configured × Sender} (configured.as_configured r.answer, r.sender) (subsenders.configuring self number parity depth)
four-senders-configure-means = (λ M. four-senders-configure.Met.met, λ κs a. tt, λ κs a z ws. (λ p. p, λ p. p))

pub four-senders-send-means : Means four-senders-send.Statement.statement four-senders-send.Kinds.ps four-senders-send.Kinds.r four-senders-send.Reads.Asked
    four-senders-send.Reads.Learnt
    λ κs self number stream out w. outcome (as_written w) out.exit.now ≡ subsenders.send_four self number stream.now out.entry.now
four-senders-send-means = (λ M. four-senders-send.Met.met, λ κs a. tt, λ κs a z ws. (λ p. p, λ p. p))

-- what a frame is told to be, and what a call answers, in the code's words
pub judged-is : (p : Packet) (n : ℕ)
    → (judged (packet p) ≡ Delivered
    (record { format = p.format; number = p.number; key = length p.key; port = p.port; sequence = p.sequence; length = length p.payload }))
    × (judged (refusal n) ≡ Refused n) × (judged (broken n) ≡ Broken n)
judged-is p n = (refl, refl, refl)

pub answered-is : (t : Told) (c : Condition)
    → (answered none ≡ More) × (answered (some (said t)) ≡ Said (judged t)) × (answered (some (block c)) ≡ Block c) × (answered (some lost) ≡ LockLost)
answered-is t c = (refl, refl, refl, refl)

-- ---- .. and of the plain stream
pub stream-fresh-means : Means stream-fresh.Statement.statement stream-fresh.Kinds.ps stream-fresh.Kinds.r stream-fresh.Reads.Asked stream-fresh.Reads.Learnt
    λ κs r. r ≡ record { opened = false; raw = 0; stored = 0; place = 0 }
stream-fresh-means = (λ M. stream-fresh.Met.met, λ κs a. tt, λ κs a z ws. (λ p. p, λ p. p))

pub stream-read-means : Means stream-read.Statement.statement stream-read.Kinds.ps stream-read.Kinds.r stream-read.Reads.Asked stream-read.Reads.Learnt
    λ κs self recv piece r. let x = plain.read_call (plain.held self recv.entry.now) piece.now in
    (r ≡ record { heard = plain.answered x.0; taken = x.1; frame = x.2.st }) × (recv.exit.now ≡ x.2.recv)
stream-read-means = (λ M. stream-read.Met.met, λ κs a. tt, λ κs a z ws. (λ p. p, λ p. p))

pub plain-answered-is : (t : Told) → (plain.answered none ≡ None) × (plain.answered (some t) ≡ Some (judged t))
plain-answered-is t = (refl, refl)

pub stream-sound-means : Means stream-sound.Statement.statement stream-sound.Kinds.ps stream-sound.Kinds.r stream-sound.Reads.Asked stream-sound.Reads.Learnt
    λ κs self r. r ≡ plain.sound self
stream-sound-means = (λ M. stream-sound.Met.met, λ κs a. tt, λ κs a z ws. (λ p. p, λ p. p))

pub stream-payload-means : Means stream-payload.Statement.statement stream-payload.Kinds.ps stream-payload.Kinds.r stream-payload.Reads.Asked
    stream-payload.Reads.Learnt
    λ κs recv delivery r. r.now ≡ part (payload_at delivery.key) delivery.length recv.now
stream-payload-means = (λ M. stream-payload.Met.met, λ κs a. tt, λ κs a z ws. (λ p. p, λ p. p))

pub stream-key-means : Means stream-key.Statement.statement stream-key.Kinds.ps stream-key.Kinds.r stream-key.Reads.Asked stream-key.Reads.Learnt
    λ κs recv delivery r. r.now ≡ part 3 delivery.key recv.now
stream-key-means = (λ M. stream-key.Met.met, λ κs a. tt, λ κs a z ws. (λ p. p, λ p. p))

pub packet-pair-means : Means packet-pair.Statement.statement packet-pair.Kinds.ps packet-pair.Kinds.r packet-pair.Reads.Asked packet-pair.Reads.Learnt
    λ κs low high r. r ≡ pair low high
packet-pair-means = (λ M. packet-pair.Met.met, λ κs a. tt, λ κs a z ws. (λ p. p, λ p. p))

pub packet-payload-at-means : Means packet-payload-at.Statement.statement packet-payload-at.Kinds.ps packet-payload-at.Kinds.r packet-payload-at.Reads.Asked
    packet-payload-at.Reads.Learnt
    λ κs key r. r ≡ payload_at key
packet-payload-at-means = (λ M. packet-payload-at.Met.met, λ κs a. tt, λ κs a z ws. (λ p. p, λ p. p))

pub packet-judge-means : Means packet-judge.Statement.statement packet-judge.Kinds.ps packet-judge.Kinds.r packet-judge.Reads.Asked packet-judge.Reads.Learnt
    λ κs recv raw r. (r ≡ judged (judging recv.entry.now raw).told) × (recv.exit.now ≡ (judging recv.entry.now raw).recv)
packet-judge-means = (λ M. packet-judge.Met.met, λ κs a. tt, λ κs a z ws. (λ p. p, λ p. p))

pub packet-wrong-behind-means : Means packet-wrong-behind.Statement.statement packet-wrong-behind.Kinds.ps packet-wrong-behind.Kinds.r
    packet-wrong-behind.Reads.Asked packet-wrong-behind.Reads.Learnt
    λ κs raw from r. r ≡ wrong_behind from raw.now
packet-wrong-behind-means = (λ M. packet-wrong-behind.Met.met, λ κs a. tt, λ κs a z ws. (λ p. p, λ p. p))

pub packet-up-to-means : Means packet-up-to.Statement.statement packet-up-to.Kinds.ps packet-up-to.Kinds.r packet-up-to.Reads.Asked packet-up-to.Reads.Learnt
    λ κs bytes c r. (r ≡ length (up_to c bytes.now)) × (r ≤ length bytes.now)
packet-up-to-means = (λ M. packet-up-to.Met.met, λ κs a. tt, λ κs a z ws. (λ p. p, λ p. p))

pub packet-class-of-means : Means packet-class-of.Statement.statement packet-class-of.Kinds.ps packet-class-of.Kinds.r packet-class-of.Reads.Asked
    packet-class-of.Reads.Learnt
    λ κs port r. r ≡ class port
packet-class-of-means = (λ M. packet-class-of.Met.met, λ κs a. tt, λ κs a z ws. (λ p. p, λ p. p))

-- ---- parity and repair
pub parity-make-means : Means parity-make.Statement.statement parity-make.Kinds.ps parity-make.Kinds.r parity-make.Reads.Asked parity-make.Reads.Learnt
    λ κs r message out w. outcome (as_written w) out.exit.now ≡ made r message.now out.entry.now
parity-make-means = (λ M. parity-make.Met.met, λ κs a. tt, λ κs a z ws. (λ p. p, λ p. p))

pub parity-check-means : Means parity-check.Statement.statement parity-check.Kinds.ps parity-check.Kinds.r parity-check.Reads.Asked parity-check.Reads.Learnt
    λ κs r word c. as_checked c ≡ checked r word.now
parity-check-means = (λ M. parity-check.Met.met, λ κs a. tt, λ κs a z ws. (λ p. p, λ p. p))

pub repair-repair-means : Means repair-repair.Statement.statement repair-repair.Kinds.ps repair-repair.Kinds.r repair-repair.Reads.Asked
    repair-repair.Reads.Learnt
    λ κs r word a. Promised r word.entry.now (as_mended a) word.exit.now
repair-repair-means = (λ M. repair-repair.Met.met, λ κs a. tt, λ κs a z ws. (λ p. p, λ p. p))

-- ---- the interleaver. "Cells begin at zero"; on the receiving side nothing has come
pub interleaver-fresh-means : Means interleaver-fresh.Statement.statement interleaver-fresh.Kinds.ps interleaver-fresh.Kinds.r interleaver-fresh.Reads.Asked
    interleaver-fresh.Reads.Learnt
    λ κs r. r ≡ record { place = 0; cells = replicate 16320 0 }
interleaver-fresh-means = (λ M. interleaver-fresh.Met.met, λ κs a. tt, λ κs a z ws. (λ p. p, λ p. p))

pub interleaver-push-means : Means interleaver-push.Statement.statement interleaver-push.Kinds.ps interleaver-push.Kinds.r interleaver-push.Reads.Asked
    interleaver-push.Reads.Learnt
    λ κs matrix depth bytes out r. (outcome (as_written r.written) out.exit.now, r.matrix) ≡ pushing depth matrix bytes.now out.entry.now
interleaver-push-means = (λ M. interleaver-push.Met.met, λ κs a. tt, λ κs a z ws. (λ p. p, λ p. p))

pub interleaver-close-means : Means interleaver-close.Statement.statement interleaver-close.Kinds.ps interleaver-close.Kinds.r interleaver-close.Reads.Asked
    interleaver-close.Reads.Learnt
    λ κs matrix depth out r. (outcome (as_written r.written) out.exit.now, r.matrix) ≡ closing depth matrix out.entry.now
interleaver-close-means = (λ M. interleaver-close.Met.met, λ κs a. tt, λ κs a z ws. (λ p. p, λ p. p))

pub interleaver-fresh-back-means : Means interleaver-fresh-back.Statement.statement interleaver-fresh-back.Kinds.ps interleaver-fresh-back.Kinds.r
    interleaver-fresh-back.Reads.Asked interleaver-fresh-back.Reads.Learnt
    λ κs r. r ≡ record { again = false; matrix = record { place = 0; cells = replicate 16320 0 } }
interleaver-fresh-back-means = (λ M. interleaver-fresh-back.Met.met, λ κs a. tt, λ κs a z ws. (λ p. p, λ p. p))

pub interleaver-pull-means : Means interleaver-pull.Statement.statement interleaver-pull.Kinds.ps interleaver-pull.Kinds.r interleaver-pull.Reads.Asked
    interleaver-pull.Reads.Learnt
    λ κs back depth bytes out r. (outcome (as_written r.written) out.exit.now, r.back) ≡ pulling depth back bytes.now out.entry.now
interleaver-pull-means = (λ M. interleaver-pull.Met.met, λ κs a. tt, λ κs a z ws. (λ p. p, λ p. p))

-- .. a place among the cells, for who goes through them byte by byte
pub interleaver-is-beyond-means : Means interleaver-is-beyond.Statement.statement interleaver-is-beyond.Kinds.ps interleaver-is-beyond.Kinds.r
    interleaver-is-beyond.Reads.Asked interleaver-is-beyond.Reads.Learnt
    λ κs depth place r. r ≡ beyond depth place
interleaver-is-beyond-means = (λ M. interleaver-is-beyond.Met.met, λ κs a. tt, λ κs a z ws. (λ p. p, λ p. p))

pub interleaver-step-means : Means interleaver-step.Statement.statement interleaver-step.Kinds.ps interleaver-step.Kinds.r interleaver-step.Reads.Asked
    interleaver-step.Reads.Learnt
    λ κs depth place r. r ≡ step_at depth place
interleaver-step-means = (λ M. interleaver-step.Met.met, λ κs a. tt, λ κs a z ws. (λ p. p, λ p. p))

-- ---- a capture, written: what stands before the first record, one record; and what is fetched for it behind a delivery
pub capture-begin-means : Means capture-begin.Statement.statement capture-begin.Kinds.ps capture-begin.Kinds.r capture-begin.Reads.Asked
    capture-begin.Reads.Learnt
    λ κs out w. outcome (as_written w) out.exit.now ≡ write capture-file.header out.entry.now
capture-begin-means = (λ M. capture-begin.Met.met, λ κs a. tt, λ κs a z ws. (λ p. p, λ p. p))

pub capture-enter-means : Means capture-enter.Statement.statement capture-enter.Kinds.ps capture-enter.Kinds.r capture-enter.Reads.Asked
    capture-enter.Reads.Learnt
    λ κs number packed out w. outcome (as_written w) out.exit.now ≡ entering number packed.now out.entry.now
capture-enter-means = (λ M. capture-enter.Met.met, λ κs a. tt, λ κs a z ws. (λ p. p, λ p. p))

pub capture-packed-means : Means capture-packed.Statement.statement capture-packed.Kinds.ps capture-packed.Kinds.r capture-packed.Reads.Asked
    capture-packed.Reads.Learnt
    λ κs recv delivery r. r.now ≡ part 0 (payload_at delivery.key + delivery.length) recv.now
capture-packed-means = (λ M. capture-packed.Met.met, λ κs a. tt, λ κs a z ws. (λ p. p, λ p. p))

-- .. and read: before the first byte, a call, the end of the file
pub capture-fresh-means : Means capture-fresh.Statement.statement capture-fresh.Kinds.ps capture-fresh.Kinds.r capture-fresh.Reads.Asked
    capture-fresh.Reads.Learnt
    λ κs r. r ≡ Header 0
capture-fresh-means = (λ M. capture-fresh.Met.met, λ κs a. tt, λ κs a z ws. (λ p. p, λ p. p))

pub capture-read-means : Means capture-read.Statement.statement capture-read.Kinds.ps capture-read.Kinds.r capture-read.Reads.Asked capture-read.Reads.Learnt
    λ κs self store piece r. let x = capture.read_call (capture.held self store.entry.now) piece.now in
    (r ≡ record { heard = plain.answered x.0; taken = x.1; capture = x.2.st }) × (store.exit.now ≡ x.2.store)
capture-read-means = (λ M. capture-read.Met.met, λ κs a. tt, λ κs a z ws. (λ p. p, λ p. p))

pub capture-finish-means : Means capture-finish.Statement.statement capture-finish.Kinds.ps capture-finish.Kinds.r capture-finish.Reads.Asked
    capture-finish.Reads.Learnt
    λ κs self r. capture.as_ended r ≡ capture.finishing self
capture-finish-means = (λ M. capture-finish.Met.met, λ κs a. tt, λ κs a z ws. (λ p. p, λ p. p))

-- ---- a recording's bytes. Before the first one: at the byte that says which stream it is, with a fresh receiver
pub recording-fresh-means : Means recording-fresh.Statement.statement recording-fresh.Kinds.ps recording-fresh.Kinds.r recording-fresh.Reads.Asked
    recording-fresh.Reads.Learnt
    λ κs r. r ≡ record {
      spot = record { place = Mode; offset = 0; count = 0 };
      channel = false;
      receiver = record {
        locked = false;
        hunting = record { a = 0; b = 0; c = 0; d = 0 };
        lock = record { word = 0; handed = 0; marker = 0 };
        frame = record { opened = false; raw = 0; stored = 0; place = 0 };
      };
    }
recording-fresh-means = (λ M. recording-fresh.Met.met, λ κs a. tt, λ κs a z ws. (λ p. p, λ p. p))

pub recording-next-means : Means recording-next.Statement.statement recording-next.Kinds.ps recording-next.Kinds.r recording-next.Reads.Asked
    recording-next.Reads.Learnt
    λ κs self recv word piece r. let x = tape_call (deck_of self recv.entry.now word.entry.now) piece.now in
    (r ≡ record { answer = answered x.0; taken = x.1; tape = record { spot = x.2.spot; channel = x.2.ear.channel; receiver = x.2.ear.memory.st } })
    × (recv.exit.now ≡ x.2.ear.memory.recv) × (word.exit.now ≡ x.2.ear.memory.word)
recording-next-means = (λ M. recording-next.Met.met, λ κs a. tt, λ κs a z ws. (λ p. p, λ p. p))

-- .. and of its answers the packets alone
pub recording-next-packet-means : Means recording-next-packet.Statement.statement recording-next-packet.Kinds.ps recording-next-packet.Kinds.r
    recording-next-packet.Reads.Asked recording-next-packet.Reads.Learnt
    λ κs self recv word piece r. let x = packet_call (deck_of self recv.entry.now word.entry.now) piece.now in
    (as_got r ≡ record { found = found_of x.0; taken = x.1; tape = record { spot = x.2.spot; channel = x.2.ear.channel; receiver = x.2.ear.memory.st } })
    × (recv.exit.now ≡ x.2.ear.memory.recv) × (word.exit.now ≡ x.2.ear.memory.word)
recording-next-packet-means = (λ M. recording-next-packet.Met.met, λ κs a. tt, λ κs a z ws. (λ p. p, λ p. p))

pub recording-may-end-means : Means recording-may-end.Statement.statement recording-may-end.Kinds.ps recording-may-end.Kinds.r recording-may-end.Reads.Asked
    recording-may-end.Reads.Learnt
    λ κs self r. r ≡ well self.spot.place
recording-may-end-means = (λ M. recording-may-end.Met.met, λ κs a. tt, λ κs a z ws. (λ p. p, λ p. p))

pub recording-is-wrong-means : Means recording-is-wrong.Statement.statement recording-is-wrong.Kinds.ps recording-is-wrong.Kinds.r
    recording-is-wrong.Reads.Asked recording-is-wrong.Reads.Learnt
    λ κs self r. r ≡ is_wrong self.spot.place
recording-is-wrong-means = (λ M. recording-is-wrong.Met.met, λ κs a. tt, λ κs a z ws. (λ p. p, λ p. p))

pub recording-is-more-means : Means recording-is-more.Statement.statement recording-is-more.Kinds.ps recording-is-more.Kinds.r recording-is-more.Reads.Asked
    recording-is-more.Reads.Learnt
    λ κs self r. r ≡ is_more self.answer
recording-is-more-means = (λ M. recording-is-more.Met.met, λ κs a. tt, λ κs a z ws. (λ p. p, λ p. p))

pub more-is : (j : Judged) (c : Condition)
    → (is_more More ≡ true) × (is_more (Said j) ≡ false) × (is_more (Block c) ≡ false) × (is_more LockLost ≡ false)
more-is j c = (refl, refl, refl, refl)

-- ---- a recording that is listed. Before its first byte: at the byte that says which stream it is, with a fresh receiver and nothing counted
pub listing-fresh-means : Means listing-fresh.Statement.statement listing-fresh.Kinds.ps listing-fresh.Kinds.r listing-fresh.Reads.Asked
    listing-fresh.Reads.Learnt
    λ κs r. r ≡ record {
      tape = record {
        spot = record { place = Mode; offset = 0; count = 0 };
        channel = false;
        receiver = record {
          locked = false;
          hunting = record { a = 0; b = 0; c = 0; d = 0 };
          lock = record { word = 0; handed = 0; marker = 0 };
          frame = record { opened = false; raw = 0; stored = 0; place = 0 };
        };
      };
      totals = record { packets = 0; refused = 0; damaged = 0; lost = 0 };
    }
listing-fresh-means = (λ M. listing-fresh.Met.met, λ κs a. tt, λ κs a z ws. (λ p. p, λ p. p))

pub listing-take-means : Means listing-take.Statement.statement listing-take.Kinds.ps listing-take.Kinds.r listing-take.Reads.Asked listing-take.Reads.Learnt
    λ κs self recv word piece out r.
    let x = recording.takes (recording.deck_of self.tape recv.entry.now word.entry.now) self.totals (length out.entry.now) piece.now in
    (listing-answers.as_got r ≡ record { wants = x.wants; taken = x.taken; written = length x.text; next = recording.recorded x.deck x.totals })
    × (recv.exit.now ≡ x.deck.ear.memory.recv) × (word.exit.now ≡ x.deck.ear.memory.word)
    × (out.exit.now ≡ x.text ++ drop (length x.text) out.entry.now)
listing-take-means = (λ M. listing-take.Met.met, λ κs a. tt, λ κs a z ws. (λ p. p, λ p. p))

pub listing-finish-means : Means listing-finish.Statement.statement listing-finish.Kinds.ps listing-finish.Kinds.r listing-finish.Reads.Asked
    listing-finish.Reads.Learnt
    λ κs self out w. outcome (as_written w) out.exit.now ≡ write (recording.last_of self) out.entry.now
listing-finish-means = (λ M. listing-finish.Met.met, λ κs a. tt, λ κs a z ws. (λ p. p, λ p. p))

-- ---- Layer 2 units
pub unit-write-means : Means unit-write.Statement.statement unit-write.Kinds.ps unit-write.Kinds.r unit-write.Reads.Asked unit-write.Reads.Learnt
    λ κs size delimiter audio opportunistic fixed out w.
    outcome (as_written w) out.exit.now ≡ units.written size delimiter audio.now opportunistic.now fixed.now out.entry.now
unit-write-means = (λ M. unit-write.Met.met, λ κs a. tt, λ κs a z ws. (λ p. p, λ p. p))

pub unit-read-means : Means unit-read.Statement.statement unit-read.Kinds.ps unit-read.Kinds.r unit-read.Reads.Asked unit-read.Reads.Learnt
    λ κs size delimiter audio fixed unit out w.
    outcome (as_written w) out.exit.now ≡ unit-reading.read_unit size delimiter audio fixed unit.now out.entry.now
unit-read-means = (λ M. unit-read.Met.met, λ κs a. tt, λ κs a z ws. (λ p. p, λ p. p))

-- ---- a board, of this range of ports. Before the first byte: nothing heard, no port held, nothing owed
pub board-fresh-means : Means board-fresh.Statement.statement board-fresh.Kinds.ps board-fresh.Kinds.r board-fresh.Reads.Asked board-fresh.Reads.Learnt
    λ κs bare blocks range r. r ≡ record {
      bare = bare;
      blocks = blocks;
      range = range;
      tape = record {
        spot = record { place = Mode; offset = 0; count = 0 };
        channel = false;
        receiver = record {
          locked = false;
          hunting = record { a = 0; b = 0; c = 0; d = 0 };
          lock = record { word = 0; handed = 0; marker = 0 };
          frame = record { opened = false; raw = 0; stored = 0; place = 0 };
        };
      };
      ports = record { entries = replicate 16 (record { held = false; port = 0; last = 0 }) };
      owed = record {
        piece = record { bytes = replicate 128 0; length = 0 };
        out = 0;
        text = false;
        delivery = record { format = 0; number = 0; key = 0; port = 0; sequence = 0; length = 0 };
        at = 0;
      };
    }
board-fresh-means = (λ M. board-fresh.Met.met, λ κs a. tt, λ κs a z ws. (λ p. p, λ p. p))

pub board-take-means : Means board-take.Statement.statement board-take.Kinds.ps board-take.Kinds.r board-take.Reads.Asked board-take.Reads.Learnt
    λ κs self recv word piece out r.
    let x = readout.takes (length out.entry.now) (readout.screen_of self recv.entry.now word.entry.now) piece.now in
    (board-answers.as_got r ≡ record { wants = x.wants; taken = x.taken; written = length x.text; next = readout.readout_of x.screen })
    × (recv.exit.now ≡ x.screen.source.deck.ear.memory.recv) × (word.exit.now ≡ x.screen.source.deck.ear.memory.word)
    × (out.exit.now ≡ x.text ++ drop (length x.text) out.entry.now)
board-take-means = (λ M. board-take.Met.met, λ κs a. tt, λ κs a z ws. (λ p. p, λ p. p))

pub board-finish-means : Means board-finish.Statement.statement board-finish.Kinds.ps board-finish.Kinds.r board-finish.Reads.Asked board-finish.Reads.Learnt
    λ κs self r. r ≡ piece_of (written_all (readout.last_lines self))
board-finish-means = (λ M. board-finish.Met.met, λ κs a. tt, λ κs a z ws. (λ p. p, λ p. p))

-- what is still to be said behind the last byte: of bare bytes nothing, they end anywhere; of a recording that it is wrong, where it is
pub readout-last-is : (r : Readout)
    → (r.bare ≡ true → readout.last_lines r ≡ []) × (r.bare ≡ false → readout.last_lines r ≡ ending r.tape.spot)
readout-last-is r = (λ e. ap (λ t. readout.last_by t r.tape.spot) e, λ e. ap (λ t. readout.last_by t r.tape.spot) e)

-- ---- its lines
pub listing-lines-print-means : Means listing-lines-print.Statement.statement listing-lines-print.Kinds.ps listing-lines-print.Kinds.r
    listing-lines-print.Reads.Asked listing-lines-print.Reads.Learnt
    λ κs answer out w. outcome (as_written w) out.exit.now ≡ write (line answer) out.entry.now
listing-lines-print-means = (λ M. listing-lines-print.Met.met, λ κs a. tt, λ κs a z ws. (λ p. p, λ p. p))

pub listing-lines-print-end-means : Means listing-lines-print-end.Statement.statement listing-lines-print-end.Kinds.ps listing-lines-print-end.Kinds.r
    listing-lines-print-end.Reads.Asked listing-lines-print-end.Reads.Learnt
    λ κs bytes t out w. outcome (as_written w) out.exit.now ≡ write (end_line bytes t.packets t.refused t.damaged t.lost) out.entry.now
listing-lines-print-end-means = (λ M. listing-lines-print-end.Met.met, λ κs a. tt, λ κs a z ws. (λ p. p, λ p. p))

pub listing-lines-print-wrong-means : Means listing-lines-print-wrong.Statement.statement listing-lines-print-wrong.Kinds.ps listing-lines-print-wrong.Kinds.r
    listing-lines-print-wrong.Reads.Asked listing-lines-print-wrong.Reads.Learnt
    λ κs offset out w. outcome (as_written w) out.exit.now ≡ write (wrong_line offset) out.entry.now
listing-lines-print-wrong-means = (λ M. listing-lines-print-wrong.Met.met, λ κs a. tt, λ κs a z ws. (λ p. p, λ p. p))

-- what is counted for the last line: nothing yet; an answer in its total, where the greatest number stays
pub listing-lines-none-means : Means listing-lines-none.Statement.statement listing-lines-none.Kinds.ps listing-lines-none.Kinds.r
    listing-lines-none.Reads.Asked listing-lines-none.Reads.Learnt
    λ κs r. r ≡ record { packets = 0; refused = 0; damaged = 0; lost = 0 }
listing-lines-none-means = (λ M. listing-lines-none.Met.met, λ κs a. tt, λ κs a z ws. (λ p. p, λ p. p))

pub listing-lines-count-means : Means listing-lines-count.Statement.statement listing-lines-count.Kinds.ps listing-lines-count.Kinds.r
    listing-lines-count.Reads.Asked listing-lines-count.Reads.Learnt
    λ κs self answer r. r ≡ counting self answer
listing-lines-count-means = (λ M. listing-lines-count.Met.met, λ κs a. tt, λ κs a z ws. (λ p. p, λ p. p))

-- .. and where no total is the greatest number, it is one more
pub counting-is : (t : Totals) (a : Answer) → Below t → counting t a ≡ counted-up t a
counting-is = counting-below

-- ---- the bids that a recording misses: the line of a packet noted; before the first byte, with a table that holds no port; and the next line
pub missed-print-noted-means : Means missed-print-noted.Statement.statement missed-print-noted.Kinds.ps missed-print-noted.Kinds.r
    missed-print-noted.Reads.Asked missed-print-noted.Reads.Learnt
    λ κs port sequence noted out w. outcome (as_written w) out.exit.now ≡ write (noted_line port sequence noted) out.entry.now
missed-print-noted-means = (λ M. missed-print-noted.Met.met, λ κs a. tt, λ κs a z ws. (λ p. p, λ p. p))

pub missed-fresh-means : Means missed-fresh.Statement.statement missed-fresh.Kinds.ps missed-fresh.Kinds.r missed-fresh.Reads.Asked missed-fresh.Reads.Learnt
    λ κs range r. r ≡ missed.fresh_notes range
missed-fresh-means = (λ M. missed-fresh.Met.met, λ κs a. tt, λ κs a z ws. (λ p. p, λ p. p))

pub missed-take-means : Means missed-take.Statement.statement missed-take.Kinds.ps missed-take.Kinds.r missed-take.Reads.Asked missed-take.Reads.Learnt
    λ κs self recv word piece out r.
    let x = missed.takes (length out.entry.now) (missed.page_of self recv.entry.now word.entry.now) piece.now in
    (missed-answer.as_took r ≡ record { wants = x.wants; taken = x.taken; written = length x.text; next = missed.notes_of x.page })
    × (recv.exit.now ≡ x.page.deck.ear.memory.recv) × (word.exit.now ≡ x.page.deck.ear.memory.word)
    × (out.exit.now ≡ x.text ++ drop (length x.text) out.entry.now)
missed-take-means = (λ M. missed-take.Met.met, λ κs a. tt, λ κs a z ws. (λ p. p, λ p. p))

-- ---- the board's lines, in pieces: a text at the start, zeros behind it up to 128 bytes, and the text's length
pub board-lines-line-feed-means : Means board-lines-line-feed.Statement.statement board-lines-line-feed.Kinds.ps board-lines-line-feed.Kinds.r
    board-lines-line-feed.Reads.Asked board-lines-line-feed.Reads.Learnt
    λ κs r. r ≡ piece_of (ascii "\n")
board-lines-line-feed-means = (λ M. board-lines-line-feed.Met.met, λ κs a. tt, λ κs a z ws. (λ p. p, λ p. p))

pub board-lines-shown-byte-means : Means board-lines-shown-byte.Statement.statement board-lines-shown-byte.Kinds.ps board-lines-shown-byte.Kinds.r
    board-lines-shown-byte.Reads.Asked board-lines-shown-byte.Reads.Learnt
    λ κs b r. r ≡ piece_of (shown_byte b)
board-lines-shown-byte-means = (λ M. board-lines-shown-byte.Met.met, λ κs a. tt, λ κs a z ws. (λ p. p, λ p. p))

pub board-lines-lead-means : Means board-lines-lead.Statement.statement board-lines-lead.Kinds.ps board-lines-lead.Kinds.r board-lines-lead.Reads.Asked
    board-lines-lead.Reads.Learnt
    λ κs noted delivery r. r ≡ piece_of (lead noted delivery)
board-lines-lead-means = (λ M. board-lines-lead.Met.met, λ κs a. tt, λ κs a z ws. (λ p. p, λ p. p))

pub board-lines-remark-means : Means board-lines-remark.Statement.statement board-lines-remark.Kinds.ps board-lines-remark.Kinds.r
    board-lines-remark.Reads.Asked board-lines-remark.Reads.Learnt
    λ κs blocks answer r. r ≡ piece_of (remark blocks answer)
board-lines-remark-means = (λ M. board-lines-remark.Met.met, λ κs a. tt, λ κs a z ws. (λ p. p, λ p. p))

pub board-lines-wrong-at-means : Means board-lines-wrong-at.Statement.statement board-lines-wrong-at.Kinds.ps board-lines-wrong-at.Kinds.r
    board-lines-wrong-at.Reads.Asked board-lines-wrong-at.Reads.Learnt
    λ κs offset r. r ≡ piece_of (written (wrong_at offset))
board-lines-wrong-at-means = (λ M. board-lines-wrong-at.Met.met, λ κs a. tt, λ κs a z ws. (λ p. p, λ p. p))

pub board-lines-none-means : Means board-lines-none.Statement.statement board-lines-none.Kinds.ps board-lines-none.Kinds.r board-lines-none.Reads.Asked
    board-lines-none.Reads.Learnt
    λ κs r. r ≡ piece_of []
board-lines-none-means = (λ M. board-lines-none.Met.met, λ κs a. tt, λ κs a z ws. (λ p. p, λ p. p))

-- ---- the monthly sheet. Of no recording: no port, and 16 blank rows
pub sheet-fresh-means : Means sheet-fresh.Statement.statement sheet-fresh.Kinds.ps sheet-fresh.Kinds.r sheet-fresh.Reads.Asked sheet-fresh.Reads.Learnt
    λ κs r. r ≡ record {
      ports = 0;
      rows = replicate 16 (record { port = 0; tally = record { delivered = 0; repeated = 0; late = 0; missing = 0; total = 0 }; heard = false; last = 0 });
    }
unfolding padded_to
sheet-fresh-means = (λ M. sheet-fresh.Met.met, λ κs a. tt, λ κs a z ws. (λ p. p, λ p. p))

pub sheet-begin-means : Means sheet-begin.Statement.statement sheet-begin.Kinds.ps sheet-begin.Kinds.r sheet-begin.Reads.Asked sheet-begin.Reads.Learnt
    λ κs self r. r ≡ beginning self
sheet-begin-means = (λ M. sheet-begin.Met.met, λ κs a. tt, λ κs a z ws. (λ p. p, λ p. p))

pub sheet-print-means : Means sheet-print.Statement.statement sheet-print.Kinds.ps sheet-print.Kinds.r sheet-print.Reads.Asked sheet-print.Reads.Learnt
    λ κs self i out w. outcome (as_written w) out.exit.now ≡ printing self i out.entry.now
sheet-print-means = (λ M. sheet-print.Met.met, λ κs a. tt, λ κs a z ws. (λ p. p, λ p. p))

pub sheet-note-means : Means sheet-note.Statement.statement sheet-note.Kinds.ps sheet-note.Kinds.r sheet-note.Reads.Asked sheet-note.Reads.Learnt
    λ κs self range port sequence r. r ≡ counted range self port sequence
sheet-note-means = (λ M. sheet-note.Met.met, λ κs a. tt, λ κs a z ws. (λ p. p, λ p. p))

pub sheet-close-means : Means sheet-close.Statement.statement sheet-close.Kinds.ps sheet-close.Kinds.r sheet-close.Reads.Asked sheet-close.Reads.Learnt
    λ κs self well r. sheet-answer.as_closed r ≡ settling self well
sheet-close-means = (λ M. sheet-close.Met.met, λ κs a. tt, λ κs a z ws. (λ p. p, λ p. p))

-- what becomes of a recording, in the code's words
pub sheet-answered-is : (n : ℕ) → (answer_of counts ≡ sheet-answer.Counts) × (answer_of wrong ≡ sheet-answer.Wrong)
    × (answer_of (refuses n) ≡ sheet-answer.Refused n)
sheet-answered-is n = (refl, refl, refl)

-- ---- a range of ports: all of them, and whether one is inside
pub ports-spec-all-means : Means ports-spec-all.Statement.statement ports-spec-all.Kinds.ps ports-spec-all.Kinds.r ports-spec-all.Reads.Asked
    ports-spec-all.Reads.Learnt
    λ κs r. r ≡ record { first = 0; last = 65535 }
ports-spec-all-means = (λ M. ports-spec-all.Met.met, λ κs a. tt, λ κs a z ws. (λ p. p, λ p. p))

pub ports-spec-has-means : Means ports-spec-has.Statement.statement ports-spec-has.Kinds.ps ports-spec-has.Kinds.r ports-spec-has.Reads.Asked
    ports-spec-has.Reads.Learnt
    λ κs self port r. r ≡ leb self.first port && leb port self.last
ports-spec-has-means = (λ M. ports-spec-has.Met.met, λ κs a. tt, λ κs a z ws. (λ p. p, λ p. p))

-- ---- a table of ports: by value ..
pub ports-rule-means : Means ports-rule.Statement.statement ports-rule.Kinds.ps ports-rule.Kinds.r ports-rule.Reads.Asked ports-rule.Reads.Learnt
    λ κs last new r. r ≡ ruled last new
ports-rule-means = (λ M. ports-rule.Met.met, λ κs a. tt, λ κs a z ws. (λ p. p, λ p. p))

pub ports-fresh-means : Means ports-fresh.Statement.statement ports-fresh.Kinds.ps ports-fresh.Kinds.r ports-fresh.Reads.Asked ports-fresh.Reads.Learnt
    λ κs r. r ≡ record { entries = replicate 16 (record { held = false; port = 0; last = 0 }) }
ports-fresh-means = (λ M. ports-fresh.Met.met, λ κs a. tt, λ κs a z ws. (λ p. p, λ p. p))

pub ports-sound-means : Means ports-sound.Statement.statement ports-sound.Kinds.ps ports-sound.Kinds.r ports-sound.Reads.Asked ports-sound.Reads.Learnt
    λ κs self r. r ≡ not (unfit self.entries)
ports-sound-means = (λ M. ports-sound.Met.met, λ κs a. tt, λ κs a z ws. (λ p. p, λ p. p))

pub ports-ports-note-means : Means ports-ports-note.Statement.statement ports-ports-note.Kinds.ps ports-ports-note.Kinds.r ports-ports-note.Reads.Asked
    ports-ports-note.Reads.Learnt
    λ κs self port sequence r.
    let x = noting self.entries port sequence in r ≡ record { noted = x.0; ports = record { entries = x.1 } }
ports-ports-note-means = (λ M. ports-ports-note.Met.met, λ κs a. tt, λ κs a z ws. (λ p. p, λ p. p))

pub ports-ports-forget-means : Means ports-ports-forget.Statement.statement ports-ports-forget.Kinds.ps ports-ports-forget.Kinds.r
    ports-ports-forget.Reads.Asked ports-ports-forget.Reads.Learnt
    λ κs self port r.
    ◌≡◌ {A = Forgot × List Entry} (as_forgot r.forgot, r.ports.entries) (forgetting self.entries port)
ports-ports-forget-means = (λ M. ports-ports-forget.Met.met, λ κs a. tt, λ κs a z ws. (λ p. p, λ p. p))

-- .. and lent, of any length
pub ports-note-means : Means ports-note.Statement.statement ports-note.Kinds.ps ports-note.Kinds.r ports-note.Reads.Asked ports-note.Reads.Learnt
    λ κs table port sequence r. ◌≡◌ {A = Noted × List Entry} (r, table.exit.now) (noting table.entry.now port sequence)
ports-note-means = (λ M. ports-note.Met.met, λ κs a. tt, λ κs a z ws. (λ p. p, λ p. p))

pub ports-forget-means : Means ports-forget.Statement.statement ports-forget.Kinds.ps ports-forget.Kinds.r ports-forget.Reads.Asked
    ports-forget.Reads.Learnt
    λ κs table port r. ◌≡◌ {A = Forgot × List Entry} (as_forgot r, table.exit.now) (forgetting table.entry.now port)
ports-forget-means = (λ M. ports-forget.Met.met, λ κs a. tt, λ κs a z ws. (λ p. p, λ p. p))

-- ---- for C, with numbers and byte slices: the number answered, and what the lent memory then holds
pub rack-aas-parity-make-means : Means rack-aas-parity-make.Statement.statement rack-aas-parity-make.Kinds.ps rack-aas-parity-make.Kinds.r
    rack-aas-parity-make.Reads.Asked rack-aas-parity-make.Reads.Learnt
    λ κs r message out n. (n, out.exit.now) ≡ making r message.now out.entry.now
rack-aas-parity-make-means = (λ M. rack-aas-parity-make.Met.met, λ κs a. tt, λ κs a z ws. (λ p. p, λ p. p))

pub rack-aas-word-check-means : Means rack-aas-word-check.Statement.statement rack-aas-word-check.Kinds.ps rack-aas-word-check.Kinds.r
    rack-aas-word-check.Reads.Asked rack-aas-word-check.Reads.Learnt
    λ κs r word n. n ≡ checking r word.now
rack-aas-word-check-means = (λ M. rack-aas-word-check.Met.met, λ κs a. tt, λ κs a z ws. (λ p. p, λ p. p))

pub rack-aas-word-repair-means : Means rack-aas-word-repair.Statement.statement rack-aas-word-repair.Kinds.ps rack-aas-word-repair.Kinds.r
    rack-aas-word-repair.Reads.Asked rack-aas-word-repair.Reads.Learnt
    λ κs r word n. (n, word.exit.now) ≡ mending r word.entry.now
rack-aas-word-repair-means = (λ M. rack-aas-word-repair.Met.met, λ κs a. tt, λ κs a z ws. (λ p. p, λ p. p))

pub rack-aas-stream-read-means : Means rack-aas-stream-read.Statement.statement rack-aas-stream-read.Kinds.ps rack-aas-stream-read.Kinds.r
    rack-aas-stream-read.Reads.Asked rack-aas-stream-read.Reads.Learnt
    λ κs state recv piece n. (n, state.exit.now, recv.exit.now) ≡ rack.reading state.entry.now recv.entry.now piece.now
rack-aas-stream-read-means = (λ M. rack-aas-stream-read.Met.met, λ κs a. tt, λ κs a z ws. (λ p. p, λ p. p))

pub rack-aas-channel-read-means : Means rack-aas-channel-read.Statement.statement rack-aas-channel-read.Kinds.ps rack-aas-channel-read.Kinds.r
    rack-aas-channel-read.Reads.Asked rack-aas-channel-read.Reads.Learnt
    λ κs state recv word piece n.
    (n, state.exit.now, recv.exit.now, word.exit.now) ≡ rack.hearing state.entry.now recv.entry.now word.entry.now piece.now
rack-aas-channel-read-means = (λ M. rack-aas-channel-read.Met.met, λ κs a. tt, λ κs a z ws. (λ p. p, λ p. p))

-- ---- the office. Before the first line one flag is held, in a buffer of 8,428 bytes or more
pub office-start-means : Means office-start.Statement.statement office-start.Kinds.ps office-start.Kinds.r office-start.Reads.Asked office-start.Reads.Learnt
    λ κs hold r.
    ◌≡◌ {A = Started × List ℕ}
    (pick (ltb (length hold.entry.now) 8428) (Denied 11, hold.entry.now)
    (Ready (record { lines = 0; stored = 0; held = 1 }), 0x7E ∷ drop 1 hold.entry.now))
    (as_started r, hold.exit.now)
office-start-means = (λ M. office-start.Met.met, λ κs a. tt, λ κs a z ws. (λ p. p, λ p. p))

pub office-hear-means : Means office-hear.Statement.statement office-hear.Kinds.ps office-hear.Kinds.r office-hear.Reads.Asked office-hear.Reads.Learnt
    λ κs self line hold piece out r.
    let x = office.hear_call (length out.entry.now) (desk self line.entry.now hold.entry.now) piece.now in
    (office-answer.as_got r ≡ record { answer = office.answered x.0; taken = x.1; office = x.2.st }) × (line.exit.now ≡ x.2.line) × (hold.exit.now ≡ x.2.hold)
    × (out.exit.now ≡ office.answered_out x.0 out.entry.now)
office-hear-means = (λ M. office-hear.Met.met, λ κs a. tt, λ κs a z ws. (λ p. p, λ p. p))

pub office-close-means : Means office-close.Statement.statement office-close.Kinds.ps office-close.Kinds.r office-close.Reads.Asked office-close.Reads.Learnt
    λ κs self line hold out r.
    let x = office.close_call (length out.entry.now) (desk self line.entry.now hold.entry.now) in
    (office-answer.as_got r ≡ record { answer = office.answered x.0; taken = x.1; office = x.2.st }) × (line.exit.now ≡ x.2.line) × (hold.exit.now ≡ x.2.hold)
    × (out.exit.now ≡ office.answered_out x.0 out.entry.now)
office-close-means = (λ M. office-close.Met.met, λ κs a. tt, λ κs a z ws. (λ p. p, λ p. p))

pub office-finish-means : Means office-finish.Statement.statement office-finish.Kinds.ps office-finish.Kinds.r office-finish.Reads.Asked
    office-finish.Reads.Learnt
    λ κs self hold out w. outcome (as_written w) out.exit.now ≡ office.finishing self hold.now out.entry.now
office-finish-means = (λ M. office-finish.Met.met, λ κs a. tt, λ κs a z ws. (λ p. p, λ p. p))

-- what is said of line k, in the code's words, and what then stands in the output
pub office-answered-is : (k n : ℕ) (bs : List ℕ)
    → (office.answered none ≡ office-answer.More) × (office.answered (some (k, blocks bs)) ≡ office-answer.Sent (length bs))
    × (office.answered (some (k, unread)) ≡ office-answer.NoBid) × (office.answered (some (k, denied n)) ≡ office-answer.Refused n)
office-answered-is k n bs = (refl, refl, refl, refl)

pub office-out-is : (k n : ℕ) (bs out : List ℕ)
    → (office.answered_out none out ≡ out) × (office.answered_out (some (k, blocks bs)) out ≡ bs ++ drop (length bs) out)
    × (office.answered_out (some (k, unread)) out ≡ out) × (office.answered_out (some (k, denied n)) out ≡ out)
office-out-is k n bs out = (refl, refl, refl, refl)

pub bid-read-means : Means bid-read.Statement.statement bid-read.Kinds.ps bid-read.Kinds.r bid-read.Reads.Asked bid-read.Reads.Learnt
    λ κs line r. r ≡ reading line.now
bid-read-means = (λ M. bid-read.Met.met, λ κs a. tt, λ κs a z ws. (λ p. p, λ p. p))

-- ---- what they stand on: the check of a frame, the field, polynomials, bytes
pub fcs-fcs-means : Means fcs-fcs.Statement.statement fcs-fcs.Kinds.ps fcs-fcs.Kinds.r fcs-fcs.Reads.Asked fcs-fcs.Reads.Learnt
    λ κs bytes r. r ≡ check.fcs bytes.now
fcs-fcs-means = (λ M. fcs-fcs.Met.met, λ κs a. tt, λ κs a z ws. (λ p. p, λ p. p))

pub fcs-fresh-means : Means fcs-fresh.Statement.statement fcs-fresh.Kinds.ps fcs-fresh.Kinds.r fcs-fresh.Reads.Asked fcs-fresh.Reads.Learnt
    λ κs r. r ≡ record { bits = 0xFFFF }
fcs-fresh-means = (λ M. fcs-fresh.Met.met, λ κs a. tt, λ κs a z ws. (λ p. p, λ p. p))

pub fcs-feed-means : Means fcs-feed.Statement.statement fcs-feed.Kinds.ps fcs-feed.Kinds.r fcs-feed.Reads.Asked fcs-feed.Reads.Learnt
    λ κs self bytes r. r ≡ record { bits = check.register self.bits bytes.now }
fcs-feed-means = (λ M. fcs-feed.Met.met, λ κs a. tt, λ κs a z ws. (λ p. p, λ p. p))

pub fcs-check-means : Means fcs-check.Statement.statement fcs-check.Kinds.ps fcs-check.Kinds.r fcs-check.Reads.Asked fcs-check.Reads.Learnt
    λ κs self r. r ≡ 0xFFFF - self.bits
fcs-check-means = (λ M. fcs-check.Met.met, λ κs a. tt, λ κs a z ws. (λ p. p, λ p. p))

pub field-plus-means : Means field-plus.Statement.statement field-plus.Kinds.ps field-plus.Kinds.r field-plus.Reads.Asked field-plus.Reads.Learnt
    λ κs a b r. r ≡ add a b
field-plus-means = (λ M. field-plus.Met.met, λ κs a. tt, λ κs a z ws. (λ p. p, λ p. p))

pub field-times-means : Means field-times.Statement.statement field-times.Kinds.ps field-times.Kinds.r field-times.Reads.Asked field-times.Reads.Learnt
    λ κs a b r. r ≡ mul a b
field-times-means = (λ M. field-times.Met.met, λ κs a. tt, λ κs a z ws. (λ p. p, λ p. p))

pub field-power-means : Means field-power.Statement.statement field-power.Kinds.ps field-power.Kinds.r field-power.Reads.Asked field-power.Reads.Learnt
    λ κs e r. r ≡ pow alpha e
field-power-means = (λ M. field-power.Met.met, λ κs a. tt, λ κs a z ws. (λ p. p, λ p. p))

pub field-inverse-means : Means field-inverse.Statement.statement field-inverse.Kinds.ps field-inverse.Kinds.r field-inverse.Reads.Asked
    field-inverse.Reads.Learnt
    λ κs a r. r ≡ inverse a
field-inverse-means = (λ M. field-inverse.Met.met, λ κs a. tt, λ κs a z ws. (λ p. p, λ p. p))

pub lanes-is-clean-means : Means lanes-is-clean.Statement.statement lanes-is-clean.Kinds.ps lanes-is-clean.Kinds.r lanes-is-clean.Reads.Asked
    lanes-is-clean.Reads.Learnt
    λ κs word b. b ≡ clean 32 word.now
lanes-is-clean-means = (λ M. lanes-is-clean.Met.met, λ κs a. tt, λ κs a z ws. (λ p. p, λ p. p))

pub lanes-left-means : Means lanes-left.Statement.statement lanes-left.Kinds.ps lanes-left.Kinds.r lanes-left.Reads.Asked lanes-left.Reads.Learnt
    λ κs bytes l. l ≡ residue 32 bytes.now
lanes-left-means = (λ M. lanes-left.Met.met, λ κs a. tt, λ κs a z ws. (λ p. p, λ p. p))

pub lanes-left-above-means : Means lanes-left-above.Statement.statement lanes-left-above.Kinds.ps lanes-left-above.Kinds.r lanes-left-above.Reads.Asked
    lanes-left-above.Reads.Learnt
    λ κs bytes l. l ≡ residue_from 33 32 bytes.now
lanes-left-above-means = (λ M. lanes-left-above.Met.met, λ κs a. tt, λ κs a z ws. (λ p. p, λ p. p))

pub parity-at-powers-means : Means parity-at-powers.Statement.statement parity-at-powers.Kinds.ps parity-at-powers.Kinds.r parity-at-powers.Reads.Asked
    parity-at-powers.Reads.Learnt
    λ κs j word v. v ≡ at_powers j word.now
parity-at-powers-means = (λ M. parity-at-powers.Met.met, λ κs a. tt, λ κs a z ws. (λ p. p, λ p. p))

pub parity-at-roots-means : Means parity-at-roots.Statement.statement parity-at-roots.Kinds.ps parity-at-roots.Kinds.r parity-at-roots.Reads.Asked
    parity-at-roots.Reads.Learnt
    λ κs r word out w. outcome (as_written w) out.exit.now ≡ at_roots r word.now out.entry.now
parity-at-roots-means = (λ M. parity-at-roots.Met.met, λ κs a. tt, λ κs a z ws. (λ p. p, λ p. p))

pub parity-subtract-means : Means parity-subtract.Statement.statement parity-subtract.Kinds.ps parity-subtract.Kinds.r parity-subtract.Reads.Asked
    parity-subtract.Reads.Learnt
    λ κs c g p _. p.exit.now ≡ onto (scale c g.now) p.entry.now
parity-subtract-means = (λ M. parity-subtract.Met.met, λ κs a. tt, λ κs a z ws. (λ p. p, λ p. p))

-- ---- texts and numbers, put into a buffer as far as there is room; and a text's first bytes written
pub text-put-byte-means : Means text-put-byte.Statement.statement text-put-byte.Kinds.ps text-put-byte.Kinds.r text-put-byte.Reads.Asked
    text-put-byte.Reads.Learnt
    λ κs text at b r. Puts text.entry.now at (b ∷ []) text.exit.now r
text-put-byte-means = (λ M. text-put-byte.Met.met, λ κs a. tt, λ κs a z ws. (λ p. p, λ p. p))

pub text-put-text-means : Means text-put-text.Statement.statement text-put-text.Kinds.ps text-put-text.Kinds.r text-put-text.Reads.Asked
    text-put-text.Reads.Learnt
    λ κs text at bytes r. Puts text.entry.now at bytes.now text.exit.now r
text-put-text-means = (λ M. text-put-text.Met.met, λ κs a. tt, λ κs a z ws. (λ p. p, λ p. p))

pub text-put-number-means : Means text-put-number.Statement.statement text-put-number.Kinds.ps text-put-number.Kinds.r text-put-number.Reads.Asked
    text-put-number.Reads.Learnt
    λ κs text at n r. Puts text.entry.now at (decimal n) text.exit.now r
text-put-number-means = (λ M. text-put-number.Met.met, λ κs a. tt, λ κs a z ws. (λ p. p, λ p. p))

pub text-put-item-means : Means text-put-item.Statement.statement text-put-item.Kinds.ps text-put-item.Kinds.r text-put-item.Reads.Asked
    text-put-item.Reads.Learnt
    λ κs text at n b r. Puts text.entry.now at (decimal n ++ (b ∷ [])) text.exit.now r
text-put-item-means = (λ M. text-put-item.Met.met, λ κs a. tt, λ κs a z ws. (λ p. p, λ p. p))

pub text-deliver-means : Means text-deliver.Statement.statement text-deliver.Kinds.ps text-deliver.Kinds.r text-deliver.Reads.Asked text-deliver.Reads.Learnt
    λ κs text n out w. outcome (as_written w) out.exit.now ≡ write (take n text.now) out.entry.now
text-deliver-means = (λ M. text-deliver.Met.met, λ κs a. tt, λ κs a z ws. (λ p. p, λ p. p))

pub base-least-means : Means base-least.Statement.statement base-least.Kinds.ps base-least.Kinds.r base-least.Reads.Asked base-least.Reads.Learnt
    λ κs a b r. r ≡ min a b
base-least-means = (λ M. base-least.Met.met, λ κs a. tt, λ κs a z ws. (λ p. p, λ p. p))

pub base-up-to-means : Means base-up-to.Statement.statement base-up-to.Kinds.ps base-up-to.Kinds.r base-up-to.Reads.Asked base-up-to.Reads.Learnt
    λ κs bytes c r. (r ≡ length (up_to c bytes.now)) × (r ≤ length bytes.now)
base-up-to-means = (λ M. base-up-to.Met.met, λ κs a. tt, λ κs a z ws. (λ p. p, λ p. p))

pub base-copy-means : Means base-copy.Statement.statement base-copy.Kinds.ps base-copy.Kinds.r base-copy.Reads.Asked base-copy.Reads.Learnt
    λ κs src dst _. dst.exit.now ≡ copied src.now dst.entry.now
base-copy-means = (λ M. base-copy.Met.met, λ κs a. tt, λ κs a z ws. (λ p. p, λ p. p))
